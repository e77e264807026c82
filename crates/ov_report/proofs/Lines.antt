-- The texts of a report's lines as the pieces that they are put together of.
use Rattle.std.proofs.Common.{ℕ, ◌≡◌, List, ◌++◌, refl, append_assoc}
use Rattle.std.specs.Prelude.{codes, decimal, map, false}
use Rattle.serde_json.specs.View.{items_of}
use Rattle.serde_json.specs.Written.{compact_text, items_text}
use Rattle.json.specs.Print.{escape}
use Rattle.hex.specs.Hex.{encode_lower}
use Rattle.serde_json.proofs.OnLiterals.{serde_json_on_literals}
use Rattle.ov_model.specs.declared.act.Act.{Act}
use Rattle.ov_model.specs.declared.act.Act.TheVariants as act
use Rattle.ov_model.specs.declared.command.Command.TheVariants as command
use Rattle.ov_model.specs.declared.answer.Answer.{Answer}
use Rattle.ov_model.specs.declared.answer.Answer.TheVariants as answer
use Rattle.ov_model.specs.declared.answer.DropCause.{DropCause}
use Rattle.ov_model.specs.declared.answer.DropCause.TheVariants as cause
use Rattle.ov_model.specs.declared.answer.PingOut.{PingOut}
use Rattle.ov_model.specs.declared.answer.SealedOut.{SealedOut}
use Rattle.ov_model.specs.declared.entry.Entry.{Entry}
use Rattle.ov_model.specs.declared.ident.PeerId.{PeerId}
use Rattle.ov_model.specs.declared.reply.Reply.{Reply}
use Rattle.ov_model.specs.declared.replay.Verdict.{Verdict}
use Rattle.ov_model.specs.declared.replay.Verdict.TheVariants as verdict
use Rattle.ov_model.specs.declared.replay.ReplayEntry.{ReplayEntry}
use Rattle.ov_text.specs.Pieces.{num}
use Rattle.ov_text.specs.Sealed.{sealed_data, ping_data}
use Rattle.ov_text.specs.Replies.{reply_text}
use Rattle.ov_report.specs.Print.{call_name, verdict_name, entry_data, entry_text, replay_data, replay_text, cause_name, given_text, answered_data, answer_text}

-- ---- words, none of which has a character that a JSON text escapes

call_plain : (a : Act) → escape (call_name a) ≡ call_name a
unfolding serde_json_on_literals
call_plain (act.Do (command.PeerNew a)) = refl
call_plain (act.Do (command.PeerSet a)) = refl
call_plain (act.Do (command.PeerGet id)) = refl
call_plain (act.Do command.PeerDump) = refl
call_plain (act.Do (command.Remove id r)) = refl
call_plain (act.Do (command.KeyNew c)) = refl
call_plain (act.Do (command.KeyGet id slot)) = refl
call_plain (act.Do (command.KeySwap id)) = refl
call_plain (act.Do (command.KeyDel id slot)) = refl
call_plain (act.Do command.Tick) = refl
call_plain (act.Do command.Down) = refl
call_plain (act.TxLook addr) = refl
call_plain (act.RxLook id key_id from) = refl
call_plain (act.Sent peer inner outer ping) = refl
call_plain (act.Settle peer from kind inner outer) = refl
call_plain (act.Spend peer key) = refl
call_plain (act.KeepLook peer) = refl
call_plain (act.Released serial) = refl
call_plain (act.KeyReleased serial) = refl

verdict_plain : (v : Verdict) → escape (verdict_name v) ≡ verdict_name v
unfolding serde_json_on_literals
verdict_plain verdict.Accept = refl
verdict_plain verdict.Zero = refl
verdict_plain verdict.Old = refl
verdict_plain verdict.Below = refl
verdict_plain verdict.Again = refl

-- ---- entries and replay steps

pub entry_pieces : (n : ℕ) (e : Entry) → entry_text n e ≡ (codes "{\"at\":" ++ decimal e.call.at) ++ ((codes ",\"call\":\"" ++ call_name e.call.act) ++ ((codes "\",\"journal\":" ++ decimal n) ++ ((codes ",\"lane\":" ++ decimal e.place.lane) ++ ((codes ",\"line\":" ++ decimal e.place.line) ++ (codes ",\"reply\":" ++ (reply_text e.reply ++ codes "}\n"))))))
unfolding serde_json_on_literals entry_data reply_text
entry_pieces n e = simp (call_plain e.call.act, append_assoc)

pub replay_pieces : (shard : ℕ) (r : ReplayEntry) → replay_text shard r ≡ (codes "{\"at\":" ++ decimal r.at) ++ ((codes ",\"id\":" ++ decimal r.id) ++ ((codes ",\"key\":" ++ decimal r.key) ++ ((codes ",\"lane\":" ++ decimal r.place.lane) ++ ((codes ",\"line\":" ++ decimal r.place.line) ++ ((codes ",\"moment\":" ++ decimal r.moment) ++ ((codes ",\"shard\":" ++ decimal shard) ++ ((codes ",\"verdict\":\"" ++ verdict_name r.verdict) ++ codes "\"}\n")))))))
unfolding serde_json_on_literals replay_data
replay_pieces shard r = simp (verdict_plain r.verdict, append_assoc)

-- ---- answers

cause_plain : (c : DropCause) → escape (cause_name c) ≡ cause_name c
unfolding serde_json_on_literals
cause_plain cause.Short = refl
cause_plain cause.DataV1 = refl
cause_plain cause.NoPeer = refl
cause_plain cause.NoKey = refl
cause_plain cause.BadTag = refl
cause_plain cause.Zero = refl
cause_plain cause.Old = refl
cause_plain cause.Below = refl
cause_plain cause.Again = refl
cause_plain cause.NotIp = refl
cause_plain cause.NotOwner = refl
cause_plain cause.Spent = refl

pub replied_text : (r : Reply) → given_text (answer.Reply r) ≡ reply_text r
unfolding given_text reply_text
replied_text r = refl

pub keepalive_pieces : (p : PeerId) → given_text (answer.Keepalive p) ≡ codes "{\"keepalive\":" ++ (decimal p.number ++ codes "}")
unfolding serde_json_on_literals given_text
keepalive_pieces p = refl

pub control_text : given_text answer.Control ≡ codes "{\"passed\":\"control\"}"
unfolding serde_json_on_literals given_text
control_text = refl

pub dropped_pieces : (c : DropCause) → given_text (answer.Dropped c) ≡ (codes "{\"dropped\":\"" ++ cause_name c) ++ codes "\"}"
unfolding serde_json_on_literals given_text
dropped_pieces c = simp (cause_plain c, append_assoc)

pub delivered_pieces : (p : PeerId) (packet : List ℕ) → escape (encode_lower packet) ≡ encode_lower packet
    → given_text (answer.Delivered p packet) ≡ codes "{\"delivered\":{\"packet\":\"" ++ (encode_lower packet ++ (codes "\",\"peer\":" ++ (decimal p.number ++ codes "}}")))
unfolding serde_json_on_literals given_text
delivered_pieces p packet plain = simp (plain, append_assoc)

pub sealed_text : (s : SealedOut) → given_text (answer.Sealed s) ≡ compact_text (sealed_data s)
unfolding given_text
sealed_text s = refl

pub ticked_pieces : (expired : List ℕ) (pings : List PingOut) → given_text (answer.Ticked expired pings) ≡ codes "{\"expired\":[" ++ (items_text false (items_of (map num expired)) ++ (codes ",\"pings\":[" ++ (items_text false (items_of (map ping_data pings)) ++ codes "}")))
unfolding serde_json_on_literals given_text
ticked_pieces expired pings = simp append_assoc

pub answer_pieces : (lane line : ℕ) (a : Answer) → answer_text lane line a ≡ codes "{\"answer\":" ++ (given_text a ++ ((codes ",\"lane\":" ++ decimal lane) ++ (codes ",\"line\":" ++ (decimal line ++ codes "}\n"))))
unfolding serde_json_on_literals answered_data given_text
answer_pieces lane line a = simp append_assoc
