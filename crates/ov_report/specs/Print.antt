-- The lines of a report: each a compact JSON object (RFC 8259) whose names stand in ascending byte
-- order at each level, followed by a line end. `put` sets a name, and keeps the order.
use Rattle.std.specs.Prelude.{ℕ, List, map, codes}
use Rattle.serde_json.specs.Data.{Data, string, array, object, Members, no_members, put}
use Rattle.serde_json.specs.View.{items_of}
use Rattle.serde_json.specs.Written.{compact_text}
use Rattle.ov_model.specs.declared.act.Act.{Act}
use Rattle.ov_model.specs.declared.act.Act.TheVariants as act
use Rattle.ov_model.specs.declared.command.Command.TheVariants as command
use Rattle.ov_model.specs.declared.ident.PeerId.{PeerId}
use Rattle.ov_model.specs.declared.command.Reason.{Reason}
use Rattle.ov_model.specs.declared.command.Reason.TheVariants as reason
use Rattle.ov_model.specs.declared.entry.Entry.{Entry}
use Rattle.ov_model.specs.declared.answer.DropCause.{DropCause}
use Rattle.ov_model.specs.declared.answer.DropCause.TheVariants as cause
use Rattle.ov_model.specs.declared.answer.PingOut.{PingOut}
use Rattle.ov_model.specs.declared.answer.Answer.{Answer}
use Rattle.ov_model.specs.declared.answer.Answer.TheVariants as answer
use Rattle.ov_model.specs.declared.replay.Verdict.{Verdict}
use Rattle.ov_model.specs.declared.replay.Verdict.TheVariants as verdict
use Rattle.ov_model.specs.declared.replay.ReplayEntry.{ReplayEntry}
use Rattle.ov_model.specs.declared.note.Note.{Note}
use Rattle.ov_model.specs.declared.note.NoteBody.{NoteBody}
use Rattle.ov_model.specs.declared.note.NoteBody.TheVariants as body
use Rattle.ov_text.specs.Pieces.{num, put_num, put_text, put_bytes, nums, one, line_text}
use Rattle.ov_text.specs.Replies.{reply_data}
use Rattle.ov_text.specs.Sealed.{sealed_data, ping_data}

-- The names of the operations and of the table's own steps.
abbrev pub call_name : Act → List ℕ
call_name (act.Do (command.PeerNew a)) = codes "peer-new"
call_name (act.Do (command.PeerSet a)) = codes "peer-set"
call_name (act.Do (command.PeerGet id)) = codes "peer-get"
call_name (act.Do command.PeerDump) = codes "peer-dump"
call_name (act.Do (command.Remove id r)) = codes "remove"
call_name (act.Do (command.KeyNew c)) = codes "key-new"
call_name (act.Do (command.KeyGet id slot)) = codes "key-get"
call_name (act.Do (command.KeySwap id)) = codes "key-swap"
call_name (act.Do (command.KeyDel id slot)) = codes "key-del"
call_name (act.Do command.Tick) = codes "tick"
call_name (act.Do command.Down) = codes "down"
call_name (act.TxLook addr) = codes "tx-look"
call_name (act.RxLook id key_id from) = codes "rx-look"
call_name (act.Sent peer inner outer ping) = codes "sent"
call_name (act.Settle peer from kind inner outer) = codes "settle"
call_name (act.Spend peer key) = codes "spend"
call_name (act.KeepLook peer) = codes "keep-look"
call_name (act.Released serial) = codes "released"
call_name (act.KeyReleased serial) = codes "key-released"

-- The reasons of a removal, as the netlink family names them (`del-peer-reason`).
abbrev pub reason_name : Reason → List ℕ
reason_name reason.Teardown = codes "teardown"
reason_name reason.Userspace = codes "userspace"
reason_name reason.Expired = codes "expired"
reason_name reason.TransportError = codes "transport-error"
reason_name reason.TransportDisconnect = codes "transport-disconnect"

-- A delivered packet, with the id of the peer that it is from.
abbrev pub delivered_members : PeerId → List ℕ → Members
delivered_members peer packet = put_num (codes "peer") peer.number (put_bytes (codes "packet") packet no_members)

-- The causes with which a packet is dropped.
abbrev pub cause_name : DropCause → List ℕ
cause_name cause.Short = codes "short"
cause_name cause.DataV1 = codes "data-v1"
cause_name cause.NoPeer = codes "no-peer"
cause_name cause.NoKey = codes "no-key"
cause_name cause.BadTag = codes "bad-tag"
cause_name cause.Zero = codes "zero"
cause_name cause.Old = codes "old"
cause_name cause.Below = codes "below"
cause_name cause.Again = codes "again"
cause_name cause.NotIp = codes "not-ip"
cause_name cause.NotOwner = codes "not-owner"
cause_name cause.Spent = codes "spent"

-- What became of a tick: the serials of the peers that it removed, and the pings of those that were due.
abbrev pub pinged_members : List ℕ → List PingOut → Members
pinged_members expired pings = put (codes "pings") (array (items_of (map ping_data pings))) (put (codes "expired") (nums expired) no_members)

-- The answer to a line.
abbrev pub answer_data : Answer → Data
answer_data (answer.Reply r) = reply_data r
answer_data (answer.Sealed s) = sealed_data s
answer_data (answer.Delivered peer packet) = one (codes "delivered") (object (delivered_members peer packet))
answer_data (answer.Keepalive id) = one (codes "keepalive") (num id.number)
answer_data answer.Control = one (codes "passed") (string (codes "control"))
answer_data (answer.Dropped c) = one (codes "dropped") (string (cause_name c))
answer_data (answer.Ticked expired pings) = object (pinged_members expired pings)

-- The text of an answer.
unfoldable pub given_text : Answer → List ℕ
given_text a = compact_text (answer_data a)

-- An entry of the journal with its number from 0.
unfoldable pub entry_data : ℕ → Entry → Data
entry_data n e = object
    (put (codes "reply") (reply_data e.reply)
    (put_num (codes "line") e.place.line
    (put_num (codes "lane") e.place.lane
    (put_num (codes "journal") n
    (put_text (codes "call") (call_name e.call.act)
    (put_num (codes "at") e.call.at no_members))))))

-- The line of an entry.
abbrev pub entry_text : ℕ → Entry → List ℕ
entry_text n e = line_text (entry_data n e)

-- The answer of a lane's line, with lane and line.
unfoldable pub answered_data : ℕ → ℕ → Answer → Data
answered_data lane line a = object
    (put_num (codes "line") line
    (put_num (codes "lane") lane
    (put (codes "answer") (answer_data a) no_members)))

-- The line of an answer.
abbrev pub answer_text : ℕ → ℕ → Answer → List ℕ
answer_text lane line a = line_text (answered_data lane line a)

-- What a note tells.
abbrev pub note_members : NoteBody → Members
note_members (body.PeerDel id r) =
    put (codes "peer") (object (put_num (codes "id") id.number (put_text (codes "del-reason") (reason_name r) no_members)))
    (put_text (codes "notify") (codes "peer-del-ntf") no_members)
note_members (body.KeySwap id key_id) =
    put (codes "keyconf") (object (put_num (codes "peer-id") id.number (put_num (codes "key-id") key_id.number no_members)))
    (put_text (codes "notify") (codes "key-swap-ntf") no_members)

-- A notification, with the number of the entry that made it.
unfoldable pub note_data : Note → Data
note_data n = object (put_num (codes "journal") n.entry (note_members n.body))

-- The line of a note.
abbrev pub note_text : Note → List ℕ
note_text n = line_text (note_data n)

-- The verdicts of the replay rule.
abbrev pub verdict_name : Verdict → List ℕ
verdict_name verdict.Accept = codes "accept"
verdict_name verdict.Zero = codes "zero"
verdict_name verdict.Old = codes "old"
verdict_name verdict.Below = codes "below"
verdict_name verdict.Again = codes "again"

-- A replay step of a shard.
unfoldable pub replay_data : ℕ → ReplayEntry → Data
replay_data shard r = object
    (put_text (codes "verdict") (verdict_name r.verdict)
    (put_num (codes "shard") shard
    (put_num (codes "moment") r.moment
    (put_num (codes "line") r.place.line
    (put_num (codes "lane") r.place.lane
    (put_num (codes "key") r.key
    (put_num (codes "id") r.id
    (put_num (codes "at") r.at no_members))))))))

-- The line of a replay step.
abbrev pub replay_text : ℕ → ReplayEntry → List ℕ
replay_text shard r = line_text (replay_data shard r)
