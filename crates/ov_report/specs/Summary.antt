-- The summary line of a report, and the report's whole text.
use Rattle.std.specs.Prelude.{ℕ, ◌+◌, List, [], ◌∷◌, ◌++◌, Bool, true, false, ◌&&◌, length, codes, not, count_by, sum_by, Option, option_and_then}
use Rattle.std.specs.List.{list_any}
use Rattle.serde_json.specs.Data.{Data, boolean, object, no_members, put}
use Rattle.serde_json.specs.Find.{get}
use Rattle.ov_model.specs.declared.act.Act.TheVariants as act
use Rattle.ov_model.specs.declared.command.Command.TheVariants as command
use Rattle.ov_model.specs.declared.entry.Entry.{Entry}
use Rattle.ov_model.specs.declared.act.Act.{Act}
use Rattle.ov_model.specs.declared.reply.Reply.{Reply}
use Rattle.ov_model.specs.declared.reply.Reply.TheVariants as reply
use Rattle.ov_model.specs.declared.command.KeyDir.{KeyDir}
use Rattle.ov_model.specs.declared.answer.Answer.{Answer}
use Rattle.ov_model.specs.declared.answer.Answer.TheVariants as answer
use Rattle.ov_model.specs.declared.answer.PingOutcome.{PingOutcome}
use Rattle.ov_model.specs.declared.answer.PingOutcome.TheVariants as outcome
use Rattle.ov_model.specs.declared.answer.DropCause.{DropCause}
use Rattle.ov_model.specs.declared.answer.DropCause.TheVariants.{BadTag}
use Rattle.ov_model.specs.declared.replay.Verdict.{Verdict}
use Rattle.ov_model.specs.declared.replay.Verdict.TheVariants as verdict
use Rattle.ov_model.specs.declared.replay.ReplayEntry.{ReplayEntry}
use Rattle.ov_model.specs.declared.note.Note.{Note}
use Rattle.ov_model.specs.declared.report.LaneLog.{LaneLog}
use Rattle.ov_model.specs.declared.report.Report.{Report}
use Rattle.ov_model.specs.Keys.{sealing_in, same_dir}
use Rattle.ov_text.specs.Pieces.{put_num, one, line_text}
use Rattle.ov_report.specs.Print.{entry_text, replay_text, answer_text, note_text}

-- Whether an entry made a peer.
abbrev pub makes_peer : Act → Reply → Bool
makes_peer (act.Do (command.PeerNew a)) (reply.Made n) = true
makes_peer _ _ = false

-- Whether an entry made a key.
abbrev pub makes_key : Act → Reply → Bool
makes_key (act.Do (command.KeyNew c)) (reply.Made n) = true
makes_key _ _ = false

-- Whether an act let a peer go.
abbrev pub lets_peer_go : Act → Bool
lets_peer_go (act.Released n) = true
lets_peer_go _ = false

-- Whether a ping was sealed.
abbrev pub is_sealed_ping : PingOutcome → Bool
is_sealed_ping (outcome.Sealed s) = true
is_sealed_ping _ = false

-- How many datagrams an answer sealed: that of a packet, or those of a tick's pings.
abbrev pub sealed_by : Answer → ℕ
sealed_by (answer.Sealed s) = 1
sealed_by (answer.Ticked expired pings) = count_by (λ p. is_sealed_ping p.outcome) pings
sealed_by _ = 0

-- Whether an answer is a delivered packet.
abbrev pub is_delivered : Answer → Bool
is_delivered (answer.Delivered peer packet) = true
is_delivered _ = false

-- Whether a cause is that the tag is wrong.
abbrev pub is_wrong_tag : DropCause → Bool
is_wrong_tag BadTag = true
is_wrong_tag _ = false

-- Whether an answer is a datagram whose tag is wrong.
abbrev pub is_bad_tag : Answer → Bool
is_bad_tag (answer.Dropped c) = is_wrong_tag c
is_bad_tag _ = false

-- Whether a verdict accepts.
abbrev pub is_accept : Verdict → Bool
is_accept verdict.Accept = true
is_accept _ = false

-- Whether a verdict refuses.
abbrev pub is_refused : Verdict → Bool
is_refused v = not (is_accept v)

-- How many steps of all shards have a verdict that passes a test.
abbrev pub judged : (Verdict → Bool) → List (List ReplayEntry) → ℕ
judged test shards = sum_by (λ shard. count_by (λ r. test r.verdict) shard) shards

-- How many answers all lanes have.
abbrev pub answers : List LaneLog → ℕ
answers lanes = sum_by (λ log. length log.answers) lanes

-- How many answers of all lanes pass a test.
abbrev pub answered : (Answer → Bool) → List LaneLog → ℕ
answered test lanes = sum_by (λ log. count_by test log.answers) lanes

-- How many datagrams the answers of all lanes sealed.
abbrev pub sealed : List LaneLog → ℕ
sealed lanes = sum_by (λ log. sum_by sealed_by log.answers) lanes

-- Whether no two directions of a list have the same key bytes and nonce tail.
abbrev pub all_differ : List KeyDir → Bool
all_differ [] = true
all_differ (d ∷ ds) = not (list_any (same_dir d) ds) && all_differ ds

-- Whether no two keys of a journal have the same sealing key and nonce tail.
unfoldable pub keys_differ : List Entry → Bool
keys_differ journal = all_differ (sealing_in journal)

-- The counts of the summary, by their names.
unfoldable pub summary_data : Report → Data
summary_data r = one (codes "summary") (object
    (put_num (codes "sealed") (sealed r.lanes)
    (put_num (codes "released") (count_by (λ e. lets_peer_go e.call.act) r.journal)
    (put_num (codes "refused") (judged is_refused r.shards)
    (put_num (codes "peers") (count_by (λ e. makes_peer e.call.act e.reply) r.journal)
    (put_num (codes "notes") (length r.notes)
    (put (codes "keys-differ") (boolean (keys_differ r.journal))
    (put_num (codes "keys") (count_by (λ e. makes_key e.call.act e.reply) r.journal)
    (put_num (codes "journal") (length r.journal)
    (put_num (codes "delivered") (answered is_delivered r.lanes)
    (put_num (codes "bad-tag") (answered is_bad_tag r.lanes)
    (put_num (codes "answers") (answers r.lanes)
    (put_num (codes "accepted") (judged is_accept r.shards) no_members)))))))))))))

-- What a summary says under a name.
abbrev pub told : List ℕ → Data → Option Data
told name summary = option_and_then (get name) (get (codes "summary") summary)

-- The summary's line.
abbrev pub summary_text : Report → List ℕ
summary_text r = line_text (summary_data r)

-- The entries of the journal from a number on.
abbrev pub entries_text : ℕ → List Entry → List ℕ
entries_text n [] = []
entries_text n (e ∷ es) = entry_text n e ++ entries_text (n + 1) es

-- The steps of a shard.
abbrev pub replays_text : ℕ → List ReplayEntry → List ℕ
replays_text shard [] = []
replays_text shard (r ∷ rs) = replay_text shard r ++ replays_text shard rs

-- The steps of the shards from a number on.
abbrev pub shards_text : ℕ → List (List ReplayEntry) → List ℕ
shards_text shard [] = []
shards_text shard (rs ∷ more) = replays_text shard rs ++ shards_text (shard + 1) more

-- The answers of a lane from a line on.
abbrev pub answers_text : ℕ → ℕ → List Answer → List ℕ
answers_text lane line [] = []
answers_text lane line (a ∷ more) = answer_text lane line a ++ answers_text lane (line + 1) more

-- The answers of the lanes from a number on.
abbrev pub lanes_text : ℕ → List LaneLog → List ℕ
lanes_text lane [] = []
lanes_text lane (log ∷ logs) = answers_text lane 0 log.answers ++ lanes_text (lane + 1) logs

-- The notes in order.
abbrev pub notes_text : List Note → List ℕ
notes_text [] = []
notes_text (n ∷ ns) = note_text n ++ notes_text ns

-- A report's text: the journal in order; the replay steps of the shards in turn; of each lane in turn its
-- answers; the notes in order; the summary. Recorded lines and unsent marks, whose lists are empty yet,
-- come with what makes them.
unfoldable pub report_text : Report → List ℕ
report_text r = entries_text 0 r.journal ++ (shards_text 0 r.shards ++ (lanes_text 0 r.lanes ++ (notes_text r.notes ++ summary_text r)))
