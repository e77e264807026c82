-- The keys that a run installed, and the packet ids that it sealed under each.
use Rattle.std.specs.Prelude.{ℕ, ◌+◌, ◌≡◌, ◌<◌, List, [], ◌∷◌, ◌++◌, length, map, filter, Bool, true, false, Option, Some, None, if◌then◌else◌, ◌==◌, ◌&&◌, slice_get}
use Rattle.std.specs.Option.{option_or}
use Rattle.std.specs.Str.{bytes_eq}
use Rattle.std.specs.List.{IsDistinct, list_any, AllPairs}
use Rattle.ov_base.specs.Sums.{between}
use Rattle.ov_aes.specs.Aes.{key_list}
use Rattle.ov_model.specs.declared.command.KeyDir.{KeyDir}
use Rattle.ov_model.specs.declared.command.KeyConf.{KeyConf}
use Rattle.ov_model.specs.declared.command.Command.TheVariants as command
use Rattle.ov_model.specs.declared.act.Act.{Act}
use Rattle.ov_model.specs.declared.act.Act.TheVariants as act
use Rattle.ov_model.specs.declared.entry.Entry.{Entry}
use Rattle.ov_model.specs.declared.reply.Reply.{Reply}
use Rattle.ov_model.specs.declared.reply.Reply.TheVariants as reply
use Rattle.ov_model.specs.declared.answer.Answer.{Answer}
use Rattle.ov_model.specs.declared.answer.Answer.TheVariants as answer
use Rattle.ov_model.specs.declared.answer.PingOut.{PingOut}
use Rattle.ov_model.specs.declared.answer.PingOutcome.{PingOutcome}
use Rattle.ov_model.specs.declared.answer.PingOutcome.TheVariants as outcome
use Rattle.ov_model.specs.declared.answer.SealedOut.{SealedOut}
use Rattle.ov_model.specs.declared.report.LaneLog.{LaneLog}
use Rattle.ov_model.specs.declared.report.Report.{Report}
use Rattle.ov_model.specs.Limits.{greatest_packet_id}
use Rattle.ov_model.specs.Tables.{Material}
use Rattle.ov_model.specs.Events.{DrawnId}
use Rattle.ov_model.specs.Removals.{times}

-- ---- keys

-- The attributes of the key that an act made, where its reply says so with the key's serial.
abbrev pub conf_made : Act → Reply → List KeyConf
conf_made (act.Do (command.KeyNew c)) (reply.Made serial) = c ∷ []
conf_made _ _ = []

-- The two directions in the attributes of a key.
abbrev pub material_of : KeyConf → Material
material_of c = record { encrypt = c.encrypt; decrypt = c.decrypt }

-- What this act and reply say of the key with a serial: the key that they made, if it is that one.
abbrev pub key_by : Act → Reply → ℕ → Option Material
key_by (act.Do (command.KeyNew c)) (reply.Made serial) key = if serial == key then Some (material_of c) else None
key_by _ _ key = None

-- What the key with a serial is: as the one key-new with that serial for its reply says.
abbrev pub key_of : List Entry → ℕ → Option Material
key_of [] key = None
key_of (e ∷ es) key = option_or (key_by e.call.act e.reply key) (key_of es key)

-- The directions that a journal's keys seal with, in the order of their making.
abbrev pub sealing_in : List Entry → List KeyDir
sealing_in [] = []
sealing_in (e ∷ es) = map (λ c. c.encrypt) (conf_made e.call.act e.reply) ++ sealing_in es

-- Whether two directions have the same key bytes and the same nonce tail.
abbrev pub same_dir : KeyDir → KeyDir → Bool
same_dir a b = bytes_eq (key_list a.key) (key_list b.key) && bytes_eq a.tail b.tail

-- No two keys have the same sealing key and nonce tail.
abbrev pub KeysDiffer : List Entry → Type 0
KeysDiffer journal = IsDistinct same_dir (sealing_in journal)

-- ---- packet ids

-- What a ping's outcome sealed.
abbrev pub sealed_ping : PingOutcome → List SealedOut
sealed_ping (outcome.Sealed s) = s ∷ []
sealed_ping _ = []

-- What some pings sealed, in their order.
abbrev pub sealed_pings : List PingOut → List SealedOut
sealed_pings [] = []
sealed_pings (p ∷ pings) = sealed_ping p.outcome ++ sealed_pings pings

-- What an answer sealed: a packet, or the pings of a tick in their order.
abbrev pub sealed_outs : Answer → List SealedOut
sealed_outs (answer.Sealed s) = s ∷ []
sealed_outs (answer.Ticked expired pings) = sealed_pings pings
sealed_outs _ = []

-- The packet id of what was sealed, with its key's serial.
abbrev pub id_of : SealedOut → DrawnId
id_of s = record { key = s.key; id = s.id }

-- The packet ids that an answer sealed, in order.
abbrev pub sealed_ids : Answer → List DrawnId
sealed_ids a = map id_of (sealed_outs a)

-- The packet ids that some answers sealed, in the order of their lines, each with its key's serial.
abbrev pub sealed_in : List Answer → List DrawnId
sealed_in [] = []
sealed_in (a ∷ answers) = sealed_ids a ++ sealed_in answers

-- The ids of one key among some draws.
abbrev pub ids_under : ℕ → List DrawnId → List ℕ
ids_under key draws = map (λ d. d.id) (filter (λ d. d.key == key) draws)

-- The packet ids that a lane sealed under a key, in the order of its lines.
abbrev pub ids_of : List Answer → ℕ → List ℕ
ids_of answers key = ids_under key (sealed_in answers)

-- The packet ids that all lanes sealed under a key, lane after lane.
abbrev pub ids_in : List LaneLog → ℕ → List ℕ
ids_in [] key = []
ids_in (log ∷ logs) key = ids_of log.answers key ++ ids_in logs key

-- Whether an act says that a key is spent.
abbrev pub spends_key : ℕ → Act → Bool
spends_key key (act.Spend peer spent) = spent == key
spends_key key _ = false

-- Whether an entry says that a key is spent.
abbrev pub spends : ℕ → Entry → Bool
spends key e = spends_key key e.call.act

-- The ids of one key are the numbers from the first on, each once and none left out; none is above
-- the greatest, and a key that was spent gave that one.
pub record KeyCounts (first : ℕ) (report : Report) (key : ℕ) : Type 0 where
  pub once : (n : ℕ) → times n (ids_in report.lanes key) ≡ between first (first + length (ids_in report.lanes key)) n
  pub most : first + length (ids_in report.lanes key) < greatest_packet_id + 2
  pub spent : list_any (spends key) report.journal ≡ true → first + length (ids_in report.lanes key) ≡ greatest_packet_id + 1

-- Packet ids: of each key over all lanes, and in each lane they rise.
pub record IdsCount (first : ℕ) (report : Report) : Type 0 where
  pub each : (key : ℕ) → KeyCounts first report key
  pub rise : (lane : ℕ) (log : LaneLog) (key : ℕ) → slice_get report.lanes lane ≡ Some log → AllPairs (λ m n. m < n) (ids_of log.answers key)
