-- What a finished run tells of the peers that it removed and the keys that it killed, their notes, and that no
-- peer is left dying and no key retired.
use Rattle.std.specs.Prelude.{ℕ, ◌≡◌, ◌<◌, List, [], ◌∷◌, ◌++◌, Bool, true, false, Option, Some, None, if◌then◌else◌, ◌==◌, nat_eq, length, filter, map, slice_get}
use Rattle.std.specs.Option.{option_or}
use Rattle.std.specs.List.{IsDistinct, AllByRecursion}
use Rattle.ov_model.specs.declared.ident.PeerId.{PeerId}
use Rattle.ov_model.specs.declared.command.Reason.{Reason}
use Rattle.ov_model.specs.declared.command.Reason.TheVariants.{Expired, Teardown}
use Rattle.ov_model.specs.declared.command.Command.TheVariants as command
use Rattle.ov_model.specs.declared.act.Act.{Act}
use Rattle.ov_model.specs.declared.act.Act.TheVariants as act
use Rattle.ov_model.specs.declared.entry.Entry.{Entry}
use Rattle.ov_model.specs.declared.note.Note.{Note}
use Rattle.ov_model.specs.declared.note.NoteBody.{NoteBody}
use Rattle.ov_model.specs.declared.note.NoteBody.TheVariants as note
use Rattle.ov_model.specs.declared.reply.Reply.{Reply}
use Rattle.ov_model.specs.declared.reply.Reply.TheVariants as reply
use Rattle.ov_model.specs.Runs.{last_table}
use Rattle.ov_model.specs.Events.{Step, steps_of}
use Rattle.ov_model.specs.Path.{removed}

-- The id that an act gives to the peer that it makes.
abbrev pub id_given : Act → Option PeerId
id_given (act.Do (command.PeerNew a)) = Some a.id
id_given _ = None

-- The id of a serial, where this reply made it.
abbrev pub id_by : Reply → Act → ℕ → Option PeerId
id_by (reply.Made made) a serial = if made == serial then id_given a else None
id_by _ a serial = None

-- The id of the peer with a serial: that of the first entry that made it.
abbrev pub id_in : List Entry → ℕ → Option PeerId
id_in [] serial = None
id_in (e ∷ es) serial = option_or (id_by e.reply e.call.act serial) (id_in es serial)

-- The reason with which an act removes: peer-del's own, a tick's that the peers expired, and that the device
-- goes down.
abbrev pub reason_of : Act → Option Reason
reason_of (act.Do (command.Remove id reason)) = Some reason
reason_of (act.Do command.Tick) = Some Expired
reason_of (act.Do command.Down) = Some Teardown
reason_of _ = None

-- The serials of the peers that a journal removed, in order.
abbrev pub removed_in : List Entry → List ℕ
removed_in [] = []
removed_in (e ∷ es) = removed e.reply ++ removed_in es

-- The key that an act says is spent.
abbrev pub spent_by : Act → List ℕ
spent_by (act.Spend peer key) = key ∷ []
spent_by _ = []

-- The key that an entry killed: the one that its act says is spent, where the reply is Killed.
abbrev pub killed_by : Reply → Act → List ℕ
killed_by reply.Killed a = spent_by a
killed_by _ a = []

-- An entry killed a key.
abbrev pub Kills : Entry → ℕ → Type 0
Kills e key = killed_by e.reply e.call.act ≡ key ∷ []

-- Whether a note tells of a removed peer.
abbrev pub is_peer_del : NoteBody → Bool
is_peer_del (note.PeerDel id reason) = true
is_peer_del _ = false

-- Whether a note tells of a killed key.
abbrev pub is_key_swap : NoteBody → Bool
is_key_swap (note.KeySwap id key_id) = true
is_key_swap _ = false

-- The notes of one kind with an entry's number, in order.
abbrev pub noted : (NoteBody → Bool) → List Note → ℕ → List NoteBody
noted is_such notes n = filter is_such (map (λ x. x.body) (filter (λ x. x.entry == n) notes))

-- The peer-del notes with an entry's number, in order.
abbrev pub peer_dels : List Note → ℕ → List NoteBody
peer_dels notes n = noted is_peer_del notes n

-- The key-swap notes with an entry's number, in order.
abbrev pub key_swaps : List Note → ℕ → List NoteBody
key_swaps notes n = noted is_key_swap notes n

-- The note that tells of a removed peer.
abbrev pub del_note : Option PeerId → Option Reason → Option NoteBody
del_note (Some id) (Some reason) = Some (note.PeerDel id reason)
del_note _ _ = None

-- Each entry's peer-del notes are those of the peers that its reply says were removed, in the reply's
-- order, with their ids and the act's reason; an entry that removes none has none. No serial is
-- removed twice. An entry that killed a key has exactly one key-swap note, and no other entry has one; two
-- entries that killed the same key are one and the same. Every note is an entry's.
pub record RemovalsNoted (journal : List Entry) (notes : List Note) : Type 0 where
  pub each : (n : ℕ) (e : Entry) → slice_get journal n ≡ Some e → map (λ b. Some b) (peer_dels notes n) ≡ map (λ serial. del_note (id_in journal serial) (reason_of e.call.act)) (removed e.reply)
  pub once : IsDistinct nat_eq (removed_in journal)
  pub swaps : (n : ℕ) (e : Entry) → slice_get journal n ≡ Some e → length (key_swaps notes n) ≡ length (killed_by e.reply e.call.act)
  pub killed_once : (i j key : ℕ) (a b : Entry) → slice_get journal i ≡ Some a → slice_get journal j ≡ Some b → Kills a key → Kills b key → i ≡ j
  pub within : AllByRecursion (λ x. x.entry < length journal) notes

-- Each removed peer was let go, and each key that was taken out of its slot: the last table of the run has
-- no dying peer and no retired key.
pub record AllReleased (journal : List Entry) : Type 0 where
  pub peers : (last_table journal).dying ≡ []
  pub keys : (last_table journal).retired ≡ []

-- The peer that an act lets go.
abbrev pub released_by : Act → List ℕ
released_by (act.Released serial) = serial ∷ []
released_by _ = []

-- The serials of the peers that a journal let go, in order.
abbrev pub released_in : List Entry → List ℕ
released_in [] = []
released_in (e ∷ es) = released_by e.call.act ++ released_in es

-- How often a serial stands in a list.
abbrev pub times : ℕ → List ℕ → ℕ
times serial serials = length (filter (λ s. s == serial) serials)

-- The key that an act lets go.
abbrev pub key_released_by : Act → List ℕ
key_released_by (act.KeyReleased serial) = serial ∷ []
key_released_by _ = []

-- The serials of the keys that a journal let go, in order.
abbrev pub keys_released_in : List Entry → List ℕ
keys_released_in [] = []
keys_released_in (e ∷ es) = key_released_by e.call.act ++ keys_released_in es

-- The serials of the keys that some steps took out of their slots, in order.
abbrev pub keys_taken_in : List Step → List ℕ
keys_taken_in [] = []
keys_taken_in (s ∷ steps) = s.taken ++ keys_taken_in steps

-- Each removed peer has exactly one entry that lets it go, and so has each key that left its slot.
pub record EachReleasedOnce (journal : List Entry) : Type 0 where
  pub peers : (serial : ℕ) → 0 < times serial (removed_in journal) → times serial (released_in journal) ≡ 1
  pub keys : (serial : ℕ) → 0 < times serial (keys_taken_in (steps_of journal)) → times serial (keys_released_in journal) ≡ 1
