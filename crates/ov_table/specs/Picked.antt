-- Peers that are taken out of a list by their serials, one after the other.
use Rattle.std.specs.Prelude.{ℕ, List, [], ◌∷◌, ◌++◌, map, option_to_list}
use Rattle.ov_model.specs.declared.command.Reason.{Reason}
use Rattle.ov_model.specs.declared.note.NoteBody.{NoteBody}
use Rattle.ov_model.specs.declared.note.NoteBody.TheVariants as note
use Rattle.ov_model.specs.declared.reply.Reply.TheVariants as reply
use Rattle.ov_model.specs.Tables.{Peer, Table, has_serial, by_serial, without_first}
use Rattle.ov_model.specs.Step.{Outcome, removals}

-- The peers that are taken out, in the order of the serials.
abbrev pub picked : (gone : List ℕ) → (live : List Peer) → List Peer
picked [] live = []
picked (serial ∷ gone) live = option_to_list (by_serial serial live) ++ picked gone (without_first (has_serial serial) live)

-- The peers that are left.
abbrev pub left : (gone : List ℕ) → (live : List Peer) → List Peer
left [] live = live
left (serial ∷ gone) live = left gone (without_first (has_serial serial) live)

-- The notes of some removed peers.
abbrev pub del_notes : Reason → List Peer → List NoteBody
del_notes reason gone = map (λ p. note.PeerDel p.id reason) gone

-- The removal of the live peers with some serials, in this order, but for the reply.
abbrev pub removal : Table → ℕ → Reason → List ℕ → Outcome
removal t now reason gone = removals t now reason (picked gone t.live) (left gone t.live) reply.Done
