-- The texts of notes have no fractions, so the printer's text of each is exact.
use Rattle.std.proofs.Common.{◌≡◌, refl, false}
use Rattle.std.specs.Prelude.{codes}
use Rattle.serde_json.specs.Written.{has_float, members_have_float}
use Rattle.ov_model.specs.declared.note.Note.{Note}
use Rattle.ov_model.specs.declared.note.NoteBody.{NoteBody}
use Rattle.ov_model.specs.declared.note.NoteBody.TheVariants as body
use Rattle.ov_text.specs.Pieces.{num}
use Rattle.ov_text.proofs.NoFloat.{put_no_float}
use Rattle.ov_report.specs.Print.{note_members, note_data}

body_no_float : (b : NoteBody) → members_have_float (note_members b) ≡ false
body_no_float (body.PeerDel id r) = refl
body_no_float (body.KeySwap id key_id) = refl

pub note_no_float : (n : Note) → has_float (note_data n) ≡ false
unfolding note_data
note_no_float n = put_no_float (codes "journal") (num n.entry) (note_members n.body) refl (body_no_float n.body)
