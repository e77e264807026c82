-- The value is the note's, which has no fractions, and its end follows.
use Rattle.std.proofs.Common.{◌∙◌, ◌++◌, [], ◌∷◌, ap}
use Rattle.serde_json.specs.Written.{compact_text}
use Rattle.ov_report.proofs.NoFloat.{note_no_float}
use Rattle.ov_text.proofs.Lines.{joined}
use Rattle.ov_report.proofs.print.append_note.Goals as goal

pub append_value-requires : goal.append_value-requires
append_value-requires c = record { floats = rw c.in_ok-value.ensures (note_no_float c.args.note.now) }

pub returns : goal.returns
returns c =
    joined c.args.page.now.items _ _ _ _ c.in_ok-append_value.ensures c.in_ok-append.ensures
    ∙ ap (λ d. c.args.page.now.items ++ (compact_text d ++ 10 ∷ [])) c.in_ok-value.ensures
