-- Each turn reads the first digits that are left.
use Rattle.std.proofs.Common.{◌≡◌, ◌++◌, ℕ, List, sym, subst}
use Rattle.std.proofs.lemmas.List.{take-append-drop}
use Rattle.ov_line.specs.Digits.{ReadTo}
use Rattle.ov_line.proofs.HexLanes.{read_more}
use Rattle.ov_line.proofs.digits.add_front.Goals as goal

pub turns-preserved : goal.turns-preserved
turns-preserved c =
    let cut : c.turns.rest.now ≡ c.in-Some.front.now ++ c.in-Some.behind.now = rw (c.in-Some.ensures.cases.0, c.in-Some.ensures.cases.1) (sym (take-append-drop 32 c.turns.rest.now)) in
    let P : List ℕ → Type 0 = λ l. ReadTo c.args.digits.now c.in-Some.behind.now l in
    subst P (sym c.in_ok-extend_from_slice.ensures.items) (read_more c.args.digits.now c.turns.rest.now c.in-Some.front.now c.in-Some.behind.now c.turns.bytes.items c.in-Some-sixteen.part c.turns.invariant cut c.in-Some-sixteen.ensures)
