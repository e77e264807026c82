-- Each turn reads the first of the lines that are left, and what is left at last ends none.
use Rattle.std.proofs.Common.{◌≤◌, ◌++◌, ℕ, List, length, sym, subst}
use Rattle.ov_script.specs.declared.script.ReadStop.{ReadStop}
use Rattle.ov_script.specs.declared.good.GoodLines.{GoodLines}
use Rattle.ov_script.specs.Reading as reading
use Rattle.ov_script.specs.Steps as spec
use Rattle.ov_script.proofs.Answering.{handed_on, both_ok, cause_gives}
use Rattle.ov_script.proofs.Taking.{Onward, part_forbidden, line_refused, onward_more, left_kept, left_refused}
use Rattle.ov_script.proofs.pieces.Pieces.take.Goals as goal

pub returns-in_err-allow-clause-halted : goal.returns-in_err-allow-clause-halted
returns-in_err-allow-clause-halted c = handed_on _ _ _ c.from_residual.ensures
    (part_forbidden c.args.lanes c.args.piece.now c.ends.left.now c.args.self.now.good.lines.items c.args.self.now.good.wide c.args.self.now.rest.items c.ends.self.good.lines.items c.ends.self.good.wide c.ends.self.rest.items c.ends.invariant
    c.in-Some.part.now c.in-Some.behind.now _ c.in-Some.ensures.cut.0 c.in-Some.ensures.cut.1 c.in_err-allow.ensures.err)

pub returns-in_err-end_line-clause-halted : goal.returns-in_err-end_line-clause-halted
returns-in_err-end_line-clause-halted c =
    handed_on _ _ _ c.from_residual-in_err-end_line.ensures
    (line_refused c.args.lanes c.args.piece.now c.ends.left.now c.args.self.now.good.lines.items c.args.self.now.good.wide c.args.self.now.rest.items c.ends.self.good.lines.items c.ends.self.good.wide c.ends.self.rest.items c.ends.invariant
    c.in-Some.part.now c.in-Some.behind.now c.end_line.new.self.good.lines.items _ c.in-Some.ensures.cut.0 c.in-Some.ensures.cut.1 c.in_ok-allow.ensures.ok c.in_err-end_line.ensures.err c.in_err-end_line.ensures.refused)

pub ends-preserved : goal.ends-preserved
ends-preserved c =
    let P : List ℕ → Type 0 = λ r. Onward c.args.lanes c.args.piece.now c.in-Some.behind.now c.args.self.now.good.lines.items c.args.self.now.good.wide c.args.self.now.rest.items c.end_line.new.self.good.lines.items c.end_line.new.self.good.wide r in
    subst P (sym c.in_ok-end_line.ensures.next)
    (onward_more c.args.lanes c.args.piece.now c.ends.left.now c.args.self.now.good.lines.items c.args.self.now.good.wide c.args.self.now.rest.items c.ends.self.good.lines.items c.ends.self.good.wide c.ends.self.rest.items c.ends.invariant
    c.in-Some.part.now c.in-Some.behind.now c.end_line.new.self.good.lines.items c.end_line.new.self.good.wide c.in-Some.ensures.cut.0 c.in-Some.ensures.cut.1 c.in_ok-allow.ensures.ok c.in_ok-end_line.ensures.ok)

pub returns-clause-ok : goal.returns-clause-ok
returns-clause-ok c =
    let P : GoodLines → Type 0 = λ good. (before : List ℕ) → spec.Reads c.args.lanes before c.args.self.now.good.lines.items c.args.self.now.good.wide c.args.self.now.rest.items → length (before ++ c.args.piece.now) ≤ reading.most_bytes → spec.Reads c.args.lanes (before ++ c.args.piece.now) good.lines.items good.wide c.hold.new.self.rest.items in
    both_ok c.hold.result _ _ _ c.hold.ensures.ok c.hold.ensures.allowed (λ is allowed. subst P (sym c.hold.ensures.same)
    (left_kept c.args.lanes c.args.piece.now c.ends.left.now c.args.self.now.good.lines.items c.args.self.now.good.wide c.args.self.now.rest.items c.ends.self.good.lines.items c.ends.self.good.wide c.ends.self.rest.items c.ends.invariant
    c.hold.new.self.rest.items c.in_default.ensures.cut allowed is))

pub returns-clause-halted : goal.returns-clause-halted
returns-clause-halted c =
    let P : ReadStop → GoodLines → Type 0 = λ why good. (before : List ℕ) → spec.Reads c.args.lanes before c.args.self.now.good.lines.items c.args.self.now.good.wide c.args.self.now.rest.items → length (before ++ c.args.piece.now) ≤ reading.most_bytes → spec.Halted c.args.lanes (before ++ c.args.piece.now) good.lines.items why in
    cause_gives c.hold.result _ _ c.hold.ensures.err (λ why refused. subst (P why) (sym c.hold.ensures.same)
    (left_refused c.args.lanes c.args.piece.now c.ends.left.now c.args.self.now.good.lines.items c.args.self.now.good.wide c.args.self.now.rest.items c.ends.self.good.lines.items c.ends.self.good.wide c.ends.self.rest.items c.ends.invariant
    why c.in_default.ensures.cut refused))
