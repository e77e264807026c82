use Rattle.std.proofs.Common.{◌∙◌, ap, sym, [], ◌∷◌, ◌++◌}
use Rattle.std.specs.Prelude.{Some}
use Rattle.std.proofs.lemmas.Option.{slice_get-get_or}
use Rattle.ov_course.proofs.Following.{run_none, run_more, run_stopped}
use Rattle.ov_course.proofs.lines.run_lines.Goals as goal

pub loop-line-init : goal.loop-line-init
loop-line-init g c = run_none c.args.lane c.args.first c.args.lines.now c.args.desk.now c.end_line.new.self c.args.answers.now.items c.requires.rests c.end_line.ensures.rests c.end_line.ensures.free

pub returns-in_default : goal.returns-in_default
returns-in_default g c =
    run_stopped c.args.lane c.args.first c.args.lines.now c.args.desk.now c.loop-line.desk c.run_line-answered.new.desk c.args.answers.now.items c.loop-line.answers.items c.reserve.new.self.items c.loop-line.line-index c.loop-line.number c.loop-line.invariant c.reserve.ensures.items c.in_default.ensures.rests

pub loop-line-preserved : goal.loop-line-preserved
loop-line-preserved g c =
    run_more c.args.lane c.args.first c.args.lines.now c.args.desk.now c.loop-line.desk c.run_line-answered.new.desk c.args.answers.now.items c.loop-line.answers.items c.push_reserved.new.self.items c.loop-line.line-index c.loop-line.number c.line-item.result c.in-Ok.answer c.loop-line.invariant (slice_get-get_or c.args.lines.now c.loop-line.line-index c.line-item.result c.loop-line-test.true ∙ ap (λ x. Some x) (sym c.line-item.is))
    (c.push_reserved.ensures.items ∙ ap (λ xs. xs ++ c.in-Ok.answer ∷ []) c.reserve.ensures.items) c.in-Ok.ensures.ok c.in-Ok.ensures.rests
