use Rattle.std.proofs.Common.{ℕ, ◌∙◌, refl, ap, sym}
use Rattle.std.specs.Prelude.{List, length}
use Rattle.ov_model.specs.declared.answer.Answer.{Answer}
use Rattle.ov_core.specs.Seats.{Seated}
use Rattle.ov_path.specs.declared.stage.Stage.TheVariants as stage
use Rattle.ov_core.proofs.Stepped.{on_turn, goes_at, more_by, over_by, line_got}
use Rattle.ov_core.proofs.course.Course.turn.Goals as goal

pub take_turn-requires-clause-goes : goal.take_turn-requires-clause-goes
take_turn-requires-clause-goes c =
    goes_at c.give_turn.new.self c.requires.on.all (record { lane = c.self.inside.lane; lines = c.self.inside.lines.items; answers = c.self.inside.answers.items; walk = c.self.inside.walk }) c.in-Some.line.now
    c.keeps.ensures (ap (λ (d : Seated). d.turn) c.give_turn.ensures) c.self.invariant
    (on_turn c.args.world.now c.give_turn.new.self c.self.inside.lane c.requires.on.all _ _ c.give_turn.ensures (sym c.self.view_is) c.requires.on.on)
    (line_got c.self.inside.lines.items c.as_slice.result.now (length c.self.inside.answers.items) (length c.as_slice-answered.result.now) c.in-Some.line.now c.as_slice.ensures.value (ap (λ (xs : List Answer). length xs) c.as_slice-answered.ensures.value) (c.in-Some.ensures.lookup.0, c.in-Some.ensures.lookup.1))

pub returns-in-More : goal.returns-in-More
returns-in-More c = λ all on.
    more_by c.args.world.now c.give_turn.new.self c.take_turn.new.world c.self.inside.lane all c.args.self.now (record { lane = c.self.inside.lane; lines = c.self.inside.lines.items; answers = c.self.inside.answers.items; walk = c.self.inside.walk }) c.take_turn.new.walk c.in-Some.line.now
    c.in_ok-take_turn.field-0 c.in-More.is c.give_turn.ensures (sym c.self.view_is) c.keeps.ensures c.in_ok-take_turn.ensures.kept c.self.invariant refl on
    (line_got c.self.inside.lines.items c.as_slice.result.now (length c.self.inside.answers.items) (length c.as_slice-answered.result.now) c.in-Some.line.now c.as_slice.ensures.value (ap (λ (xs : List Answer). length xs) c.as_slice-answered.ensures.value) (c.in-Some.ensures.lookup.0, c.in-Some.ensures.lookup.1)) c.in_ok-take_turn.ensures.made c.in_ok-take_turn.ensures.then

pub returns-in_ok-push-in-Answered : goal.returns-in_ok-push-in-Answered
returns-in_ok-push-in-Answered c = λ all on.
    over_by c.args.world.now c.give_turn.new.self c.take_turn.new.world c.end_line.new.self c.self.inside.lane all c.args.self.now (record { lane = c.self.inside.lane; lines = c.self.inside.lines.items; answers = c.self.inside.answers.items; walk = c.self.inside.walk }) c.take_turn.new.walk c.new.result
    c.in-Answered.answer c.push.new.self.items c.in-Some.line.now c.in_ok-take_turn.field-0 c.in-Answered.is c.end_line.ensures c.in_ok-push-in-Answered.ensures.items (c.new.ensures.new ∙ ap (λ (n : ℕ). record { place = record { lane = c.self.inside.lane; line = n }; stage = stage.Fresh }) (ap (λ (xs : List Answer). length xs) c.as_slice-in-Answered.ensures.value))
    c.give_turn.ensures (sym c.self.view_is) c.keeps.ensures c.in_ok-take_turn.ensures.kept c.self.invariant refl on
    (line_got c.self.inside.lines.items c.as_slice.result.now (length c.self.inside.answers.items) (length c.as_slice-answered.result.now) c.in-Some.line.now c.as_slice.ensures.value (ap (λ (xs : List Answer). length xs) c.as_slice-answered.ensures.value) (c.in-Some.ensures.lookup.0, c.in-Some.ensures.lookup.1)) c.in_ok-take_turn.ensures.made c.in_ok-take_turn.ensures.then
