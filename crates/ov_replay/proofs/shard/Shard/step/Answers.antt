use Rattle.std.proofs.Common.{◌≡◌, ◌%◌, ap, sym, ◌∙◌}
use Rattle.ov_replay.specs.History.{History}
use Rattle.ov_replay.proofs.CourseLemmas.{judges_on}
use Rattle.ov_replay.proofs.shard.Shard.step.Goals as goal

pub invariant_of-self : goal.invariant_of-self
invariant_of-self c =
    let belongs : c.args.key % 8 ≡ c.self.inside.number = c.requires ∙ sym (ap (λ (seen : History). seen.number) c.self.view_is) in
    judges_on c.self.inside.number c.self.inside.course c.step.new.self c.args.place c.args.key c.args.id c.args.at c.step.result belongs c.self.invariant c.step.ensures.ok c.step.ensures.err
