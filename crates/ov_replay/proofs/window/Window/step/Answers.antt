use Rattle.std.proofs.Common.{◌≡◌, max, sym, ◌∙◌, rules}
use denote.Enum.Bare.{same_true}
use Rattle.ov_model.specs.Replay.{verdict_of}
use Rattle.ov_model.specs.contracts.replay.Verdict.{the_type}
use Rattle.ov_model.specs.declared.replay.Verdict.TheVariants.{Accept}
use Rattle.ov_replay.proofs.WindowLemmas.{Stands-later}
use Rattle.ov_replay.proofs.window.Window.step.Goals as goal

pub returns-then-eq-clause-stands : goal.returns-then-eq-clause-stands
returns-then-eq-clause-stands c l m s =
    let now = max m c.args.at in
    let later = Stands-later c.args.self.now l m c.args.at c.max-self.result s c.max-self.ensures in
    let accepted : verdict_of l c.args.id now ≡ Accept =
    sym (c.judge-verdict.ensures l now later) ∙ same_true the_type (search rules) _ _ (sym c.if-eq.ensures) in
    rw accepted (c.accept.ensures l now later accepted)
