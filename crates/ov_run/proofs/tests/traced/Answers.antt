-- The source gave all that it held.
use Rattle.std.proofs.Common.{List, ℕ, ◌≡◌, false, subst, rules, arith}
use Rattle.std.specs.Prelude.{IfSome, map, string_bytes}
use Rattle.ov_model.specs.declared.line.Script.{Script}
use Rattle.ov_model.specs.Legal.{Legal}
use Rattle.ov_plan.specs.declared.words.RunPlan.{RunPlan}
use Rattle.ov_plan.specs.Plan.{IsPlan}
use Rattle.ov_run.specs.Clauses.{Read, first_id, makes, lanes_of}
use Rattle.ov_run.proofs.Reporting.{read_all}
use Rattle.ov_run.proofs.tests.traced.Goals as goal

pub returns : goal.returns
returns g c =
    let P : List ℕ → Type 0 = λ b. IfSome c.run.result.report (λ r. (plan : RunPlan) × IsPlan (map string_bytes c.args.words.now) plan × ((script : Script) × (makes plan.mode ≡ false → Read (lanes_of plan) b script) × Legal script (first_id plan) r)) in
    subst P (first_of (search rules, grind arith, cc)) (read_all _ _ _ _ c.run.ensures.taken c.run.ensures.outcome)
