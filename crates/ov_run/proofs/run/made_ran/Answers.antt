-- The script that ran is the one of the seed and the count; its lanes are below 8.
use Rattle.std.proofs.Common.{◌<◌, subst, arith}
use Rattle.std.specs.Prelude.{IfSome}
use Rattle.ov_model.specs.declared.line.Line.{Line}
use Rattle.ov_model.specs.declared.line.Script.{Script}
use Rattle.ov_model.specs.Legal.{Legal}
use Rattle.ov_model.proofs.Lanes.{all_weaker}
use Rattle.ov_run.specs.Clauses.{Runs, first_id, lanes_read}
use Rattle.ov_run.proofs.run.made_ran.Goals as goal

pub ran-requires : goal.ran-requires
ran-requires g c = record {
  serial = c.requires.serial;
  fits = c.in-Ok.ensures.fits;
  lanes = all_weaker (λ (line : Line). line.lane < 8) (λ (line : Line). line.lane < lanes_read) (λ line below. omega (arith, below)) c.in-Ok.script.lines c.in-Ok.ensures.lanes;
  schedule = c.requires.schedule;
}

pub returns-in-Ok-clause-ran : goal.returns-in-Ok-clause-ran
returns-in-Ok-clause-ran g c = subst (λ (s : Script). IfSome c.ran.result.report (Runs c.args.plan s)) c.in-Ok.ensures.exactly c.ran.ensures.ran

pub returns-in-Ok-clause-legal : goal.returns-in-Ok-clause-legal
returns-in-Ok-clause-legal g c = subst (λ (s : Script). IfSome c.ran.result.report (Legal s (first_id c.args.plan))) c.in-Ok.ensures.exactly c.ran.ensures.legal
