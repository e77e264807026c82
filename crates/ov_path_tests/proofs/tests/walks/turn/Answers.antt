-- A turn leaves the next hops as they are.
use Rattle.std.proofs.Common.{sym, subst}
use Rattle.std.specs.Prelude.{Option}
use Rattle.ov_base.specs.declared.address.Addr.{Addr}
use Rattle.ov_path_tests.specs.Plain.{shown_of, hop_or}
use Rattle.ov_path.specs.Walks.{Progressed}
use Rattle.ov_path_tests.proofs.Plain.{hop_stays}
use Rattle.ov_path_tests.proofs.tests.walks.turn.Goals as goal

pub returns : goal.returns
returns c = record {
  then = subst (λ (h : Option Addr). Progressed (hop_or h) c.turn.new.self.place c.args.line.now (shown_of c.turn.new.desk) c.turn.new.self.stage c.in_ok-progress.progress)
      (sym (hop_stays (hop_or c.args.desk.now.hop) c.args.walk.now.place c.args.line.now c.args.desk.now c.turn.new.desk c.in_ok-progress.progress c.in_ok-progress.ensures.made)) c.in_ok-progress.ensures.then;
}
