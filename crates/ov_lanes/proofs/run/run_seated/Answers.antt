-- The lanes are before their first lines.
use Rattle.std.proofs.Common.{◌≡◌, ◌<◌, ◌≤◌, length, sym, subst}
use Rattle.std.specs.List.{AllByRecursion}
use Rattle.ov_lane.specs.Passes.{Shared}
use Rattle.ov_model.specs.declared.line.Line.{Line}
use Rattle.ov_lanes.specs.Jobs.{AreAtHead}
use Rattle.ov_lanes.proofs.run.run_seated.Goals as goal

pub run_all-requires : goal.run_all-requires
run_all-requires g c κs within =
    let its = c.requires.1.1.1.1 in
    let count : length c.args.dealt.items ≡ length c.seat.new.jobs.items = sym c.seat.ensures.counted in (
      within.0,
      (
        within.1,
        (
          c.requires.1.1.0,
          (
            c.requires.1.1.1.0,
            (
              subst (λ (o : Shared). AreAtHead o g.it.lines 0 0 c.seat.new.jobs.items) (sym its.0) c.seat.ensures.head,
              (
                its.1.1.1.1.1.1.1.0,
                (
                  subst (λ n. AllByRecursion (λ (line : Line). line.lane < n) g.it.lines) count its.1.1.1.1.1.1.0,
                  (
                    subst (λ n. 1 ≤ n) count its.1.1.1.1.1.1.1.1.1.1.0,
                    subst (λ n. n ≤ 64) count its.1.1.1.1.1.1.1.1.1.1.1,
                  ),
                ),
              ),
            ),
          ),
        ),
      ),
    )
