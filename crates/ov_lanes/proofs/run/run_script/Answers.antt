-- All lines were run, and the table is closed.
use Rattle.std.proofs.Common.{◌≡◌, ◌<◌, ◌≤◌, List, length, map, take, refl, sym, ◌∙◌, ap, subst, arith, rules}
use Rattle.std.specs.List.{AllByRecursion}
use Rattle.std.specs.Vec.{vec_capacity}
use Rattle.std.proofs.lemmas.List.{length-map}
use Rattle.ov_model.specs.declared.line.Line.{Line}
use Rattle.ov_model.specs.declared.report.Report.{Report}
use Rattle.ov_share.specs.Passings.{Passing, OneHistory}
use Rattle.ov_lane.specs.Passes.{AreFresh, AreAllPasses}
use Rattle.ov_lanes.specs.Dealt.{AreDealt, HaveRoom}
use Rattle.ov_lanes.specs.Jobs.{Lane, HaveRunAll, log_of, passes_of}
use Rattle.ov_lanes.specs.Rans.{ArePlain, report_of}
use Rattle.ov_lanes.proofs.Ended.{IsOver, over_legal, over_headed, logs_plain}
use Rattle.ov_lanes.proofs.run.run_script.Given.{Over}
use Rattle.ov_lanes.proofs.run.run_script.Goals as goal

pub run_seated-requires : goal.run_seated-requires
run_seated-requires g c κs within =
    let its = c.requires.1.1.1.1 in
    let dealt : AreDealt g.it.lines c.args.lanes c.in_ok-dealt.dealt.items = subst (λ (ls : List Line). AreDealt ls c.args.lanes c.in_ok-dealt.dealt.items) (c.into_vec.ensures ∙ sym its.0) c.in_ok-dealt.ensures in
    let count : length c.in_ok-dealt.dealt.items ≡ c.args.lanes = dealt.counted in
    let order : c.as_slice-3.result.now ≡ map (λ line. line.lane) (take g.it.head g.it.lines) = c.as_slice-3.ensures.value ∙ c.in_ok-order.ensures ∙ ap (λ (ls : List Line). map (λ line. line.lane) (take c.args.head ls)) (c.as_slice.ensures ∙ sym its.0) ∙ ap (λ n. map (λ (line : Line). line.lane) (take n g.it.lines)) (sym its.1.0) in (
      within.0,
      (
        within.1,
        (
          c.requires.1.1.0,
          (
            c.requires.1.1.1.0,
            (
              refl,
              (
                subst (λ n. AreFresh c.in_ok-ovpn.ovpn n c.into_vec-fresh.result.items) (sym count) (subst (AreFresh c.in_ok-ovpn.ovpn c.args.lanes) (sym c.into_vec-fresh.ensures) c.in_ok-ovpn.ensures.passes),
                (
                  subst (AreAllPasses c.in_ok-ovpn.ovpn) (sym c.into_vec-fresh.ensures) c.in_ok-ovpn.ensures.all,
                  (
                    subst (λ n. AreDealt g.it.lines n c.in_ok-dealt.dealt.items) (sym count) dealt,
                    (
                      subst (λ ds. HaveRoom ds c.in_ok-rooms.rooms.items) c.as_slice-2.ensures.value c.in_ok-rooms.ensures,
                      (
                        its.1.1.1.1.1,
                        (
                          subst (λ n. AllByRecursion (λ (line : Line). line.lane < n) g.it.lines) (sym count) its.1.1.1.1.0,
                          (
                            order,
                            (
                              c.reserve-3.ensures.items ∙ c.new-jobs.ensures.items,
                              (
                                (let enough : c.args.lanes ≤ vec_capacity c.reserve-3.new.self = search rules in omega (arith, count)),
                                (
                                  subst (λ n. 1 ≤ n) (sym count) its.1.1.1.0.0,
                                  subst (λ n. n ≤ 64) (sym count) its.1.1.1.0.1,
                                ),
                              ),
                            ),
                          ),
                        ),
                      ),
                    ),
                  ),
                ),
              ),
            ),
          ),
        ),
      ),
    )

-- What the run ends with.
is_over : (g : Over) (c : goal.After-drop-order-then-all g) → IsOver c.args.script c.args.first c.args.head (length c.as_slice-3.result.now) (length c.in_ok-dealt.dealt.items) c.in_ok-ovpn.ovpn c.run_seated.new.jobs.items (report_of (record { closed = c.close-closed.result; logs = c.of_vec-then-all.result }))
is_over g c =
    let its = c.requires.1.1.1.1 in
    let lanes : List Lane = c.run_seated.new.jobs.items in
    let report : Report = report_of (record { closed = c.close-closed.result; logs = c.of_vec-then-all.result }) in
    let lines : g.it.lines ≡ c.args.script.lines = its.0 in
    let logs : c.of_vec-then-all.result ≡ map log_of lanes = c.of_vec-then-all.ensures ∙ c.take_in-all.ensures.logs in
    let passes : c.of_vec.result ≡ passes_of lanes = c.of_vec.ensures ∙ c.take_in-all.ensures.passes in
    let count : length c.in_ok-dealt.dealt.items ≡ c.args.lanes = c.in_ok-dealt.ensures.counted in
    let headed : length c.as_slice-3.result.now ≡ length (take c.args.head c.args.script.lines) = ap length (c.as_slice-3.ensures.value ∙ c.in_ok-order.ensures ∙ ap (λ (ls : List Line). map (λ line. line.lane) (take c.args.head ls)) c.as_slice.ensures) ∙ length-map (take c.args.head c.args.script.lines) (λ (l : Line). l.lane) in
    record {
      all = subst (λ (ls : List Line). HaveRunAll c.in_ok-ovpn.ovpn ls (length c.as_slice-3.result.now) (length c.in_ok-dealt.dealt.items) lanes) lines c.run_seated.ensures;
      on = c.if-all.ensures.on refl;
      routes = c.in_ok-ovpn.ensures.routes;
      begin = omega (arith, c.ranges.first.fits);
      named = subst (λ n. AllByRecursion (λ (line : Line). line.lane < n) c.args.script.lines) (sym count) (subst (AllByRecursion (λ (line : Line). line.lane < c.args.lanes)) lines its.1.1.1.1.0);
      history = subst (λ n. OneHistory n report.journal report.notes report.shards (passes_of lanes)) c.in_ok-ovpn.ensures.first (subst (λ (ps : List Passing). OneHistory c.in_ok-ovpn.ovpn.words.counters.first report.journal report.notes report.shards ps) passes c.close-closed.ensures.history);
      released = c.close-closed.ensures.releases.all;
      logs = logs;
      headed = headed;
    }

pub returns-then-all-clause-legal : goal.returns-then-all-clause-legal
returns-then-all-clause-legal g c = over_legal c.args.script c.args.first c.args.head (length c.as_slice-3.result.now) (length c.in_ok-dealt.dealt.items) c.in_ok-ovpn.ovpn c.run_seated.new.jobs.items (report_of (record { closed = c.close-closed.result; logs = c.of_vec-then-all.result })) (is_over g c)

pub returns-then-all-clause-head : goal.returns-then-all-clause-head
returns-then-all-clause-head g c = over_headed c.args.script c.args.first c.args.head (length c.as_slice-3.result.now) (length c.in_ok-dealt.dealt.items) c.in_ok-ovpn.ovpn c.run_seated.new.jobs.items (report_of (record { closed = c.close-closed.result; logs = c.of_vec-then-all.result })) (is_over g c)

pub returns-then-all-clause-plain : goal.returns-then-all-clause-plain
returns-then-all-clause-plain g c = subst ArePlain (sym (c.of_vec-then-all.ensures ∙ c.take_in-all.ensures.logs)) (logs_plain c.run_seated.new.jobs.items)
