-- One line more runs to its end.
use Rattle.std.proofs.Common.{ℕ, ◌≡◌, ◌<◌, List, length, get_or, ◌∙◌, ap, sym, subst, arith}
use Rattle.std.specs.Prelude.{map, Some, slice_get}
use Rattle.ov_model.specs.declared.line.Line.{Line}
use Rattle.ov_model.specs.declared.report.Report.{Report}
use Rattle.ov_model.specs.Legal.{Legal}
use Rattle.ov_model.specs.Via.{via_of}
use Rattle.ov_core.specs.Seats.{new_seated}
use Rattle.ov_core.specs.Sessions.{Serial}
use Rattle.ov_core.specs.Courses.{Coursed}
use Rattle.ov_core.specs.Scripts.{dealt}
use Rattle.ov_core.proofs.Seats.{read_there}
use Rattle.ov_core.proofs.Serially.{RanSerially}
use Rattle.ov_core.proofs.Loops.{if_ok, turn_may, serial_start, serial_step, serial_at, order_below}
use Rattle.ov_core.proofs.session.run_serially.Goals as goal

pub loop-lane-init : goal.loop-lane-init
loop-lane-init c =
    let all_dealt : c.in_ok-courses.courses.items ≡ dealt c.args.script.lines = c.in_ok-courses.ensures ∙ ap dealt c.into_vec.ensures in
    serial_start c.args.script c.args.first c.in_ok-world.world c.in_ok-courses.courses.items c.in_ok-world.ensures all_dealt (omega (arith, c.ranges.first.fits))

pub index_mut-requires : goal.index_mut-requires
index_mut-requires c =
    let below : get_or c.as_slice-lane-items.result.now c.loop-lane.lane-index 0 < 64 = order_below c.args.script.lines c.as_slice-lane-items.result.now c.loop-lane.lane-index (c.as_slice-lane-items.ensures.value ∙ c.in_ok-order.ensures ∙ ap (map (λ (l : Line). l.lane)) c.as_slice.ensures) c.requires.lanes c.loop-lane-test.true in
    let long : length c.loop-lane.courses.items ≡ 64 = c.loop-lane.invariant.are.count in
    let same : c.loop-lane.courses.len ≡ length c.loop-lane.courses.items = c.loop-lane.courses.ok.0 in
    omega arith

pub run_line-requires : goal.run_line-requires
run_line-requires c =
    let items : List Coursed = c.loop-lane.courses.items in
    let lane : ℕ = get_or c.as_slice-lane-items.result.now c.loop-lane.lane-index 0 in
    let below : lane < 64 = order_below c.args.script.lines c.as_slice-lane-items.result.now c.loop-lane.lane-index (c.as_slice-lane-items.ensures.value ∙ c.in_ok-order.ensures ∙ ap (map (λ (l : Line). l.lane)) c.as_slice.ensures) c.requires.lanes c.loop-lane-test.true in
    let long : length items ≡ 64 = c.loop-lane.invariant.are.count in
    record { on = turn_may c.loop-lane.world items lane c.index_mut.result.now c.loop-lane.invariant.are (read_there items lane c.index_mut.result.now (omega arith) c.index_mut.ensures.value) }

pub loop-lane-preserved : goal.loop-lane-preserved
loop-lane-preserved c =
    let items : List Coursed = c.loop-lane.courses.items in
    let order : List ℕ = c.as_slice-lane-items.result.now in
    let lane : ℕ = get_or order c.loop-lane.lane-index 0 in
    let its : order ≡ map (λ l. l.lane) c.args.script.lines = c.as_slice-lane-items.ensures.value ∙ c.in_ok-order.ensures ∙ ap (map (λ (l : Line). l.lane)) c.as_slice.ensures in
    let below : lane < 64 = order_below c.args.script.lines order c.loop-lane.lane-index its c.requires.lanes c.loop-lane-test.true in
    let long : length items ≡ 64 = c.loop-lane.invariant.are.count in
    let at : slice_get items lane ≡ Some c.index_mut.result.now = read_there items lane c.index_mut.result.now (omega arith) c.index_mut.ensures.value in
    serial_step c.args.script.lines order c.loop-lane.lane-index (new_seated c.args.first c.args.script.routes) c.loop-lane.world c.run_line.new.world (dealt c.args.script.lines) items c.index_mut.result.now c.run_line.new.self c.in_ok-run_line.field-0 its c.loop-lane-test.true c.loop-lane.invariant at c.in_ok-run_line.ensures

ran : (c : goal.After-drop-order-2) → RanSerially c.args.script c.args.first c.loop-lane.world c.loop-lane.courses.items
ran c =
    let order : List ℕ = c.as_slice-lane-items.result.now in
    let its : order ≡ map (λ l. l.lane) c.args.script.lines = c.as_slice-lane-items.ensures.value ∙ c.in_ok-order.ensures ∙ ap (map (λ (l : Line). l.lane)) c.as_slice.ensures in
    serial_at c.args.script c.args.first order c.loop-lane.lane-index c.loop-lane.world c.loop-lane.courses.items its c.loop-lane-test.false c.loop-lane.invariant

pub returns-clause-serial : goal.returns-clause-serial
returns-clause-serial c = if_ok c.report.result c.report.ensures (λ r is. subst (λ (x : Report). Serial (via_of c.args.script.routes) c.args.script c.args.first x) (sym is) (ran c).serial)

pub returns-clause-legal : goal.returns-clause-legal
returns-clause-legal c = if_ok c.report.result c.report.ensures (λ r is. subst (λ (x : Report). Legal c.args.script c.args.first x) (sym is) ((ran c).legal c.requires.lanes))
