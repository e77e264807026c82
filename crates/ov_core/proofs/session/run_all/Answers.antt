-- One lane more runs to its end.
use Rattle.std.proofs.Common.{ℕ, ◌≡◌, ◌<◌, List, length, arith}
use Rattle.std.specs.Prelude.{Some, slice_get}
use Rattle.ov_core.specs.Courses.{Coursed}
use Rattle.ov_core.proofs.Seats.{read_there}
use Rattle.ov_core.proofs.Coursing.{out_none, out_more}
use Rattle.ov_core.proofs.Loops.{turn_may}
use Rattle.ov_core.proofs.session.run_all.Goals as goal

pub loop-lane-init : goal.loop-lane-init
loop-lane-init c = out_none c.args.world.now c.args.courses.now.items c.requires.are

pub run_out-requires : goal.run_out-requires
run_out-requires c =
    let items : List Coursed = c.loop-lane.courses.items in
    let below : c.loop-lane.lane < 64 = c.loop-lane-test.true in
    let count : length items ≡ 64 = c.loop-lane.invariant.are.count in
    record { on = turn_may c.loop-lane.world items c.loop-lane.lane c.index_mut.result.now c.loop-lane.invariant.are (read_there items c.loop-lane.lane c.index_mut.result.now (omega arith) c.index_mut.ensures.value) }

pub loop-lane-preserved : goal.loop-lane-preserved
loop-lane-preserved c =
    let items : List Coursed = c.loop-lane.courses.items in
    let lane : ℕ = c.loop-lane.lane in
    let below : lane < 64 = c.loop-lane-test.true in
    let count : length items ≡ 64 = c.loop-lane.invariant.are.count in
    let at : slice_get items lane ≡ Some c.index_mut.result.now = read_there items lane c.index_mut.result.now (omega arith) c.index_mut.ensures.value in
    out_more c.args.world.now c.loop-lane.world c.run_out.new.world c.args.courses.now.items items lane c.index_mut.result.now c.run_out.new.self c.loop-lane.invariant at c.in_ok-run_out.ensures
