-- One lane more takes its turn.
use Rattle.std.proofs.Common.{ℕ, ◌≡◌, ◌<◌, List, length, sym, subst, arith, get_or, take}
use Rattle.std.specs.Prelude.{Some, slice_get, slice_set}
use Rattle.std.specs.List.{AllByRecursion}
use Rattle.std.proofs.lemmas.List.{take_more}
use Rattle.std.proofs.lemmas.List.Elements.{All-from_recursion, All-get_or}
use Rattle.ov_core.specs.Courses.{Coursed}
use Rattle.ov_core.specs.Scripts.{TookTurns}
use Rattle.ov_core.proofs.Seats.{read_there}
use Rattle.ov_core.proofs.Coursing.{took_more}
use Rattle.ov_core.proofs.Loops.{turn_may}
use Rattle.ov_core.proofs.session.take_turns.Goals as goal

lane_below : (schedule : List ℕ) (k : ℕ) → AllByRecursion (λ n. n < 64) schedule → k < length schedule → get_or schedule k 0 < 64
lane_below schedule k known below = All-get_or (λ n. n < 64) schedule k 0 below (All-from_recursion (λ n. n < 64) schedule known)

pub turn-requires : goal.turn-requires
turn-requires c =
    let items : List Coursed = c.loop-lane.courses.items in
    let lane : ℕ = get_or c.args.schedule.now c.loop-lane.lane-index 0 in
    let below : lane < 64 = lane_below c.args.schedule.now c.loop-lane.lane-index c.requires.known c.loop-lane-test.true in
    let count : length items ≡ 64 = c.loop-lane.invariant.are.count in
    record { on = turn_may c.loop-lane.world items lane c.index_mut.result.now c.loop-lane.invariant.are (read_there items lane c.index_mut.result.now (omega arith) c.index_mut.ensures.value) }

pub loop-lane-preserved : goal.loop-lane-preserved
loop-lane-preserved c =
    let items : List Coursed = c.loop-lane.courses.items in
    let schedule : List ℕ = c.args.schedule.now in
    let k : ℕ = c.loop-lane.lane-index in
    let lane : ℕ = get_or schedule k 0 in
    let below : lane < 64 = lane_below schedule k c.requires.known c.loop-lane-test.true in
    let count : length items ≡ 64 = c.loop-lane.invariant.are.count in
    let at : slice_get items lane ≡ Some c.index_mut.result.now = read_there items lane c.index_mut.result.now (omega arith) c.index_mut.ensures.value in
    subst (λ is. TookTurns c.args.world.now c.turn.new.world c.args.courses.now.items (slice_set items lane c.turn.new.self) is) (sym (take_more schedule k 0 c.loop-lane-test.true))
    (took_more c.args.world.now c.loop-lane.world c.turn.new.world c.args.courses.now.items items (take k schedule) lane c.index_mut.result.now c.turn.new.self c.in_ok-turn.field-0 c.loop-lane.invariant at c.in_ok-turn.ensures)
