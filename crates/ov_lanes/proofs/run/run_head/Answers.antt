-- A lane meets that of the line before, and runs the head's next line.
use Rattle.std.proofs.Common.{ℕ, ◌≡◌, ◌<◌, List, length, slice_index_or, sym, ◌∙◌, ap, subst, refl, arith}
use Rattle.std.specs.List.{AllByRecursion}
use Rattle.std.proofs.lemmas.List.{length-set, with_items_is}
use Rattle.ov_core.proofs.Seats.{set_own}
use Rattle.ov_lanes.specs.Jobs.{Lane, AreAtHead}
use Rattle.ov_lanes.proofs.Leading.{turn, turn_within, head_left, head_next, next_work, next_off}
use Rattle.ov_lanes.proofs.run.run_head.Goals as goal

pub loop-lane-init : goal.loop-lane-init
loop-lane-init g c = record { head = c.requires.1.1.0; within = omega (arith, c.requires.1.1.1.1.1); count = refl }

pub meet-requires-clause-one : goal.meet-requires-clause-one
meet-requires-clause-one g c = subst (λ (xs : List Lane). c.loop-lane.last < length xs) (sym c.as_mut_slice.ensures.value) c.loop-lane.invariant.within

pub meet-requires-clause-other : goal.meet-requires-clause-other
meet-requires-clause-other g c =
    let below = turn_within g.it.lines g.it.head (length c.args.jobs.now.items) c.args.order.now c.loop-lane.lane-index c.requires.1.1.1.0 c.requires.1.1.1.1.0 c.loop-lane-test.true in
    subst (λ n. slice_index_or c.args.order.now c.loop-lane.lane-index 0 < n) (sym (ap length c.as_mut_slice.ensures.value ∙ c.loop-lane.invariant.count)) below

pub meet-requires-clause-tables : goal.meet-requires-clause-tables
meet-requires-clause-tables g c = (g.it.table, subst (AllByRecursion (λ (lane : Lane). lane.table ≡ g.it.table)) (sym c.as_mut_slice.ensures.value) c.loop-lane.invariant.head.work.tables)

pub index_mut-requires : goal.index_mut-requires
index_mut-requires g c =
    let below = turn_within g.it.lines g.it.head (length c.args.jobs.now.items) c.args.order.now c.loop-lane.lane-index c.requires.1.1.1.0 c.requires.1.1.1.1.0 c.loop-lane-test.true in
    subst (λ n. slice_index_or c.args.order.now c.loop-lane.lane-index 0 < n) (sym c.loop-lane.invariant.count ∙ (ap length (sym c.as_mut_slice.ensures.value) ∙ c.as_mut_slice.ensures.len)) below

pub run_next-requires : goal.run_next-requires
run_next-requires g c =
    let lane : ℕ = slice_index_or c.args.order.now c.loop-lane.lane-index 0 in
    let own : Lane = c.index_mut.result.now in
    let left = with_items_is c.loop-lane.jobs c.meet.new.jobs (c.meet.ensures.saw.count ∙ c.as_mut_slice.ensures.len) in
    let its = turn g.it.table g.it.lines g.it.head (length c.args.jobs.now.items) c.args.order.now c.loop-lane.lane-index c.loop-lane.last c.loop-lane.jobs.items c.as_mut_slice.result.now c.meet.new.jobs _ own
    c.requires.1.1.1.0 c.requires.1.1.1.1.0 c.loop-lane-test.true c.loop-lane.invariant.head c.loop-lane.invariant.within c.loop-lane.invariant.count c.as_mut_slice.ensures.value left c.meet.ensures.saw c.meet.ensures.met c.index_mut.ensures.value in
    record { left = head_left g.it.table g.it.lines c.loop-lane.lane-index lane _ own its.head its.line its.at }

pub index-requires : goal.index-requires
index-requires g c =
    let below = turn_within g.it.lines g.it.head (length c.args.jobs.now.items) c.args.order.now c.loop-lane.lane-index c.requires.1.1.1.0 c.requires.1.1.1.1.0 c.loop-lane-test.true in
    subst (λ n. slice_index_or c.args.order.now c.loop-lane.lane-index 0 < n) (sym c.loop-lane.invariant.count ∙ (ap length (sym c.as_mut_slice.ensures.value) ∙ c.as_mut_slice.ensures.len)) below

pub returns-then-stopped-clause-work : goal.returns-then-stopped-clause-work
returns-then-stopped-clause-work g c =
    let lane : ℕ = slice_index_or c.args.order.now c.loop-lane.lane-index 0 in
    let own : Lane = c.index_mut.result.now in
    let left = with_items_is c.loop-lane.jobs c.meet.new.jobs (c.meet.ensures.saw.count ∙ c.as_mut_slice.ensures.len) in
    let its = turn g.it.table g.it.lines g.it.head (length c.args.jobs.now.items) c.args.order.now c.loop-lane.lane-index c.loop-lane.last c.loop-lane.jobs.items c.as_mut_slice.result.now c.meet.new.jobs _ own
    c.requires.1.1.1.0 c.requires.1.1.1.1.0 c.loop-lane-test.true c.loop-lane.invariant.head c.loop-lane.invariant.within c.loop-lane.invariant.count c.as_mut_slice.ensures.value left c.meet.ensures.saw c.meet.ensures.met c.index_mut.ensures.value in
    next_work g.it.table g.it.lines _ lane own c.run_next.new.self its.head.work its.head.on its.at c.run_next.ensures

pub returns-then-stopped-clause-stopped : goal.returns-then-stopped-clause-stopped
returns-then-stopped-clause-stopped g c =
    let lane : ℕ = slice_index_or c.args.order.now c.loop-lane.lane-index 0 in
    let own : Lane = c.index_mut.result.now in
    let left = with_items_is c.loop-lane.jobs c.meet.new.jobs (c.meet.ensures.saw.count ∙ c.as_mut_slice.ensures.len) in
    let its = turn g.it.table g.it.lines g.it.head (length c.args.jobs.now.items) c.args.order.now c.loop-lane.lane-index c.loop-lane.last c.loop-lane.jobs.items c.as_mut_slice.result.now c.meet.new.jobs _ own
    c.requires.1.1.1.0 c.requires.1.1.1.1.0 c.loop-lane-test.true c.loop-lane.invariant.head c.loop-lane.invariant.within c.loop-lane.invariant.count c.as_mut_slice.ensures.value left c.meet.ensures.saw c.meet.ensures.met c.index_mut.ensures.value in
    let new : Lane = c.run_next.new.self in
    let is : c.index.result.now ≡ new = c.index.ensures ∙ set_own _ lane new c.index.result.now its.here in
    λ none on. next_off _ lane own new its.at (sym (ap (λ (l : Lane). l.stopped) is) ∙ sym c.stopped.ensures ∙ c.if-stopped.true) on

pub loop-lane-preserved : goal.loop-lane-preserved
loop-lane-preserved g c =
    let lane : ℕ = slice_index_or c.args.order.now c.loop-lane.lane-index 0 in
    let own : Lane = c.index_mut.result.now in
    let left = with_items_is c.loop-lane.jobs c.meet.new.jobs (c.meet.ensures.saw.count ∙ c.as_mut_slice.ensures.len) in
    let its = turn g.it.table g.it.lines g.it.head (length c.args.jobs.now.items) c.args.order.now c.loop-lane.lane-index c.loop-lane.last c.loop-lane.jobs.items c.as_mut_slice.result.now c.meet.new.jobs _ own
    c.requires.1.1.1.0 c.requires.1.1.1.1.0 c.loop-lane-test.true c.loop-lane.invariant.head c.loop-lane.invariant.within c.loop-lane.invariant.count c.as_mut_slice.ensures.value left c.meet.ensures.saw c.meet.ensures.met c.index_mut.ensures.value in
    let new : Lane = c.run_next.new.self in
    let is : c.index.result.now ≡ new = c.index.ensures ∙ set_own _ lane new c.index.result.now its.here in
    record {
      head = head_next g.it.table g.it.lines c.loop-lane.lane-index lane _ own new its.head its.line its.at c.run_next.ensures (sym (ap (λ (l : Lane). l.stopped) is) ∙ sym c.stopped.ensures ∙ c.if-stopped.false);
      within = subst (λ n. lane < n) (sym (length-set _ lane new)) its.here;
      count = length-set _ lane new ∙ ap length left ∙ c.meet.ensures.saw.count ∙ ap length c.as_mut_slice.ensures.value ∙ c.loop-lane.invariant.count;
    }

pub returns-clause-some : goal.returns-clause-some
returns-clause-some g c =
    let all : c.loop-lane.lane-index ≡ length c.args.order.now = omega (arith, c.loop-lane-test.false, c.loop-lane.auto.lane-index-end) in
    subst (λ n. AreAtHead g.it.table g.it.lines n c.loop-lane.last c.loop-lane.jobs.items) all c.loop-lane.invariant.head

pub returns-clause-last : goal.returns-clause-last
returns-clause-last g c = c.loop-lane.invariant.within

pub returns-clause-work : goal.returns-clause-work
returns-clause-work g c = c.loop-lane.invariant.head.work
