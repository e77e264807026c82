-- A lane met one more, and then all.
use Rattle.std.proofs.Common.{◌≡◌, ◌+◌, ◌<◌, List, ◌++◌, length, take, drop, sym, ◌∙◌, ap, subst, arith}
use Rattle.std.specs.List.{AllByRecursion}
use Rattle.std.proofs.lemmas.List.{with_items_is}
use Rattle.ov_lanes.specs.Jobs.{Lane, AllSaw}
use Rattle.ov_lanes.proofs.Meeting.{AreMeeting, one_met, all_met}
use Rattle.ov_lanes.proofs.run.meet_all.Goals as goal

pub meet-requires-clause-tables : goal.meet-requires-clause-tables
meet-requires-clause-tables g c = (g.it.table, subst (AllByRecursion (λ (lane : Lane). lane.table ≡ g.it.table)) (sym c.as_mut_slice.ensures.value) c.loop-other.invariant.met.work.tables)

pub loop-other-preserved : goal.loop-other-preserved
loop-other-preserved g c =
    let before : List Lane = c.loop-other.jobs.items in
    let after : List Lane = c.meet.new.jobs in
    let saw : AllSaw before after = subst (λ lanes. AllSaw lanes after) c.as_mut_slice.ensures.value c.meet.ensures.saw in
    let left : take c.loop-other.jobs.len (after ++ drop (length after) before) ≡ after = with_items_is c.loop-other.jobs after (c.meet.ensures.saw.count ∙ c.as_mut_slice.ensures.len) in
    let within : c.args.one < length before = omega (arith, c.requires.1, c.loop-other.invariant.count) in
    record {
      met = subst (AreMeeting g.it.table g.it.lines g.it.head c.args.one (c.loop-other.other + 1)) (sym left) (one_met g.it.table g.it.lines g.it.head c.args.one c.loop-other.other before after c.loop-other.invariant.met within saw c.meet.ensures.met);
      count = ap length left ∙ saw.count ∙ c.loop-other.invariant.count;
    }

pub returns-clause-head : goal.returns-clause-head
returns-clause-head g c = all_met g.it.table g.it.lines g.it.head c.args.one c.loop-other.other c.loop-other.jobs.items c.loop-other.invariant.met (omega (arith, c.loop-other.invariant.count, c.as_slice-count.ensures.len))
