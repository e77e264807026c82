-- Behind the head each lane runs out.
use Rattle.std.proofs.Common.{◌≡◌, List, ◌++◌, length, take, drop, sym, ◌∙◌, ap, subst}
use Rattle.std.proofs.lemmas.List.{length-map, with_items_is}
use Rattle.ov_model.specs.declared.line.Line.{Line}
use Rattle.ov_lanes.specs.Jobs.{Lane, AreAtHead, AreBehindHead, AllRanOut, HaveRunAll}
use Rattle.ov_lanes.proofs.Leading.{all_run}
use Rattle.ov_lanes.proofs.run.run_all.Goals as goal

pub meet_all-requires : goal.meet_all-requires
meet_all-requires g c =
    let few : length c.args.order.now ≡ length (take g.it.head g.it.lines) = ap length c.requires.1.1.1.1.1.0 ∙ length-map (take g.it.head g.it.lines) (λ (l : Line). l.lane) in
    (subst (λ n. AreAtHead g.it.table g.it.lines n c.in-Some.last c.run_head.new.jobs.items) few c.in-Some.ensures.some, c.in-Some.ensures.last)

pub returns-in-Some : goal.returns-in-Some
returns-in-Some g c =
    let few : length c.args.order.now ≡ length (take g.it.head g.it.lines) = ap length c.requires.1.1.1.1.1.0 ∙ length-map (take g.it.head g.it.lines) (λ (l : Line). l.lane) in
    let before : List Lane = c.meet_all.new.jobs.items in
    let after : List Lane = c.run_side_by_side.new.jobs in
    let ran : AllRanOut before after = subst (λ (xs : List Lane). AllRanOut xs after) c.as_mut_slice.ensures.value c.run_side_by_side.ensures in
    let left : take c.meet_all.new.jobs.len (after ++ drop (length after) before) ≡ after = with_items_is c.meet_all.new.jobs after (c.run_side_by_side.ensures.count ∙ c.as_mut_slice.ensures.len) in
    let count : length before ≡ length c.args.jobs.now.items = c.meet_all.ensures.count ∙ c.in-Some.ensures.count in
    let head : AreBehindHead g.it.table g.it.lines (length c.args.order.now) before = subst (λ n. AreBehindHead g.it.table g.it.lines n before) (sym few) c.meet_all.ensures.head in
    subst (HaveRunAll g.it.table g.it.lines (length c.args.order.now) (length c.args.jobs.now.items)) (sym left) (all_run g.it.table g.it.lines (length c.args.order.now) (length c.args.jobs.now.items) before after head count ran)
