-- One line more goes to its lane.
use Rattle.std.proofs.Common.{ℕ, ◌≡◌, ◌<◌, List, length, ◌∙◌, ap, arith}
use Rattle.std.specs.Prelude.{Some, slice_get}
use Rattle.std.proofs.lemmas.Iterator.Consumers.{YieldsList-turn}
use Rattle.std.proofs.lemmas.Iterator.Adapters.{YieldsList-from_vec}
use Rattle.ov_model.specs.Sizes.{Fits}
use Rattle.ov_core.specs.Courses.{Coursed}
use Rattle.ov_core.proofs.Seats.{read_there}
use Rattle.ov_core.proofs.Loops.{line_now, dealt_push}
use Rattle.ov_core.proofs.session.deal.Goals as goal

pub index_mut-requires : goal.index_mut-requires
index_mut-requires c =
    let below : c.in-Some.line.lane < 64 = line_now (λ line. line.lane < 64) c.args.lines.items (length c.loop-line.yielded) c.in-Some.line c.requires.lanes (YieldsList-turn (YieldsList-from_vec {s = c.into_iter-line-iterator.result} c.args.lines.items c.into_iter-line-iterator.ensures.into_iter_gives.0 (c.into_iter-line-iterator.ensures.into_iter_gives.1 ∙ c.args.lines.ok.0)) c.loop-line.yielded c.loop-line.line-iterator c.loop-line.yielded_by c.next.result c.next.new.self c.in-Some.line c.in-Some.is c.next.ensures.steps) in
    let long : length c.loop-line.courses.items ≡ 64 = ap length c.loop-line.invariant in
    let same : c.loop-line.courses.len ≡ length c.loop-line.courses.items = c.loop-line.courses.ok.0 in
    omega arith

pub push-requires : goal.push-requires
push-requires c = line_now (λ line. Fits line.deed) c.args.lines.items (length c.loop-line.yielded) c.in-Some.line c.requires.fits (YieldsList-turn (YieldsList-from_vec {s = c.into_iter-line-iterator.result} c.args.lines.items c.into_iter-line-iterator.ensures.into_iter_gives.0 (c.into_iter-line-iterator.ensures.into_iter_gives.1 ∙ c.args.lines.ok.0)) c.loop-line.yielded c.loop-line.line-iterator c.loop-line.yielded_by c.next.result c.next.new.self c.in-Some.line c.in-Some.is c.next.ensures.steps)

pub loop-line-preserved : goal.loop-line-preserved
loop-line-preserved c =
    let items : List Coursed = c.loop-line.courses.items in
    let lane : ℕ = c.in-Some.line.lane in
    let below : lane < 64 = line_now (λ line. line.lane < 64) c.args.lines.items (length c.loop-line.yielded) c.in-Some.line c.requires.lanes (YieldsList-turn (YieldsList-from_vec {s = c.into_iter-line-iterator.result} c.args.lines.items c.into_iter-line-iterator.ensures.into_iter_gives.0 (c.into_iter-line-iterator.ensures.into_iter_gives.1 ∙ c.args.lines.ok.0)) c.loop-line.yielded c.loop-line.line-iterator c.loop-line.yielded_by c.next.result c.next.new.self c.in-Some.line c.in-Some.is c.next.ensures.steps) in
    let long : length items ≡ 64 = ap length c.loop-line.invariant in
    let at : slice_get items lane ≡ Some c.index_mut.result.now = read_there items lane c.index_mut.result.now (omega arith) c.index_mut.ensures.value in
    dealt_push c.loop-line.yielded c.in-Some.line items c.index_mut.result.now c.push.new.self c.loop-line.invariant below at c.in_ok-push.ensures
