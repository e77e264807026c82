-- One line more goes to its lane.
use Rattle.std.proofs.Common.{◌≡◌, ◌<◌, List, length, ◌∙◌, refl, arith}
use Rattle.std.specs.Prelude.{Some, slice_get}
use Rattle.std.specs.declared.alloc.Global.{Global}
use Rattle.std.specs.declared.vec.Vec.{Vec}
use Rattle.std.proofs.lemmas.Iterator.Adapters.{YieldsList-from_vec}
use Rattle.std.proofs.lemmas.Iterator.Consumers.{YieldsList-turn}
use Rattle.std.proofs.lemmas.Option.{slice_get_read}
use Rattle.ov_model.specs.declared.line.Line.{Line}
use Rattle.ov_lanes.proofs.Placing.{line_now, dealt_line}
use Rattle.ov_lanes.proofs.run.deal.Goals as goal

pub loop-line-preserved : goal.loop-line-preserved
loop-line-preserved c =
    let items : List (Vec Line Global) = c.loop-line.dealt.items in
    let below : c.in-Some.line.lane < c.args.lanes = line_now (λ line. line.lane < c.args.lanes) c.args.lines.items (length c.loop-line.yielded) c.in-Some.line c.requires.named (YieldsList-turn (YieldsList-from_vec {s = c.into_iter-line-iterator.result} c.args.lines.items c.into_iter-line-iterator.ensures.into_iter_gives.0 (c.into_iter-line-iterator.ensures.into_iter_gives.1 ∙ c.args.lines.ok.0)) c.loop-line.yielded c.loop-line.line-iterator c.loop-line.yielded_by c.next.result c.next.new.self c.in-Some.line c.in-Some.is c.next.ensures.steps) in
    let long : length items ≡ c.args.lanes = c.loop-line.invariant.counted in
    let at : slice_get items c.in-Some.line.lane ≡ Some c.index_mut.result.now = slice_get_read items (length items) c.in-Some.line.lane c.index_mut.result.now refl (omega arith) c.index_mut.ensures.value in
    dealt_line c.loop-line.yielded c.in-Some.line c.args.lanes items c.index_mut.result.now c.push-in-loop-line.new.self c.loop-line.invariant at c.in_ok-push-2.ensures.items
