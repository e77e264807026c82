-- The line is given up.
use Rattle.std.proofs.Common.{◌≡◌, ◌+◌, ◌<◌, length, arith}
use Rattle.ov_desk.proofs.Ending.{releasing_none, releasing_more, nothing_left, given_up}
use Rattle.ov_desk.proofs.desk.LaneDesk.give_up.Goals as goal

pub loop-done-init : goal.loop-done-init
loop-done-init g c = releasing_none c.args.place c.args.at c.args.self.now c.let_all_go.new.self c.owed_count-count.result c.let_all_go.ensures c.owed_count-count.ensures

pub release_first-requires : goal.release_first-requires
release_first-requires g c = (let left : length c.loop-done.self.owing + c.loop-done._done ≡ c.owed_count-count.result = c.loop-done.invariant.left in let more : c.loop-done._done < c.owed_count-count.result = c.loop-done-test.true in omega arith)

pub loop-done-preserved : goal.loop-done-preserved
loop-done-preserved g c = releasing_more c.args.place c.args.at c.args.self.now c.loop-done.self c.release_first.new.self c.loop-done._done c.owed_count-count.result c.loop-done.invariant c.release_first.ensures

pub end_line-requires-clause-hold : goal.end_line-requires-clause-hold
end_line-requires-clause-hold g c = c.loop-done.invariant.hold

pub end_line-requires-clause-owing : goal.end_line-requires-clause-owing
end_line-requires-clause-owing g c =
    let left : length c.loop-done.self.owing + c.loop-done._done ≡ c.owed_count-count.result = c.loop-done.invariant.left in
    let past = c.loop-done-test.false in
    nothing_left c.args.place c.args.at c.args.self.now c.loop-done.self c.loop-done._done c.owed_count-count.result c.loop-done.invariant (omega arith)

pub returns : goal.returns
returns g c =
    let left : length c.loop-done.self.owing + c.loop-done._done ≡ c.owed_count-count.result = c.loop-done.invariant.left in
    let past = c.loop-done-test.false in
    given_up c.args.place c.args.at c.args.self.now c.loop-done.self c.end_line.new.self c.loop-done._done c.owed_count-count.result c.loop-done.invariant
    (nothing_left c.args.place c.args.at c.args.self.now c.loop-done.self c.loop-done._done c.owed_count-count.result c.loop-done.invariant (omega arith)) c.end_line.ensures.rests c.end_line.ensures.free
