-- What is counted in one member more, and in all of them.
use Rattle.std.proofs.Common.{◌∙◌, ap, refl}
use Rattle.std.proofs.lemmas.Fn.{says_at}
use Rattle.std.specs.Fn.{FnReturnsAt}
use Rattle.ov_report.proofs.Counting.{member_counted}
use Rattle.ov_report.proofs.counts.total.Goals as goal

pub loop-member-init : goal.loop-member-init
loop-member-init g c = λ value counts. refl

pub loop-member-preserved : goal.loop-member-preserved
loop-member-preserved g c = λ value counts.
    let counted : FnReturnsAt g.F.Fn c.args.count c.member-item.result c.count.result = says_at g.F.Fn c.count.ensures refl in
    member_counted value c.args.list.now c.loop-member.member-index _ c.loop-member.sum c.in-Some.more c.count.result c.loop-member-test.true
    (c.loop-member.invariant value counts) (counts c.member-item.result c.count.result counted ∙ ap value c.member-item.is) c.in-Some.ensures.1
