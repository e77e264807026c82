use Rattle.std.proofs.Common.{◌≡◌, length, refl, subst, arith, rules}
use Rattle.std.proofs.lemmas.Bool.{eqb-true, eq-eqb}
use Rattle.ov_gcm.proofs.Equal.{Same, same_more, none_more, same_lists}
use Rattle.ov_gcm.proofs.key.equal.Goals as goal

pub loop-i-init : goal.loop-i-init
loop-i-init c = record { same = λ zero k below. absurd (omega arith); none = λ same. refl }

pub loop-i-preserved : goal.loop-i-preserved
loop-i-preserved c = record {
  same = same_more c.args.right c.args.tag c.loop-i.differing c.loop-i.i c.loop-i.invariant.same;
  none = λ same. none_more c.args.right c.args.tag c.loop-i.differing c.loop-i.i same (c.loop-i.invariant.none same);
}

pub returns : goal.returns
returns c =
    let right_long : length c.args.right ≡ 16 = search rules in
    let tag_long : length c.args.tag ≡ 16 = search rules in
    let all : c.loop-i.i ≡ 16 = omega arith in (
      λ yes. same_lists c.args.right c.args.tag right_long tag_long
          (subst (Same c.args.right c.args.tag) all (c.loop-i.invariant.same (eqb-true c.loop-i.differing 0 yes))),
      λ same. eq-eqb c.loop-i.differing 0 (c.loop-i.invariant.none same),
    )
