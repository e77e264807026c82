use Rattle.std.proofs.Common.{rules, ◌≡◌, ◌∙◌, ◌<◌, ℕ, List, [], ◌∷◌, ◌++◌, ap, subst, sym, arith}
use Rattle.std.specs.List.{AllByRecursion}
use Rattle.ov_model.specs.Sizes.{Fits}
use Rattle.ov_model.specs.declared.line.Line.{Line}
use Rattle.ov_made.specs.Made as spec
use Rattle.ov_made.proofs.More.{script_more, script_is, same_group, one_more}
use Rattle.ov_made.proofs.script.made.Goals as goal

pub loop-j-preserved : goal.loop-j-preserved
loop-j-preserved c =
    let line : Line = c.in_ok-made_line.field-0 in
    let items_are : c.push.new.self.items ≡ c.loop-j.lines.items ++ line ∷ [] = search rules in
    record {
      lines = items_are ∙ script_more c.args.seed c.loop-j.j c.loop-j.lines.items line c.loop-j.invariant.lines c.in_ok-made_line.ensures.exactly;
      kept = λ inside. c.in_ok-sealed.ensures.exactly ∙ ap (λ (q : ℕ). spec.sealed_of c.args.seed q) (sym (same_group c.loop-j.j inside));
      size = search rules;
      fits = subst (λ (xs : List Line). AllByRecursion (λ (x : Line). Fits x.deed) xs) (sym items_are) (one_more (λ (x : Line). Fits x.deed) c.loop-j.lines.items line c.loop-j.invariant.fits c.in_ok-made_line.ensures.fits);
      lanes = subst (λ (xs : List Line). AllByRecursion (λ (x : Line). x.lane < 8) xs) (sym items_are) (one_more (λ (x : Line). x.lane < 8) c.loop-j.lines.items line c.loop-j.invariant.lanes c.in_ok-made_line.ensures.lane);
      count = search rules;
    }

pub returns-clause-exactly : goal.returns-clause-exactly
returns-clause-exactly c =
    let low = c.loop-j-test.false in
    let high = c.loop-j.auto.j-end in
    let over : c.loop-j.j ≡ c.args.count = omega arith in
    script_is c.args.seed c.args.count c.of_vec.result c.new.result
    (c.of_vec.ensures ∙ c.loop-j.invariant.lines ∙ ap (λ (n : ℕ). spec.made_lines c.args.seed n) over) c.new.ensures
