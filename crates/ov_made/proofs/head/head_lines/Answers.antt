use Rattle.std.proofs.Common.{rules, ◌≡◌, ◌<◌, List, [], ◌∷◌, ◌++◌, subst, sym}
use Rattle.std.specs.List.{AllByRecursion}
use Rattle.ov_model.specs.Sizes.{Fits}
use Rattle.ov_model.specs.declared.line.Line.{Line}
use Rattle.ov_made.proofs.More.{heads_more, one_more}
use Rattle.ov_made.proofs.head.head_lines.Goals as goal

pub loop-i-preserved : goal.loop-i-preserved
loop-i-preserved c =
    let line : Line = c.in_ok-head_line.field-0 in
    let items_are : c.push.new.self.items ≡ c.loop-i.lines.items ++ line ∷ [] = search rules in
    record {
      lines = rw (heads_more c.args.seed c.loop-i.i) (search rules);
      fits = subst (λ (xs : List Line). AllByRecursion (λ (x : Line). Fits x.deed) xs) (sym items_are) (one_more (λ (x : Line). Fits x.deed) c.loop-i.lines.items line c.loop-i.invariant.fits c.in_ok-head_line.ensures.fits);
      lanes = subst (λ (xs : List Line). AllByRecursion (λ (x : Line). x.lane < 8) xs) (sym items_are) (one_more (λ (x : Line). x.lane < 8) c.loop-i.lines.items line c.loop-i.invariant.lanes c.in_ok-head_line.ensures.lane);
      count = search rules;
    }
