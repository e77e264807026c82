use Rattle.std.proofs.Common.{rules, ◌≡◌, ◌+◌, ◌++◌, sym, ap, subst, ◌∙◌}
use Rattle.ov_draw.specs.Drawer.{Counters, Drawer}
use Rattle.ov_turn.specs.Seats.{sight_of}
use Rattle.ov_share.specs.Shares.{Sharing, IsBoth}
use Rattle.ov_share.proofs.words.Words.join.Goals as goal

pub returns-clause-both : goal.returns-clause-both
returns-clause-both c =
    let one = c.into_seats-seat in
    let two = c.into_seats-other in
    let e = c.join.ensures in
    let left : Sharing = record { name = c.args.left.name; sight = sight_of one.result.0; parts = one.result.1; drawer = one.result.2 } in
    let right : Sharing = record { name = c.args.right.name; sight = sight_of two.result.0; parts = two.result.1; drawer = two.result.2 } in
    let is_left : left ≡ c.args.left = λ i. record { name = c.args.left.name; sight = one.ensures.sight i; parts = one.ensures.parts i; drawer = one.ensures.drawer i } in
    let is_right : right ≡ c.args.right = λ i. record { name = c.args.right.name; sight = two.ensures.sight i; parts = two.ensures.parts i; drawer = two.ensures.drawer i } in
    let of : one.result.2.of ≡ c.self.inside.draws = search rules in
    subst (λ (s : Sharing). IsBoth s c.args.right c.share_of.result) is_left (subst (λ (s : Sharing). IsBoth left s c.share_of.result) is_right (subst (IsBoth left right) (sym c.share_of.ensures) (record {
      share = e.share;
      seen_left = e.seen.0;
      seen_right = e.seen.1;
      own = e.own;
      parts = c.join-2.ensures.joined;
      drawer = c.join-3.ensures.both ∙ ap (λ (k : Counters). record { of = k; share = one.result.2.share + two.result.2.share; drawn = one.result.2.drawn ++ two.result.2.drawn; spent = one.result.2.spent ++ two.result.2.spent }) (sym of);
    })))
