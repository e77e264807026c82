use Rattle.std.proofs.Common.{◌≡◌, ◌+◌, ◌++◌, ◌∷◌, [], ℕ, List, length, length-append, refl, sym, ap, subst, ◌∙◌, arith}
use Rattle.std.specs.List.{AllByRecursion}
use Rattle.std.specs.Option.{option_to_list}
use Rattle.ov_ticket.specs.Within.{HasRoom}
use Rattle.ov_lane.specs.Inner.{HaveShares, are_fresh}
use Rattle.ov_share.specs.Passings.{Passing}
use Rattle.ov_lane.proofs.Fresh.{rest_enough, rest_cut, cut_nothing, dealt, shares_more, all_front}
use Rattle.ov_lane.proofs.dealing.deal.Goals as goal

pub loop-number-init : goal.loop-number-init
loop-number-init c =
    let none = c.requires.nothing in
    record {
      rest = c.requires.rest;
      left = (let long = c.requires.long in omega arith);
      each = c.requires.each;
      long = ap length none;
      fresh = subst (are_fresh c.args.words.now) (sym none) tt;
      shares = subst (HaveShares 0) (sym none) (record { table = refl; parts = λ i lt. refl; counters = refl });
      capacity = refl;
    }

pub split-rest-requires-clause-enough : goal.split-rest-requires-clause-enough
split-rest-requires-clause-enough c =
    rest_enough c.args.words.now c.loop-number.number c.loop-number.whole (let few = c.requires.few in let test = c.loop-number-test.true in omega arith) c.loop-number.invariant.rest

pub pass_of-requires-clause-nothing : goal.pass_of-requires-clause-nothing
pass_of-requires-clause-nothing c = cut_nothing c.loop-number.whole c.split-rest.result.0 c.split-rest.result.1 c.loop-number.invariant.rest.nothing c.split-rest.ensures.cut

pub pass_of-requires-clause-two : goal.pass_of-requires-clause-two
pass_of-requires-clause-two c = (let two = ap (λ v. v.share) c.split-rest.ensures.cut.right_sight in omega arith)

pub push_reserved-requires : goal.push_reserved-requires
push_reserved-requires c =
    let i = c.loop-number.invariant in
    let long = i.long in
    let room = i.capacity in
    let enough = c.requires.room in
    let test = c.loop-number-test.true in
    omega arith

pub loop-number-preserved : goal.loop-number-preserved
loop-number-preserved c =
    let i = c.loop-number.invariant in
    let n : ℕ = c.loop-number.number in
    let ps : List Passing = c.loop-number.passes.items in
    let w = c.args.words.now in
    let cut = c.split-rest.ensures.cut in
    let left = c.split-rest.result.0 in
    let right = c.split-rest.result.1 in
    let p : Passing = record { number = n; lines = 0; share = right } in
    let last = c.pop.ensures.items ∙ ap (λ o. c.pop.new.self.items ++ option_to_list o) c.in-Some.is in
    let made : c.push_reserved.new.self.items ≡ ps ++ p ∷ [] = c.push_reserved.ensures.items ∙ ap (λ (q : Passing). ps ++ q ∷ []) c.pass_of.ensures in
    record {
      rest = rest_cut w n c.loop-number.whole left right i.rest c.split-rest.ensures.of.0 cut;
      left = (let was = i.left in let fewer = ap length last ∙ length-append c.pop.new.self.items _ in omega arith);
      each = all_front (λ r. HasRoom r.0) c.pop.new.self.items _ (subst (AllByRecursion (λ r. HasRoom r.0)) last i.each);
      long = (let was = i.long in let more = ap length made ∙ length-append ps (p ∷ []) in omega arith);
      fresh = subst (are_fresh w) (sym made) (dealt w n ps c.loop-number.whole left right i.fresh i.long i.rest.nothing c.split-rest.ensures.of.1 cut);
      shares = subst (HaveShares (n + 1)) (sym made) (shares_more n ps c.loop-number.whole left right i.shares cut);
      capacity = c.push_reserved.ensures.capacity ∙ i.capacity;
    }
