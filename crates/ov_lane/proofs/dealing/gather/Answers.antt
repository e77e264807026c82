use Rattle.std.proofs.Common.{◌≡◌, ◌++◌, ◌∷◌, [], List, length, length-append, append_assoc, sym, ap, subst, ◌∙◌, arith}
use Rattle.std.specs.Prelude.{map}
use Rattle.std.specs.List.{AllByRecursion}
use Rattle.std.specs.Option.{option_to_list}
use Rattle.ov_model.specs.Own.{RiseFrom}
use Rattle.ov_share.specs.Shares.{IsShareOf}
use Rattle.ov_share.specs.Passings.{Passing}
use Rattle.ov_lane.specs.Passes.{IsFree}
use Rattle.ov_lane.specs.Inner.{HasTaken}
use Rattle.ov_lane.proofs.Keeping.{no_others}
use Rattle.ov_lane.proofs.Taking.{taken_one, taken_more}
use Rattle.ov_lane.proofs.Fresh.{all_within}
use Rattle.ov_lane.proofs.dealing.gather.Goals as goal

pub loop-taken-init : goal.loop-taken-init
loop-taken-init c =
    let p : Passing = c.in-Some.pass in
    let last : c.args.passes.items ≡ c.pop.new.self.items ++ p ∷ [] = c.pop.ensures.items ∙ ap (λ o. c.pop.new.self.items ++ option_to_list o) c.in-Some.is in
    let of : IsShareOf c.args.words.now p.share = all_within (λ (q : Passing). IsShareOf c.args.words.now q.share) c.pop.new.self.items p [] (subst (AllByRecursion (λ (q : Passing). IsShareOf c.args.words.now q.share)) last c.requires.of) in
    let free : IsFree p = all_within IsFree c.pop.new.self.items p [] (subst (AllByRecursion IsFree) last c.requires.free) in
    record {
      left = (let long = c.len-count.ensures in omega arith);
      taken = p ∷ [];
      split = last;
      has = taken_one c.args.words.now p c.share_of-whole.result c.share_of-whole.ensures.share of free c.share_of-whole.ensures.orderly;
    }

pub take_in-whole-requires-clause-whole : goal.take_in-whole-requires-clause-whole
take_in-whole-requires-clause-whole c = c.loop-taken.invariant.has.of

pub take_in-whole-requires-clause-of : goal.take_in-whole-requires-clause-of
take_in-whole-requires-clause-of c =
    let i = c.loop-taken.invariant in
    let p : Passing = c.in-Some-pop.pass in
    let rest : List Passing = c.pop-in-loop-taken.new.self.items in
    let last : c.loop-taken.passes.items ≡ rest ++ p ∷ [] = c.pop-in-loop-taken.ensures.items ∙ ap (λ o. rest ++ option_to_list o) c.in-Some-pop.is in
    let split : c.args.passes.items ≡ rest ++ p ∷ i.taken = i.split ∙ ap (λ (l : List Passing). l ++ i.taken) last ∙ append_assoc rest (p ∷ []) i.taken in
    all_within (λ (q : Passing). IsShareOf c.args.words.now q.share) rest p i.taken (subst (AllByRecursion (λ (q : Passing). IsShareOf c.args.words.now q.share)) split c.requires.of)

pub take_in-whole-requires-clause-none : goal.take_in-whole-requires-clause-none
take_in-whole-requires-clause-none c = c.loop-taken.invariant.has.free

pub take_in-whole-requires-clause-free : goal.take_in-whole-requires-clause-free
take_in-whole-requires-clause-free c =
    let i = c.loop-taken.invariant in
    let p : Passing = c.in-Some-pop.pass in
    let rest : List Passing = c.pop-in-loop-taken.new.self.items in
    let last : c.loop-taken.passes.items ≡ rest ++ p ∷ [] = c.pop-in-loop-taken.ensures.items ∙ ap (λ o. rest ++ option_to_list o) c.in-Some-pop.is in
    let split : c.args.passes.items ≡ rest ++ p ∷ i.taken = i.split ∙ ap (λ (l : List Passing). l ++ i.taken) last ∙ append_assoc rest (p ∷ []) i.taken in
    all_within IsFree rest p i.taken (subst (AllByRecursion IsFree) split c.requires.free)

pub loop-taken-preserved : goal.loop-taken-preserved
loop-taken-preserved c =
    let i = c.loop-taken.invariant in
    let p : Passing = c.in-Some-pop.pass in
    let rest : List Passing = c.pop-in-loop-taken.new.self.items in
    let last : c.loop-taken.passes.items ≡ rest ++ p ∷ [] = c.pop-in-loop-taken.ensures.items ∙ ap (λ o. rest ++ option_to_list o) c.in-Some-pop.is in
    let split : c.args.passes.items ≡ rest ++ p ∷ i.taken = i.split ∙ ap (λ (l : List Passing). l ++ i.taken) last ∙ append_assoc rest (p ∷ []) i.taken in
    let e = c.take_in-whole.ensures in
    record {
      left = (let was = i.left in let fewer = ap length last ∙ length-append rest (p ∷ []) in omega arith);
      taken = p ∷ i.taken;
      split = split;
      has = taken_more c.args.words.now rest i.taken p c.loop-taken.whole c.take_in-whole.result
          (subst (λ (l : List Passing). RiseFrom 0 (map (λ q. q.number) l)) split c.requires.numbers) i.has
          e.of e.none e.both e.orderly;
    }

pub returns : goal.returns
returns c =
    let i = c.loop-taken.invariant in
    let none : c.loop-taken.passes.items ≡ [] = no_others c.loop-taken.passes.items (let left = i.left in let test = c.loop-taken-test.false in omega arith) in
    subst (λ (l : List Passing). HasTaken c.args.words.now l c.loop-taken.whole) (sym (i.split ∙ ap (λ (l : List Passing). l ++ i.taken) none)) i.has
