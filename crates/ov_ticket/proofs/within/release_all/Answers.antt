use Rattle.std.proofs.Common.{◌≡◌, ◌++◌, [], ◌∷◌, List, length, append_assoc, append-nil, refl, sym, ap, ◌∙◌, subst, arith}
use Rattle.ov_model.specs.declared.hold.Owed.{Owed}
use Rattle.ov_model.specs.Events.{releases}
use Rattle.ov_ticket.specs.Within.{IsReleasing, HasMade, entries_of}
use Rattle.ov_ticket.proofs.Releasing.{made_none, releases_more, popped, none_left}
use Rattle.ov_ticket.proofs.within.release_all.Goals as goal

pub loop-done-init : goal.loop-done-init
loop-done-init c = record {
  left = (let count = c.len-count.ensures in let long = c.args.owed.now.ok.0 in omega arith);
  gone = [];
  split = refl;
  releasing = c.requires;
  made = made_none c.args.inside.now;
  capacity = refl;
}

pub release_one-event-requires : goal.release_one-event-requires
release_one-event-requires c =
    let rest : List Owed = c.pop_front.new.self.items in
    let first : c.loop-done.owed.items ≡ c.in-Some.one ∷ rest = popped c.loop-done.owed.items rest c.pop_front.result c.in-Some.one c.pop_front.ensures.items c.in-Some.is in
    (rest, subst (λ (l : List Owed). IsReleasing l c.loop-done.inside) first c.loop-done.invariant.releasing)

pub loop-done-preserved : goal.loop-done-preserved
loop-done-preserved c =
    let i = c.loop-done.invariant in
    let one : Owed = c.in-Some.one in
    let rest : List Owed = c.pop_front.new.self.items in
    let first : c.loop-done.owed.items ≡ one ∷ rest = popped c.loop-done.owed.items rest c.pop_front.result c.in-Some.one c.pop_front.ensures.items c.in-Some.is in
    record {
      left = (let was = i.left in let fewer = ap length first in omega arith);
      gone = i.gone ++ one ∷ [];
      split = i.split ∙ ap (λ (l : List Owed). i.gone ++ l) first ∙ sym (append_assoc i.gone (one ∷ []) rest);
      releasing = c.release_one-event.ensures.releasing rest (subst (λ (l : List Owed). IsReleasing l c.loop-done.inside) first i.releasing);
      made = releases_more c.args.inside.now c.loop-done.inside c.release_one-event.new.inside c.args.place c.args.at i.gone one i.made c.release_one-event.ensures.made;
      capacity = c.pop_front.ensures.capacity ∙ i.capacity;
    }

pub returns-clause-releasing : goal.returns-clause-releasing
returns-clause-releasing c =
    let i = c.loop-done.invariant in
    subst (λ (l : List Owed). IsReleasing l c.loop-done.inside) (none_left c.loop-done.owed.items (let was = i.left in let test = c.loop-done-test.false in omega arith)) i.releasing

pub returns-clause-made : goal.returns-clause-made
returns-clause-made c =
    let i = c.loop-done.invariant in
    let none : c.loop-done.owed.items ≡ [] = none_left c.loop-done.owed.items (let was = i.left in let test = c.loop-done-test.false in omega arith) in
    let all : c.args.owed.now.items ≡ i.gone = i.split ∙ ap (λ (l : List Owed). i.gone ++ l) none ∙ append-nil i.gone in
    subst (λ (l : List Owed). HasMade (entries_of (releases c.args.place c.args.at l)) c.args.inside.now c.loop-done.inside) (sym all) i.made

pub returns-clause-nothing : goal.returns-clause-nothing
returns-clause-nothing c =
    let i = c.loop-done.invariant in
    none_left c.loop-done.owed.items (let was = i.left in let test = c.loop-done-test.false in omega arith)
