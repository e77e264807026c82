use Rattle.std.proofs.Common.{◌≡◌, ◌-◌, ◌++◌, ◌∷◌, [], ℕ, List, sym, ap, subst, ◌∙◌, arith}
use Rattle.ov_share.specs.Passings.{Passing}
use Rattle.ov_lane.specs.Passes.{Shared, AreFresh, AreAllPasses}
use Rattle.ov_lane.proofs.Fresh.{rest_new, all_dealt, new_fresh, new_all}
use Rattle.ov_lane.proofs.ovpn.Ovpn.new.Goals as goal

pub deal-rest-requires-clause-rest : goal.deal-rest-requires-clause-rest
deal-rest-requires-clause-rest c = rest_new c.in_ok-words.words c.in_ok-words.whole c.in_ok-words.ensures.of c.in_ok-words.ensures.blank

pub pass_of-requires-clause-nothing : goal.pass_of-requires-clause-nothing
pass_of-requires-clause-nothing c = c.deal-rest.ensures.rest.nothing

pub pass_of-requires-clause-two : goal.pass_of-requires-clause-two
pass_of-requires-clause-two c = (let left = c.deal-rest.ensures.rest.table in let few = c.requires.few in omega arith)

pub push_reserved-requires : goal.push_reserved-requires
push_reserved-requires c =
    let long = c.deal-rest.ensures.long in
    let same = c.deal-rest.ensures.capacity in
    let room = c.in_ok-reserve.ensures.ok in
    let some = c.requires.some in
    let nothing = c.new-list.ensures.items in
    omega arith

pub returns-clause-passes : goal.returns-clause-passes
returns-clause-passes c =
    let o : Shared = record { words = c.in_ok-words.words; routes = c.args.routes } in
    let last : ℕ = c.args.passes - 1 in
    let ps : List Passing = c.deal-rest.new.passes.items in
    let e = c.deal-rest.ensures in
    let made : c.of_vec.result ≡ all_dealt o last ps c.deal-rest.result = c.of_vec.ensures ∙ c.push_reserved.ensures.items ∙ ap (λ (q : Passing). ps ++ q ∷ []) c.pass_of.ensures in
    subst (AreFresh o c.args.passes) (sym made) (new_fresh o last ps c.deal-rest.result c.args.passes (let some = c.requires.some in omega arith) e.long e.fresh e.rest)

pub returns-clause-all : goal.returns-clause-all
returns-clause-all c =
    let o : Shared = record { words = c.in_ok-words.words; routes = c.args.routes } in
    let last : ℕ = c.args.passes - 1 in
    let ps : List Passing = c.deal-rest.new.passes.items in
    let e = c.deal-rest.ensures in
    let made : c.of_vec.result ≡ all_dealt o last ps c.deal-rest.result = c.of_vec.ensures ∙ c.push_reserved.ensures.items ∙ ap (λ (q : Passing). ps ++ q ∷ []) c.pass_of.ensures in
    subst (AreAllPasses o) (sym made) (new_all o last ps c.deal-rest.result e.long e.fresh e.shares e.rest)
