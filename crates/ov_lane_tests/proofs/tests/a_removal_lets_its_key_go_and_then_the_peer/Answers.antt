-- The pass is put back after its calls, so the passes are all there.
use Rattle.std.proofs.Common.{rules, ◌≡◌, ◌++◌, ◌∷◌, [], List, length, sym, ap, subst, ◌∙◌, arith}
use Rattle.std.specs.Option.{option_to_list}
use Rattle.std.specs.List.{AllByRecursion}
use Rattle.ov_share.specs.Passings.{Passing}
use Rattle.ov_lane.specs.Passes.{IsPassOf, AreAllPasses}
use Rattle.ov_lane.proofs.Fresh.{all_within}
use Rattle.ov_lane.proofs.Keeping.{Keeps, kept_by, keeps_on, one_all}
use Rattle.ov_lane_tests.proofs.tests.a_removal_lets_its_key_go_and_then_the_peer.Goals as goal

pub call-gone-requires-clause-of : goal.call-gone-requires-clause-of
call-gone-requires-clause-of g c =
    let p : Passing = c.in-Some.pass in
    let a : Passing = c.call-made.new.pass in
    let b : Passing = c.call-key.new.pass in
    let d : Passing = c.call-again.new.pass in
    let e : Passing = c.call-removed.new.pass in
    let first : Keeps p a = kept_by p a 0 _ c.call-made.result c.call-made.ensures.ok c.call-made.ensures.err in
    let second : Keeps a b = kept_by a b 0 _ c.call-key.result c.call-key.ensures.ok c.call-key.ensures.err in
    let third : Keeps b d = kept_by b d 0 _ c.call-again.result c.call-again.ensures.ok c.call-again.ensures.err in
    let fourth : Keeps d e = kept_by d e 0 _ c.call-removed.result c.call-removed.ensures.ok c.call-removed.ensures.err in
    let keeps : Keeps p e = keeps_on p a e first (keeps_on a b e second (keeps_on b d e third fourth)) in
    let split : c.in_ok-ovpn.passes ≡ c.pop.new.self.items ++ p ∷ [] = sym c.into_vec-passes.ensures ∙ c.pop.ensures.items ∙ ap (λ q. c.pop.new.self.items ++ option_to_list q) c.in-Some.is in
    keeps.of c.in_ok-ovpn.ovpn.words (all_within (IsPassOf c.in_ok-ovpn.ovpn) c.pop.new.self.items p [] (subst (AllByRecursion (IsPassOf c.in_ok-ovpn.ovpn)) split c.in_ok-ovpn.ensures.all.of))

pub close-closed-requires : goal.close-closed-requires
close-closed-requires g c =
    let p : Passing = c.in-Some.pass in
    let a : Passing = c.call-made.new.pass in
    let b : Passing = c.call-key.new.pass in
    let d : Passing = c.call-again.new.pass in
    let e : Passing = c.call-removed.new.pass in
    let f : Passing = c.call-gone.new.pass in
    let first : Keeps p a = kept_by p a 0 _ c.call-made.result c.call-made.ensures.ok c.call-made.ensures.err in
    let second : Keeps a b = kept_by a b 0 _ c.call-key.result c.call-key.ensures.ok c.call-key.ensures.err in
    let third : Keeps b d = kept_by b d 0 _ c.call-again.result c.call-again.ensures.ok c.call-again.ensures.err in
    let fourth : Keeps d e = kept_by d e 0 _ c.call-removed.result c.call-removed.ensures.ok c.call-removed.ensures.err in
    let fifth : Keeps e f = kept_by e f 0 _ c.call-gone.result c.call-gone.ensures.ok c.call-gone.ensures.err in
    let keeps : Keeps p f = keeps_on p a f first (keeps_on a b f second (keeps_on b d f third (keeps_on d e f fourth fifth))) in
    let split : c.in_ok-ovpn.passes ≡ c.pop.new.self.items ++ p ∷ [] = sym c.into_vec-passes.ensures ∙ c.pop.ensures.items ∙ ap (λ q. c.pop.new.self.items ++ option_to_list q) c.in-Some.is in
    subst (AreAllPasses c.in_ok-ovpn.ovpn) (sym (c.of_vec.ensures ∙ c.push_reserved.ensures.items))
    (one_all c.in_ok-ovpn.ovpn c.in_ok-ovpn.passes c.pop.new.self.items p f c.in_ok-ovpn.ensures.passes.counted c.in_ok-ovpn.ensures.all split keeps)
