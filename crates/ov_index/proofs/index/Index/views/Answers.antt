use Rattle.std.proofs.Common.{rules, refl, ap, ◌≡◌, ◌∙◌, subst}
use Rattle.std.specs.Prelude.{map}
use Rattle.std.specs.HashMap.{get}
use Rattle.std.specs.List.Sorted.{IsPermutation, IsNonDecreasingBy}
use Rattle.std.proofs.lemmas.List.Sorted.{IsNonDecreasingBy-from_sort_by_key}
use Rattle.ov_model.specs.Tables.{view_of, by_rising_id}
use Rattle.ov_index.specs.Names.{same_name}
use Rattle.ov_index.specs.Index.{present}
use Rattle.ov_index.proofs.Rising.{sorted_made, live_once}
use Rattle.ov_index.proofs.index.Index.views.Goals as goal

pub returns : goal.returns
returns c =
    let was : present c.self.inside.peers.items ≡ c.args.self.now.live = ap (λ x. x.live) c.self.view_is in
    let shown : c.in_ok-views.views.items ≡ map view_of (present c.self.inside.peers.items) = search rules in
    let moved : IsPermutation (map view_of (present c.self.inside.peers.items)) c.sort_unstable_by_key.new.self.items = subst (λ vs. IsPermutation vs c.sort_unstable_by_key.new.self.items) shown c.sort_unstable_by_key.ensures.permutation in
    let up : IsNonDecreasingBy (λ v. v.id.number) c.sort_unstable_by_key.new.self.items = IsNonDecreasingBy-from_sort_by_key (λ v. v.id.number) _ c.sort_unstable_by_key.ensures.sorted (λ a r q k. search rules) in
    sorted_made view_of (λ v. v.id.number) (λ p. refl) (present c.self.inside.peers.items) c.sort_unstable_by_key.new.self.items (live_once (get same_name c.self.inside.owners) c.self.inside.homes.items c.self.inside.peers.items c.self.invariant) moved up ∙ ap (λ ps. map view_of (by_rising_id ps)) was
