use Rattle.std.proofs.Common.{rules, refl, ap, ◌≡◌, ◌∙◌, subst, List}
use Rattle.std.specs.Prelude.{map, filter, IfOk}
use Rattle.std.specs.HashMap.{get}
use Rattle.std.specs.List.Sorted.{IsPermutation, IsNonDecreasingBy}
use Rattle.std.proofs.lemmas.List.Sorted.{IsNonDecreasingBy-from_sort_by_key}
use Rattle.ov_model.specs.Tables.{Peer, by_rising_id}
use Rattle.ov_index.specs.Names.{same_name}
use Rattle.ov_index.specs.Index.{present}
use Rattle.ov_index.specs.Ticks.{facts_of, ranked_of, is_asked}
use Rattle.ov_index.specs.declared.ticks.Ranked.{Ranked}
use Rattle.ov_index.proofs.Rising.{sorted_made, once_kept, rising_kept, live_once}
use Rattle.ov_index.proofs.Asked.{facts_made}
use Rattle.ov_index.proofs.index.Index.facts.Goals as goal

pub returns : goal.returns
returns c =
    let live : List Peer = present c.self.inside.peers.items in
    let was : live ≡ c.args.self.now.live = ap (λ x. x.live) c.self.view_is in
    let asked : List Peer = filter (is_asked c.args.now) live in
    let shown : c.in_ok-ranked.ranked.items ≡ map ranked_of asked = search rules in
    let moved : IsPermutation (map ranked_of asked) c.sort_unstable_by_key.new.self.items = subst (λ rs. IsPermutation rs c.sort_unstable_by_key.new.self.items) shown c.sort_unstable_by_key.ensures.permutation in
    let up : IsNonDecreasingBy (λ (r : Ranked). r.id) c.sort_unstable_by_key.new.self.items = IsNonDecreasingBy-from_sort_by_key (λ (r : Ranked). r.id) _ c.sort_unstable_by_key.ensures.sorted (λ a r q k. search rules) in
    let once = live_once (get same_name c.self.inside.owners) c.self.inside.homes.items c.self.inside.peers.items c.self.invariant in
    let sorted : c.sort_unstable_by_key.new.self.items ≡ map ranked_of (by_rising_id asked) = sorted_made ranked_of (λ (r : Ranked). r.id) (λ p. refl) asked c.sort_unstable_by_key.new.self.items (once_kept (is_asked c.args.now) live once) moved up in
    let lent : c.deref.result.now ≡ c.sort_unstable_by_key.new.self.items = search rules in
    let same : map (λ (r : Ranked). r.facts) c.deref.result.now ≡ map facts_of (filter (is_asked c.args.now) (by_rising_id c.args.self.now.live)) =
    ap (λ (rs : List Ranked). map (λ (r : Ranked). r.facts) rs) (lent ∙ sorted) ∙ facts_made (by_rising_id asked) ∙ ap (λ (ps : List Peer). map facts_of ps) (rising_kept (is_asked c.args.now) live once ∙ ap (λ ps. filter (is_asked c.args.now) (by_rising_id ps)) was) in
    subst (λ fs. IfOk c.facts_in.result (λ facts. facts.items ≡ fs)) same c.facts_in.ensures
