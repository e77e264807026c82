-- A set of what keys seal with has as many members as there are keys exactly where they differ.
use Rattle.std.proofs.Common.{ℕ, ◌≡◌, ◌∙◌, ◌<◌, ◌+◌, ◌==◌, Bool, true, false, ◌&&◌, List, [], ◌∷◌, ◌++◌, map, length, get_or, take, refl, sym, ap, append-nil, append_assoc, true≢false, Bor, Ordering, Less, Equal, Greater, subst}
use Rattle.std.specs.Prelude.{◌↔◌}
use Rattle.std.specs.List.{IsDistinct, AllByRecursion}
use Rattle.std.specs.Set.{distinct_count}
use Rattle.std.specs.Cmp.{IsTotalOrder, IsEquivalence, on_total, then_total, eq_by_cmp_equiv}
use Rattle.std.specs.BTreeSet.{BTreeSet, btree_set_len, IsFromIterResult}
use Rattle.std.proofs.lemmas.Map.Made.{IsDistinct-from_count, distinct_count-from_IsDistinct}
use Rattle.std.proofs.lemmas.Map.Views.{btree_set_len-from_list}
use Rattle.std.specs.Ordering.{nat_cmp, ordering_then, is_eq, eq_by_cmp}
use Rattle.std.specs.Cmp.Lexicographic.{slice_cmp, nat_list_cmp_total}
use Rattle.std.proofs.lemmas.List.{take_more, map-append}
use Rattle.std.proofs.lemmas.Bool.{eqb-true, eq-eqb}
use Rattle.std.proofs.lemmas.Map.Text.{is_eq-slice_cmp}
use Rattle.ov_model.specs.declared.command.KeyDir.{KeyDir}
use Rattle.ov_model.specs.declared.entry.Entry.{Entry}
use Rattle.ov_model.specs.Keys.{same_dir, sealing_in, KeysDiffer}
use Rattle.ov_report.specs.Summary.{keys_differ}
use Rattle.ov_report.proofs.Distinct.{keys_differ-exactly}
use Rattle.ov_report.specs.Sealing.{pair_of, pair_read, same_pair, pair_cmp, sealing_by}

is_eq-then : (a b : Ordering) → is_eq (ordering_then a b) ≡ (is_eq a && is_eq b)
is_eq-then Less b = refl
is_eq-then Equal b = refl
is_eq-then Greater b = refl

-- The order ties two pairs exactly where they are the same.
pub tied : (x y : Bor (List ℕ) × Bor (List ℕ)) → eq_by_cmp pair_cmp x y ≡ same_pair (pair_read x) (pair_read y)
tied x y = is_eq-then (slice_cmp nat_cmp x.0.now y.0.now) (slice_cmp nat_cmp x.1.now y.1.now)
    ∙ rw (is_eq-slice_cmp x.0.now y.0.now, is_eq-slice_cmp x.1.now y.1.now) refl

module _ {K L : Type 0} (e : K → K → Bool) (g : L → L → Bool) (f : K → L) (same : (x y : K) → e x y ≡ g (f x) (f y)) where
  none_to : (x : K) (ys : List K) → AllByRecursion (λ y. e x y ≡ false) ys → AllByRecursion (λ y. g (f x) y ≡ false) (map f ys)
  none_to x [] h = tt
  none_to x (y ∷ ys) h = (sym (same x y) ∙ h.0, none_to x ys h.1)

  none_from : (x : K) (ys : List K) → AllByRecursion (λ y. g (f x) y ≡ false) (map f ys) → AllByRecursion (λ y. e x y ≡ false) ys
  none_from x [] h = tt
  none_from x (y ∷ ys) h = (same x y ∙ h.0, none_from x ys h.1)

  pub distinct_to : (xs : List K) → IsDistinct e xs → IsDistinct g (map f xs)
  unfolding IsDistinct
  distinct_to [] h = tt
  distinct_to (x ∷ xs) h = (none_to x xs h.0, distinct_to xs h.1)

  pub distinct_from : (xs : List K) → IsDistinct g (map f xs) → IsDistinct e xs
  unfolding IsDistinct
  distinct_from [] h = tt
  distinct_from (x ∷ xs) h = (none_from x xs h.0, distinct_from xs h.1)

sealing_in-append : (es fs : List Entry) → sealing_in (es ++ fs) ≡ sealing_in es ++ sealing_in fs
sealing_in-append [] fs = refl
sealing_in-append (e ∷ es) fs = ap (λ rest. sealing_by e ++ rest) (sealing_in-append es fs) ∙ sym (append_assoc (sealing_by e) (sealing_in es) (sealing_in fs))

pub map_append : {A B : Type 0} (f : A → B) (xs ys : List A) → map f (xs ++ ys) ≡ map f xs ++ map f ys
map_append f xs ys = map-append f xs ys

-- The pairs of one entry more.
pub one_more : (old new : List (List ℕ × List ℕ)) (es : List Entry) (i : ℕ) (d : Entry) → i < length es → old ≡ map pair_of (sealing_in (take i es)) → new ≡ old ++ map pair_of (sealing_by (get_or es i d)) → new ≡ map pair_of (sealing_in (take (i + 1) es))
one_more old new es i d below was is =
    let e : Entry = get_or es i d in
    let next : sealing_in (take (i + 1) es) ≡ sealing_in (take i es) ++ sealing_by e = ap sealing_in (take_more es i d below) ∙ sealing_in-append (take i es) (e ∷ []) ∙ ap (λ l. sealing_in (take i es) ++ l) (append-nil (sealing_by e)) in
    is ∙ ap (λ o. o ++ map pair_of (sealing_by e)) was ∙ sym (map_append pair_of (sealing_in (take i es)) (sealing_by e)) ∙ ap (map pair_of) (sym next)

pair_cmp_total : IsTotalOrder pair_cmp
pair_cmp_total = then_total (on_total (λ p. p.0) (on_total (λ s. s.now) nat_list_cmp_total)) (on_total (λ p. p.1) (on_total (λ s. s.now) nat_list_cmp_total))

pair_laws : IsEquivalence (eq_by_cmp pair_cmp)
pair_laws = eq_by_cmp_equiv pair_cmp_total

-- The set has as many members as there are pairs exactly where no two directions are the same.
set_tells : (pairs : List (Bor (List ℕ) × Bor (List ℕ))) (dirs : List KeyDir) (set : BTreeSet (Bor (List ℕ) × Bor (List ℕ))) → IsFromIterResult pair_cmp pairs set → map pair_read pairs ≡ map pair_of dirs → (btree_set_len set ≡ length pairs) ↔ IsDistinct same_dir dirs
set_tells pairs dirs set made are =
    let size : btree_set_len set ≡ distinct_count (eq_by_cmp pair_cmp) pairs = btree_set_len-from_list pair_cmp_total pairs set made in
    let P : List (List ℕ × List ℕ) → Type 0 = IsDistinct same_pair in (
      λ h. distinct_from same_dir same_pair pair_of (λ x y. refl) dirs (subst P are (distinct_to (eq_by_cmp pair_cmp) same_pair pair_read tied pairs (IsDistinct-from_count pair_laws pairs (sym size ∙ h)))),
      λ d. size ∙ distinct_count-from_IsDistinct pair_laws pairs (distinct_from (eq_by_cmp pair_cmp) same_pair pair_read tied pairs (subst P (sym are) (distinct_to same_dir same_pair pair_of (λ x y. refl) dirs d))),
    )

-- The comparison of the two numbers tells whether the keys differ.
pub tells : (journal : List Entry) (pairs : List (Bor (List ℕ) × Bor (List ℕ))) (set : BTreeSet (Bor (List ℕ) × Bor (List ℕ))) (size count : ℕ) → size ≡ btree_set_len set → count ≡ length pairs → IsFromIterResult pair_cmp pairs set → map pair_read pairs ≡ map pair_of (sealing_in journal) → ((size == count) ≡ true) ↔ KeysDiffer journal
tells journal pairs set size count members all made are =
    let s : (btree_set_len set ≡ length pairs) ↔ IsDistinct same_dir (sealing_in journal) = set_tells pairs (sealing_in journal) set made are in (
      λ h. s.0 (sym members ∙ eqb-true size count h ∙ all),
      λ d. eq-eqb size count (members ∙ s.1 d ∙ sym all),
    )

same_answer : (a b : Bool) (P : Type 0) → ((a ≡ true) ↔ P) → ((b ≡ true) ↔ P) → a ≡ b
same_answer true true P f g = refl
same_answer false false P f g = refl
same_answer true false P f g = absurd (true≢false (sym (g.1 (f.0 refl))))
same_answer false true P f g = absurd (true≢false (sym (f.1 (g.0 refl))))

-- So it is the definition's answer.
pub valued : (journal : List Entry) (told : Bool) → ((told ≡ true) ↔ KeysDiffer journal) → told ≡ keys_differ journal
valued journal told t = same_answer told (keys_differ journal) (KeysDiffer journal) t (keys_differ-exactly journal)
