-- Packet ids that are the numbers from the first on, in order.
use Rattle.std.proofs.Common.{ℕ, ◌≡◌, ◌+◌, ◌<◌, zero, suc, List, [], ◌∷◌, ◌++◌, length, refl, sym, ◌∙◌, ap, arith, append-nil, append_assoc, inl, inr, ◌==◌}
use Rattle.std.specs.Prelude.{filter}
use Rattle.std.specs.List.{AllPairs, range_with_len}
use Rattle.std.proofs.lemmas.List.FromFn.{length-range_with_len, get_or-range_with_len}
use Rattle.ov_base.specs.Sums.{between}
use Rattle.std.proofs.lemmas.Bool.{cases_eq, eq-eqb, ne_eqb}
use Rattle.std.proofs.lemmas.Bool.Decides.{nat_tests}
use Rattle.std.proofs.lemmas.List.{map-append}
use Rattle.std.proofs.lemmas.List.Elements.{filter-append}
use Rattle.ov_model.specs.declared.answer.Answer.{Answer}
use Rattle.ov_model.specs.Events.{DrawnId, Event, Stepped, Judged, Drew, GaveKey, GavePeer, draws_in, drawn_id}
use Rattle.ov_model.specs.Keys.{sealed_ids, sealed_in, ids_under, ids_of}
use Rattle.ov_model.specs.Removals.{times}

-- The numbers from the first on, so many.
abbrev pub counted : ℕ → ℕ → List ℕ
counted first count = range_with_len first count

-- They rise.
pub rises_counted : (first count : ℕ) → AllPairs (λ m n. m < n) (counted first count)
rises_counted first count i j d before below =
    let long : length (counted first count) ≡ count = length-range_with_len first count in
    rw (get_or-range_with_len first count i d (omega arith), get_or-range_with_len first count j d (omega arith)) (omega arith)

pub times_counted : (first count n : ℕ) → times n (counted first count) ≡ between first (first + count) n
times_counted first zero n = grind (arith, nat_tests)
times_counted first (suc count) n =
    elim (cases_eq first n) [
      | inl same ↦
          let later : times n (counted (first + 1) count) ≡ between (first + 1) (first + 1 + count) n = times_counted (first + 1) count n in
          rw (eq-eqb first n same, later) (grind (arith, nat_tests))
      | inr other ↦
          let later : times n (counted (first + 1) count) ≡ between (first + 1) (first + 1 + count) n = times_counted (first + 1) count n in
          rw (ne_eqb first n other, later) (grind (arith, nat_tests))
    ]

-- ---- the ids under a key, of more draws, answers and events

pub ids_under-append : (key : ℕ) (ds es : List DrawnId) → ids_under key (ds ++ es) ≡ ids_under key ds ++ ids_under key es
ids_under-append key ds es = rw (filter-append (λ (d : DrawnId). d.key == key) ds es) (map-append (λ (d : DrawnId). d.id) (filter (λ d. d.key == key) ds) (filter (λ d. d.key == key) es))

sealed_in-push : (answers : List Answer) (a : Answer) → sealed_in (answers ++ a ∷ []) ≡ sealed_in answers ++ sealed_ids a
sealed_in-push [] a = append-nil (sealed_ids a)
sealed_in-push (b ∷ answers) a = ap (λ ds. sealed_ids b ++ ds) (sealed_in-push answers a) ∙ sym (append_assoc (sealed_ids b) (sealed_in answers) (sealed_ids a))

pub ids_of-push : (answers : List Answer) (a : Answer) (key : ℕ) → ids_of (answers ++ a ∷ []) key ≡ ids_of answers key ++ ids_under key (sealed_ids a)
ids_of-push answers a key = rw (sealed_in-push answers a) (ids_under-append key (sealed_in answers) (sealed_ids a))

pub draws_in-append : (es fs : List Event) → draws_in (es ++ fs) ≡ draws_in es ++ draws_in fs
draws_in-append [] fs = refl
draws_in-append (Stepped s ∷ es) fs = draws_in-append es fs
draws_in-append (Judged j ∷ es) fs = draws_in-append es fs
draws_in-append (Drew key d ∷ es) fs = ap (λ ds. drawn_id key d ++ ds) (draws_in-append es fs) ∙ sym (append_assoc (drawn_id key d) (draws_in es) (draws_in fs))
draws_in-append (GaveKey key g ∷ es) fs = draws_in-append es fs
draws_in-append (GavePeer peer g ∷ es) fs = draws_in-append es fs
