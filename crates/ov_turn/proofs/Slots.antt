-- The one slot, as the seat that took it has it.
use Rattle.std.proofs.Common.{◌≡◌, ℕ, ◌+◌, ◌<◌, true, List, [], ◌∷◌, length, refl, ap, sym, ◌∙◌, suc-ne-zero, arith}
use Rattle.atomic_table.specs.Table.{rest}
use Rattle.atomic_table.specs.Lent.{seat_with}
use Rattle.ov_turn.specs.declared.inside.Inside.{Inside}
use denote.Struct.Props.{props}
use Rattle.ov_turn.specs.Views.{holds_fit, lists_fit}
use Rattle.ov_turn.specs.Slots.{front, kept_in}
use Rattle.ov_turn.specs.Insides.{inside_with}

abbrev IsPlaced : {S I : Type 0} → Inside S I → Type 0
IsPlaced it = (it.seat.me.0.queued ≡ true) × (it.seat.me.0.inside ≡ true) × (0 < it.seat.me.0.share)

abbrev IsFit : {S I : Type 0} → Inside S I → Type 0
IsFit it = (holds_fit it.seat.me.0 ≡ true) × (lists_fit it.seat.me.0 ≡ true) × (3 + it.seat.me.0.cells ≡ it.seat.table_id.words)

module _ {S : Type 0} where
  -- it is the one slot, with the kept value
  pub slot_is : (l : List (ℕ × S)) (h : front l ≡ 0) → length (rest l) ≡ 0 → l ≡ (0, kept_in l h) ∷ []
  slot_is [] h z = absurd (suc-ne-zero 0 h)
  slot_is (x ∷ xs) h z = λ i. (h i, x.1) ∷ none xs z i
    where
      none : (xs : List (ℕ × S)) → length xs ≡ 0 → xs ≡ []
      none [] z = refl
      none (y ∷ ys) z = absurd (omega arith)

  pub none_left : (l : List (ℕ × S)) → length l ≡ 0 → l ≡ []
  none_left [] z = refl
  none_left (x ∷ xs) z = absurd (omega arith)

  pub slot_first : (l : List (ℕ × S)) (h : front l ≡ 0) → l ≡ (0, kept_in l h) ∷ rest l
  slot_first [] h = absurd (suc-ne-zero 0 h)
  slot_first (x ∷ xs) h = λ i. (h i, x.1) ∷ xs

  -- after a loan
  pub slot_again : (l : List (ℕ × S)) (h : front l ≡ 0) → length (rest l) ≡ 0 → (y : S) → y ≡ kept_in l h → (0, y) ∷ rest l ≡ (0, kept_in l h) ∷ []
  slot_again l h z y e = λ i. (0, e i) ∷ none_left (rest l) z i

  pub slot_back : (l : List (ℕ × S)) (h : front l ≡ 0) (y : S) → y ≡ kept_in l h → (0, y) ∷ rest l ≡ l
  slot_back l h y e = (λ i. (0, e i) ∷ rest l) ∙ sym (slot_first l h)

  -- equal slots have equal values
  pub kept_same : (l m : List (ℕ × S)) (h : front l ≡ 0) (k : front m ≡ 0) → l ≡ m → kept_in l h ≡ kept_in m k
  kept_same [] m h k e = absurd (suc-ne-zero 0 h)
  kept_same (x ∷ xs) [] h k e = absurd (suc-ne-zero 0 k)
  kept_same (x ∷ xs) (y ∷ ys) h k e = ap (λ l. second x.1 l) e
    where
      second : S → List (ℕ × S) → S
      second d [] = d
      second d (z ∷ zs) = z.1

  -- what was taken is the value
  pub slot_value : (l : List (ℕ × S)) (h : front l ≡ 0) (y : S) (more : List (ℕ × S)) → l ≡ (0, y) ∷ more → y ≡ kept_in l h
  slot_value [] h y more e = absurd (cc e)
  slot_value (x ∷ xs) h y more e = sym (kept_same (x ∷ xs) ((0, y) ∷ more) h refl e)

-- two seats with the same kept value are one: nothing else can differ
pub lent_same : {S I : Type 0} (it : Inside S I) (w : S) (h : it.seat.table_id ≡ it.lock.now.table.shared.table_id) (s : ((◌≡◌ {A = ℕ} 0 0) × (length (rest it.seat.me.1) ≡ 0))) (p : IsPlaced it) (f : IsFit it)
    → ◌≡◌ {A = Inside S I} record { lock = it.lock; seat = seat_with it.seat 0 w; here = h; slot = s; place = p; fit = f } (inside_with it w)
lent_same it w h s p f =
    let hp : IsProp (it.seat.table_id ≡ it.lock.now.table.shared.table_id) = hlevel props in
    let sp : IsProp ((◌≡◌ {A = ℕ} 0 0) × (length (rest it.seat.me.1) ≡ 0)) = hlevel props in
    let pp : IsProp (IsPlaced it) = hlevel props in
    let fp : IsProp (IsFit it) = hlevel props in
    λ i. record { lock = it.lock; seat = seat_with it.seat 0 w; here = hp h it.here i; slot = sp s (refl, it.slot.1) i; place = pp p it.place i; fit = fp f it.fit i }
