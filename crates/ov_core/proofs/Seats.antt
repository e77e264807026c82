-- A list in which one member changed, and what holds of each lane with its seat after that.
use Rattle.std.proofs.Common.{ℕ, ◌≡◌, ◌≢◌, ◌<◌, ◌⊎◌, inl, inr, zero, suc, List, [], ◌∷◌, length, get_or, refl, sym, ◌∙◌, ap, subst, arith}
use Rattle.std.specs.Prelude.{Option, Some, map, slice_get, slice_set, slice_index_or}
use Rattle.std.specs.List.{AllByRecursion}

pub length-slice_set : {X : Type 0} (xs : List X) (i : ℕ) (v : X) → length (slice_set xs i v) ≡ length xs
length-slice_set [] i v = refl
length-slice_set (x ∷ xs) zero v = refl
length-slice_set (x ∷ xs) (suc i) v = rw (length-slice_set xs i v) refl

-- What stands at a place after one member changed.
pub set_case : {X : Type 0} (xs : List X) (i k : ℕ) (v x : X) → slice_get (slice_set xs i v) k ≡ Some x → ((k ≡ i) × (x ≡ v)) ⊎ ((k ≢ i) × (slice_get xs k ≡ Some x))
set_case [] i k v x at = absurd (cc)
set_case (y ∷ xs) zero zero v x at = inl (refl, cc)
set_case (y ∷ xs) zero (suc k) v x at = inr ((λ e. absurd (omega arith)), at)
set_case (y ∷ xs) (suc i) zero v x at = inr ((λ e. absurd (omega arith)), at)
set_case (y ∷ xs) (suc i) (suc k) v x at = elim (set_case xs i k v x at) [
  | inl here ↦ inl (ap suc here.0, here.1)
  | inr there ↦ inr ((λ e. there.0 (omega arith)), there.1)
]

pub set_here : {X : Type 0} (xs : List X) (i : ℕ) (v x : X) → slice_get xs i ≡ Some x → slice_get (slice_set xs i v) i ≡ Some v
set_here [] i v x at = absurd (cc)
set_here (y ∷ xs) zero v x at = refl
set_here (y ∷ xs) (suc i) v x at = set_here xs i v x at

pub set_there : {X : Type 0} (xs : List X) (i k : ℕ) (v : X) → k ≢ i → slice_get (slice_set xs i v) k ≡ slice_get xs k
set_there [] i k v other = refl
set_there (y ∷ xs) zero zero v other = absurd (other refl)
set_there (y ∷ xs) zero (suc k) v other = refl
set_there (y ∷ xs) (suc i) zero v other = refl
set_there (y ∷ xs) (suc i) (suc k) v other = set_there xs i k v (λ e. other (ap suc e))

pub same_some : {X : Type 0} (o : Option X) (x y : X) → o ≡ Some x → o ≡ Some y → x ≡ y
same_some o x y a b = let e : Some x ≡ Some y = sym a ∙ b in cc

module _ {X : Type 0} where
  pub get_own : (xs : List X) (i : ℕ) (d : X) → i < length xs → slice_get xs i ≡ Some (get_or xs i d)
  get_own [] i d below = absurd (omega arith)
  get_own (x ∷ xs) zero d below = refl
  get_own (x ∷ xs) (suc i) d below = get_own xs i d (omega arith)

  pub set_own : (xs : List X) (i : ℕ) (v d : X) → i < length xs → get_or (slice_set xs i v) i d ≡ v
  set_own [] i v d below = absurd (omega arith)
  set_own (x ∷ xs) zero v d below = refl
  set_own (x ∷ xs) (suc i) v d below = set_own xs i v d (omega arith)

  pub set_set : (xs : List X) (i : ℕ) (v w : X) → slice_set (slice_set xs i v) i w ≡ slice_set xs i w
  set_set [] i v w = refl
  set_set (x ∷ xs) zero v w = refl
  set_set (x ∷ xs) (suc i) v w = rw (set_set xs i v w) refl

  -- A member is put back.
  pub set_same : (xs : List X) (i : ℕ) (d : X) → slice_set xs i (get_or xs i d) ≡ xs
  set_same [] i d = refl
  set_same (x ∷ xs) zero d = refl
  set_same (x ∷ xs) (suc i) d = rw (set_same xs i d) refl

  pub read_own : (xs : List X) (k : ℕ) (x d : X) → k < length xs → x ≡ slice_index_or xs k x → x ≡ get_or xs k d
  read_own [] k x d below is = absurd (omega arith)
  read_own (y ∷ xs) zero x d below is = is
  read_own (y ∷ xs) (suc k) x d below is = read_own xs k x d (omega arith) is

  pub read_there : (xs : List X) (k : ℕ) (x : X) → k < length xs → x ≡ slice_index_or xs k x → slice_get xs k ≡ Some x
  read_there [] k x below is = absurd (omega arith)
  read_there (y ∷ xs) zero x below is = ap (λ s. Some s) (sym is)
  read_there (y ∷ xs) (suc k) x below is = read_there xs k x (omega arith) is

module _ {X Y : Type 0} where
  pub map_set : (f : X → Y) (xs : List X) (i : ℕ) (v : X) → map f (slice_set xs i v) ≡ slice_set (map f xs) i (f v)
  map_set f [] i v = refl
  map_set f (x ∷ xs) zero v = refl
  map_set f (x ∷ xs) (suc i) v = rw (map_set f xs i v) refl

  pub map_get : (f : X → Y) (xs : List X) (i : ℕ) (x : X) → slice_get xs i ≡ Some x → slice_get (map f xs) i ≡ Some (f x)
  map_get f [] i x at = absurd (cc)
  map_get f (y ∷ ys) zero x at = let e : Some y ≡ Some x = at in cc
  map_get f (y ∷ ys) (suc i) x at = map_get f ys i x at

-- What all members are, the one at a place is.
pub all_at : {X : Type 0} (P : X → Type 0) (xs : List X) (i : ℕ) (x : X) → AllByRecursion P xs → slice_get xs i ≡ Some x → P x
all_at P [] i x all at = absurd (cc)
all_at P (y ∷ xs) zero x all at = (let its : y ≡ x = cc in subst P its all.0)
all_at P (y ∷ xs) (suc i) x all at = all_at P xs i x all.1 at

module _ {L S : Type 0} where
  -- Of each lane and its seat this holds.
  abbrev pub Each : (ℕ → L → S → Type 0) → List L → List S → Type 0
  Each P lanes seats = (k : ℕ) (l : L) (s : S) → slice_get lanes k ≡ Some l → slice_get seats k ≡ Some s → P k l s

  -- One seat changed.
  pub each_seat : (P Q : ℕ → L → S → Type 0) (lanes : List L) (seats : List S) (i : ℕ) (l : L) (s t : S) → Each P lanes seats → slice_get lanes i ≡ Some l → slice_get seats i ≡ Some s
      → (P i l s → Q i l t) → ((k : ℕ) (m : L) (u : S) → k ≢ i → P k m u → Q k m u) → Each Q lanes (slice_set seats i t)
  each_seat P Q lanes seats i l s t each lane_is seat_is own others k m u m_is u_is =
      elim (set_case seats i k t u u_is) [
        | inl here ↦
            let lane : slice_get lanes i ≡ Some m = subst (λ (n : ℕ). slice_get lanes n ≡ Some m) here.0 m_is in
            let its : l ≡ m = same_some (slice_get lanes i) l m lane_is lane in
            let done : Q i m t = subst (λ (x : L). Q i x t) its (own (each i l s lane_is seat_is)) in
            let at : Q i m u = subst (λ (x : S). Q i m x) (sym here.1) done in
            subst (λ (n : ℕ). Q n m u) (sym here.0) at
        | inr there ↦ others k m u there.0 (each k m u m_is there.1)
      ]

  -- One lane and its seat changed.
  pub each_both : (P Q : ℕ → L → S → Type 0) (lanes : List L) (seats : List S) (i : ℕ) (l n : L) (s t : S) → Each P lanes seats → slice_get lanes i ≡ Some l → slice_get seats i ≡ Some s
      → (P i l s → Q i n t) → ((k : ℕ) (m : L) (u : S) → k ≢ i → P k m u → Q k m u) → Each Q (slice_set lanes i n) (slice_set seats i t)
  each_both P Q lanes seats i l n s t each lane_is seat_is own others k m u m_is u_is =
      elim (set_case seats i k t u u_is) [
        | inl here ↦
            let lane : slice_get (slice_set lanes i n) i ≡ Some m = subst (λ (j : ℕ). slice_get (slice_set lanes i n) j ≡ Some m) here.0 m_is in
            let its : n ≡ m = same_some (slice_get (slice_set lanes i n) i) n m (set_here lanes i n l lane_is) lane in
            let done : Q i m t = subst (λ (x : L). Q i x t) its (own (each i l s lane_is seat_is)) in
            let at : Q i m u = subst (λ (x : S). Q i m x) (sym here.1) done in
            subst (λ (j : ℕ). Q j m u) (sym here.0) at
        | inr there ↦ others k m u there.0 (each k m u (sym (set_there lanes i k n there.0) ∙ m_is) there.1)
      ]
