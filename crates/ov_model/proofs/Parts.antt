-- The peers by rising id, and the members of a list that pass a test and those that don't: sums over them, and
-- what holds of all of them.
use Rattle.std.proofs.Common.{ℕ, ◌≡◌, ◌+◌, List, [], ◌∷◌, refl, ap, ◌∙◌, Bool, true, false, arith, if◌then◌else◌}
use Rattle.std.specs.Prelude.{filter, not, nat_lt}
use Rattle.std.specs.List.{AllByRecursion}
use Rattle.ov_base.specs.Sums.{total}
use Rattle.ov_model.specs.Tables.{Peer, serials_of, put_by_id, by_rising_id}
use Rattle.ov_model.specs.Removals.{times}
use Rattle.ov_model.proofs.Firsts.{times_total}

-- ---- sums

put_total : (f : Peer → ℕ) (p : Peer) (qs : List Peer) → total f (put_by_id p qs) ≡ f p + total f qs
put_total f p [] = refl
put_total f p (q ∷ qs) =
    elim (nat_lt p.id.number q.id.number) as (λ b. total f (if b then p ∷ q ∷ qs else (q ∷ put_by_id p qs)) ≡ f p + (f q + total f qs)) [
      | true ↦ refl
      | false ↦ (let rest : total f (put_by_id p qs) ≡ f p + total f qs = put_total f p qs in omega arith)
    ]

pub rising_total : (f : Peer → ℕ) (ps : List Peer) → total f (by_rising_id ps) ≡ total f ps
rising_total f [] = refl
rising_total f (p ∷ ps) = put_total f p (by_rising_id ps) ∙ ap (λ n. f p + n) (rising_total f ps)

-- All of them, and none that is left.
pub whole_total : (f : Peer → ℕ) (ps : List Peer) → total f [] + total f (by_rising_id ps) ≡ total f ps
whole_total f ps = let same : total f (by_rising_id ps) ≡ total f ps = rising_total f ps in omega arith

-- So often a serial stands among them.
pub rising_times : (x : ℕ) (ps : List Peer) → times x (serials_of (by_rising_id ps)) ≡ times x (serials_of ps)
rising_times x ps =
    let serial : Peer → ℕ = λ p. p.serial in
    rw (times_total serial x (by_rising_id ps), times_total serial x ps) (rising_total (λ p. times x (p.serial ∷ [])) ps)

filter_total : {X : Type 0} (f : X → ℕ) (test : X → Bool) (xs : List X) → total f (filter test xs) ≡ total (λ x. if test x then f x else 0) xs
filter_total f test [] = refl
filter_total f test (x ∷ xs) =
    elim (test x) as (λ b. total f (if b then x ∷ filter test xs else filter test xs) ≡ (if b then f x else 0) + total (λ y. if test y then f y else 0) xs) [
      | true ↦ ap (λ n. f x + n) (filter_total f test xs)
      | false ↦ (let rest : total f (filter test xs) ≡ total (λ y. if test y then f y else 0) xs = filter_total f test xs in omega arith)
    ]

split_total : {X : Type 0} (f : X → ℕ) (test : X → Bool) (xs : List X) → total f (filter (λ x. not (test x)) xs) + total f (filter test xs) ≡ total f xs
split_total f test [] = refl
split_total f test (x ∷ xs) =
    let rest : total f (filter (λ y. not (test y)) xs) + total f (filter test xs) ≡ total f xs = split_total f test xs in
    elim (test x)
    as (λ b. total f (if not b then x ∷ filter (λ y. not (test y)) xs else filter (λ y. not (test y)) xs) + total f (if b then x ∷ filter test xs else filter test xs) ≡ f x + total f xs)
    [ true ↦ omega arith | false ↦ omega arith ]

-- The peers that pass a test, by rising id, and the others.
pub parts_total : (f : Peer → ℕ) (test : Peer → Bool) (ps : List Peer) → total f (filter (λ p. not (test p)) ps) + total f (filter test (by_rising_id ps)) ≡ total f ps
parts_total f test ps =
    let some : Peer → ℕ = λ p. if test p then f p else 0 in
    let same : total f (filter test (by_rising_id ps)) ≡ total f (filter test ps) = rw (filter_total f test (by_rising_id ps), filter_total f test ps) (rising_total some ps) in
    rw same (split_total f test ps)

-- ---- what holds of all members

put_all : (P : Peer → Type 0) (p : Peer) (qs : List Peer) → P p → AllByRecursion P qs → AllByRecursion P (put_by_id p qs)
put_all P p [] own all = (own, tt)
put_all P p (q ∷ qs) own all =
    elim (nat_lt p.id.number q.id.number) as (λ b. AllByRecursion P (if b then p ∷ q ∷ qs else (q ∷ put_by_id p qs))) [ true ↦ (own, all) | false ↦ (all.0, put_all P p qs own all.1) ]

pub rising_all : (P : Peer → Type 0) (ps : List Peer) → AllByRecursion P ps → AllByRecursion P (by_rising_id ps)
rising_all P [] all = tt
rising_all P (p ∷ ps) all = put_all P p (by_rising_id ps) all.0 (rising_all P ps all.1)

pub filter_all : {X : Type 0} (P : X → Type 0) (test : X → Bool) (xs : List X) → AllByRecursion P xs → AllByRecursion P (filter test xs)
filter_all P test [] all = tt
filter_all P test (x ∷ xs) all =
    elim (test x) as (λ b. AllByRecursion P (if b then x ∷ filter test xs else filter test xs)) [ true ↦ (all.0, filter_all P test xs all.1) | false ↦ filter_all P test xs all.1 ]
