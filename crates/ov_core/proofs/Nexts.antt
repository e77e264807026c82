-- What each key's counter gives next, after a step of the table and after a draw.
use Rattle.std.proofs.Common.{ℕ, ◌≡◌, ◌≢◌, ◌+◌, ◌<◌, ◌≤◌, zero, suc, List, [], ◌∷◌, ◌++◌, length, refl, sym, ◌∙◌, subst, true, false, arith, inl, inr, ◌⊎◌, get_or-set_same, get_or-set_other}
use Rattle.std.specs.Prelude.{map, get_or, nat_lt}
use Rattle.std.proofs.lemmas.Bool.{cases_eq}
use Rattle.std.proofs.lemmas.Bool.Decides.{nat_tests}
use Rattle.ov_model.specs.declared.place.Place.{Place}
use Rattle.ov_model.specs.declared.act.Call.{Call}
use Rattle.ov_model.specs.declared.draw.Drawn.TheVariants as drawn
use Rattle.ov_model.specs.Step.{step}
use Rattle.ov_model.specs.Lifetime.{key_made_by}
use Rattle.ov_core.specs.Worlds.{World, Seat, next_of, after_step, drawn_of, next_after, after_draw}

-- ---- a step of the table

all_default : (d key : ℕ) (ks : List ℕ) → get_or (map (λ _. d) ks) key d ≡ d
all_default d key [] = refl
all_default d zero (k ∷ ks) = refl
all_default d (suc key) (k ∷ ks) = all_default d key ks

more_default : (d key : ℕ) (xs ks : List ℕ) → get_or (xs ++ map (λ _. d) ks) key d ≡ get_or xs key d
more_default d key [] ks = all_default d key ks
more_default d zero (x ∷ xs) ks = refl
more_default d (suc key) (x ∷ xs) ks = more_default d key xs ks

-- A key that is made begins where it was to begin.
pub next_stepped : (w : World) (i : ℕ) (s : Seat) (place : Place) (call : Call) (key : ℕ) → next_of (after_step w i s place call) key ≡ next_of w key
next_stepped w i s place call key = more_default w.first key w.next (key_made_by call.act (step w.table.now call).reply)

-- ---- a draw

pub next_drawn : (w : World) (i : ℕ) (s : Seat) (key : ℕ) → key < length w.next → next_of (after_draw w i s key) key ≡ next_after (next_of w key)
next_drawn w i s key below = get_or-set_same w.next key (next_after (next_of w key)) w.first below

pub next_others : (w : World) (i : ℕ) (s : Seat) (key other : ℕ) → other ≢ key → next_of (after_draw w i s key) other ≡ next_of w other
next_others w i s key other differs = get_or-set_other w.next key other (next_after (next_of w key)) w.first differs

-- Each counter after a draw is as it was, or is the one that was asked.
next_cases : (w : World) (i : ℕ) (s : Seat) (key other : ℕ) → key < length w.next → (next_of (after_draw w i s key) other ≡ next_of w other) ⊎ ((other ≡ key) × (next_of (after_draw w i s key) other ≡ next_after (next_of w other)))
next_cases w i s key other below = elim (cases_eq other key) [
  | inl same ↦ inr (same, subst (λ k. next_of (after_draw w i s key) k ≡ next_after (next_of w k)) (sym same) (next_drawn w i s key below))
  | inr differs ↦ inl (next_others w i s key other differs)
]

after_most : (next : ℕ) → next ≤ 4294967296 → next_after next ≤ 4294967296
after_most next most = grind (arith, nat_tests)

after_dry : (next : ℕ) → next ≡ 4294967296 → next_after next ≡ 4294967296
after_dry next dry = grind (arith, nat_tests)

pub drawn_most : (w : World) (i : ℕ) (s : Seat) (key other : ℕ) → key < length w.next → next_of w other ≤ 4294967296 → next_of (after_draw w i s key) other ≤ 4294967296
drawn_most w i s key other below most = elim (next_cases w i s key other below) [
  | inl same ↦ rw same most
  | inr asked ↦ rw asked.1 (after_most (next_of w other) most)
]

-- A counter that gave its last id gives no other.
pub dry_stays : (w : World) (i : ℕ) (s : Seat) (key other : ℕ) → key < length w.next → next_of w other ≡ 4294967296 → next_of (after_draw w i s key) other ≡ 4294967296
dry_stays w i s key other below dry = elim (next_cases w i s key other below) [
  | inl same ↦ same ∙ dry
  | inr asked ↦ asked.1 ∙ after_dry (next_of w other) dry
]

-- What a counter answers: its next id, which isn't past the last, or none.
pub drawn_cases : (next : ℕ) → ((next < 4294967296) × (drawn_of next ≡ drawn.Id next) × (next_after next ≡ next + 1)) ⊎ ((4294967296 ≤ next) × (drawn_of next ≡ drawn.Spent) × (next_after next ≡ next))
drawn_cases next = elim (nat_lt next 4294967296) as (λ b. nat_lt next 4294967296 ≡ b → ((next < 4294967296) × (drawn_of next ≡ drawn.Id next) × (next_after next ≡ next + 1)) ⊎ ((4294967296 ≤ next) × (drawn_of next ≡ drawn.Spent) × (next_after next ≡ next))) [
  | true ↦ λ is. inl (grind (arith, nat_tests), rw is refl, rw is refl)
  | false ↦ λ is. inr (grind (arith, nat_tests), rw is refl, rw is refl)
] refl
