-- What one view counts for, and what follows for all of them.
use Rattle.std.proofs.Common.{◌≡◌, ◌≢◌, ℕ, ◌<◌, ◌≤◌, ◌==◌, Bool, true, false, ◌&&◌, if◌then◌else◌, List, set, refl, sym, ap, ◌∙◌, arith, eq-eqb, ne_eqb}
use mathlib.Core.Option.{some}
use mathlib.Core.Logic.{dite}
use mathlib.Core.Bool.{true≢false}
use native.Mathlib.Decide.{ℕ_discrete}
use lib.ListN.{get_elem?}
use Rattle.ov_base.specs.Sums.{total, count_of}
use Rattle.ov_base.proofs.Sums.{total_set}
use Rattle.ov_turn.specs.declared.view.View.{View}
use Rattle.ov_turn.specs.Lists.{times}
use Rattle.ov_turn.specs.Views.{Lists, share, has_ticket, waits, is_inside, owns, holds, owes}
use Rattle.ov_turn.specs.TurnRule.{Fits}

pub total_same : {A : Type 0} (f : A → ℕ) (l : List A) (i : ℕ) (v w : A) → get_elem? l i ≡ some v → f w ≡ f v → total f (set l i w) ≡ total f l
total_same f l i v w at same = let s = total_set f l i v w at in omega arith

module _ {I : Type 0} where
  pub ticket_yes : (t : ℕ) (v : View I) → v.queued ≡ true → v.ticket ≡ t → has_ticket t v ≡ 1
  ticket_yes t v q e = let b : (v.ticket == t) ≡ true = eq-eqb v.ticket t e in rw (q, b)

  pub ticket_other : (t : ℕ) (v : View I) → v.ticket ≢ t → has_ticket t v ≡ 0
  ticket_other t v ne = by v.queued
    where
      by : (q : Bool) → ◌≡◌ {A = ℕ} (if q && (v.ticket == t) then 1 else 0) 0
      by true = let b : (v.ticket == t) ≡ false = ne_eqb v.ticket t ne in rw b
      by false = refl

  pub ticket_no : (t : ℕ) (v : View I) → v.queued ≡ false → has_ticket t v ≡ 0
  ticket_no t v q = rw q

  pub waits_yes : (v : View I) → v.queued ≡ true → waits v ≡ 1
  waits_yes v q = rw q

  pub waits_no : (v : View I) → v.queued ≡ false → waits v ≡ 0
  waits_no v q = rw q

  pub inside_yes : (v : View I) → v.inside ≡ true → is_inside v ≡ 1
  inside_yes v q = rw q

  pub inside_no : (v : View I) → v.inside ≡ false → is_inside v ≡ 0
  inside_no v q = rw q

  -- whoever counts as inside is
  pub is_in : (v : View I) → 0 < is_inside v → v.inside ≡ true
  is_in v h = by v.inside h
    where
      by : (b : Bool) → 0 < (if b then 1 else 0) → b ≡ true
      by true h = refl
      by false h = absurd (omega arith)

  module _ {count served : ℕ} {log : List I} {lists : Lists} (v : View I) (fits : Fits count served log lists v) where
    pub waits_share : waits v ≤ share v
    waits_share = dite (ℕ_discrete v.share 0)
        (λ z. let n = waits_no v (fits.idle z).0 in omega arith)
        (λ some_part. by v.queued (omega arith))
      where
        by : (b : Bool) → 0 < v.share → (if b then 1 else 0) ≤ v.share
        by true h = omega arith
        by false h = omega arith

    -- a view with no part is not inside
    pub idle_out : v.share ≡ 0 → is_inside v ≡ 0
    idle_out z = dite (ℕ_discrete (is_inside v) 0) (λ e. e)
        (λ n. let is = is_in v (omega arith) in absurd (true≢false (sym (fits.inside is).0 ∙ (fits.idle z).0)))

    -- whoever is inside has the ticket that is served
    pub inside_served : v.inside ≡ true → has_ticket served v ≡ 1
    inside_served h = let i = fits.inside h in ticket_yes served v i.0 i.1

    pub unserved_out : has_ticket served v ≡ 0 → is_inside v ≡ 0
    unserved_out z = dite (ℕ_discrete (is_inside v) 0) (λ e. e)
        (λ n. let s = inside_served (is_in v (omega arith)) in absurd (omega arith))

    pub holds_share : (c : ℕ) → holds c v ≤ share v
    holds_share c = dite (ℕ_discrete v.share 0)
        (λ z. let h = ap (count_of c) (fits.idle z).2 in omega arith)
        (λ n. let o = fits.once c in omega arith)

    pub idle_owns : (p : ℕ) → v.share ≡ 0 → owns p v ≡ 0
    idle_owns p z = ap (times p) (fits.idle z).1

    pub idle_holds : (c : ℕ) → v.share ≡ 0 → holds c v ≡ 0
    idle_holds c z = ap (count_of c) (fits.idle z).2

    pub idle_owes : (c : ℕ) → v.share ≡ 0 → owes c v ≡ 0
    idle_owes c z = ap (count_of c) (fits.idle z).3
