-- What is asked of the live peers, with and without the id by which it is put in order.
use Rattle.std.proofs.Common.{ℕ, ◌≡◌, ◌∙◌, ◌<◌, ◌≤◌, ◌+◌, ◌-◌, refl, ap, sym, arith, List, [], ◌∷◌, Bool, true, false, ◌&&◌, inl, inr}
use Rattle.std.specs.Prelude.{map, nat_lt, nat_le}
use Rattle.std.proofs.lemmas.Bool.Decides.{leb_tells}
use Rattle.ov_model.specs.Tables.{Peer}
use Rattle.ov_index.specs.Ticks.{facts_of, ranked_of}
use Rattle.ov_index.specs.declared.ticks.Ranked.{Ranked}

-- The facts of a peer are among what is put in order.
pub facts_made : (ps : List Peer) → map (λ (r : Ranked). r.facts) (map ranked_of ps) ≡ map facts_of ps
facts_made [] = refl
facts_made (p ∷ ps) = ap (λ fs. facts_of p ∷ fs) (facts_made ps)

-- A key that is looked for last is looked for all the same.
pub quiet_is : (set late keyed : Bool) → (set && (keyed && late)) ≡ ((set && late) && keyed)
quiet_is false late keyed = refl
quiet_is true false false = refl
quiet_is true false true = refl
quiet_is true true false = refl
quiet_is true true true = refl

-- A time that isn't 0 has gone by where its end has come.
end_come : (time since now : ℕ) → 1 ≤ time → nat_le time (now - since) ≡ nat_le (since + time) now
end_come time since now set = elim (leb_tells time (now - since)) [
  | inl gone ↦ let by : time ≤ now - since = gone.1 in elim (leb_tells (since + time) now) [
    | inl come ↦ gone.0 ∙ sym come.0
    | inr to_come ↦ let later : now < since + time = to_come.1 in absurd (omega arith)
  ]
  | inr not ↦ let still : now - since < time = not.1 in elim (leb_tells (since + time) now) [
    | inl come ↦ let over : since + time ≤ now = come.1 in absurd (omega arith)
    | inr to_come ↦ not.0 ∙ sym to_come.0
  ]
]

pub gone_by_is : (time since now : ℕ) → (nat_lt 0 time && nat_le time (now - since)) ≡ (nat_lt 0 time && nat_le (since + time) now)
gone_by_is time since now = elim (leb_tells 1 time) [
  | inl set ↦ ap (λ b. nat_lt 0 time && b) (end_come time since now set.1)
  | inr not ↦ rw not.0 refl
]
