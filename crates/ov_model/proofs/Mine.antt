-- What a lane's own steps say of all steps: a lane that is done by its own steps is done.
use Rattle.std.proofs.Common.{ℕ, ◌≡◌, ◌≢◌, ◌≤◌, ◌<◌, List, [], ◌∷◌, ◌++◌, length, zero, suc, refl, ◌∙◌, ap, subst, Bool, true, false, append-nil, arith, inl, inr, ◌==◌}
use Rattle.std.specs.Prelude.{filter, map, Option, if◌then◌else◌}
use Rattle.std.specs.List.{AllByRecursion}
use Rattle.std.proofs.lemmas.List.Elements.{filter-append}
use Rattle.std.proofs.lemmas.Bool.{cases_eq, eq-eqb, ne_eqb, both_ways}
use Rattle.std.proofs.lemmas.Bool.Decides.{nat_tests}
use Rattle.ov_base.specs.declared.address.Addr.{Addr}
use Rattle.ov_model.specs.declared.place.Place.{Place}
use Rattle.ov_model.specs.declared.line.Line.{Line}
use Rattle.ov_model.specs.declared.answer.Answer.{Answer}
use Rattle.ov_model.specs.declared.replay.ReplayEntry.{ReplayEntry}
use Rattle.ov_model.specs.Tables.{Material}
use Rattle.ov_model.specs.Events.{Step, judgement_of, is_at, of, shown, shown_in}
use Rattle.ov_model.specs.Legal.{Meets, NeverFall, LaneMeets, LinesRise}
use Rattle.ov_model.specs.Own.{mine, mine_judged, mine_shards}
use Rattle.ov_model.specs.Lanes.{judged_in}

-- ---- lists

-- What passes the test is among what passes a weaker one.
passed_on : (b c : Bool) → (b ≡ true → c ≡ true) → c ≡ false → b ≡ false
passed_on true c weaker fails = absurd (both_ways c fails (weaker refl))
passed_on false c weaker _ = refl

module _ {X : Type 0} where
  pub filter_kept : (p q : X → Bool) → ((x : X) → p x ≡ true → q x ≡ true) → (xs : List X) → filter p (filter q xs) ≡ filter p xs
  filter_kept p q weaker [] = refl
  filter_kept p q weaker (x ∷ xs) =
      elim (q x) as (λ b. q x ≡ b → filter p (if b then x ∷ filter q xs else filter q xs) ≡ filter p (x ∷ xs)) [
        | true ↦ λ is. rw (filter_kept p q weaker xs) refl
        | false ↦ λ is. rw (passed_on (p x) (q x) (weaker x) is) (filter_kept p q weaker xs)
      ] refl

  -- A test by a number, at the first member.
  same_first : (lane_of : X → ℕ) (lane : ℕ) (x : X) (xs : List X) → lane_of x ≡ lane → filter (λ y. lane_of y == lane) (x ∷ xs) ≡ x ∷ filter (λ y. lane_of y == lane) xs
  same_first lane_of lane x xs same = rw (eq-eqb (lane_of x) lane same) refl

  other_first : (lane_of : X → ℕ) (lane : ℕ) (x : X) (xs : List X) → lane_of x ≢ lane → filter (λ y. lane_of y == lane) (x ∷ xs) ≡ filter (λ y. lane_of y == lane) xs
  other_first lane_of lane x xs other = rw (ne_eqb (lane_of x) lane other) refl

  -- What is asked of a lane's members alone holds of all, where it holds of the lane's.
  pub all_own : (lane_of : X → ℕ) (lane : ℕ) (P : X → Type 0) (xs : List X) → AllByRecursion (λ x. lane_of x ≡ lane → P x) (filter (λ x. lane_of x == lane) xs) → AllByRecursion (λ x. lane_of x ≡ lane → P x) xs
  all_own lane_of lane P [] all = tt
  all_own lane_of lane P (x ∷ xs) all =
      let Q : X → Type 0 = λ y. lane_of y ≡ lane → P y in
      elim (cases_eq (lane_of x) lane) [
        | inl same ↦ let both : AllByRecursion Q (x ∷ filter (λ y. lane_of y == lane) xs) = subst (AllByRecursion Q) (same_first lane_of lane x xs same) all in (both.0, all_own lane_of lane P xs both.1)
        | inr other ↦ ((λ own. absurd (other own)), all_own lane_of lane P xs (subst (AllByRecursion Q) (other_first lane_of lane x xs other) all))
      ]

-- ---- the steps of one lane

at_lane : (lane line : ℕ) (p : Place) → is_at lane line p ≡ true → (p.lane == lane) ≡ true
at_lane lane line p at = grind (arith, nat_tests)

pub of-mine : (lane line : ℕ) (ss : List Step) → of (mine lane ss) lane line ≡ of ss lane line
of-mine lane line ss = filter_kept (λ (s : Step). is_at lane line s.entry.place) (λ s. s.entry.place.lane == lane) (λ s. at_lane lane line s.entry.place) ss

shown-mine : (lane line : ℕ) (rs : List ReplayEntry) → shown (mine_judged lane rs) lane line ≡ shown rs lane line
shown-mine lane line rs = ap (map judgement_of) (filter_kept (λ (r : ReplayEntry). is_at lane line r.place) (λ r. r.place.lane == lane) (λ r. at_lane lane line r.place) rs)

pub shown_in-mine : (lane line : ℕ) (shards : List (List ReplayEntry)) → shown_in (mine_shards lane shards) lane line ≡ shown_in shards lane line
shown_in-mine lane line [] = refl
shown_in-mine lane line (rs ∷ shards) = rw (shown-mine lane line rs, shown_in-mine lane line shards) refl

falls_mine : (lane : ℕ) (ss : List Step) → NeverFall lane (mine lane ss) → NeverFall lane ss
falls_mine lane [] falls = tt
falls_mine lane (s ∷ ss) falls =
    let lane_of : Step → ℕ = λ t. t.entry.place.lane in
    elim (cases_eq s.entry.place.lane lane) [
      | inl same ↦ let both : NeverFall lane (s ∷ mine lane ss) = subst (NeverFall lane) (same_first lane_of lane s ss same) falls in
          ((λ own. all_own lane_of lane (λ t. s.entry.place.line ≤ t.entry.place.line) ss (both.0 own)), falls_mine lane ss both.1)
      | inr other ↦ ((λ own. absurd (other own)), falls_mine lane ss (subst (NeverFall lane) (other_first lane_of lane s ss other) falls))
    ]

pub rise_mine : (lane : ℕ) (rs : List ReplayEntry) → LinesRise lane (mine_judged lane rs) → LinesRise lane rs
rise_mine lane [] rises = tt
rise_mine lane (r ∷ rs) rises =
    let lane_of : ReplayEntry → ℕ = λ t. t.place.lane in
    elim (cases_eq r.place.lane lane) [
      | inl same ↦ let both : LinesRise lane (r ∷ mine_judged lane rs) = subst (LinesRise lane) (same_first lane_of lane r rs same) rises in
          ((λ own. all_own lane_of lane (λ t. r.place.line < t.place.line) rs (both.0 own)), rise_mine lane rs both.1)
      | inr other ↦ ((λ own. absurd (other own)), rise_mine lane rs (subst (LinesRise lane) (other_first lane_of lane r rs other) rises))
    ]

all_shards : (lane : ℕ) (P : ReplayEntry → Type 0) (shards : List (List ReplayEntry)) → AllByRecursion (AllByRecursion (λ r. r.place.lane ≡ lane → P r)) (mine_shards lane shards) → AllByRecursion (AllByRecursion (λ r. r.place.lane ≡ lane → P r)) shards
all_shards lane P [] all = tt
all_shards lane P (rs ∷ shards) all = (all_own (λ r. r.place.lane) lane P rs all.0, all_shards lane P shards all.1)

-- A lane that is done by its own steps is done.
pub lane_whole : {m : ℕ → Option Material} {via : Addr → Addr} (ss : List Step) (shards : List (List ReplayEntry)) (lane : ℕ) (lines : List Line) (answers : List Answer) → LaneMeets m via (mine lane ss) (mine_shards lane shards) lane lines answers → LaneMeets m via ss shards lane lines answers
lane_whole {m} {via} ss shards lane lines answers meets = record {
  within = all_own (λ s. s.entry.place.lane) lane (λ s. s.entry.place.line < length answers) ss meets.within;
  judged_within = all_shards lane (λ r. r.place.line < length answers) shards meets.judged_within;
  falls = falls_mine lane ss meets.falls;
  each = λ i below. let own : Meets m via (mine lane ss) (mine_shards lane shards) lane lines answers i = meets.each i below in
      record { line = own.line; answer = own.answer; line_is = own.line_is; answer_is = own.answer_is; path = rw (← of-mine lane i ss, ← shown_in-mine lane i shards) own.path };
}

-- ---- one step more, of the lane or of another

pub mine_own : (lane : ℕ) (ss : List Step) (s : Step) → s.entry.place.lane ≡ lane → mine lane (ss ++ s ∷ []) ≡ mine lane ss ++ s ∷ []
mine_own lane ss s same = filter-append (λ (t : Step). t.entry.place.lane == lane) ss (s ∷ []) ∙ ap (λ l. mine lane ss ++ l) (same_first (λ (t : Step). t.entry.place.lane) lane s [] same)

pub mine_other : (lane : ℕ) (ss : List Step) (s : Step) → s.entry.place.lane ≢ lane → mine lane (ss ++ s ∷ []) ≡ mine lane ss
mine_other lane ss s other = filter-append (λ (t : Step). t.entry.place.lane == lane) ss (s ∷ []) ∙ ap (λ l. mine lane ss ++ l) (other_first (λ (t : Step). t.entry.place.lane) lane s [] other) ∙ append-nil (mine lane ss)

judged_own : (lane : ℕ) (rs : List ReplayEntry) (r : ReplayEntry) → r.place.lane ≡ lane → mine_judged lane (rs ++ r ∷ []) ≡ mine_judged lane rs ++ r ∷ []
judged_own lane rs r same = filter-append (λ (t : ReplayEntry). t.place.lane == lane) rs (r ∷ []) ∙ ap (λ l. mine_judged lane rs ++ l) (same_first (λ (t : ReplayEntry). t.place.lane) lane r [] same)

judged_other : (lane : ℕ) (rs : List ReplayEntry) (r : ReplayEntry) → r.place.lane ≢ lane → mine_judged lane (rs ++ r ∷ []) ≡ mine_judged lane rs
judged_other lane rs r other = filter-append (λ (t : ReplayEntry). t.place.lane == lane) rs (r ∷ []) ∙ ap (λ l. mine_judged lane rs ++ l) (other_first (λ (t : ReplayEntry). t.place.lane) lane r [] other) ∙ append-nil (mine_judged lane rs)

pub shards_own : (lane : ℕ) (shards : List (List ReplayEntry)) (k : ℕ) (r : ReplayEntry) → r.place.lane ≡ lane → mine_shards lane (judged_in shards k r) ≡ judged_in (mine_shards lane shards) k r
shards_own lane [] k r same = refl
shards_own lane (rs ∷ shards) zero r same = ap (λ l. l ∷ mine_shards lane shards) (judged_own lane rs r same)
shards_own lane (rs ∷ shards) (suc k) r same = ap (λ l. mine_judged lane rs ∷ l) (shards_own lane shards k r same)

pub shards_other : (lane : ℕ) (shards : List (List ReplayEntry)) (k : ℕ) (r : ReplayEntry) → r.place.lane ≢ lane → mine_shards lane (judged_in shards k r) ≡ mine_shards lane shards
shards_other lane [] k r other = refl
shards_other lane (rs ∷ shards) zero r other = ap (λ l. l ∷ mine_shards lane shards) (judged_other lane rs r other)
shards_other lane (rs ∷ shards) (suc k) r other = ap (λ l. mine_judged lane rs ∷ l) (shards_other lane shards k r other)
