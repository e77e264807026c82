-- The entries and the replay steps of one line, found in the report, and a run's reply at a place.
use Rattle.std.proofs.Common.{ℕ, ◌≡◌, zero, suc, List, [], ◌∷◌, ◌++◌, refl, ◌∙◌, subst, ap, Bool, true, false, cond, take, ◌⊎◌, inl, inr}
use Rattle.std.specs.Prelude.{Some, filter, map, slice_get}
use Rattle.std.specs.List.{AllByRecursion}
use Rattle.ov_model.specs.declared.entry.Entry.{Entry}
use Rattle.ov_model.specs.declared.replay.ReplayEntry.{ReplayEntry}
use Rattle.ov_model.specs.Tables.{Table}
use Rattle.ov_model.specs.Step.{step}
use Rattle.ov_model.specs.Runs.{Follows, table_after}
use Rattle.ov_model.specs.Events.{Step, Judgement, steps_after, judgement_of, is_at, of, shown, shown_in}
use Rattle.ov_model.specs.Laws.{judged_at}

-- ---- the entries of a line

-- What holds of all steps of a line holds of each entry with its place.
pub entry_has : (P : Entry → Type 0) (t : Table) (es : List Entry) (lane line n : ℕ) (e : Entry) → AllByRecursion (λ s. P s.entry) (of (steps_after t es) lane line) → slice_get es n ≡ Some e → is_at lane line e.place ≡ true → P e
entry_has P t [] lane line n e all at own = cc
entry_has P t (x ∷ es) lane line zero e all at own =
    let its : x ≡ e = cc in
    let test : is_at lane line x.place ≡ true = ap (λ (y : Entry). is_at lane line y.place) its ∙ own in
    let s : Step = record { entry = x; taken = (step t x.call).taken } in
    let first : AllByRecursion (λ s. P s.entry) (cond true (s ∷ of (steps_after (step t x.call).after es) lane line) (of (steps_after (step t x.call).after es) lane line))
    = subst (λ (b : Bool). AllByRecursion (λ s. P s.entry) (cond b (s ∷ of (steps_after (step t x.call).after es) lane line) (of (steps_after (step t x.call).after es) lane line))) test all in
    subst P its first.0
entry_has P t (x ∷ es) lane line (suc n) e all at own =
    let rest : List Step = of (steps_after (step t x.call).after es) lane line in
    let s : Step = record { entry = x; taken = (step t x.call).taken } in
    let later : (b : Bool) → AllByRecursion (λ s. P s.entry) (cond b (s ∷ rest) rest) → AllByRecursion (λ s. P s.entry) rest = λ b. elim b as (λ c. AllByRecursion (λ s. P s.entry) (cond c (s ∷ rest) rest) → AllByRecursion (λ s. P s.entry) rest) [ true ↦ λ a. a.1 | false ↦ λ a. a ] in
    entry_has P (step t x.call).after es lane line n e (later (is_at lane line x.place) all) at own

-- Each step of a line is an entry of the history.
pub record EntryAt (es : List Entry) (e : Entry) : Type 0 where
  pub n : ℕ
  pub at : slice_get es n ≡ Some e

entry_later : (x e : Entry) (es : List Entry) → EntryAt es e → EntryAt (x ∷ es) e
entry_later x e es a = record { n = suc a.n; at = a.at }

pub step_entry : (t : Table) (es : List Entry) (lane line k : ℕ) (s : Step) → slice_get (of (steps_after t es) lane line) k ≡ Some s → EntryAt es s.entry
step_entry t [] lane line k s at = cc
step_entry t (x ∷ es) lane line k s at =
    let rest : List Step = of (steps_after (step t x.call).after es) lane line in
    let own : Step = record { entry = x; taken = (step t x.call).taken } in
    let here : (k : ℕ) → slice_get (own ∷ rest) k ≡ Some s → EntryAt (x ∷ es) s.entry = λ k. elim k as (λ i. slice_get (own ∷ rest) i ≡ Some s → EntryAt (x ∷ es) s.entry) [
      | zero ↦ λ a. let its : own ≡ s = cc in record { n = 0; at = ap (λ (r : Step). Some r.entry) its }
      | suc i ↦ λ a. entry_later x s.entry es (step_entry (step t x.call).after es lane line i s a)
    ] in
    let there : (b : Bool) → slice_get (cond b (own ∷ rest) rest) k ≡ Some s → EntryAt (x ∷ es) s.entry = λ b. elim b as (λ c. slice_get (cond c (own ∷ rest) rest) k ≡ Some s → EntryAt (x ∷ es) s.entry) [
      | true ↦ here k
      | false ↦ λ a. entry_later x s.entry es (step_entry (step t x.call).after es lane line k s a)
    ] in
    there (is_at lane line x.place) at

-- ---- the replay steps of a line

shard_has : (P : Judgement → Type 0) (rs : List ReplayEntry) (lane line i : ℕ) (r : ReplayEntry) → AllByRecursion P (shown rs lane line) → slice_get rs i ≡ Some r → is_at lane line r.place ≡ true → P (judgement_of r)
shard_has P [] lane line i r all at own = cc
shard_has P (x ∷ rs) lane line zero r all at own =
    let its : x ≡ r = cc in
    let test : is_at lane line x.place ≡ true = ap (λ (y : ReplayEntry). is_at lane line y.place) its ∙ own in
    let rest : List ReplayEntry = filter (λ y. is_at lane line y.place) rs in
    let first : AllByRecursion P (map judgement_of (x ∷ rest)) = subst (λ (b : Bool). AllByRecursion P (map judgement_of (cond b (x ∷ rest) rest))) test all in
    subst (λ (y : ReplayEntry). P (judgement_of y)) its first.0
shard_has P (x ∷ rs) lane line (suc i) r all at own =
    let rest : List ReplayEntry = filter (λ y. is_at lane line y.place) rs in
    let later : (b : Bool) → AllByRecursion P (map judgement_of (cond b (x ∷ rest) rest)) → AllByRecursion P (map judgement_of rest) = λ b. elim b as (λ c. AllByRecursion P (map judgement_of (cond c (x ∷ rest) rest)) → AllByRecursion P (map judgement_of rest)) [ true ↦ λ a. a.1 | false ↦ λ a. a ] in
    shard_has P rs lane line i r (later (is_at lane line x.place) all) at own

all_front : (P : Judgement → Type 0) (xs ys : List Judgement) → AllByRecursion P (xs ++ ys) → AllByRecursion P xs
all_front P [] ys all = tt
all_front P (x ∷ xs) ys all = (all.0, all_front P xs ys all.1)

all_back : (P : Judgement → Type 0) (xs ys : List Judgement) → AllByRecursion P (xs ++ ys) → AllByRecursion P ys
all_back P [] ys all = all
all_back P (x ∷ xs) ys all = all_back P xs ys all.1

-- What holds of all replay steps of a line holds of each step of a shard with its place.
pub judged_has : (P : Judgement → Type 0) (shards : List (List ReplayEntry)) (lane line shard i : ℕ) (r : ReplayEntry) → AllByRecursion P (shown_in shards lane line) → judged_at shards shard i ≡ Some r → is_at lane line r.place ≡ true → P (judgement_of r)
judged_has P [] lane line shard i r all at own = cc
judged_has P (rs ∷ shards) lane line zero i r all at own = shard_has P rs lane line i r (all_front P (shown rs lane line) (shown_in shards lane line) all) at own
judged_has P (rs ∷ shards) lane line (suc shard) i r all at own = judged_has P shards lane line shard i r (all_back P (shown rs lane line) (shown_in shards lane line) all) at own

-- Each replay step that a line shows stands in a shard.
pub record JudgedAt (shards : List (List ReplayEntry)) (j : Judgement) : Type 0 where
  pub shard : ℕ
  pub i : ℕ
  pub r : ReplayEntry
  pub at : judged_at shards shard i ≡ Some r
  pub is : judgement_of r ≡ j

record ShownAt (rs : List ReplayEntry) (j : Judgement) : Type 0 where
  i : ℕ
  r : ReplayEntry
  at : slice_get rs i ≡ Some r
  is : judgement_of r ≡ j

shown_later : (x : ReplayEntry) (rs : List ReplayEntry) (j : Judgement) → ShownAt rs j → ShownAt (x ∷ rs) j
shown_later x rs j a = record { i = suc a.i; r = a.r; at = a.at; is = a.is }

shown_at : (rs : List ReplayEntry) (lane line k : ℕ) (j : Judgement) → slice_get (shown rs lane line) k ≡ Some j → ShownAt rs j
shown_at [] lane line k j at = cc
shown_at (x ∷ rs) lane line k j at =
    let rest : List ReplayEntry = filter (λ y. is_at lane line y.place) rs in
    let here : (k : ℕ) → slice_get (map judgement_of (x ∷ rest)) k ≡ Some j → ShownAt (x ∷ rs) j = λ k. elim k as (λ i. slice_get (map judgement_of (x ∷ rest)) i ≡ Some j → ShownAt (x ∷ rs) j) [
      | zero ↦ λ a. record { i = 0; r = x; at = refl; is = cc }
      | suc i ↦ λ a. shown_later x rs j (shown_at rs lane line i j a)
    ] in
    let there : (b : Bool) → slice_get (map judgement_of (cond b (x ∷ rest) rest)) k ≡ Some j → ShownAt (x ∷ rs) j = λ b. elim b as (λ c. slice_get (map judgement_of (cond c (x ∷ rest) rest)) k ≡ Some j → ShownAt (x ∷ rs) j) [
      | true ↦ here k
      | false ↦ λ a. shown_later x rs j (shown_at rs lane line k j a)
    ] in
    there (is_at lane line x.place) at

-- An element of two lists after one another.
pub record Later {X : Type 0} (ys : List X) (y : X) : Type 0 where
  pub k : ℕ
  pub at : slice_get ys k ≡ Some y

pub in_either : {X : Type 0} (xs ys : List X) (k : ℕ) (y : X) → slice_get (xs ++ ys) k ≡ Some y → (slice_get xs k ≡ Some y) ⊎ Later ys y
in_either [] ys k y at = inr (record { k = k; at = at })
in_either (x ∷ xs) ys zero y at = inl at
in_either (x ∷ xs) ys (suc k) y at = in_either xs ys k y at

pub judged_found : (shards : List (List ReplayEntry)) (lane line k : ℕ) (j : Judgement) → slice_get (shown_in shards lane line) k ≡ Some j → JudgedAt shards j
judged_found [] lane line k j at = cc
judged_found (rs ∷ shards) lane line k j at =
    elim (in_either (shown rs lane line) (shown_in shards lane line) k j at) [
      | inl own ↦ let a : ShownAt rs j = shown_at rs lane line k j own in record { shard = 0; i = a.i; r = a.r; at = a.at; is = a.is }
      | inr later ↦ let a : JudgedAt shards j = judged_found shards lane line later.k j later.at in record { shard = suc a.shard; i = a.i; r = a.r; at = a.at; is = a.is }
    ]

-- ---- a run

-- Each entry has the reply of the serial step in the table before it.
pub reply_at : (t : Table) (es : List Entry) (n : ℕ) (e : Entry) → Follows t es → slice_get es n ≡ Some e → (step (table_after t (take n es)) e.call).reply ≡ e.reply
reply_at t [] n e follows at = cc
reply_at t (x ∷ es) zero e follows at = let its : x ≡ e = cc in subst (λ (y : Entry). (step t y.call).reply ≡ y.reply) its follows.1
reply_at t (x ∷ es) (suc n) e follows at = reply_at (step t x.call).after es n e follows.2 at
