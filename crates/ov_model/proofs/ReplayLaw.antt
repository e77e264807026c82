-- No packet id of a key is accepted twice in a legal report.
use Rattle.std.proofs.Common.{ℕ, ◌≡◌, ◌%◌, ◌<◌, List, refl, sym, ◌∙◌, subst, ap, arith, ◌⊎◌, inl, inr}
use Rattle.std.specs.Prelude.{Option, Some, None, slice_get}
use Rattle.std.proofs.lemmas.Bool.{cases_lt}
use Rattle.ov_model.specs.declared.replay.ReplayEntry.{ReplayEntry}
use Rattle.ov_model.specs.declared.replay.Verdict.TheVariants.{Accept}
use Rattle.ov_model.specs.declared.report.Report.{Report}
use Rattle.ov_model.specs.Replay.{ShardJudges}
use Rattle.ov_model.specs.Legal.{ShardsJudge}
use Rattle.ov_model.specs.Laws.{judged_at, AcceptsOnce}
use Rattle.ov_model.proofs.ReplayLemmas.{accepted_once}

-- The shard of a step and its place there.
record InShard (shards : List (List ReplayEntry)) (s i : ℕ) (a : ReplayEntry) : Type 0 where
  shard : List ReplayEntry
  shard_is : slice_get shards s ≡ Some shard
  at : slice_get shard i ≡ Some a

in_shard_of : (shards : List (List ReplayEntry)) (s i : ℕ) (a : ReplayEntry) (shard : Option (List ReplayEntry)) → slice_get shards s ≡ shard → judged_at shards s i ≡ Some a → InShard shards s i a
in_shard_of shards s i a None is at = absurd (let none : judged_at shards s i ≡ None = rw is refl in cc)
in_shard_of shards s i a (Some shard) is at = let its : judged_at shards s i ≡ slice_get shard i = rw is refl in record { shard = shard; shard_is = is; at = sym its ∙ at }

in_shard : (shards : List (List ReplayEntry)) (s i : ℕ) (a : ReplayEntry) → judged_at shards s i ≡ Some a → InShard shards s i a
in_shard shards s i a at = in_shard_of shards s i a (slice_get shards s) refl at

pub cases_order : (i j : ℕ) → (i < j) ⊎ ((i ≡ j) ⊎ (j < i))
cases_order i j = elim (cases_lt i j) [ inl before ↦ inl before | inr not_before ↦ elim (cases_lt j i) [ inl after ↦ inr (inr after) | inr neither ↦ inr (inl (omega arith)) ] ]

one_shard : (s : ℕ) (shard : List ReplayEntry) (i j : ℕ) (a b : ReplayEntry) → ShardJudges s shard → slice_get shard i ≡ Some a → slice_get shard j ≡ Some b → a.verdict ≡ Accept → b.verdict ≡ Accept → a.key ≡ b.key → a.id ≡ b.id → i ≡ j
one_shard s shard i j a b judges at_i at_j first second key id =
    elim (cases_order i j) [
      | inl before ↦ absurd (accepted_once s shard i j a b judges before at_i at_j key first second id)
      | inr later ↦ elim later [
        | inl same ↦ same
        | inr after ↦ absurd (accepted_once s shard j i b a judges after at_j at_i (sym key) second first (sym id))
      ]
    ]

pub accepts_once : (report : Report) → ShardsJudge report → AcceptsOnce report.shards
accepts_once report judge s t i j a b at_i at_j first second key id =
    let x : InShard report.shards s i a = in_shard report.shards s i a at_i in
    let y : InShard report.shards t j b = in_shard report.shards t j b at_j in
    let of_x : a.key % 8 ≡ s = (judge.judges s x.shard x.shard_is i a x.at).key in
    let of_y : b.key % 8 ≡ t = (judge.judges t y.shard y.shard_is j b y.at).key in
    let same : s ≡ t = sym of_x ∙ ap (λ k. k % 8) key ∙ of_y in
    let shard : Some x.shard ≡ Some y.shard = sym x.shard_is ∙ ap (λ k. slice_get report.shards k) same ∙ y.shard_is in
    let its : x.shard ≡ y.shard = cc in
    (same, one_shard s x.shard i j a b (judge.judges s x.shard x.shard_is) x.at (subst (λ (l : List ReplayEntry). slice_get l j ≡ Some b) (sym its) y.at) first second key id)
