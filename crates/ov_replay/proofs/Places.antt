-- A list that is written at one place, what contracts see of seats side by side, and a history that is one shard's.
use Rattle.std.proofs.Common.{◌≡◌, ◌≢◌, ℕ, ◌%◌, ◌<◌, zero, suc, List, [], ◌∷◌, ◌++◌, length, refl, sym, ap, ◌∙◌, subst, inl, inr, Some, arith, if◌then◌else◌, ◌==◌}
use Rattle.std.specs.List.{AllByRecursion, slice_get}
use Rattle.std.specs.Prelude.{get_or, take, slice_set, map, Option, None}
use Rattle.std.proofs.lemmas.Bool.{cases_eq, ne_eqb}
use Rattle.std.proofs.lemmas.List.{get_or-set_same, get_or-set_other}
use Rattle.std.proofs.lemmas.Nat.{mod_below}
use Rattle.std.proofs.lemmas.Option.{slice_get_within}
use mathlib.Core.Option.{some, some-injective}
use lib.ListN.{get_elem?, length-set}
use Rattle.ov_base.proofs.Sums.{between_in}
use Rattle.ov_turn.specs.Lists.{has, newly, times, AreOf}
use Rattle.ov_turn.specs.HoldRule.{MayBecome}
use Rattle.ov_model.specs.Replay.{IsJudged}
use Rattle.ov_model.specs.declared.replay.ReplayEntry.{ReplayEntry}
use Rattle.ov_turn.specs.declared.kept.Kept.{Ghosts}
use Rattle.ov_turn.specs.declared.lock.LockSeat.{LockSeat}
use Rattle.ov_turn.specs.declared.lock.TicketLock.{TicketLock}
use Rattle.ov_turn.specs.Seats.{name_of}
use Rattle.ov_replay.specs.Desk.{Part, part_at, part_in, name_at, IsClosed, IsShardOf}

-- ---- one place of a list, taken out and put back

pub put_here : {X : Type 0} (xs : List X) (i : ℕ) (u v d : X) → i < length xs → get_or (slice_set (slice_set xs i u) i v) i d ≡ v
put_here xs i u v d below = get_or-set_same (slice_set xs i u) i v d (subst (λ n. i < n) (sym (length-set xs i u)) below)

pub put_other : {X : Type 0} (xs : List X) (i s : ℕ) (u v d : X) → s ≢ i → get_or (slice_set (slice_set xs i u) i v) s d ≡ get_or xs s d
put_other xs i s u v d other = get_or-set_other (slice_set xs i u) i s v d other ∙ get_or-set_other xs i s u d other

pub put_length : {X : Type 0} (xs : List X) (i : ℕ) (u v : X) → length (slice_set (slice_set xs i u) i v) ≡ length xs
put_length xs i u v = length-set (slice_set xs i u) i v ∙ length-set xs i u

-- What a read at a place gives, whatever stands for none.
pub read_at : {X : Type 0} (xs : List X) (i : ℕ) (x d : X) → i < length xs → x ≡ get_or xs i x → x ≡ get_or xs i d
read_at [] i x d below at = absurd (omega arith)
read_at (y ∷ xs) zero x d below at = at
read_at (y ∷ xs) (suc i) x d below at = read_at xs i x d (omega arith) at

-- A list with one more at its end.
pub get_front : {X : Type 0} (xs : List X) (y : X) (s : ℕ) → s < length xs → slice_get (xs ++ y ∷ []) s ≡ slice_get xs s
get_front [] y s below = absurd (omega arith)
get_front (x ∷ xs) y zero below = refl
get_front (x ∷ xs) y (suc s) below = get_front xs y s (omega arith)

pub get_last : {X : Type 0} (xs : List X) (y : X) → slice_get (xs ++ y ∷ []) (length xs) ≡ Some y
get_last [] y = refl
get_last (x ∷ xs) y = get_last xs y

pub all_more : {X : Type 0} (P : X → Type 0) (xs : List X) (y : X) → AllByRecursion P xs → P y → AllByRecursion P (xs ++ y ∷ [])
all_more P [] y all last = (last, tt)
all_more P (x ∷ xs) y all last = (all.0, all_more P xs y all.1 last)

-- ---- what contracts see of seats and locks side by side

pub seen_part : {S : Type 0} {K : Ghosts S ReplayEntry} (xs : List (Option (LockSeat S ReplayEntry K))) (s : ℕ) → part_at (map part_in xs) s ≡ part_in (get_or xs s None)
seen_part [] s = refl
seen_part (x ∷ xs) zero = refl
seen_part (x ∷ xs) (suc s) = seen_part xs s

pub seen_name : {S : Type 0} (xs : List (TicketLock S ReplayEntry)) (s : ℕ) → slice_get (map name_of xs) s ≡ name_at (slice_get xs s)
seen_name [] s = refl
seen_name (x ∷ xs) zero = refl
seen_name (x ∷ xs) (suc s) = seen_name xs s

-- The shard of a key is one of the eight.
pub below_eight : (key : ℕ) → key % 8 < 8
below_eight key = mod_below key 8 (omega arith)

-- ---- no cells

pub none_become : (count : ℕ) (live dying owed : List ℕ) → live ≡ [] → dying ≡ [] → MayBecome count live dying owed [] []
none_become count live dying owed none gone = record {
  apart = λ c. omega arith;
  to_live = λ c one zero_live. absurd (omega arith);
  to_dying = λ c one zero_dying. absurd (omega arith);
  from_live = λ c one zero_live. absurd (let is : has c live ≡ 0 = ap (has c) none in omega arith);
  from_dying = λ c one zero_dying. absurd (let is : has c dying ≡ 0 = ap (has c) gone in omega arith);
}

pub none_newly : (before after : List ℕ) → after ≡ [] → newly before after ≡ []
none_newly before after none = ap (newly before) none

-- ---- a whole history whose named entries are those of a shard's keys

elem_of : {X : Type 0} (xs : List X) (i : ℕ) (x : X) → slice_get xs i ≡ Some x → get_elem? xs i ≡ some x
elem_of [] i x at = cc
elem_of (y ∷ xs) zero x at = ap some (let same : y ≡ x = cc in same)
elem_of (y ∷ xs) (suc i) x at = elem_of xs i x at

named_at : (es : List ReplayEntry) (s i : ℕ) (e : ReplayEntry) (own : List (ℕ × ReplayEntry)) → get_elem? es i ≡ some e → AreOf es own → AllByRecursion (λ x. x.1.key % 8 ≡ s) own → 0 < times i own → e.key % 8 ≡ s
named_at es s i e [] at are all counted = absurd (omega arith)
named_at es s i e (x ∷ own) at are all counted = elim (cases_eq x.0 i) [
  | inl same ↦ subst (λ (y : ReplayEntry). y.key % 8 ≡ s) (some-injective x.1 e (sym are.0 ∙ ap (get_elem? es) same ∙ at)) all.0
  | inr other ↦ let zero_times : ◌≡◌ {A = ℕ} (if x.0 == i then 1 else 0) 0 = rw (ne_eqb x.0 i other) refl in named_at es s i e own at are.1 all.1 (omega arith)
]

pub shard_of : (s : ℕ) (p : Part) (es : List ReplayEntry) → AllByRecursion (λ e. e.1.key % 8 ≡ s) p.own → IsClosed p es → IsShardOf s p es
shard_of s p es keys closed = record {
  seen = closed.seen;
  own = closed.own;
  judged = λ i e at.
      let below : i < length es = slice_get_within es i e at in
      let once = closed.own.0 i in
      let here = between_in 0 (length es) i (omega arith) below in
      let key : e.key % 8 ≡ s = named_at es s i e p.own (elem_of es i e at) closed.own.1 keys (omega arith) in
      subst (λ n. IsJudged n (take i es) e) key (closed.judged i e at);
}
