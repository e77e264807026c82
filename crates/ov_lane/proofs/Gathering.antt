-- What passes share at the end.
use Rattle.std.proofs.Common.{ℕ, zero, suc, ◌≡◌, ◌<◌, List, [], ◌∷◌, length, refl, sym, ap, ◌∙◌, subst, arith, inl, inr, if◌then◌else◌, ◌==◌}
use Rattle.std.specs.Prelude.{map, filter, max, take, slice_get, get_or, Some, Contains}
use Rattle.std.specs.List.{AllByRecursion}
use Rattle.std.proofs.lemmas.Bool.{cases_eq, ne_eqb}
use Rattle.std.proofs.lemmas.Option.{get_or_from_slice_get}
use mathlib.Core.List.{IsPrefix}
use mathlib.Core.Option.{some, some-injective}
use lib.ListN.{get_elem?}
use Rattle.ov_base.specs.Sums.{count_of}
use Rattle.ov_base.proofs.Sums.{between_in}
use Rattle.ov_turn.specs.Lists.{AreOf, IsWhole}
use Rattle.ov_model.specs.declared.entry.Entry.{Entry}
use Rattle.ov_model.specs.declared.note.Note.{Note}
use Rattle.ov_model.specs.declared.replay.ReplayEntry.{ReplayEntry}
use Rattle.ov_model.specs.Limits.{shard_count}
use Rattle.ov_model.specs.Tables.{Table, empty_table}
use Rattle.ov_model.specs.Step.{step, May}
use Rattle.ov_model.specs.Removals.{AllReleased}
use Rattle.ov_model.specs.Replay.{ShardJudges}
use Rattle.ov_model.specs.Runs.{IsRun, Follows, table_after, last_table}
use Rattle.ov_model.specs.Own.{RiseFrom, positions, picked, own_by, times_at, steps_at, AreAll}
use Rattle.ov_model.proofs.Lanes.{all_weaker}
use Rattle.ov_model.proofs.Picked.{picked_whole, elem_within}
use Rattle.ov_model.proofs.Stands.{mine_whole}
use Rattle.ov_model.proofs.Freed.{all_released, act_balance}
use Rattle.ov_model.proofs.LifetimeLaw.{peers_stay_released, keys_stay_released}
use Rattle.ov_replay.specs.Desk.{part_at}
use Rattle.ov_share.specs.Shares.{Common, Sharing, IsWholeShare, IsEnd}
use Rattle.ov_share.specs.Keepings.{IsOrderly}
use Rattle.ov_share.specs.Passings.{Passing, IsPart, DrawnOnce, OneHistory}
use Rattle.ov_lane.specs.Passes.{Shared, AreAllPasses, EachLeavesOnly, LastReleases}
use Rattle.ov_lane.specs.Inner.{HasTaken, entry_lane, own_entries, judged_lane, own_judged}
use Rattle.ov_lane.proofs.Taking.{by, all_by, prefix_on}

-- ---- a history of which the entries are all named

module _ {X : Type 0} where
  are_members : (log : List X) (own : List (ℕ × X)) → AreOf log own → AllByRecursion (λ e. get_elem? log e.0 ≡ some e.1) own
  are_members log [] are = tt
  are_members log (e ∷ own) are = (are.0, are_members log own are.1)

  are_all : (log : List X) (own : List (ℕ × X)) → IsWhole log own → AreAll log own
  are_all log own whole = record { once = whole.0; members = are_members log own whole.1 }

  picked_members : (log : List X) (own : List (ℕ × X)) → AllByRecursion (λ e. get_elem? log e.0 ≡ some e.1) own → picked log (positions own) ≡ map (λ e. e.1) own
  picked_members log [] members = refl
  picked_members log (e ∷ own) members = rw (members.0, picked_members log own members.1) refl

  -- What holds of all named members holds of the list, where they are the whole.
  found_named : (P : X → Type 0) (log : List X) (i : ℕ) (x : X) (own : List (ℕ × X)) → get_elem? log i ≡ some x → AllByRecursion (λ e. get_elem? log e.0 ≡ some e.1) own → AllByRecursion (λ e. P e.1) own → 0 < times_at i own → P x
  found_named P log i x [] at members all counted = absurd (omega arith)
  found_named P log i x (e ∷ own) at members all counted = elim (cases_eq e.0 i) [
    | inl same ↦ subst P (some-injective e.1 x (sym members.0 ∙ ap (get_elem? log) same ∙ at)) all.0
    | inr other ↦ let zero_times : ◌≡◌ {A = ℕ} (if e.0 == i then 1 else 0) 0 = rw (ne_eqb e.0 i other) refl in found_named P log i x own at members.1 all.1 (omega arith)
  ]

  all_each : (P : X → Type 0) (xs : List X) → ((i : ℕ) (x : X) → get_elem? xs i ≡ some x → P x) → AllByRecursion P xs
  all_each P [] each = tt
  all_each P (x ∷ xs) each = (each 0 x refl, all_each P xs (λ i y at. each (suc i) y at))

  all_named : (P : X → Type 0) (log : List X) (own : List (ℕ × X)) → AreAll log own → AllByRecursion (λ e. P e.1) own → AllByRecursion P log
  all_named P log own whole all = all_each P log (λ i x at. let below = elem_within log i x at in let once = whole.once i in let here = between_in 0 (length log) i (omega arith) below in found_named P log i x own at whole.members all (omega arith))

  all_slots : (P : X → Type 0) (xs : List X) → ((i : ℕ) (x : X) → slice_get xs i ≡ Some x → P x) → AllByRecursion P xs
  all_slots P [] each = tt
  all_slots P (x ∷ xs) each = (each 0 x refl, all_slots P xs (λ i y at. each (suc i) y at))

  slot_within : (xs : List X) (i : ℕ) (x : X) → slice_get xs i ≡ Some x → i < length xs
  slot_within [] i x at = cc
  slot_within (y ∷ xs) zero x at = omega arith
  slot_within (y ∷ xs) (suc i) x at = (let rest = slot_within xs i x at in omega arith)

  -- Of the whole the entries with a pass's number are the pass's own.
  module _ (lane : X → ℕ) where
    members_by : (n : ℕ) (log : List X) (all own : List (ℕ × X)) → AreAll log all → by lane n all ≡ own → AllByRecursion (λ e. get_elem? log e.0 ≡ some e.1) own
    members_by n log all own whole is = subst (AllByRecursion (λ e. get_elem? log e.0 ≡ some e.1)) is (all_by lane (λ e. get_elem? log e.0 ≡ some e.1) n all whole.members)

    filtered : (n : ℕ) (log : List X) (all own : List (ℕ × X)) → AreAll log all → by lane n all ≡ own → RiseFrom 0 (positions own) → filter (λ x. lane x == n) log ≡ map (λ e. e.1) own
    filtered n log all own whole is rise =
        sym (picked_whole (λ x. lane x == n) log all whole (subst (λ (es : List (ℕ × X)). RiseFrom 0 (positions es)) (sym is) rise)) ∙ ap (λ (es : List (ℕ × X)). picked log (positions es)) is ∙ picked_members log own (members_by n log all own whole is)

-- ---- the passes' parts

parts : (journal : List Entry) (shards : List (List ReplayEntry)) (s : Sharing) (passes : List Passing) → IsPrefix s.sight.seen journal → AreAll journal s.sight.own → ((i : ℕ) → i < shard_count → AreAll (get_or shards i []) (part_at s.parts i).own)
    → AllByRecursion (λ p. IsPrefix p.share.sight.seen s.sight.seen) passes → AllByRecursion (λ p. by entry_lane p.number s.sight.own ≡ own_entries p) passes → ((i : ℕ) → i < shard_count → AllByRecursion (λ p. by judged_lane p.number (part_at s.parts i).own ≡ own_judged i p) passes) → AllByRecursion (λ p. IsOrderly p.number p.share) passes
    → AllByRecursion (IsPart journal shards) passes
parts journal shards s [] front whole shards_whole seen own judged orderly = tt
parts journal shards s (p ∷ passes) front whole shards_whole seen own judged orderly =
    let order = orderly.0 in
    let rise : RiseFrom 0 (positions (own_by p.number s.sight.own)) = subst (λ (es : List (ℕ × Entry)). RiseFrom 0 (positions es)) (sym own.0) order.rise in (
      record {
        seen = prefix_on p.share.sight.seen s.sight.seen journal seen.0 front;
        own = filtered entry_lane p.number journal s.sight.own p.share.sight.own whole own.0 order.rise;
        at = members_by entry_lane p.number journal s.sight.own p.share.sight.own whole own.0;
        steps = ap (steps_at journal) (sym own.0) ∙ mine_whole p.number journal s.sight.own whole rise;
        judged = λ i lt. filtered judged_lane p.number (get_or shards i []) (part_at s.parts i).own (part_at p.share.parts i).own (shards_whole i lt) (judged i lt).0 (order.parts i lt).rise;
      },
      parts journal shards s passes front whole shards_whole seen.1 own.1 (λ i lt. (judged i lt).1) orderly.1,
    )

pub one_history : (w : Common) (passes : List Passing) (s : Sharing) (journal : List Entry) (notes : List Note) (shards : List (List ReplayEntry)) → HasTaken w passes s → IsEnd s journal notes shards → OneHistory w.counters.first journal notes shards passes
one_history w passes s journal notes shards has end =
    let whole : AreAll journal s.sight.own = are_all journal s.sight.own end.own in
    let shards_whole : (i : ℕ) → i < shard_count → AreAll (get_or shards i []) (part_at s.parts i).own = λ i lt. are_all (get_or shards i []) (part_at s.parts i).own (end.each i lt).own in
    let inside : (i : ℕ) (rs : List ReplayEntry) → slice_get shards i ≡ Some rs → i < shard_count = λ i rs at. (let lt = slot_within shards i rs at in let eight = end.eight in omega arith) in
    record {
      run = end.run;
      notes_are = end.notes_are;
      eight = end.eight;
      judges = λ i rs at. subst (ShardJudges i) (get_or_from_slice_get shards i rs [] at) (end.each i (inside i rs at)).judged;
      each = parts journal shards s passes end.seen whole shards_whole has.seen has.own.each (λ i lt. (has.judged i lt).each) has.orderly;
      within = all_named (λ e. 0 < count_of e.place.lane (map (λ p. p.number) passes)) journal s.sight.own whole has.own.within;
      judged_within = all_slots (AllByRecursion (λ r. 0 < count_of r.place.lane (map (λ p. p.number) passes))) shards (λ i rs at.
          subst (AllByRecursion (λ r. 0 < count_of r.place.lane (map (λ p. p.number) passes))) (get_or_from_slice_get shards i rs [] at)
          (all_named (λ r. 0 < count_of r.place.lane (map (λ p. p.number) passes)) (get_or shards i []) (part_at s.parts i).own (shards_whole i (inside i rs at)) (has.judged i (inside i rs at)).within));
      drawn = λ key. drawn_once key;
    }
  where
    drawn_once : (key : ℕ) → DrawnOnce w.counters.first passes key
    drawn_once key = subst (λ (first : ℕ). DrawnOnce first passes key) (ap (λ c. c.first) has.of.counters) (
        let ended = end.ended key in
        record {
          end = ended.0;
          most = ended.1;
          once = λ n. sym (has.drawn key n) ∙ ended.2 n;
          spent = all_weaker (λ p. (k : ℕ) → Contains p.share.drawer.spent k → Contains s.drawer.spent k) (λ p. Contains p.share.drawer.spent key → ended.0 ≡ 4294967296) (λ p kept found. ended.3 (kept key found)) passes has.spent;
        }
        )

-- The shares of all passes are all there are.
pub all_passes_some : (o : Shared) (passes : List Passing) → AreAllPasses o passes → 0 < length passes
all_passes_some o [] all = absurd (let none = all.table in omega arith)
all_passes_some o (p ∷ passes) all = omega arith

pub whole_share : (o : Shared) (passes : List Passing) (s : Sharing) → AreAllPasses o passes → HasTaken o.words passes s → IsWholeShare s
whole_share o passes s all has = record { table = has.table ∙ all.table; parts = λ i lt. has.parts i lt ∙ all.parts i lt; counters = has.counters ∙ all.counters }

-- ---- the last releases

-- An entry of a run was allowed at the table that it found.
allowed_at : (t : Table) (es : List Entry) (n : ℕ) (e : Entry) → Follows t es → slice_get es n ≡ Some e → May (table_after t (take n es)) e.call
allowed_at t [] n e follows at = cc
allowed_at t (x ∷ es) zero e follows at = let same : x ≡ e = cc in subst (λ (y : Entry). May t y.call) same follows.0
allowed_at t (x ∷ es) (suc n) e follows at = allowed_at (step t x.call).after es n e follows.2 at

leaves_only : (journal : List Entry) → IsRun journal → EachLeavesOnly journal
leaves_only journal run n e at =
    let t : Table = last_table (take n journal) in
    let now : ℕ = max t.moment e.call.at in
    let may : May t e.call = allowed_at empty_table journal n e run at in
    record { peers = λ p. (act_balance p t now e.call.act may).peers; keys = λ k. (act_balance k t now e.call.act may).keys }

pub last_releases : (journal : List Entry) → IsRun journal → AllReleased journal → LastReleases journal
last_releases journal run released = record {
  only = leaves_only journal run;
  all = released;
  once = (all_released journal run).0 released;
  peers = peers_stay_released journal run;
  keys = keys_stay_released journal run;
}
