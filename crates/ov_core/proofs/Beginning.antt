-- Before any turn a script is sound.
use Rattle.std.proofs.Common.{ℕ, zero, suc, ◌≡◌, ◌+◌, ◌≤◌, ◌<◌, List, [], length, refl, sym, ◌∙◌, ap, subst, arith}
use Rattle.std.specs.Prelude.{Some, replicate, map, slice_get}
use Rattle.std.specs.List.{AllByRecursion, range_with_len}
use Rattle.std.proofs.lemmas.Bool.Decides.{nat_tests}
use Rattle.std.proofs.lemmas.List.{length-map, length-replicate}
use Rattle.std.proofs.lemmas.List.FromFn.{length-range_with_len}
use Rattle.ov_base.specs.Sums.{total}
use Rattle.ov_base.specs.declared.address.Addr.{Addr}
use Rattle.ov_model.specs.declared.line.Line.{Line}
use Rattle.ov_model.specs.declared.line.Script.{Script}
use Rattle.ov_model.specs.declared.replay.ReplayEntry.{ReplayEntry}
use Rattle.ov_model.specs.Events.{shown_in, draws_in}
use Rattle.ov_model.specs.Keys.{ids_of, ids_under}
use Rattle.ov_model.specs.Legal.{LinesRise, lane_lines}
use Rattle.ov_model.specs.Limits.{shard_count}
use Rattle.ov_model.specs.Own.{mine_shards}
use Rattle.ov_model.specs.Removals.{times}
use Rattle.ov_model.specs.Replay.{ShardJudges}
use Rattle.ov_model.proofs.ReplayLemmas.{ShardJudges-nil}
use Rattle.ov_core.specs.Worlds.{Seat, lane_count, no_line, new_world, holds_peer, holds_key, is_peer, is_key}
use Rattle.ov_core.specs.Sessions.{Lane, new_lanes, begun}
use Rattle.ov_core.specs.Sounds.{SeatSound, WorldSound, LaneSound, over_lanes, Counts, Sound, IsOf}

-- ---- lists of one thing

pub get_replicate : {X : Type 0} (n k : ℕ) (a x : X) → slice_get (replicate n a) k ≡ Some x → x ≡ a
get_replicate zero k a x at = absurd (cc)
get_replicate (suc n) zero a x at = cc
get_replicate (suc n) (suc k) a x at = get_replicate n k a x at

pub total_replicate : {X : Type 0} (f : X → ℕ) (n : ℕ) (a : X) → f a ≡ 0 → total f (replicate n a) ≡ 0
total_replicate f zero a none = refl
total_replicate f (suc n) a none = omega (arith, none, total_replicate f n a none)

all_replicate : {X : Type 0} (P : X → Type 0) (n : ℕ) (a : X) → P a → AllByRecursion P (replicate n a)
all_replicate P zero a one = tt
all_replicate P (suc n) a one = (one, all_replicate P n a one)

all_mine : (P : List ReplayEntry → Type 0) (i n : ℕ) → P [] → AllByRecursion P (mine_shards i (replicate n []))
all_mine P i zero one = tt
all_mine P i (suc n) one = (one, all_mine P i n one)

none_shown : (i n lane line : ℕ) → shown_in (mine_shards i (replicate n [])) lane line ≡ []
none_shown i zero lane line = refl
none_shown i (suc n) lane line = none_shown i n lane line

-- ---- the lanes

-- A member of a list that is numbered from some number on.
pub get_numbered : {X : Type 0} (f : ℕ → X) (b n k : ℕ) (x : X) → slice_get (map f (range_with_len b n)) k ≡ Some x → x ≡ f (b + k)
get_numbered f b zero k x at = absurd (cc)
get_numbered f b (suc n) zero x at = (let same : b ≡ b + 0 = omega arith in let its : f b ≡ x = cc in sym its ∙ ap f same)
get_numbered f b (suc n) (suc k) x at = (let same : b + 1 + k ≡ b + suc k = omega arith in get_numbered f (b + 1) n k x at ∙ ap f same)

-- A lane that isn't begun is the script's.
new_lane_is : (lines : List Line) (n k : ℕ) (lane : Lane) → slice_get (map (λ i. record { lines = lane_lines lines i; answers = [] }) (range_with_len 0 n)) k ≡ Some lane → lane ≡ record { lines = lane_lines lines k; answers = [] }
new_lane_is lines n k lane at =
    let same : 0 + k ≡ k = omega arith in
    get_numbered (λ i. record { lines = lane_lines lines i; answers = [] }) 0 n k lane at ∙ ap (λ i. record { lines = lane_lines lines i; answers = [] }) same

total_new : (f : Lane → ℕ) (lines : List Line) (b n : ℕ) → ((i : ℕ) → f (record { lines = lane_lines lines i; answers = [] }) ≡ 0) → total f (map (λ i. record { lines = lane_lines lines i; answers = [] }) (range_with_len b n)) ≡ 0
total_new f lines b zero none = refl
total_new f lines b (suc n) none = omega (arith, none b, total_new f lines (b + 1) n none)

-- A lane without an answer of a world without an event.
lane_sound : (via : Addr → Addr) (n i : ℕ) (lane : Lane) (s : Seat) → lane.answers ≡ [] → s.events ≡ [] → LaneSound via [] (replicate n []) i lane s
lane_sound via n i lane s none no_events = rw (none, no_events) (record {
  runs = record {
    within = tt;
    judged_within = all_mine (AllByRecursion (λ r. r.place.lane ≡ i → r.place.line ≤ 0)) i n tt;
    falls = tt;
    each = λ k below. absurd (omega arith);
    under_way = refl;
    judging = none_shown i n i 0;
  };
  rise = all_mine (LinesRise i) i n tt;
})

length_new : (lines : List Line) → length (new_lanes lines) ≡ lane_count
length_new lines = length-map {B = Lane} (range_with_len 0 lane_count) (λ i. record { lines = lane_lines lines i; answers = [] }) ∙ length-range_with_len 0 lane_count

-- ---- the whole

world_begun : (first : ℕ) → first ≤ 4294967296 → WorldSound (new_world first)
world_begun first most = record {
  told = record { run = tt; last = refl; notes = refl };
  eight = length-replicate {A = List ReplayEntry} shard_count [];
  judges = λ k rs at. subst (ShardJudges k) (sym (get_replicate shard_count k [] rs at)) (ShardJudges-nil k);
  made = refl;
  most = λ key. most;
  spent = λ key spent. absurd (cc);
  owes = record {
    peers = λ p. total_replicate (λ (s : Seat). total (is_peer p) s.owing) lane_count no_line refl ∙ sym (rw (total_replicate (λ (s : Seat). holds_peer p s.hold) lane_count no_line refl) refl);
    keys = λ k. total_replicate (λ (s : Seat). total (is_key k) s.owing) lane_count no_line refl ∙ sym (rw (total_replicate (λ (s : Seat). holds_key k s.hold) lane_count no_line refl) refl);
  };
  seats = λ i s at. subst (SeatSound (new_world first)) (sym (get_replicate lane_count i no_line s at)) (record { there = tt; dry = tt });
}

counts_begun : (script : Script) (first key : ℕ) → Counts (begun script first) key
counts_begun script first key =
    let none : (f : List ℕ → ℕ) → f [] ≡ 0 → over_lanes f key (begun script first) ≡ 0 = λ f is.
    (let sealed = total_new (λ lane. f (ids_of lane.answers key)) script.lines 0 lane_count (λ i. is) in
    let drawn = total_replicate (λ (s : Seat). f (ids_under key (draws_in s.events))) lane_count no_line is in omega arith) in
    record {
      once = λ n. none (times n) refl ∙ grind (arith, nat_tests);
      count = (let zero_ids = none length refl in omega arith);
      rise = λ i lane s lane_is s_is.
          let answers : lane.answers ≡ [] = ap (λ (l : Lane). l.answers) (new_lane_is script.lines lane_count i lane lane_is) in
          let its : s ≡ no_line = get_replicate lane_count i no_line s s_is in
          rw (answers, its) (record { rise = λ i j d before below. absurd (omega arith); below = tt });
    }

pub sound_begun : (via : Addr → Addr) (script : Script) (first : ℕ) → first ≤ 4294967296 → Sound via (begun script first)
sound_begun via script first most = record {
  world = world_begun first most;
  seated = length-replicate lane_count no_line ∙ sym (length_new script.lines);
  within = tt;
  judged_within = all_replicate (AllByRecursion (λ (r : ReplayEntry). r.place.lane < length (new_lanes script.lines))) shard_count [] tt;
  lanes = λ i lane s lane_is s_is. lane_sound via shard_count i lane s
      (ap (λ (l : Lane). l.answers) (new_lane_is script.lines lane_count i lane lane_is))
      (ap (λ (x : Seat). x.events) (get_replicate lane_count i no_line s s_is));
  counts = counts_begun script first;
}

pub is_begun : (script : Script) (first : ℕ) → IsOf script first (begun script first)
is_begun script first = record {
  first_is = refl;
  count = length_new script.lines;
  lines = λ i lane at. ap (λ (l : Lane). l.lines) (new_lane_is script.lines lane_count i lane at);
}
