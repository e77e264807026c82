-- What every turn of every lane keeps true.
use Rattle.std.specs.Prelude.{ℕ, ◌+◌, ◌<◌, ◌≤◌, ◌≡◌, List, ◌++◌, length, if◌then◌else◌, ◌==◌, true, slice_get, Some, ⊤}
use Rattle.std.specs.List.{AllByRecursion, AllPairs, list_any}
use Rattle.ov_base.specs.Sums.{total, between}
use Rattle.ov_base.specs.declared.address.Addr.{Addr}
use Rattle.ov_model.specs.declared.draw.Drawn.TheVariants as drawn
use Rattle.ov_model.specs.declared.entry.Entry.{Entry}
use Rattle.ov_model.specs.declared.line.Script.{Script}
use Rattle.ov_model.specs.declared.replay.ReplayEntry.{ReplayEntry}
use Rattle.ov_model.specs.declared.stand.Stand.{Stand}
use Rattle.ov_model.specs.declared.stand.Stand.TheVariants as stand
use Rattle.ov_model.specs.Events.{steps_of, steps_in, judgements_in, draws_in}
use Rattle.ov_model.specs.Keys.{key_of, ids_of, ids_under, spends}
use Rattle.ov_model.specs.Lanes.{LaneRuns}
use Rattle.ov_model.specs.Legal.{LinesRise, lane_lines}
use Rattle.ov_model.specs.Next.{stand_of}
use Rattle.ov_model.specs.Own.{mine, mine_shards}
use Rattle.ov_model.specs.Removals.{times}
use Rattle.ov_model.specs.Replay.{ShardJudges}
use Rattle.ov_model.specs.Tables.{Table, serials_of, key_serials}
use Rattle.ov_model.proofs.Tallies.{peer_stands, key_stands}
use Rattle.ov_path.specs.Desks.{Holding, NoHold, Both, PeerLeft}
use Rattle.ov_table.specs.Recorded.{IsTold}
use Rattle.ov_core.specs.Worlds.{World, Seat, lane_count, next_of, peer_holds, key_holds, peer_owes, key_owes}
use Rattle.ov_core.specs.Sessions.{Session, Lane}

-- ---- the world

-- What is held stands: the peer is live or dying, the key in a slot or retired.
abbrev pub HeldThere : Table → Holding → Type 0
HeldThere t NoHold = ⊤
HeldThere t (Both h) = (1 ≤ peer_stands h.peer t) × (1 ≤ key_stands h.key t)
HeldThere t (PeerLeft h) = 1 ≤ peer_stands h.peer t

-- A lane that found its key spent: the key's counter gave its last id.
abbrev pub IsDry : World → Holding → Stand → Type 0
IsDry w (Both h) (stand.Drew view drawn.Spent) = next_of w h.key ≡ 4294967296
IsDry w _ _ = ⊤

-- What is kept true of a lane's seat.
pub record SeatSound (w : World) (s : Seat) : Type 0 where
  pub there : HeldThere w.table.now s.hold
  pub dry : IsDry w s.hold (stand_of s.events)

-- The release of what is on its way out is owed exactly where nobody holds it, and once; nothing else is owed.
pub record Owes (w : World) : Type 0 where
  pub peers : (p : ℕ) → peer_owes p w.seats ≡ (if peer_holds p w.seats == 0 then times p (serials_of w.table.now.dying) else 0)
  pub keys : (k : ℕ) → key_owes k w.seats ≡ (if key_holds k w.seats == 0 then times k (key_serials w.table.now.retired) else 0)

-- What every event of every lane keeps true of the world.
pub record WorldSound (w : World) : Type 0 where
  pub told : IsTold w.table
  pub eight : length w.shards ≡ 8
  pub judges : (shard : ℕ) (rs : List ReplayEntry) → slice_get w.shards shard ≡ Some rs → ShardJudges shard rs
  pub made : length w.next ≡ w.table.now.keys_made
  pub most : (key : ℕ) → next_of w key ≤ 4294967296
  pub spent : (key : ℕ) → list_any (spends key) w.table.journal ≡ true → next_of w key ≡ 4294967296
  pub owes : Owes w
  pub seats : (i : ℕ) (s : Seat) → slice_get w.seats i ≡ Some s → SeatSound w s

-- ---- the lanes

-- The packet ids of a key that a lane sealed, and those that it drew for its line under way.
abbrev pub ids_drawn : ℕ → Lane → Seat → List ℕ
ids_drawn key lane s = ids_of lane.answers key ++ ids_under key (draws_in s.events)

-- A measure of a key's ids, summed over all lanes: of those that are sealed, and of those that are drawn for
-- lines under way.
abbrev pub over_lanes : (List ℕ → ℕ) → ℕ → Session → ℕ
over_lanes f key s = total (λ lane. f (ids_of lane.answers key)) s.lanes + total (λ seat. f (ids_under key (draws_in seat.events))) s.world.seats

-- Numbers that rise, all below a bound.
pub record RiseBelow (bound : ℕ) (ids : List ℕ) : Type 0 where
  pub rise : AllPairs (λ m n. m < n) ids
  pub below : AllByRecursion (λ n. n < bound) ids

-- The ids of a key that lanes sealed or drew are the numbers from the first on up to the counter, each once; in
-- each lane they rise.
pub record Counts (s : Session) (key : ℕ) : Type 0 where
  pub once : (n : ℕ) → over_lanes (times n) key s ≡ between s.world.first (next_of s.world key) n
  pub count : s.world.first + over_lanes length key s ≡ next_of s.world key
  pub rise : (i : ℕ) (lane : Lane) (seat : Seat) → slice_get s.lanes i ≡ Some lane → slice_get s.world.seats i ≡ Some seat → RiseBelow (next_of s.world key) (ids_drawn key lane seat)

-- By its own steps alone a lane runs: its first lines are answered by their paths, and its line under way made
-- the events of its seat.
pub record LaneSound (via : Addr → Addr) (journal : List Entry) (shards : List (List ReplayEntry)) (i : ℕ) (lane : Lane) (s : Seat) : Type 0 where
  pub runs : LaneRuns (key_of journal) via (mine i (steps_of journal)) (mine_shards i shards) i lane.lines lane.answers (steps_in s.events) (judgements_in s.events)
  pub rise : AllByRecursion (LinesRise i) (mine_shards i shards)

-- What every turn of every lane keeps true of a script that runs.
pub record Sound (via : Addr → Addr) (s : Session) : Type 0 where
  pub world : WorldSound s.world
  pub seated : length s.world.seats ≡ length s.lanes
  pub within : AllByRecursion (λ e. e.entry.place.lane < length s.lanes) (steps_of s.world.table.journal)
  pub judged_within : AllByRecursion (AllByRecursion (λ r. r.place.lane < length s.lanes)) s.world.shards
  pub lanes : (i : ℕ) (lane : Lane) (seat : Seat) → slice_get s.lanes i ≡ Some lane → slice_get s.world.seats i ≡ Some seat → LaneSound via s.world.table.journal s.world.shards i lane seat
  pub counts : (key : ℕ) → Counts s key

-- A script that runs is this one, with its send counters begun at `first`.
pub record IsOf (script : Script) (first : ℕ) (s : Session) : Type 0 where
  pub first_is : s.world.first ≡ first
  pub count : length s.lanes ≡ lane_count
  pub lines : (i : ℕ) (lane : Lane) → slice_get s.lanes i ≡ Some lane → lane.lines ≡ lane_lines script.lines i
