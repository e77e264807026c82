-- What one lane made of a history in which the steps of other lanes stand between.
use Rattle.std.specs.Prelude.{ℕ, ◌≡◌, ◌<◌, ◌≤◌, suc, List, [], ◌∷◌, ◌++◌, length, map, filter, if◌then◌else◌, ◌==◌}
use Rattle.std.specs.List.{AllByRecursion}
use mathlib.Core.Option.{Option, none, some}
use lib.ListN.{get_elem?}
use Rattle.ov_base.specs.Sums.{total, between}
use Rattle.ov_base.specs.declared.address.Addr.{Addr}
use Rattle.ov_model.specs.declared.entry.Entry.{Entry}
use Rattle.ov_model.specs.declared.line.Line.{Line}
use Rattle.ov_model.specs.declared.answer.Answer.{Answer}
use Rattle.ov_model.specs.declared.replay.ReplayEntry.{ReplayEntry}
use Rattle.ov_model.specs.Events.{Step, Judgement, steps_of}
use Rattle.ov_model.specs.Keys.{key_of}
use Rattle.ov_model.specs.Lanes.{LaneRuns}

-- Of the steps of all lanes those of one.
abbrev pub mine : ℕ → List Step → List Step
mine lane ss = filter (λ s. s.entry.place.lane == lane) ss

-- The replay steps of one lane in a shard.
abbrev pub mine_judged : ℕ → List ReplayEntry → List ReplayEntry
mine_judged lane rs = filter (λ r. r.place.lane == lane) rs

-- The replay steps of one lane in each shard.
abbrev pub mine_shards : ℕ → List (List ReplayEntry) → List (List ReplayEntry)
mine_shards lane shards = map (mine_judged lane) shards

module _ {X : Type 0} where
  -- The member, where there is one.
  abbrev pub if_any : Option X → List X
  if_any none = []
  if_any (some x) = x ∷ []

  -- The members of a list that stand at some positions, in the order of these.
  abbrev pub picked : List X → List ℕ → List X
  picked xs [] = []
  picked xs (p ∷ ps) = if_any (get_elem? xs p) ++ picked xs ps

  -- The positions of members that are named with theirs.
  abbrev pub positions : List (ℕ × X) → List ℕ
  positions own = map (λ e. e.0) own

  -- How many members are named at a position.
  abbrev pub times_at : ℕ → List (ℕ × X) → ℕ
  times_at p own = total (λ e. if e.0 == p then 1 else 0) own

  -- They are the whole list: each position is named once, with the member that stands there.
  pub record AreAll (xs : List X) (own : List (ℕ × X)) : Type 0 where
    pub once : (p : ℕ) → times_at p own ≡ between 0 (length xs) p
    pub members : AllByRecursion (λ e. get_elem? xs e.0 ≡ some e.1) own

-- Of named entries those of one lane.
abbrev pub own_by : ℕ → List (ℕ × Entry) → List (ℕ × Entry)
own_by lane own = filter (λ e. e.1.place.lane == lane) own

-- Positions that rise, none of them below b.
abbrev pub RiseFrom : ℕ → List ℕ → Type 0
RiseFrom b [] = Unit {0}
RiseFrom b (p ∷ ps) = (b ≤ p) × RiseFrom (suc p) ps

-- The steps of a history at the positions of some of its entries.
abbrev pub steps_at : List Entry → List (ℕ × Entry) → List Step
steps_at seen own = picked (steps_of seen) (positions own)

-- A lane runs by its own steps alone: the history that it has seen has them at these positions, whatever
-- stands between, and `shards` are its own replay steps.
pub record LaneStands (via : Addr → Addr) (lane : ℕ) (seen : List Entry) (own : List (ℕ × Entry)) (shards : List (List ReplayEntry)) (lines : List Line) (answers : List Answer) (now : List Step) (judged : List Judgement) : Type 0 where
  pub rise : RiseFrom 0 (positions own)
  pub below : AllByRecursion (λ e. e.0 < length seen) own
  pub placed : AllByRecursion (λ e. e.1.place.lane ≡ lane) own
  pub runs : LaneRuns (key_of seen) via (steps_at seen own) shards lane lines answers now judged
