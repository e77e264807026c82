-- The replay rule of a key, over the list of the ids that it has accepted. The rule knows no ring of marks and keeps no floor.
use Rattle.std.specs.Prelude.{◌≡◌, ℕ, ◌+◌, ◌-◌, ◌%◌, max, Bool, true, false, ◌==◌, nat_le, nat_lt, ◌||◌, if◌then◌else◌, List, [], ◌∷◌, ◌++◌, take, filter, slice_get, Some}
use Rattle.std.specs.List.{list_any, list_all}
use Rattle.ov_model.specs.Limits.{window_places, quiet_seconds, shard_count}
use Rattle.ov_model.specs.declared.place.Place.{Place}
use Rattle.ov_model.specs.declared.replay.ReplayEntry.{ReplayEntry}
use Rattle.ov_model.specs.declared.replay.Verdict.{Verdict}
use Rattle.ov_model.specs.declared.replay.Verdict.TheVariants.{Accept, Zero, Old, Below, Again}

-- An accepted packet id, with the window's moment at its acceptance.
pub record Accepted : Type 0 where
  pub id : ℕ
  pub moment : ℕ

-- The greatest id of a list, and 0 where there is none.
abbrev pub greatest_id : List Accepted → ℕ
greatest_id [] = 0
greatest_id (a ∷ l) = max a.id (greatest_id l)

-- The moment of the next accept, and m where no more comes.
abbrev pub next_moment : List Accepted → ℕ → ℕ
next_moment [] m = m
next_moment (a ∷ l) m = a.moment

-- Whether a list has a member.
abbrev pub has_items : List Accepted → Bool
has_items [] = false
has_items (a ∷ l) = true

-- The longest prefix that is followed by a gap: quiet_seconds or more from its last accept to the next moment.
unfoldable pub before_gap : List Accepted → ℕ → List Accepted
before_gap [] m = []
before_gap (a ∷ l) m =
    let later = before_gap l m in
    if has_items later || nat_le (a.moment + quiet_seconds) (next_moment l m) then a ∷ later else []

-- The id at or below which nothing is accepted any more at the moment m.
unfoldable pub floor_of : List Accepted → ℕ → ℕ
floor_of l m = greatest_id (before_gap l m)

-- What the rule says of an id at the window's moment m: the first row that applies.
unfoldable pub verdict_of : List Accepted → ℕ → ℕ → Verdict
verdict_of l id m =
    if id == 0 then Zero else
    (if list_all (λ a. nat_lt a.id id) l then Accept else
    (if nat_le window_places (greatest_id l - id) then Old else
    (if nat_le id (floor_of l m) then Below else
    (if list_any (λ a. a.id == id) l then Again else Accept))))

-- What a verdict adds to the list: Accept adds the id with its moment, and nothing else changes it.
abbrev pub accepted_by : Verdict → ℕ → ℕ → List Accepted
accepted_by Accept id m = record { id = id; moment = m } ∷ []
accepted_by Zero id m = []
accepted_by Old id m = []
accepted_by Below id m = []
accepted_by Again id m = []

-- The steps of one key, in their order.
abbrev pub steps_of : ℕ → List ReplayEntry → List ReplayEntry
steps_of key = filter (λ e. e.key == key)

-- The window's moment after some steps: the greatest `at`.
abbrev pub moment_of : List ReplayEntry → ℕ
moment_of [] = 0
moment_of (e ∷ es) = max e.at (moment_of es)

-- The ids that some steps accepted, with their moments.
abbrev pub accepts_of : List ReplayEntry → List Accepted
accepts_of [] = []
accepts_of (e ∷ es) = accepted_by e.verdict e.id e.moment ++ accepts_of es

-- The entry of a step after all earlier ones of its shard.
unfoldable pub judged : List ReplayEntry → Place → ℕ → ℕ → ℕ → ReplayEntry
judged earlier place key id at =
    let steps = steps_of key earlier in
    let moment = max (moment_of steps) at in
    record { place = place; key = key; id = id; at = at; moment = moment; verdict = verdict_of (accepts_of steps) id moment }

-- One step of a shard, after all earlier ones: its key belongs there, and its moment and verdict follow from that key's earlier steps.
pub record IsJudged (shard : ℕ) (earlier : List ReplayEntry) (e : ReplayEntry) : Type 0 where
  pub key : e.key % shard_count ≡ shard
  pub moment : e.moment ≡ max (moment_of (steps_of e.key earlier)) e.at
  pub verdict : e.verdict ≡ verdict_of (accepts_of (steps_of e.key earlier)) e.id e.moment

-- Each step of a shard, after those before it.
abbrev pub ShardJudges : ℕ → List ReplayEntry → Type 0
ShardJudges shard es = (i : ℕ) (e : ReplayEntry) → slice_get es i ≡ Some e → IsJudged shard (take i es) e
