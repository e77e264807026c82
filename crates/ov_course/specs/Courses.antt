-- What a lane's line, and several of them, leave of the lane's share and of its desk.
use Rattle.std.specs.Prelude.{◌≡◌, ℕ, ◌+◌, ◌≤◌, Bool, true, List, [], ◌∷◌, ◌++◌, length, slice_get, Some}
use Rattle.ov_model.specs.declared.answer.Answer.{Answer}
use Rattle.ov_model.specs.declared.line.Line.{Line}
use Rattle.ov_model.specs.declared.place.Place.{Place}
use Rattle.ov_model.specs.Via.{via_of}
use Rattle.ov_replay.specs.Desk.{part_at}
use Rattle.ov_share.specs.Added.{HasAdded}
use Rattle.ov_share.specs.Shares.{Sharing, IsFree}
use Rattle.ov_share.specs.Keepings.{LaneKept, IsOrderly}
use Rattle.ov_desk.specs.Sittings.{Sitting, at_rest}

-- How many shares of the lock, of each shard and of the counters it has, and of which, is as it was.
pub record HasSameShares (old new : Sharing) : Type 0 where
  pub name : new.name ≡ old.name
  pub table : new.sight.share ≡ old.sight.share
  pub names : (i : ℕ) → (part_at new.parts i).name ≡ (part_at old.parts i).name
  pub parts : (i : ℕ) → (part_at new.parts i).share ≡ (part_at old.parts i).share
  pub counters : new.drawer.of ≡ old.drawer.of
  pub drawer : new.drawer.share ≡ old.drawer.share

-- Whether its lines were answered or not, the desk is at rest again at the same words: the lane holds and owes nothing, its own
-- entries are in order where they were, and it made entries of these places only.
pub record RestsAgain (lane : ℕ) (kind : Place → Type 0) (old new : Sitting) : Type 0 where
  pub rests : new ≡ at_rest old.common old.routes new.share
  pub free : IsFree new.share
  pub shares : HasSameShares old.share new.share
  pub orderly : IsOrderly lane old.share → IsOrderly lane new.share
  pub added : HasAdded kind old.share new.share

-- A line was answered: whichever lines the lane has, where by its own steps alone those before this one are answered, this one
-- is now answered too.
abbrev pub LineAnswered : Place → Line → (old new : Sitting) → Answer → Type 0
LineAnswered place line old new a = (lines : List Line) (answers : List Answer) → place.line ≡ length answers → slice_get lines (length answers) ≡ Some line
    → LaneKept (via_of old.routes) place.lane lines answers [] old.share → LaneKept (via_of old.routes) place.lane lines (answers ++ a ∷ []) [] new.share

-- Some lines stand in a lane's lines from a number on.
abbrev pub StandFrom : ℕ → (some all : List Line) → Type 0
StandFrom first some all = (i : ℕ) (line : Line) → slice_get some i ≡ Some line → slice_get all (first + i) ≡ Some line

-- Some lines were answered, one after the other, each with one of these answers: whichever lines the lane has, where by its own
-- steps alone those before these are answered, these are now answered too.
abbrev pub LinesAnswered : (lane first : ℕ) → List Line → (old new : Sitting) → List Answer → Type 0
LinesAnswered lane first some old new more = (lines : List Line) (answers : List Answer) → first ≡ length answers → StandFrom first some lines
    → LaneKept (via_of old.routes) lane lines answers [] old.share → LaneKept (via_of old.routes) lane lines (answers ++ more) [] new.share

-- The place of a line of the lane, from a number on.
pub record IsFrom (lane first : ℕ) (place : Place) : Type 0 where
  pub lane_is : place.lane ≡ lane
  pub from : first ≤ place.line

-- The lines of a list were run, one after the other, and answers stand behind those before. Where all were run, each has its
-- answer; else there was no memory, for a line or for the room of its answer, and nothing is said of the answers.
pub record LinesRan (lane first : ℕ) (lines : List Line) (old new : Sitting) (before after : List Answer) (all : Bool) : Type 0 where
  pub more : List Answer
  pub answers : after ≡ before ++ more
  pub whole : all ≡ true → length more ≡ length lines
  pub kept : all ≡ true → LinesAnswered lane first lines old new more
  pub rests : RestsAgain lane (IsFrom lane first) old new
