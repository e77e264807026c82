-- What each event of a lane's line makes of the lane's share.
use Rattle.std.specs.Prelude.{◌≡◌, ⊤, ℕ, ◌<◌, ◌≤◌, List, [], ◌∷◌, ◌++◌, length, Contains}
use mathlib.Core.List.{IsPrefix}
use mathlib.Core.Option.{some}
use lib.ListN.{get_elem?}
use Rattle.ov_model.specs.declared.act.Act.{Act}
use Rattle.ov_model.specs.declared.act.Act.TheVariants as act
use Rattle.ov_model.specs.declared.place.Place.{Place}
use Rattle.ov_model.specs.declared.replay.Verdict.{Verdict}
use Rattle.ov_model.specs.Events.{Event, Stepped, Judged, Drew, GaveKey, GavePeer, Step, steps_of}
use Rattle.ov_replay.specs.Desk.{part_at, HasStepped, HasLooked}
use Rattle.ov_ticket.specs.Tickets.{HasSeen}
use Rattle.ov_share.specs.Shares.{Sharing, HasDrawn}

-- A step that says that a key is spent is made only where the lane's counter was asked and gave none: the key stands among
-- those that the lane found spent.
abbrev pub SpendKnown : List ℕ → Act → Type 0
SpendKnown spent (act.Spend peer key) = Contains spent key
SpendKnown spent _ = ⊤

-- A step of the table was made, behind all that the lane had seen: it stands at a position of what is seen now, and is the
-- lane's own.
pub record HasMade (old new : Sharing) (s : Step) : Type 0 where
  pub at : ℕ
  pub front : IsPrefix old.sight.seen new.sight.seen
  pub late : length old.sight.seen ≤ at
  pub is : get_elem? (steps_of new.sight.seen) at ≡ some s
  pub own : new.sight.own ≡ old.sight.own ++ (at, s.entry) ∷ []
  pub share : new.sight.share ≡ old.sight.share
  pub spent : SpendKnown old.drawer.spent s.entry.call.act
  pub same : new ≡ record old { sight = new.sight }

-- A packet id was judged, in the shard of its key.
pub record HasJudged (old new : Sharing) (place : Place) (key id at : ℕ) (v : Verdict) : Type 0 where
  pub stepped : HasStepped old.parts new.parts place key id at v
  pub same : new ≡ record old { parts = new.parts }

-- A hold was given back: what the lane has seen and made is as it was.
pub record HasGiven (old new : Sharing) : Type 0 where
  pub share : new.sight.share ≡ old.sight.share
  pub seen : new.sight.seen ≡ old.sight.seen
  pub own : new.sight.own ≡ old.sight.own
  pub same : new ≡ record old { sight = new.sight }

-- What an event makes of a share.
abbrev pub Makes : Sharing → Event → Sharing → Type 0
Makes old (Stepped s) new = HasMade old new s
Makes old (Judged j) new = HasJudged old new j.place j.key j.id j.at j.verdict
Makes old (Drew key d) new = HasDrawn old new key d
Makes old (GaveKey key g) new = HasGiven old new
Makes old (GavePeer peer g) new = HasGiven old new

-- Nothing was made for want of memory, though more of the histories may have been seen.
pub record SawMore (old new : Sharing) : Type 0 where
  pub table : HasSeen old.sight new.sight
  pub shards : (i : ℕ) → HasLooked (part_at old.parts i) (part_at new.parts i)
  pub drawer : new.drawer ≡ old.drawer
  pub name : new.name ≡ old.name
