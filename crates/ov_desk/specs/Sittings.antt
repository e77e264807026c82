-- A lane's desk over the shared words: what it shows to the line that stands at it, and what each event makes of it.
use Rattle.std.specs.Prelude.{◌≡◌, ⊤, ℕ, List, [], ◌∷◌}
use Rattle.std.specs.List.{AllByRecursion}
use Rattle.ov_model.specs.declared.line.Route.{Route}
use Rattle.ov_model.specs.declared.hold.Owed.{Owed}
use Rattle.ov_model.specs.declared.hold.Owed.TheVariants as owed
use Rattle.ov_model.specs.declared.place.Place.{Place}
use Rattle.ov_model.specs.Events.{Event, Stepped, Judged, judgements_in, release_of}
use Rattle.ov_model.specs.Keys.{key_of}
use Rattle.ov_model.specs.Via.{via_of}
use Rattle.ov_path.specs.Desks.{Holding, NoHold, HoldsKey, LeftPeer, View, Did}
use Rattle.ov_path.specs.Walks.{IsOwn}
use Rattle.ov_share.specs.Shares.{Common, Sharing, IsFree}
use Rattle.ov_share.specs.Makings.{Makes, SawMore}

-- The words at which the lane stands, the script's routes, the lane's share, and its line under way: the events, what it
-- holds, and the releases that it owes.
pub record Sitting : Type 0 where
  pub common : Common
  pub routes : List Route
  pub share : Sharing
  pub events : List Event
  pub hold : Holding
  pub owing : List Owed

-- What the line sees. Of the keys it has what the history that the lane has seen says.
abbrev pub shown_of : Sitting → View
shown_of d = record { events = d.events; hold = d.hold; owing = d.owing; material = key_of d.share.sight.seen; via = via_of d.routes }

-- A line is judged once at most.
abbrev pub JudgesFirst : List Event → Event → Type 0
JudgesFirst events (Judged j) = judgements_in events ≡ []
JudgesFirst events _ = ⊤

-- An event of the line happened.
pub record Happened (old : Sitting) (e : Event) (new : Sitting) : Type 0 where
  pub common : new.common ≡ old.common
  pub routes : new.routes ≡ old.routes
  pub makes : Makes old.share e new.share
  pub first : JudgesFirst old.events e

-- Nothing happened, for want of memory.
pub record Stayed (old new : Sitting) : Type 0 where
  pub same : new ≡ record old { share = new.share }
  pub saw : SawMore old.share new.share

-- The desk before a line, or after one whose events are forgotten.
abbrev pub at_rest : Common → List Route → Sharing → Sitting
at_rest common routes share = record { common = common; routes = routes; share = share; events = []; hold = NoHold; owing = [] }

-- What may be given back: the key that is held, or the peer whose key was given back.
abbrev pub GivesBack : Holding → Owed → Type 0
GivesBack h (owed.Key k) = HoldsKey h k
GivesBack h (owed.Peer p) = LeftPeer h p

-- Some events of one line, one after the other, made this of a share.
abbrev pub MakesAll : Sharing → List Event → Sharing → Type 0
MakesAll old [] new = new ≡ old
MakesAll old (e ∷ es) new = (between : Sharing) × Makes old e between × MakesAll between es new

-- A share after some give-backs and releases of the line at a place.
pub record HasEnded (place : Place) (at : ℕ) (old new : Sharing) : Type 0 where
  pub events : List Event
  pub own : AllByRecursion (IsOwn place at) events
  pub makes : MakesAll old events new

-- The release that was owed first was made.
pub record WasReleased (place : Place) (at : ℕ) (old new : Sitting) : Type 0 where
  pub first : Owed
  pub rest : List Owed
  pub owing : old.owing ≡ first ∷ rest
  pub did : Did shown_of Happened old (Stepped (release_of place at first)) new

-- What the line held is given back.
pub record HasLetGo (old new : Sitting) : Type 0 where
  pub same : new ≡ record old { share = new.share; events = new.events; hold = NoHold; owing = new.owing }
  pub ended : (place : Place) (at : ℕ) → HasEnded place at old.share new.share

-- After want of memory the desk is at rest again: what the line held is given back, and what it owed is released.
pub record HasGivenUp (place : Place) (at : ℕ) (old new : Sitting) : Type 0 where
  pub rests : new ≡ at_rest old.common old.routes new.share
  pub free : IsFree new.share
  pub ended : HasEnded place at old.share new.share
