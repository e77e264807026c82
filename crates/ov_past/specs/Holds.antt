-- What the line of a lane holds, as the walk over its desk sees it.
use Rattle.ov_model.specs.declared.hold.Owed.{Owed}
use Rattle.ov_model.specs.declared.hold.Owed.TheVariants as owed
use Rattle.ov_path.specs.Desks.{Holding, NoHold, Both, PeerLeft, peer_left}
use Rattle.ov_past.specs.declared.holding.Hold.{Hold}
use Rattle.ov_past.specs.declared.holding.Hold.TheVariants as hold

-- What is held, as a line sees it.
abbrev pub holding : Hold → Holding
holding hold.Nothing = NoHold
holding (hold.Both h) = Both h
holding (hold.PeerLeft h) = PeerLeft h

-- What is held on once it was given back: after the key the peer, and after the peer nothing.
abbrev pub hold_without : Owed → Holding → Holding
hold_without (owed.Key k) h = peer_left h
hold_without (owed.Peer p) h = NoHold
