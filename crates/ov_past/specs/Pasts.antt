-- The events of a line, as its past keeps them: the last one, after those before it.
use Rattle.std.specs.Prelude.{List, [], ◌∷◌, ◌++◌}
use Rattle.ov_model.specs.declared.hold.Given.{Given}
use Rattle.ov_model.specs.declared.hold.Owed.{Owed}
use Rattle.ov_model.specs.declared.hold.Owed.TheVariants as owed
use Rattle.ov_model.specs.Events.{Event, Judged, Drew, GaveKey, GavePeer}
use Rattle.ov_path.specs.Desks.{stepped_as}
use Rattle.ov_past.specs.declared.past.Happening.{Happening}
use Rattle.ov_past.specs.declared.past.Happening.TheVariants as happening
use Rattle.ov_past.specs.declared.past.Last.{Last}
use Rattle.ov_past.specs.declared.past.Last.TheVariants as last

-- What giving back a key or a peer answered.
abbrev pub gave : Owed → Given → Event
gave (owed.Key k) g = GaveKey k g
gave (owed.Peer p) g = GavePeer p g

-- An event: what a step took out of slots stands in the table that it left.
abbrev pub event_of : Happening → Event
event_of (happening.Stepped s) = stepped_as s.place s.call.value s.reply.value s.left.value.taken
event_of (happening.Judged j) = Judged (record { place = j.place; key = j.key; id = j.id; at = j.at; verdict = j.verdict })
event_of (happening.Drew key d) = Drew key d
event_of (happening.Gave o g) = gave o g

-- The last event stands behind those before it.
abbrev pub events_of : Last → List Event
events_of last.Nothing = []
events_of (last.After before e) = before ++ event_of e ∷ []
