use Rattle.std.proofs.Common.{◌≡◌, ◌++◌}
use Rattle.std.specs.Prelude.{map, drop}
use Rattle.ov_model.specs.Tables.{view_of}
use Rattle.ov_index.specs.Index.{present}
use Rattle.ov_index.proofs.places.views_of.Given as goal

-- What is shown and what is left to show is what all show.
abbrev pub invariant-loop-slot : goal.invariant-loop-slot
invariant-loop-slot l = l.views.items ++ map view_of (present (drop l.slot-index l.peers)) ≡ map view_of (present l.peers)
