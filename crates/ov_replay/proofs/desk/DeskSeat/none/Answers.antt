use Rattle.std.proofs.Common.{ap, ◌∙◌}
use Rattle.ov_replay.specs.Desk.{part_in}
use Rattle.ov_replay.proofs.Places.{seen_part}
use Rattle.ov_replay.proofs.desk.DeskSeat.none.Goals as goal

pub returns : goal.returns
returns c s = seen_part c.in_ok-no_parts.field-0.items s ∙ ap part_in (c.in_ok-no_parts.ensures.none s)
