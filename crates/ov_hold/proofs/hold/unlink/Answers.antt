use Rattle.ov_hold.proofs.Fitting.{unlink_small}
use Rattle.ov_hold.proofs.Holding.{unlink_step}
use Rattle.ov_hold.proofs.hold.unlink.Goals as goal

pub sub_inside-requires-clause-cell : goal.sub_inside-requires-clause-cell
sub_inside-requires-clause-cell g c κs within = let it = c.args.inside.now in unlink_small it.seat.me.0 c.args.cell it.fit.1 c.requires.left

pub sub_inside-requires-clause-step : goal.sub_inside-requires-clause-step
sub_inside-requires-clause-step g c κs within = let it = c.args.inside.now in unlink_step g.S.Kept.history g.S.Kept.live g.S.Kept.dying _ _ _ _ _ it.place.0 it.place.1 it.place.2 it.fit.0 it.fit.1 c.requires.left
