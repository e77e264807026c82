use Rattle.ov_hold.proofs.Fitting.{link_small}
use Rattle.ov_hold.proofs.Holding.{link_step}
use Rattle.ov_hold.proofs.hold.link.Goals as goal

pub add_inside-requires-clause-cell : goal.add_inside-requires-clause-cell
add_inside-requires-clause-cell g c κs within = let it = c.args.inside.now in link_small it.seat.me.0 c.args.cell it.fit.1 c.requires.left

pub add_inside-requires-clause-step : goal.add_inside-requires-clause-step
add_inside-requires-clause-step g c κs within = let it = c.args.inside.now in link_step g.S.Kept.history g.S.Kept.live g.S.Kept.dying _ _ _ _ _ it.place.0 it.place.1 it.place.2 it.fit.0 it.fit.1 c.requires.left
