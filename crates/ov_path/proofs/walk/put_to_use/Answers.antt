use Rattle.ov_path.proofs.Going.{drew_step}
use Rattle.ov_path.proofs.Making.{drew_made}
use Rattle.ov_path.proofs.walk.put_to_use.Goals as goal

pub returns-in-Seal-clause-then : goal.returns-in-Seal-clause-then
returns-in-Seal-clause-then g c = (drew_step c.draw-drawn.result (rw (← c.in-Seal.is) c.requires.1.0) c.draw-drawn.ensures.drew, tt)

pub returns-in-Seal-clause-made : goal.returns-in-Seal-clause-made
returns-in-Seal-clause-made g c = drew_made {h = c.args.hold} c.draw-drawn.result (rw (← c.in-Seal.is) c.requires.1.0) c.draw-drawn.ensures.drew
