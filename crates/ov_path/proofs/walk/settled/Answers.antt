use Rattle.std.proofs.Common.{refl, ◌∙◌}
use Rattle.ov_path.proofs.Going.{settled_step}
use Rattle.ov_path.proofs.Making.{settled_made}
use Rattle.ov_path.proofs.walk.settled.Goals as goal

pub returns-clause-then : goal.returns-clause-then
returns-clause-then g c = settled_step {bytes = c.in-Rx.datagram} c.in-Settled.settled c.settle_of-act.result c.in_ok-settled.field-0 c.requires.1.0 c.in-Rx.is
    (c.settle_of-act.ensures ∙ rw (c.requires.1.1.0, c.as_slice.ensures) refl) c.in-Settled.is c.in_ok-settled.ensures.ok

pub returns-clause-made : goal.returns-clause-made
returns-clause-made g c = settled_made {bytes = c.in-Rx.datagram} c.settle_of-act.result c.in_ok-settled.field-0 c.requires.1.0 c.in-Rx.is
    (c.settle_of-act.ensures ∙ rw (c.requires.1.1.0, c.as_slice.ensures) refl) c.in_ok-settled.ensures.ok
