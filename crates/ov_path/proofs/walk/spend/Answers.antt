use Rattle.ov_path.proofs.Going.{spend_step}
use Rattle.ov_path.proofs.Making.{spend_made}
use Rattle.ov_path.proofs.walk.spend.Goals as goal

pub returns-clause-then : goal.returns-clause-then
returns-clause-then g c = rw c.was_killed.ensures (spend_step c.in_ok-reply.reply c.requires.1 c.in_ok-reply.ensures.ok, tt)

pub returns-clause-made : goal.returns-clause-made
returns-clause-made g c = spend_made c.in_ok-reply.reply c.requires.1 c.in_ok-reply.ensures.ok
