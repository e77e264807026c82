use Rattle.ov_path.proofs.Going.{sent_step}
use Rattle.ov_path.proofs.Making.{sent_made}
use Rattle.ov_path.proofs.walk.send.Goals as goal

pub returns-clause-then : goal.returns-clause-then
returns-clause-then g c = rw (c.in_ok-datagram.ensures.ok, c.as_slice.ensures)
    (sent_step c.args.id c.pair_of.result.now c.sent_of-act.result c.in_ok-table.field-0 c.requires.1.0 c.in-Tx.is c.pair_of.ensures.has (rw (← c.as_slice-2.ensures) c.sent_of-act.ensures) c.in_ok-table.ensures.ok, tt)

pub returns-clause-made : goal.returns-clause-made
returns-clause-made g c = sent_made c.args.id c.sent_of-act.result c.in_ok-table.field-0 c.requires.1.0 c.in-Tx.is (rw (← c.as_slice-2.ensures) c.sent_of-act.ensures) c.in_ok-table.ensures.ok
