use Rattle.ov_path.proofs.Going.{spend_reply}
use Rattle.ov_path.proofs.Ticks.{ping_spend_step}
use Rattle.ov_path.proofs.Making.{ping_spend_made}
use Rattle.ov_path.proofs.ping.spend.Goals as goal

pub returns-in-Ok-clause-then : goal.returns-in-Ok-clause-then
returns-in-Ok-clause-then g c = rw (c.tell.ensures, c.in_ok-outs.ensures.ok, c.was_killed.ensures)
    (ping_spend_step c.in-Ok.reply (spend_reply c.in-Ok.reply c.in-Ok.ensures.ok.fits) c.requires.1 c.in-Ok.ensures.ok)

pub returns-in-Ok-clause-made : goal.returns-in-Ok-clause-made
returns-in-Ok-clause-made g c = ping_spend_made {peer = c.args.peer} {h = c.args.hold} {p = c.args.pings.now} c.in-Ok.reply c.requires.1 c.in-Ok.ensures.ok
