use Rattle.std.proofs.Common.{sym, ◌∙◌}
use Rattle.ov_path.proofs.Ticks.{kept_step, skipped_step}
use Rattle.ov_path.proofs.Making.{look_made}
use Rattle.ov_path.proofs.ping.look.Goals as goal

pub returns-in-Hold-clause-then : goal.returns-in-Hold-clause-then
returns-in-Hold-clause-then g c = rw (c.put_back.ensures, c.in_ok-outs.ensures.ok)
    (kept_step c.in-Hold.hold c.in-Ok.reply c.requires.1.0 c.requires.1.1.0 c.requires.1.1.1.1 (sym c.next_due.ensures.first ∙ c.in-Some.is) c.in-Hold.is c.in-Ok.ensures.ok)

pub returns-in-Skip-clause-then : goal.returns-in-Skip-clause-then
returns-in-Skip-clause-then g c = rw (c.tell.ensures, c.in_ok-outs.ensures.ok)
    (skipped_step c.in-Ok.reply c.requires.1.0 c.requires.1.1.0 c.requires.1.1.1.1 (sym c.next_due.ensures.first ∙ c.in-Some.is) c.in-Skip.is c.in-Ok.ensures.ok)

pub returns-in-Hold-clause-made : goal.returns-in-Hold-clause-made
returns-in-Hold-clause-made g c = look_made c.in-Ok.reply c.requires.1.0 c.requires.1.1.0 c.requires.1.1.1.1 (sym c.next_due.ensures.first ∙ c.in-Some.is) c.in-Ok.ensures.ok

pub returns-in-Skip-clause-made : goal.returns-in-Skip-clause-made
returns-in-Skip-clause-made g c = look_made c.in-Ok.reply c.requires.1.0 c.requires.1.1.0 c.requires.1.1.1.1 (sym c.next_due.ensures.first ∙ c.in-Some.is) c.in-Ok.ensures.ok
