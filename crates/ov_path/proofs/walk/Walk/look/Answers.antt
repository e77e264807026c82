use Rattle.std.proofs.Common.{refl}
use Rattle.ov_model.specs.declared.answer.DropCause.TheVariants as drop
use Rattle.ov_path.specs.Walks.{made}
use Rattle.ov_path.proofs.Going.{looked_step}
use Rattle.ov_path.proofs.Making.{begin_made}
use Rattle.ov_path.proofs.Ending.{missed_over}
use Rattle.ov_path.proofs.walk.Walk.look.Goals as goal

pub returns-in-Hold-clause-then : goal.returns-in-Hold-clause-then
returns-in-Hold-clause-then g c = rw c.enter.ensures (looked_step c.args.act c.in-Hold.hold c.args.purpose c.in_ok-reply.reply c.requires.1.0 c.requires.1.1.0 c.requires.1.1.1.0 c.requires.1.1.1.1 c.in-Hold.is c.in_ok-reply.ensures.ok, tt)

pub returns-in-NoPeer-clause-then : goal.returns-in-NoPeer-clause-then
returns-in-NoPeer-clause-then g c = missed_over c.args.act c.in_ok-reply.reply drop.NoPeer c.requires.1.0 c.requires.1.1.0 c.requires.1.1.1.0 (rw c.in-NoPeer.is refl) c.in_ok-reply.ensures.ok

pub returns-in-NoKey-clause-then : goal.returns-in-NoKey-clause-then
returns-in-NoKey-clause-then g c = missed_over c.args.act c.in_ok-reply.reply drop.NoKey c.requires.1.0 c.requires.1.1.0 c.requires.1.1.1.0 (rw c.in-NoKey.is refl) c.in_ok-reply.ensures.ok

pub returns-in-Hold-clause-made : goal.returns-in-Hold-clause-made
returns-in-Hold-clause-made g c = begin_made c.args.act c.in_ok-reply.reply c.requires.1.0 c.requires.1.1.0 c.in_ok-reply.ensures.ok

pub returns-in-NoPeer-clause-made : goal.returns-in-NoPeer-clause-made
returns-in-NoPeer-clause-made g c = made (begin_made c.args.act c.in_ok-reply.reply c.requires.1.0 c.requires.1.1.0 c.in_ok-reply.ensures.ok)

pub returns-in-NoKey-clause-made : goal.returns-in-NoKey-clause-made
returns-in-NoKey-clause-made g c = made (begin_made c.args.act c.in_ok-reply.reply c.requires.1.0 c.requires.1.1.0 c.in_ok-reply.ensures.ok)
