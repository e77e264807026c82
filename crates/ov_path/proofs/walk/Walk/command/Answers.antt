use Rattle.ov_model.specs.declared.act.Act.TheVariants as act
use Rattle.ov_path.proofs.Going.{command_step}
use Rattle.ov_path.proofs.Making.{begin_made, made_by}
use Rattle.ov_path.proofs.walk.Walk.command.Goals as goal

pub finish-requires : goal.finish-requires
finish-requires g c = λ κs l. (l, rw (c.enter.ensures, c.replied.ensures) (command_step c.args.command c.in_ok-reply.reply c.requires.1.0 c.requires.1.1 c.in_ok-reply.ensures.ok))

pub returns-clause-made : goal.returns-clause-made
returns-clause-made g c = made_by c.finish.result (begin_made (act.Do c.args.command) c.in_ok-reply.reply c.requires.1.0 c.requires.1.1 c.in_ok-reply.ensures.ok)
