use Rattle.std.proofs.Common.{sym, ◌∙◌}
use Rattle.ov_path.proofs.Beginning.{begins_hop}
use Rattle.ov_path.proofs.Making.{nothing_made}
use Rattle.ov_path.proofs.Ending.{nothing_over}
use Rattle.ov_path.proofs.walk.Walk.begin.Goals as goal

pub returns-in-AtOnce-clause-then : goal.returns-in-AtOnce-clause-then
returns-in-AtOnce-clause-then g c = nothing_over c.in-AtOnce.answer c.requires.1.0 (sym (c.in-AtOnce.ensures.begins ∙ begins_hop g.via _ c.args.line.now.deed c.requires.1.1))

pub returns-in-AtOnce-clause-made : goal.returns-in-AtOnce-clause-made
returns-in-AtOnce-clause-made g c = nothing_made c.in-AtOnce.answer c.requires.1.0 (sym (c.in-AtOnce.ensures.begins ∙ begins_hop g.via _ c.args.line.now.deed c.requires.1.1))

pub command-requires : goal.command-requires
command-requires g c = λ κs l. (l, (c.requires.1.0, sym (c.in-Command.ensures.begins ∙ begins_hop g.via _ c.args.line.now.deed c.requires.1.1)))

pub look-requires : goal.look-requires
look-requires g c = λ κs l. (l, (c.requires.1.0, (sym (c.in-Look.ensures.begins ∙ begins_hop g.via _ c.args.line.now.deed c.requires.1.1), (c.in-Look.ensures.look.0, c.in-Look.ensures.look.1))))
