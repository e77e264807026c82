use Rattle.std.proofs.Common.{rules, arith}
use Rattle.ov_model.specs.declared.act.Act.TheVariants as act
use Rattle.ov_table.proofs.Told.{told_after}
use Rattle.ov_table.proofs.table.Table.release_key.Goals as goal

pub invariant_of-self : goal.invariant_of-self
invariant_of-self c = (
  told_after
      (record { now = c.self.inside.peers; journal = c.self.inside.journal.items; notes = c.self.inside.notes.notes; taken = c.self.inside.taken.items })
      c.args.place
      (record { at = c.args.at; act = act.KeyReleased c.args.serial })
      _
      (search rules)
      (search rules)
      c.self.invariant.0,
  omega arith,
)
