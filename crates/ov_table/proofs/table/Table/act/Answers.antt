use Rattle.std.proofs.Common.{rules, arith, ◌+◌, ◌≤◌}
use Rattle.ov_table.specs.Recorded.{unreleased}
use Rattle.ov_table.proofs.Told.{told_after}
use Rattle.ov_table.proofs.table.Table.act.Goals as goal

pub invariant_of-self-2 : goal.invariant_of-self-2
invariant_of-self-2 c = (
  told_after
      (record { now = c.self.inside.peers; journal = c.self.inside.journal.items; notes = c.self.inside.notes.notes; taken = c.self.inside.taken.items })
      c.args.place
      c.args.call.now
      _
      (search rules)
      (search rules)
      c.self.invariant.0,
  (let room : unreleased c.self.inside.peers + 3 ≤ c.in-Some.room = search rules in omega (arith, c.in_ok-reserve.ensures.ok, c.in_ok-outcome.ensures.more)),
)
