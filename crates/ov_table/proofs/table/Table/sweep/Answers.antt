use Rattle.std.proofs.Common.{rules, arith, ◌+◌, ◌*◌, ◌≤◌, ◌≡◌, length}
use Rattle.ov_table.specs.Recorded.{unreleased}
use Rattle.ov_table.proofs.Told.{told_after}
use Rattle.ov_table.proofs.table.Table.sweep.Goals as goal

pub invariant_of-self-2 : goal.invariant_of-self-2
invariant_of-self-2 c = (
  told_after
      (record { now = c.self.inside.peers; journal = c.self.inside.journal.items; notes = c.self.inside.notes.notes; taken = c.self.inside.taken.items })
      c.args.place
      c.args.call
      _
      (search rules)
      (search rules)
      c.self.invariant.0,
  (let count : length c.args.gone.now ≡ c.in-Ok.count = search rules in
      let room : unreleased c.self.inside.peers + 2 * c.in-Ok.count + 3 ≤ c.in-Some.room = search rules in
      omega (arith, c.reserve.ensures.len, c.in_ok-reserve.ensures.ok, c.in_ok-remove_all.ensures.more, c.push_within.ensures.len, c.push_within.ensures.capacity)),
)
