use Rattle.std.proofs.Common.{rules, None, ◌≡◌, [], ◌∷◌}
use Rattle.ov_model.specs.declared.reply.Reply.TheVariants as reply
use Rattle.ov_model.specs.Step as model
use Rattle.ov_model.specs.Tables.{has_id, by_id, without_first}
use Rattle.ov_table.specs.Outcomes.{outcome}
use Rattle.ov_table.proofs.Outcomes.{some_of, none_of, removed_found, removed_none, ok_found}
use Rattle.ov_table.proofs.peers.Peers.remove.Goals as goal

pub returns-then-is_none-clause-ok : goal.returns-then-is_none-clause-ok
returns-then-is_none-clause-ok c =
    let none : by_id c.args.id c.args.self.now.live ≡ None = none_of (by_id c.args.id c.args.self.now.live) (search rules) in
    rw (removed_none c.args.self.now c.args.now c.args.id c.args.reason none) c.refuse.ensures.value

pub returns-clause-ok : goal.returns-clause-ok
returns-clause-ok c =
    let found = some_of (by_id c.args.id c.args.self.now.live) (search rules) in
    rw (removed_found c.args.self.now c.args.now c.args.id c.args.reason found.0 found.1)
    (ok_found (λ o p. outcome c.remove_there.new.self o ≡ model.removals c.args.self.now c.args.now c.args.reason (p ∷ []) (without_first (has_id c.args.id) c.args.self.now.live) (reply.Removed (p.serial ∷ [])))
    (by_id c.args.id c.args.self.now.live) found.0 c.remove_there.result found.1 c.remove_there.ensures.ok)
