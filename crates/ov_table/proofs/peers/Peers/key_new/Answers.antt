use Rattle.std.proofs.Common.{rules, None, ◌≡◌}
use Rattle.ov_model.specs.Step as model
use Rattle.ov_model.specs.Tables.{by_id}
use Rattle.ov_table.specs.Outcomes.{outcome}
use Rattle.ov_table.proofs.Outcomes.{some_of, none_of, key_new_found, key_new_none, ok_found}
use Rattle.ov_table.proofs.peers.Peers.key_new.Goals as goal

pub returns-then-is_none-clause-ok : goal.returns-then-is_none-clause-ok
returns-then-is_none-clause-ok c =
    let none : by_id c.args.conf.now.peer c.args.self.now.live ≡ None = none_of (by_id c.args.conf.now.peer c.args.self.now.live) (search rules) in
    rw (key_new_none c.args.self.now c.args.now c.args.conf.now none) c.refuse.ensures.value

pub returns-clause-ok : goal.returns-clause-ok
returns-clause-ok c =
    let found = some_of (by_id c.args.conf.now.peer c.args.self.now.live) (search rules) in
    rw (key_new_found c.args.self.now c.args.now c.args.conf.now found.0 found.1)
    (ok_found (λ o p. outcome c.key_new_there.new.self o ≡ model.unless c.args.self.now c.args.now (model.key_new_checks c.args.self.now) (model.key_made c.args.self.now c.args.now c.args.conf.now p))
    (by_id c.args.conf.now.peer c.args.self.now.live) found.0 c.key_new_there.result found.1 c.key_new_there.ensures.ok)
