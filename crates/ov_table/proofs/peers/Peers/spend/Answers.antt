use Rattle.std.proofs.Common.{rules, None, ◌≡◌, ◌∙◌, sym, true, false}
use Rattle.ov_model.specs.declared.reply.Reply.TheVariants as reply
use Rattle.ov_model.specs.Step as model
use Rattle.ov_model.specs.Tables.{by_serial, by_key, has_serial}
use Rattle.ov_table.specs.Outcomes.{outcome}
use Rattle.ov_table.proofs.Outcomes.{some_of, none_of, any_found, spent_found, spent_none, ok_found}
use Rattle.ov_table.proofs.peers.Peers.spend.Goals as goal

pub returns-then-not-has_serial-clause-ok : goal.returns-then-not-has_serial-clause-ok
returns-then-not-has_serial-clause-ok c =
    let gone : model.is_there c.args.peer c.args.self.now.live ≡ false = search rules in
    let none : by_serial c.args.peer c.args.self.now.live ≡ None = none_of (by_serial c.args.peer c.args.self.now.live) (sym (any_found (has_serial c.args.peer) c.args.self.now.live) ∙ gone) in
    rw (spent_none c.args.self.now c.args.now c.args.peer c.args.key none) (search rules)

pub returns-clause-ok : goal.returns-clause-ok
returns-clause-ok c =
    let there : model.is_there c.args.peer c.args.self.now.live ≡ true = search rules in
    let found = some_of (by_serial c.args.peer c.args.self.now.live) (sym (any_found (has_serial c.args.peer) c.args.self.now.live) ∙ there) in
    rw (spent_found c.args.self.now c.args.now c.args.peer c.args.key found.0 found.1)
    (ok_found (λ o p. outcome c.spend_there.new.self o ≡ model.where_found c.args.self.now c.args.now reply.AlreadyGone (by_key c.args.key p.slots) (model.spent_key c.args.self.now c.args.now c.args.peer c.args.key p))
    (by_serial c.args.peer c.args.self.now.live) found.0 c.spend_there.result found.1 c.spend_there.ensures.ok)
