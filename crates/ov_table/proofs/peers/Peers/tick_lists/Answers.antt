use Rattle.std.proofs.Common.{rules, ℕ, ◌≡◌, ◌∙◌, ap, subst, List}
use Rattle.std.specs.Prelude.{map, filter, Some}
use Rattle.ov_keepalive.specs.Rule as rule
use Rattle.ov_model.specs.declared.command.Reason.TheVariants.{Expired}
use Rattle.ov_model.specs.declared.reply.Reply.TheVariants as reply
use Rattle.ov_model.specs.Tables.{Table, serials_of, by_rising_id}
use Rattle.ov_model.specs.Step.{removals, expired_of, due_of, tick}
use Rattle.ov_index.specs.Ticks.{facts_of, is_asked}
use Rattle.ov_table.specs.Picked.{picked, left}
use Rattle.ov_table.proofs.Picking.{once_live, tick_is, expired_is, due_is}
use Rattle.ov_table.proofs.peers.Peers.tick_lists.Goals as goal

pub returns : goal.returns
returns c =
    let t : Table = record { live = c.self.inside.live.live; dying = c.self.inside.dying.items; retired = c.self.inside.retired.items; made = c.self.inside.made; keys_made = c.self.inside.keys_made; moment = c.self.inside.moment } in
    let es : List ℕ = (c.in_ok-found.found).expired in
    let ds : List ℕ = (c.in_ok-found.found).due in
    let lent : c.deref.result.now ≡ c.in_ok-facts.facts.items = search rules in
    let asked : c.in_ok-facts.facts.items ≡ map facts_of (filter (is_asked (Some c.args.now)) (by_rising_id t.live)) = search rules in
    let expired : es ≡ serials_of (expired_of c.args.now t.live) = c.in_ok-found.ensures.expired ∙ ap (rule.expired c.args.now) (lent ∙ asked) ∙ expired_is c.args.now (by_rising_id t.live) in
    let due : ds ≡ serials_of (due_of c.args.now t.live) = c.in_ok-found.ensures.due ∙ ap (rule.due c.args.now) (lent ∙ asked) ∙ due_is c.args.now (by_rising_id t.live) in
    subst (λ (u : Table). tick u c.args.now ≡ removals u c.args.now Expired (picked es u.live) (left es u.live) (reply.Ticked es ds)) c.self.view_is
    (tick_is t c.args.now es ds (once_live t.live t.dying t.made c.self.invariant.5) expired due)
