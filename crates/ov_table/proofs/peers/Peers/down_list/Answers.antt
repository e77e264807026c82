use Rattle.std.proofs.Common.{rules, ℕ, ◌≡◌, ◌∙◌, ap, subst, List}
use Rattle.std.specs.Prelude.{map, filter, None}
use Rattle.ov_keepalive.specs.declared.tick.TickFacts.{TickFacts}
use Rattle.ov_model.specs.declared.command.Reason.TheVariants.{Teardown}
use Rattle.ov_model.specs.declared.reply.Reply.TheVariants as reply
use Rattle.ov_model.specs.Tables.{Table, serials_of, by_rising_id}
use Rattle.ov_model.specs.Step.{removals, down}
use Rattle.ov_index.specs.Ticks.{facts_of, is_asked}
use Rattle.ov_table.specs.Picked.{picked, left}
use Rattle.ov_table.proofs.Picking.{once_live, down_is, all_asked}
use Rattle.ov_table.proofs.peers.Peers.down_list.Goals as goal

pub returns : goal.returns
returns c now =
    let t : Table = record { live = c.self.inside.live.live; dying = c.self.inside.dying.items; retired = c.self.inside.retired.items; made = c.self.inside.made; keys_made = c.self.inside.keys_made; moment = c.self.inside.moment } in
    let gone : List ℕ = c.in_ok-gone.gone in
    let lent : c.deref.result.now ≡ c.in_ok-facts.facts.items = search rules in
    let asked : c.in_ok-facts.facts.items ≡ map facts_of (filter (is_asked None) (by_rising_id t.live)) = search rules in
    let all : gone ≡ serials_of (by_rising_id t.live) = c.in_ok-gone.ensures ∙ ap (map (λ (f : TickFacts). f.serial)) (lent ∙ asked) ∙ all_asked (by_rising_id t.live) in
    subst (λ (u : Table). down u now ≡ removals u now Teardown (picked gone u.live) (left gone u.live) (reply.Removed gone)) c.self.view_is
    (down_is t now gone (once_live t.live t.dying t.made c.self.invariant.5) all)
