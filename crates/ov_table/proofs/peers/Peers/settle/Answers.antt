use Rattle.std.proofs.Common.{rules, arith, ◌≡◌, ◌≤◌, ◌+◌, ◌∙◌, sym, ap, length, false}
use Rattle.std.specs.Prelude.{None}
use Rattle.ov_model.specs.declared.reply.Reply.TheVariants as reply
use Rattle.ov_model.specs.Tables.{Peer, Table, change_first, has_serial, serials_of, keys_of}
use Rattle.ov_model.specs.Step.{is_there, received_peer, settled_peer, settled_as, floated}
use Rattle.ov_index.specs.Index.{Indexed}
use Rattle.ov_table.specs.Outcomes.{outcome_with}
use Rattle.ov_table.proofs.Outcomes.{plain_outcome, absent_same, settled_dying}
use Rattle.ov_model.proofs.Shapes.{settle_kept}
use Rattle.ov_table.proofs.Apart.{dying_kept, serials_kept, keys_kept}
use Rattle.ov_table.proofs.peers.Peers.settle.Goals as goal

pub returns-clause-ok : goal.returns-clause-ok
returns-clause-ok c =
    let live_is : c.self.inside.live.live ≡ c.args.self.now.live = ap (λ (x : Table). x.live) c.self.view_is in
    let absent : is_there c.args.peer c.self.inside.live.live ≡ false = search rules in
    let there : is_there c.args.peer c.args.self.now.live ≡ false = sym (ap (is_there c.args.peer) live_is) ∙ absent in
    let live : c.settle.new.self.live ≡ c.args.self.now.live = ap (λ (x : Indexed). x.live) c.in_ok-there.ensures.peers ∙ absent_same (has_serial c.args.peer) (λ p. settled_peer c.settled_as-settled.result c.args.inner (floated c.self.inside.live.live c.args.from (received_peer c.args.now c.args.outer p))) c.self.inside.live.live absent ∙ live_is in
    let dye : Peer → Peer = λ p. settled_peer c.settled_as-settled.result c.args.inner (received_peer c.args.now c.args.outer p) in
    let dying : c.settle-2.new.self.items ≡ change_first (has_serial c.args.peer) dye c.args.self.now.dying = c.settle-2.ensures.peers ∙ ap (λ (x : Table). change_first (has_serial c.args.peer) dye x.dying) c.self.view_is in
    let retired = ap (λ (x : Table). x.retired) c.self.view_is in
    let made = ap (λ (x : Table). x.made) c.self.view_is in
    let keys_made = ap (λ (x : Table). x.keys_made) c.self.view_is in
    plain_outcome _ c.plain-done.result (reply.Settled c.settled_as-settled.result) c.plain-done.ensures.reply c.plain-done.ensures.note c.plain-done.ensures.first c.plain-done.ensures.second
    ∙ (λ i. outcome_with (record { live = live i; dying = dying i; retired = retired i; made = made i; keys_made = keys_made i; moment = c.args.now }) (reply.Settled c.settled_as-settled.result) None None None)
    ∙ settled_dying c.args.self.now c.args.now c.args.peer c.args.from c.args.kind c.args.inner c.args.outer c.settled_as-settled.result (c.settled_as-settled.ensures ∙ ap (settled_as c.args.peer c.args.kind) live_is) there

pub invariant_of-self-then-there : goal.invariant_of-self-then-there
invariant_of-self-then-there c =
    let live : c.settle.new.self.live ≡ change_first (has_serial c.args.peer) (λ p. settled_peer c.settled_as-settled.result c.args.inner (floated c.self.inside.live.live c.args.from (received_peer c.args.now c.args.outer p))) c.self.inside.live.live = ap (λ (x : Indexed). x.live) c.in_ok-there.ensures.peers in
    let serials : serials_of c.settle.new.self.live ≡ serials_of c.self.inside.live.live = ap serials_of live ∙ serials_kept (has_serial c.args.peer) (λ p. settled_peer c.settled_as-settled.result c.args.inner (floated c.self.inside.live.live c.args.from (received_peer c.args.now c.args.outer p))) c.self.inside.live.live (settle_kept c.args.now c.self.inside.live.live c.args.from c.settled_as-settled.result c.args.inner c.args.outer) in
    let keys : keys_of c.settle.new.self.live ≡ keys_of c.self.inside.live.live = ap keys_of live ∙ keys_kept (has_serial c.args.peer) (λ p. settled_peer c.settled_as-settled.result c.args.inner (floated c.self.inside.live.live c.args.from (received_peer c.args.now c.args.outer p))) c.self.inside.live.live (settle_kept c.args.now c.self.inside.live.live c.args.from c.settled_as-settled.result c.args.inner c.args.outer) in
    let long : length c.settle.new.self.live ≡ length c.self.inside.live.live = c.in_ok-there.ensures.long in
    let fits : length c.self.inside.live.live + length c.self.inside.dying.items ≤ c.self.inside.made = c.self.invariant.1 in (
      c.self.invariant.0,
      omega arith,
      c.self.invariant.2,
      ap (λ (x : Indexed). x.made) c.in_ok-there.ensures.peers ∙ c.self.invariant.3,
      ap (λ (x : Indexed). x.keys_made) c.in_ok-there.ensures.peers ∙ c.self.invariant.4,
      rw serials c.self.invariant.5,
      rw keys c.self.invariant.6,
    )

pub invariant_of-self-2 : goal.invariant_of-self-2
invariant_of-self-2 c =
    let live : c.settle.new.self.live ≡ change_first (has_serial c.args.peer) (λ p. settled_peer c.settled_as-settled.result c.args.inner (floated c.self.inside.live.live c.args.from (received_peer c.args.now c.args.outer p))) c.self.inside.live.live = ap (λ (x : Indexed). x.live) c.in_ok-there.ensures.peers in
    let serials : serials_of c.settle.new.self.live ≡ serials_of c.self.inside.live.live = ap serials_of live ∙ serials_kept (has_serial c.args.peer) (λ p. settled_peer c.settled_as-settled.result c.args.inner (floated c.self.inside.live.live c.args.from (received_peer c.args.now c.args.outer p))) c.self.inside.live.live (settle_kept c.args.now c.self.inside.live.live c.args.from c.settled_as-settled.result c.args.inner c.args.outer) in
    let keys : keys_of c.settle.new.self.live ≡ keys_of c.self.inside.live.live = ap keys_of live ∙ keys_kept (has_serial c.args.peer) (λ p. settled_peer c.settled_as-settled.result c.args.inner (floated c.self.inside.live.live c.args.from (received_peer c.args.now c.args.outer p))) c.self.inside.live.live (settle_kept c.args.now c.self.inside.live.live c.args.from c.settled_as-settled.result c.args.inner c.args.outer) in
    let long : length c.settle.new.self.live ≡ length c.self.inside.live.live = c.in_ok-there.ensures.long in
    let fits : length c.self.inside.live.live + length c.self.inside.dying.items ≤ c.self.inside.made = c.self.invariant.1 in
    let dying : serials_of c.settle-2.new.self.items ≡ serials_of c.self.inside.dying.items = ap serials_of c.settle-2.ensures.peers ∙ serials_kept (has_serial c.args.peer) (λ p. settled_peer c.settled_as-settled.result c.args.inner (received_peer c.args.now c.args.outer p)) c.self.inside.dying.items (dying_kept c.args.now c.args.inner c.args.outer c.settled_as-settled.result) in
    let dying_long : length c.settle-2.new.self.items ≡ length c.self.inside.dying.items = c.settle-2.ensures.long in (
      c.self.invariant.0,
      omega arith,
      c.self.invariant.2,
      ap (λ (x : Indexed). x.made) c.in_ok-there.ensures.peers ∙ c.self.invariant.3,
      ap (λ (x : Indexed). x.keys_made) c.in_ok-there.ensures.peers ∙ c.self.invariant.4,
      rw (serials, dying) c.self.invariant.5,
      rw keys c.self.invariant.6,
    )
