use Rattle.std.proofs.Common.{rules, arith, ◌≡◌, ◌≤◌, ◌+◌, ◌∙◌, sym, ap, length, false}
use Rattle.std.specs.Prelude.{None}
use Rattle.ov_model.specs.declared.reply.Reply.TheVariants as reply
use Rattle.ov_model.specs.Tables.{Peer, Table, change_first, has_serial, serials_of, keys_of}
use Rattle.ov_model.specs.Step.{is_there, sent_peer}
use Rattle.ov_index.specs.Index.{Indexed}
use Rattle.ov_table.specs.Outcomes.{outcome_with}
use Rattle.ov_table.proofs.Outcomes.{plain_outcome, absent_same, sent_dying}
use Rattle.ov_table.proofs.Apart.{sent_kept, serials_kept, keys_kept}
use Rattle.ov_table.proofs.peers.Peers.sent.Goals as goal

pub returns-clause-value : goal.returns-clause-value
returns-clause-value c =
    let live_is : c.self.inside.live.live ≡ c.args.self.now.live = ap (λ (x : Table). x.live) c.self.view_is in
    let absent : is_there c.args.peer c.self.inside.live.live ≡ false = search rules in
    let there : is_there c.args.peer c.args.self.now.live ≡ false = sym (ap (is_there c.args.peer) live_is) ∙ absent in
    let live : c.sent.new.self.live ≡ c.args.self.now.live = ap (λ (x : Indexed). x.live) c.sent.ensures.peers ∙ absent_same (has_serial c.args.peer) (sent_peer c.args.now c.args.inner c.args.outer c.args.ping) c.self.inside.live.live absent ∙ live_is in
    let dye : Peer → Peer = sent_peer c.args.now c.args.inner c.args.outer c.args.ping in
    let dying : c.sent-2.new.self.items ≡ change_first (has_serial c.args.peer) dye c.args.self.now.dying = c.sent-2.ensures.peers ∙ ap (λ (x : Table). change_first (has_serial c.args.peer) dye x.dying) c.self.view_is in
    let retired = ap (λ (x : Table). x.retired) c.self.view_is in
    let made = ap (λ (x : Table). x.made) c.self.view_is in
    let keys_made = ap (λ (x : Table). x.keys_made) c.self.view_is in
    plain_outcome _ c.plain-done.result (reply.Done) c.plain-done.ensures.reply c.plain-done.ensures.note c.plain-done.ensures.first c.plain-done.ensures.second
    ∙ (λ i. outcome_with (record { live = live i; dying = dying i; retired = retired i; made = made i; keys_made = keys_made i; moment = c.args.now }) (reply.Done) None None None)
    ∙ sent_dying c.args.self.now c.args.now c.args.peer c.args.inner c.args.outer c.args.ping there

pub invariant_of-self : goal.invariant_of-self
invariant_of-self c =
    let live : c.sent.new.self.live ≡ change_first (has_serial c.args.peer) (sent_peer c.args.now c.args.inner c.args.outer c.args.ping) c.self.inside.live.live = ap (λ (x : Indexed). x.live) c.sent.ensures.peers in
    let serials : serials_of c.sent.new.self.live ≡ serials_of c.self.inside.live.live = ap serials_of live ∙ serials_kept (has_serial c.args.peer) (sent_peer c.args.now c.args.inner c.args.outer c.args.ping) c.self.inside.live.live (sent_kept c.args.now c.args.inner c.args.outer c.args.ping) in
    let keys : keys_of c.sent.new.self.live ≡ keys_of c.self.inside.live.live = ap keys_of live ∙ keys_kept (has_serial c.args.peer) (sent_peer c.args.now c.args.inner c.args.outer c.args.ping) c.self.inside.live.live (sent_kept c.args.now c.args.inner c.args.outer c.args.ping) in
    let long : length c.sent.new.self.live ≡ length c.self.inside.live.live = c.sent.ensures.long in
    let fits : length c.self.inside.live.live + length c.self.inside.dying.items ≤ c.self.inside.made = c.self.invariant.1 in (
      c.self.invariant.0,
      omega arith,
      c.self.invariant.2,
      ap (λ (x : Indexed). x.made) c.sent.ensures.peers ∙ c.self.invariant.3,
      ap (λ (x : Indexed). x.keys_made) c.sent.ensures.peers ∙ c.self.invariant.4,
      rw serials c.self.invariant.5,
      rw keys c.self.invariant.6,
    )

pub invariant_of-self-2 : goal.invariant_of-self-2
invariant_of-self-2 c =
    let live : c.sent.new.self.live ≡ change_first (has_serial c.args.peer) (sent_peer c.args.now c.args.inner c.args.outer c.args.ping) c.self.inside.live.live = ap (λ (x : Indexed). x.live) c.sent.ensures.peers in
    let serials : serials_of c.sent.new.self.live ≡ serials_of c.self.inside.live.live = ap serials_of live ∙ serials_kept (has_serial c.args.peer) (sent_peer c.args.now c.args.inner c.args.outer c.args.ping) c.self.inside.live.live (sent_kept c.args.now c.args.inner c.args.outer c.args.ping) in
    let keys : keys_of c.sent.new.self.live ≡ keys_of c.self.inside.live.live = ap keys_of live ∙ keys_kept (has_serial c.args.peer) (sent_peer c.args.now c.args.inner c.args.outer c.args.ping) c.self.inside.live.live (sent_kept c.args.now c.args.inner c.args.outer c.args.ping) in
    let long : length c.sent.new.self.live ≡ length c.self.inside.live.live = c.sent.ensures.long in
    let fits : length c.self.inside.live.live + length c.self.inside.dying.items ≤ c.self.inside.made = c.self.invariant.1 in
    let dying : serials_of c.sent-2.new.self.items ≡ serials_of c.self.inside.dying.items = ap serials_of c.sent-2.ensures.peers ∙ serials_kept (has_serial c.args.peer) (sent_peer c.args.now c.args.inner c.args.outer c.args.ping) c.self.inside.dying.items (sent_kept c.args.now c.args.inner c.args.outer c.args.ping) in
    let dying_long : length c.sent-2.new.self.items ≡ length c.self.inside.dying.items = c.sent-2.ensures.long in (
      c.self.invariant.0,
      omega arith,
      c.self.invariant.2,
      ap (λ (x : Indexed). x.made) c.sent.ensures.peers ∙ c.self.invariant.3,
      ap (λ (x : Indexed). x.keys_made) c.sent.ensures.peers ∙ c.self.invariant.4,
      rw (serials, dying) c.self.invariant.5,
      rw keys c.self.invariant.6,
    )
