use Rattle.std.proofs.Common.{◌∙◌, ap, ◌≡◌, length}
use Rattle.ov_model.specs.Tables.{Peer, change_first, has_serial}
use Rattle.ov_model.specs.Step.{settled_peer, received_peer, floated, is_there}
use Rattle.ov_index.specs.Index.{Indexed}
use Rattle.ov_index.proofs.Held.{settled_twice, there_changed, length_changed}
use Rattle.ov_index.proofs.index.Index.settle.Goals as goal

pub returns-clause-there : goal.returns-clause-there
returns-clause-there c =
    let moved : c.float_if_free.new.self.live ≡ change_first (has_serial c.args.serial) (floated c.args.self.now.live c.args.from) c.args.self.now.live = ap (λ (x : Indexed). x.live) (c.in_ok-float_if_free.ensures.peers) in
    c.received.ensures.there ∙ ap (is_there c.args.serial) moved ∙ there_changed c.args.self.now.live c.args.serial c.args.from

pub returns-clause-peers : goal.returns-clause-peers
returns-clause-peers c =
    let moved : c.float_if_free.new.self.live ≡ change_first (has_serial c.args.serial) (floated c.args.self.now.live c.args.from) c.args.self.now.live = ap (λ (x : Indexed). x.live) (c.in_ok-float_if_free.ensures.peers) in
    let f : Peer → Peer = λ p. settled_peer c.args.settled c.args.inner (received_peer c.args.now c.args.outer p) in
    let live = ap (λ (x : Indexed). x.live) c.received.ensures.peers ∙ ap (change_first (has_serial c.args.serial) f) moved ∙ settled_twice c.args.self.now.live c.args.serial c.args.now c.args.from c.args.settled c.args.inner c.args.outer in
    let made = ap (λ (x : Indexed). x.made) c.received.ensures.peers ∙ ap (λ (x : Indexed). x.made) (c.in_ok-float_if_free.ensures.peers) in
    let keys = ap (λ (x : Indexed). x.keys_made) c.received.ensures.peers ∙ ap (λ (x : Indexed). x.keys_made) (c.in_ok-float_if_free.ensures.peers) in
    λ i. record { live = live i; made = made i; keys_made = keys i }

pub returns-clause-long : goal.returns-clause-long
returns-clause-long c = ap (λ (x : Indexed). length x.live) (returns-clause-peers c) ∙ length_changed (has_serial c.args.serial) (λ p. settled_peer c.args.settled c.args.inner (floated c.args.self.now.live c.args.from (received_peer c.args.now c.args.outer p))) c.args.self.now.live
