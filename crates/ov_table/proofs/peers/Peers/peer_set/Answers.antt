use Rattle.std.proofs.Common.{arith, ◌≡◌, ◌≤◌, ◌+◌, ◌∙◌, refl, ap, length, Bool}
use Rattle.ov_model.specs.Tables.{Peer, change_first, has_id, serials_of, keys_of}
use Rattle.ov_model.specs.Step.{set_peer}
use Rattle.ov_model.proofs.Shapes.{Kept}
use Rattle.ov_index.specs.Index.{Indexed}
use Rattle.ov_table.proofs.Apart.{serials_kept, keys_kept}
use Rattle.ov_table.proofs.peers.Peers.peer_set.Goals as goal

pub invariant_of-self-2 : goal.invariant_of-self-2
invariant_of-self-2 c =
    let change : Peer → Peer = set_peer c.args.now c.args.attrs.now in
    let fits : Peer → Bool = has_id c.args.attrs.now.id in
    let keeps : (p : Peer) → Kept p (change p) = λ p. record { name = refl; slots = refl } in
    let live : c.set.new.self.live ≡ change_first fits change c.self.inside.live.live = ap (λ (x : Indexed). x.live) c.in_ok-set.ensures.now in
    let serials : serials_of c.set.new.self.live ≡ serials_of c.self.inside.live.live = ap serials_of live ∙ serials_kept fits change c.self.inside.live.live keeps in
    let keys : keys_of c.set.new.self.live ≡ keys_of c.self.inside.live.live = ap keys_of live ∙ keys_kept fits change c.self.inside.live.live keeps in
    let long : length c.set.new.self.live ≡ length c.self.inside.live.live = c.in_ok-set.ensures.long in
    let all : length c.self.inside.live.live + length c.self.inside.dying.items ≤ c.self.inside.made = c.self.invariant.1 in (
      c.self.invariant.0,
      omega arith,
      c.self.invariant.2,
      ap (λ (x : Indexed). x.made) c.in_ok-set.ensures.now ∙ c.self.invariant.3,
      ap (λ (x : Indexed). x.keys_made) c.in_ok-set.ensures.now ∙ c.self.invariant.4,
      rw serials c.self.invariant.5,
      rw keys c.self.invariant.6,
    )
