use Rattle.std.proofs.Common.{arith, ◌≡◌, ◌≤◌, ◌+◌, ◌++◌, ◌∷◌, [], ◌∙◌, refl, ap, length, length-append}
use Rattle.ov_model.specs.Tables.{Peer, Table}
use Rattle.ov_model.specs.Step.{peer_of}
use Rattle.ov_index.specs.Index.{Indexed}
use Rattle.ov_table.proofs.Apart.{new_apart}
use Rattle.ov_table.proofs.peers.Peers.peer_new.Goals as goal

pub invariant_of-self-2 : goal.invariant_of-self-2
invariant_of-self-2 c =
    let t : Table = record { live = c.self-2.inside.live.live; dying = c.self-2.inside.dying.items; retired = c.self-2.inside.retired.items; made = c.self-2.inside.made; keys_made = c.self-2.inside.keys_made; moment = c.self-2.inside.moment } in
    let p : Peer = peer_of c.self-2.inside.made c.args.now c.args.attrs.now c.in-Some.remote in
    let live : c.add.new.self.live ≡ t.live ++ p ∷ [] = ap (λ (x : Indexed). x.live) c.in_ok-add.ensures.ok in
    let apart = new_apart t p refl refl (c.self-2.invariant.5, c.self-2.invariant.6) in
    let long : length c.add.new.self.live ≡ length t.live + 1 = ap length live ∙ length-append t.live (p ∷ []) in
    let fits : length t.live + length t.dying ≤ t.made = c.self-2.invariant.1 in (
      omega arith,
      omega arith,
      c.self-2.invariant.2,
      ap (λ (x : Indexed). x.made) c.in_ok-add.ensures.ok ∙ ap (λ n. n + 1) c.self-2.invariant.3,
      ap (λ (x : Indexed). x.keys_made) c.in_ok-add.ensures.ok ∙ c.self-2.invariant.4,
      rw live apart.0,
      rw live apart.1,
    )
