use Rattle.std.proofs.Common.{rules, arith, ◌≡◌, ◌≤◌, ◌+◌, ◌++◌, ◌∷◌, [], ◌∙◌, sym, ap, length, length-append}
use Rattle.std.specs.Prelude.{Some}
use Rattle.ov_model.specs.Tables.{Peer, Table, without_first, has_id, by_id, bare, keys_in, keys_of}
use Rattle.ov_index.specs.Index.{Indexed}
use Rattle.ov_table.proofs.Outcomes.{one_key}
use Rattle.ov_table.proofs.Apart.{slots_apart, dying_joins, removed_apart}
use Rattle.ov_table.proofs.peers.Peers.remove_there.Goals as goal

pub retire_all-first-requires-clause-apart : goal.retire_all-first-requires-clause-apart
retire_all-first-requires-clause-apart c =
    let t : Table = record { live = c.self.inside.live.live; dying = c.self.inside.dying.items; retired = c.self.inside.retired.items; made = c.self.inside.made; keys_made = c.self.inside.keys_made; moment = c.self.inside.moment } in
    let found : by_id c.args.id t.live ≡ Some c.in-Some-remove.peer = sym c.remove.ensures.was ∙ c.in-Some-remove.is in
    let apart = slots_apart (has_id c.args.id) t.live t.retired t.keys_made c.make_room-2.new.self.serials c.in-Some-remove.peer found c.self.invariant.6 c.in_ok-make_room-2.ensures.serials in
    let slots : c.peer-2.inside.slots ≡ (c.in-Some-remove.peer).slots = ap (λ (p : Peer). p.slots) c.peer-2.view_is in
    rw (slots, c.make_room-2.ensures.same) apart

pub join-requires-clause-serial : goal.join-requires-clause-serial
join-requires-clause-serial c =
    let t : Table = record { live = c.self.inside.live.live; dying = c.self.inside.dying.items; retired = c.self.inside.retired.items; made = c.self.inside.made; keys_made = c.self.inside.keys_made; moment = c.self.inside.moment } in
    let found : by_id c.args.id t.live ≡ Some c.in-Some-remove.peer = sym c.remove.ensures.was ∙ c.in-Some-remove.is in
    let joins = dying_joins (has_id c.args.id) t.live t.dying t.made c.make_room.new.self.serials c.in-Some-remove.peer found c.self.invariant.5 c.in_ok-make_room.ensures.serials in
    let serial : c.peer-2.inside.serial ≡ (c.in-Some-remove.peer).serial = ap (λ (p : Peer). p.serial) c.peer-2.view_is in
    rw serial joins.below

pub join-requires-clause-apart : goal.join-requires-clause-apart
join-requires-clause-apart c =
    let t : Table = record { live = c.self.inside.live.live; dying = c.self.inside.dying.items; retired = c.self.inside.retired.items; made = c.self.inside.made; keys_made = c.self.inside.keys_made; moment = c.self.inside.moment } in
    let found : by_id c.args.id t.live ≡ Some c.in-Some-remove.peer = sym c.remove.ensures.was ∙ c.in-Some-remove.is in
    let joins = dying_joins (has_id c.args.id) t.live t.dying t.made c.make_room.new.self.serials c.in-Some-remove.peer found c.self.invariant.5 c.in_ok-make_room.ensures.serials in
    let serial : c.peer-2.inside.serial ≡ (c.in-Some-remove.peer).serial = ap (λ (p : Peer). p.serial) c.peer-2.view_is in
    rw (serial, c.make_room.ensures.same) joins.apart

pub invariant_of-self-2 : goal.invariant_of-self-2
invariant_of-self-2 c =
    let t : Table = record { live = c.self.inside.live.live; dying = c.self.inside.dying.items; retired = c.self.inside.retired.items; made = c.self.inside.made; keys_made = c.self.inside.keys_made; moment = c.self.inside.moment } in
    let found : by_id c.args.id t.live ≡ Some c.in-Some-remove.peer = sym c.remove.ensures.was ∙ c.in-Some-remove.is in
    let p : Peer = c.in-Some-remove.peer in
    let apart = removed_apart t c.args.now c.args.id c.args.reason p found (c.self.invariant.5, c.self.invariant.6) in
    let slots : c.peer-2.inside.slots ≡ p.slots = ap (λ (q : Peer). q.slots) c.peer-2.view_is in
    let live : c.remove.new.self.live ≡ without_first (has_id c.args.id) t.live = ap (λ (x : Indexed). x.live) c.remove.ensures.now in
    let dying : c.join.new.self.items ≡ t.dying ++ bare p ∷ [] = search rules in
    let retired : c.retire_all-first.new.retired.items ≡ t.retired ++ keys_of (p ∷ []) = c.retire_all-first.ensures.items ∙ (λ i. c.make_room-2.ensures.same i ++ keys_in (slots i)) ∙ ap (λ ks. t.retired ++ ks) (sym (one_key (keys_in p.slots))) in
    let fewer : length c.remove.new.self.live + 1 ≡ length t.live = c.in-Some-remove.ensures.fewer in
    let more : length c.join.new.self.items ≡ length t.dying + 1 = ap length dying ∙ length-append t.dying (bare p ∷ []) in
    let fits : length t.live + length t.dying ≤ t.made = c.self.invariant.1 in (
      c.self.invariant.0,
      omega arith,
      c.self.invariant.2,
      ap (λ (x : Indexed). x.made) c.remove.ensures.now ∙ c.self.invariant.3,
      ap (λ (x : Indexed). x.keys_made) c.remove.ensures.now ∙ c.self.invariant.4,
      rw (live, dying) apart.0,
      rw (live, retired) apart.1,
    )
