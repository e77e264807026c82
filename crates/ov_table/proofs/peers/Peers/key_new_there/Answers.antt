use Rattle.std.proofs.Common.{rules, arith, ◌≡◌, ◌≤◌, ◌+◌, ◌++◌, ◌∙◌, ap, length, false}
use Rattle.std.specs.Prelude.{nat_le}
use Rattle.std.proofs.lemmas.Bool.Decides.{nat_tests}
use Rattle.ov_model.specs.Limits.{most_keys}
use Rattle.ov_model.specs.Tables.{Table, by_id, in_slot, key_if_any, key_serials}
use Rattle.ov_model.specs.Step.{key_made}
use Rattle.ov_index.specs.Index.{Indexed}
use Rattle.ov_table.specs.Apart.{Apart}
use Rattle.ov_table.proofs.Outcomes.{some_of}
use Rattle.ov_table.proofs.Apart.{replaced_apart, key_apart}
use Rattle.ov_table.proofs.peers.Peers.key_new_there.Goals as goal

pub retire-first-requires-clause-apart : goal.retire-first-requires-clause-apart
retire-first-requires-clause-apart c =
    let t : Table = record { live = c.self.inside.live.live; dying = c.self.inside.dying.items; retired = c.self.inside.retired.items; made = c.self.inside.made; keys_made = c.self.inside.keys_made; moment = c.self.inside.moment } in
    let lives : t.live ≡ c.args.self.now.live = ap (λ (x : Table). x.live) c.self.view_is in
    let found = some_of (by_id c.args.conf.now.peer t.live) (rw lives c.requires) in
    let room : nat_le most_keys t.keys_made ≡ false = grind (arith, nat_tests) in
    let apart : Apart (key_serials (key_if_any (in_slot c.args.conf.now.slot (found.0).slots))) (key_serials t.retired) c.make_room.new.self.serials = replaced_apart t c.args.now c.args.conf.now found.0 c.make_room.new.self.serials found.1 room (c.self.invariant.5, c.self.invariant.6) c.in_ok-make_room.ensures.serials in
    let was : c.in_ok-was.was' ≡ in_slot c.args.conf.now.slot (found.0).slots = c.in_ok-was.ensures.was found.0 found.1 in
    rw (was, c.make_room.ensures.same) apart

pub invariant_of-self-2 : goal.invariant_of-self-2
invariant_of-self-2 c =
    let t : Table = record { live = c.self.inside.live.live; dying = c.self.inside.dying.items; retired = c.self.inside.retired.items; made = c.self.inside.made; keys_made = c.self.inside.keys_made; moment = c.self.inside.moment } in
    let lives : t.live ≡ c.args.self.now.live = ap (λ (x : Table). x.live) c.self.view_is in
    let found = some_of (by_id c.args.conf.now.peer t.live) (rw lives c.requires) in
    let room : nat_le most_keys t.keys_made ≡ false = grind (arith, nat_tests) in
    let apart = key_apart t c.args.now c.args.conf.now found.0 found.1 room (c.self.invariant.5, c.self.invariant.6) in
    let was : c.in_ok-was.was' ≡ in_slot c.args.conf.now.slot (found.0).slots = c.in_ok-was.ensures.was found.0 found.1 in
    let retired : c.retire-first.new.retired.items ≡ t.retired ++ key_if_any (in_slot c.args.conf.now.slot (found.0).slots) = c.retire-first.ensures.items ∙ (λ i. c.make_room.ensures.same i ++ key_if_any (was i)) in
    let live : c.install.new.self.live ≡ (key_made t c.args.now c.args.conf.now found.0).after.live = search rules in
    let long : length c.install.new.self.live ≡ length t.live = c.in_ok-was.ensures.long in
    let fits : length t.live + length t.dying ≤ t.made = c.self.invariant.1 in (
      c.self.invariant.0,
      omega arith,
      omega arith,
      ap (λ (x : Indexed). x.made) c.in_ok-was.ensures.now ∙ c.self.invariant.3,
      ap (λ (x : Indexed). x.keys_made) c.in_ok-was.ensures.now ∙ ap (λ n. n + 1) c.self.invariant.4,
      rw live apart.0,
      rw (live, retired) apart.1,
    )
