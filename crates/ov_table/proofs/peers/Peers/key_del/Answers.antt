use Rattle.std.proofs.Common.{rules, arith, ◌≡◌, ◌≤◌, ◌+◌, ◌++◌, ◌∙◌, ap, length, true}
use Rattle.std.specs.Prelude.{None, is_some}
use Rattle.ov_model.specs.Tables.{Table, by_id, with_slot, in_slot, key_if_any, key_serials}
use Rattle.ov_model.specs.Step.{slots_changed}
use Rattle.ov_index.specs.Index.{Indexed, slot_of}
use Rattle.ov_table.specs.Apart.{Apart}
use Rattle.ov_table.proofs.Outcomes.{some_of}
use Rattle.ov_table.proofs.Apart.{del_apart, deleted_apart}
use Rattle.ov_table.proofs.peers.Peers.key_del.Goals as goal

pub retire-first-requires-clause-apart : goal.retire-first-requires-clause-apart
retire-first-requires-clause-apart c =
    let t : Table = record { live = c.self.inside.live.live; dying = c.self.inside.dying.items; retired = c.self.inside.retired.items; made = c.self.inside.made; keys_made = c.self.inside.keys_made; moment = c.self.inside.moment } in
    let there : is_some (by_id c.args.id t.live) ≡ true = search rules in
    let found = some_of (by_id c.args.id t.live) there in
    let apart : Apart (key_serials (key_if_any (in_slot c.args.slot (found.0).slots))) (key_serials t.retired) c.make_room.new.self.serials = deleted_apart t c.args.now c.args.id c.args.slot found.0 c.make_room.new.self.serials found.1 (c.self.invariant.5, c.self.invariant.6) c.in_ok-make_room.ensures.serials in
    let was : c.take_key-taken.result ≡ in_slot c.args.slot (found.0).slots = c.take_key-taken.ensures.was ∙ ap (slot_of c.args.slot) found.1 in
    rw (was, c.make_room.ensures.same) apart

pub invariant_of-self-2 : goal.invariant_of-self-2
invariant_of-self-2 c =
    let t : Table = record { live = c.self.inside.live.live; dying = c.self.inside.dying.items; retired = c.self.inside.retired.items; made = c.self.inside.made; keys_made = c.self.inside.keys_made; moment = c.self.inside.moment } in
    let there : is_some (by_id c.args.id t.live) ≡ true = search rules in
    let found = some_of (by_id c.args.id t.live) there in
    let apart = del_apart t c.args.now c.args.id c.args.slot found.0 found.1 (c.self.invariant.5, c.self.invariant.6) in
    let was : c.take_key-taken.result ≡ in_slot c.args.slot (found.0).slots = c.take_key-taken.ensures.was ∙ ap (slot_of c.args.slot) found.1 in
    let retired : c.retire-first.new.retired.items ≡ t.retired ++ key_if_any (in_slot c.args.slot (found.0).slots) = c.retire-first.ensures.items ∙ (λ i. c.make_room.ensures.same i ++ key_if_any (was i)) in
    let live : c.take_key-taken.new.self.live ≡ (slots_changed t c.args.now c.args.id (with_slot c.args.slot None) (key_if_any (in_slot c.args.slot (found.0).slots))).after.live = ap (λ (x : Indexed). x.live) c.take_key-taken.ensures.now in
    let long : length c.take_key-taken.new.self.live ≡ length t.live = c.take_key-taken.ensures.long in
    let all : length t.live + length t.dying ≤ t.made = c.self.invariant.1 in (
      c.self.invariant.0,
      omega arith,
      c.self.invariant.2,
      ap (λ (x : Indexed). x.made) c.take_key-taken.ensures.now ∙ c.self.invariant.3,
      ap (λ (x : Indexed). x.keys_made) c.take_key-taken.ensures.now ∙ c.self.invariant.4,
      rw live apart.0,
      rw (live, retired) apart.1,
    )
