use Rattle.std.proofs.Common.{rules, arith, None, ◌≡◌, ◌≤◌, ◌+◌, ◌++◌, ◌∷◌, [], ◌∙◌, sym, ap, length}
use Rattle.std.specs.Prelude.{Some}
use Rattle.ov_model.specs.Step.{spent_key}
use Rattle.ov_index.specs.Index.{Indexed, key_taken}
use Rattle.ov_model.specs.Tables.{Table, by_serial, by_key, has_serial}
use Rattle.ov_table.proofs.Outcomes.{any_found, not_both}
use Rattle.ov_table.proofs.Apart.{spent_joins, spent_apart}
use Rattle.ov_table.proofs.peers.Peers.spend_there.Goals as goal

pub unreachable-requires : goal.unreachable-requires
unreachable-requires c =
    let none : by_serial c.args.peer c.args.self.now.live ≡ None = search rules in
    not_both (by_serial c.args.peer c.args.self.now.live) none (sym (any_found (has_serial c.args.peer) c.args.self.now.live) ∙ c.requires)

pub join-requires-clause-serial : goal.join-requires-clause-serial
join-requires-clause-serial c =
    let t : Table = record { live = c.self.inside.live.live; dying = c.self.inside.dying.items; retired = c.self.inside.retired.items; made = c.self.inside.made; keys_made = c.self.inside.keys_made; moment = c.self.inside.moment } in
    let found : by_serial c.args.peer t.live ≡ Some c.in-Some.held.now = search rules in
    let has : by_key c.args.key (c.in-Some.held.now).slots ≡ Some c.in-Some-kill.killed = sym (ap (key_taken c.args.key) found) ∙ sym c.kill.ensures.was ∙ c.in-Some-kill.is in
    let joins = spent_joins (has_serial c.args.peer) t.live t.retired t.keys_made c.make_room.new.self.serials c.in-Some.held.now c.args.key c.in-Some-kill.killed found has c.self.invariant.6 c.in_ok-make_room.ensures.serials in
    joins.below

pub join-requires-clause-apart : goal.join-requires-clause-apart
join-requires-clause-apart c =
    let t : Table = record { live = c.self.inside.live.live; dying = c.self.inside.dying.items; retired = c.self.inside.retired.items; made = c.self.inside.made; keys_made = c.self.inside.keys_made; moment = c.self.inside.moment } in
    let found : by_serial c.args.peer t.live ≡ Some c.in-Some.held.now = search rules in
    let has : by_key c.args.key (c.in-Some.held.now).slots ≡ Some c.in-Some-kill.killed = sym (ap (key_taken c.args.key) found) ∙ sym c.kill.ensures.was ∙ c.in-Some-kill.is in
    let joins = spent_joins (has_serial c.args.peer) t.live t.retired t.keys_made c.make_room.new.self.serials c.in-Some.held.now c.args.key c.in-Some-kill.killed found has c.self.invariant.6 c.in_ok-make_room.ensures.serials in
    rw c.make_room.ensures.same joins.apart

pub invariant_of-self-2 : goal.invariant_of-self-2
invariant_of-self-2 c =
    let t : Table = record { live = c.self.inside.live.live; dying = c.self.inside.dying.items; retired = c.self.inside.retired.items; made = c.self.inside.made; keys_made = c.self.inside.keys_made; moment = c.self.inside.moment } in
    let found : by_serial c.args.peer t.live ≡ Some c.in-Some.held.now = search rules in
    let has : by_key c.args.key (c.in-Some.held.now).slots ≡ Some c.in-Some-kill.killed = sym (ap (key_taken c.args.key) found) ∙ sym c.kill.ensures.was ∙ c.in-Some-kill.is in
    let apart = spent_apart t c.args.now c.args.peer c.args.key c.in-Some.held.now c.in-Some-kill.killed found has (c.self.invariant.5, c.self.invariant.6) in
    let live : c.kill.new.self.live ≡ (spent_key t c.args.now c.args.peer c.args.key c.in-Some.held.now c.in-Some-kill.killed).after.live = ap (λ (x : Indexed). x.live) c.kill.ensures.now in
    let retired : c.join.new.self.items ≡ t.retired ++ c.in-Some-kill.killed ∷ [] = c.join.ensures.items ∙ ap (λ ks. ks ++ c.in-Some-kill.killed ∷ []) c.make_room.ensures.same in
    let long : length c.kill.new.self.live ≡ length t.live = c.kill.ensures.long in
    let fits : length t.live + length t.dying ≤ t.made = c.self.invariant.1 in (
      c.self.invariant.0,
      omega arith,
      c.self.invariant.2,
      ap (λ (x : Indexed). x.made) c.kill.ensures.now ∙ c.self.invariant.3,
      ap (λ (x : Indexed). x.keys_made) c.kill.ensures.now ∙ c.self.invariant.4,
      rw live apart.0,
      rw (live, retired) apart.1,
    )
