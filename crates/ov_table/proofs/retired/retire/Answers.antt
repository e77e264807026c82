use Rattle.std.proofs.Common.{rules, ◌≡◌, subst, [], ◌∷◌}
use Rattle.std.specs.Prelude.{Option, Some}
use Rattle.ov_model.specs.Tables.{Key, key_if_any, key_serials}
use Rattle.ov_table.specs.Apart.{Apart}
use Rattle.ov_table.proofs.Apart.{may_join}
use Rattle.ov_table.proofs.retired.retire.Goals as goal

pub join-requires-clause-serial : goal.join-requires-clause-serial
join-requires-clause-serial c =
    let some : c.args.key ≡ Some c.in_ok-key.key = search rules in
    let apart : Apart (c.in_ok-key.key.serial ∷ []) (key_serials c.args.retired.now.items) c.args.retired.now.serials = subst (λ (k : Option Key). Apart (key_serials (key_if_any k)) (key_serials c.args.retired.now.items) c.args.retired.now.serials) some c.requires.apart in
    (may_join (λ (k : Key). k.serial) c.in_ok-key.key.serial c.args.retired.now.items c.args.retired.now.serials apart).below

pub join-requires-clause-apart : goal.join-requires-clause-apart
join-requires-clause-apart c =
    let some : c.args.key ≡ Some c.in_ok-key.key = search rules in
    let apart : Apart (c.in_ok-key.key.serial ∷ []) (key_serials c.args.retired.now.items) c.args.retired.now.serials = subst (λ (k : Option Key). Apart (key_serials (key_if_any k)) (key_serials c.args.retired.now.items) c.args.retired.now.serials) some c.requires.apart in
    (may_join (λ (k : Key). k.serial) c.in_ok-key.key.serial c.args.retired.now.items c.args.retired.now.serials apart).apart
