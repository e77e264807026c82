use Rattle.std.proofs.Common.{arith, ◌≡◌, ◌∙◌, sym, ap}
use Rattle.std.specs.Prelude.{Some}
use Rattle.ov_model.specs.Tables.{Peer, has_serial, by_serial}
use Rattle.ov_table.proofs.Apart.{slots_apart, dying_joins}
use Rattle.ov_table.proofs.removal.remove_one.Goals as goal

pub retire_all-first-requires-clause-apart : goal.retire_all-first-requires-clause-apart
retire_all-first-requires-clause-apart c =
    let found : by_serial c.args.serial (c.args.live.now).live ≡ Some c.in-Some.peer = sym c.take.ensures.was ∙ c.in-Some.is in
    let apart = slots_apart (has_serial c.args.serial) (c.args.live.now).live (c.args.retired.now).items (c.args.retired.now).serials (c.args.retired.now).serials c.in-Some.peer found c.requires.keys (omega arith) in
    let slots : c.peer.inside.slots ≡ (c.in-Some.peer).slots = ap (λ (p : Peer). p.slots) c.peer.view_is in
    rw slots apart

pub join-requires-clause-serial : goal.join-requires-clause-serial
join-requires-clause-serial c =
    let found : by_serial c.args.serial (c.args.live.now).live ≡ Some c.in-Some.peer = sym c.take.ensures.was ∙ c.in-Some.is in
    let joins = dying_joins (has_serial c.args.serial) (c.args.live.now).live (c.args.dying.now).items (c.args.dying.now).serials (c.args.dying.now).serials c.in-Some.peer found c.requires.apart (omega arith) in
    let serial : c.peer.inside.serial ≡ (c.in-Some.peer).serial = ap (λ (p : Peer). p.serial) c.peer.view_is in
    rw serial joins.below

pub join-requires-clause-apart : goal.join-requires-clause-apart
join-requires-clause-apart c =
    let found : by_serial c.args.serial (c.args.live.now).live ≡ Some c.in-Some.peer = sym c.take.ensures.was ∙ c.in-Some.is in
    let joins = dying_joins (has_serial c.args.serial) (c.args.live.now).live (c.args.dying.now).items (c.args.dying.now).serials (c.args.dying.now).serials c.in-Some.peer found c.requires.apart (omega arith) in
    let serial : c.peer.inside.serial ≡ (c.in-Some.peer).serial = ap (λ (p : Peer). p.serial) c.peer.view_is in
    rw serial joins.apart
