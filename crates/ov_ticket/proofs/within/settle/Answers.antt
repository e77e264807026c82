use Rattle.std.proofs.Common.{◌≤◌, ℕ, List, subst, sym, ◌∙◌, arith}
use Rattle.std.specs.VecDeque.{deque_capacity}
use Rattle.ov_turn.specs.Insides.{to_link_in}
use Rattle.ov_turn.proofs.Members.{has_le}
use Rattle.ov_hold.proofs.Fitting.{link_small}
use Rattle.ov_model.specs.declared.hold.Owed.TheVariants as kind
use Rattle.ov_ticket.specs.Within.{MayUnlink, IsUnlinked}
use Rattle.ov_ticket.proofs.Settling.{IsLinked, may_keys, may_peers, all_left}
use Rattle.ov_ticket.proofs.Stepping.{steady_again}
use Rattle.ov_ticket.proofs.within.settle.Goals as goal

pub made_cell-requires : goal.made_cell-requires
made_cell-requires c cell some =
    let it = c.args.inside.now in
    let is = c.requires.counted in
    let one = is.made cell in
    let most = has_le cell (to_link_in it) in
    let lt = link_small it.seat.me.0 cell it.fit.1 (omega arith) in
    let n = is.cells in
    omega arith

pub unlink_keys-requires : goal.unlink_keys-requires
unlink_keys-requires c =
    let e = c.link_made.ensures in
    let linked : IsLinked c.args.inside.now c.link_made.new.inside = record { steady = e.same; link = e.link; unlink = e.unlink; owes = e.owes } in
    may_keys c.args.inside.now c.link_made.new.inside c.args.command.now c.args.reply.now c.args.owed.now.items _ c.requires.counted linked c.requires.room.nothing c.requires.room.room

pub unlink_peers-requires : goal.unlink_peers-requires
unlink_peers-requires c =
    let e = c.link_made.ensures in
    let linked : IsLinked c.args.inside.now c.link_made.new.inside = record { steady = e.same; link = e.link; unlink = e.unlink; owes = e.owes } in
    let enough : 69632 ≤ deque_capacity c.unlink_keys.new.owed = subst (λ (n : ℕ). 69632 ≤ n) (sym c.unlink_keys.ensures.capacity) c.requires.room.room in
    subst (λ (ps : List ℕ). MayUnlink kind.Peer ps c.unlink_keys.new.inside c.unlink_keys.new.owed.items (deque_capacity c.unlink_keys.new.owed)) (sym c.removed_by.ensures)
    (may_peers c.args.inside.now c.link_made.new.inside c.unlink_keys.new.inside c.args.command.now c.args.reply.now c.args.owed.now.items c.unlink_keys.new.owed.items (deque_capacity c.unlink_keys.new.owed) c.requires.counted linked c.requires.room.nothing enough c.unlink_keys.ensures.unlinked)

pub returns-clause-owes : goal.returns-clause-owes
returns-clause-owes c =
    let e = c.link_made.ensures in
    let linked : IsLinked c.args.inside.now c.link_made.new.inside = record { steady = e.same; link = e.link; unlink = e.unlink; owes = e.owes } in
    let peers = subst (λ (ps : List ℕ). IsUnlinked kind.Peer ps c.unlink_keys.new.inside c.unlink_peers.new.inside c.unlink_keys.new.owed.items c.unlink_peers.new.owed.items) c.removed_by.ensures c.unlink_peers.ensures.unlinked in
    (all_left c.args.inside.now c.link_made.new.inside c.unlink_keys.new.inside c.unlink_peers.new.inside c.args.command.now c.args.reply.now c.args.owed.now.items c.unlink_keys.new.owed.items c.unlink_peers.new.owed.items c.requires.counted linked c.requires.room.nothing c.unlink_keys.ensures.unlinked peers).releasing

pub returns-clause-some : goal.returns-clause-some
returns-clause-some c =
    let e = c.link_made.ensures in
    let linked : IsLinked c.args.inside.now c.link_made.new.inside = record { steady = e.same; link = e.link; unlink = e.unlink; owes = e.owes } in
    let peers = subst (λ (ps : List ℕ). IsUnlinked kind.Peer ps c.unlink_keys.new.inside c.unlink_peers.new.inside c.unlink_keys.new.owed.items c.unlink_peers.new.owed.items) c.removed_by.ensures c.unlink_peers.ensures.unlinked in
    (all_left c.args.inside.now c.link_made.new.inside c.unlink_keys.new.inside c.unlink_peers.new.inside c.args.command.now c.args.reply.now c.args.owed.now.items c.unlink_keys.new.owed.items c.unlink_peers.new.owed.items c.requires.counted linked c.requires.room.nothing c.unlink_keys.ensures.unlinked peers).some

pub returns-clause-steady : goal.returns-clause-steady
returns-clause-steady c =
    steady_again c.args.inside.now c.unlink_keys.new.inside c.unlink_peers.new.inside (steady_again c.args.inside.now c.link_made.new.inside c.unlink_keys.new.inside c.link_made.ensures.same c.unlink_keys.ensures.unlinked.steady) c.unlink_peers.ensures.unlinked.steady

pub returns-clause-holds : goal.returns-clause-holds
returns-clause-holds c = c.unlink_peers.ensures.unlinked.holds ∙ c.unlink_keys.ensures.unlinked.holds ∙ c.link_made.ensures.holds
