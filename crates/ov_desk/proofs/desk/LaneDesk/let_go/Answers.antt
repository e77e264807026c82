-- What is given back.
use Rattle.std.proofs.Common.{sym, ◌≡◌, ◌<◌, ◌≤◌, subst, arith}
use Rattle.std.specs.VecDeque.{deque_capacity}
use Rattle.ov_base.specs.Sums.{count_of}
use Rattle.ov_turn.specs.Lists.{has}
use Rattle.ov_desk.proofs.Seating.{gives_seated, gave_seated, gave_told}
use Rattle.ov_desk.proofs.desk.LaneDesk.let_go.Goals as goal

pub cell-cell-requires : goal.cell-cell-requires
cell-cell-requires g c = (gives_seated c.self.invariant c.self.view_is c.args.owed c.requires).cell

pub give_back-given-requires : goal.give_back-given-requires
give_back-given-requires g c =
    let can = gives_seated c.self.invariant c.self.view_is c.args.owed c.requires in
    record {
      of = c.self.invariant.kept.of;
      has = subst (λ x. has x c.self.inside.held ≡ 1) (sym c.cell-cell.ensures) can.listed;
      holds = subst (λ x. 0 < count_of x c.self.inside.share.sight.holds) (sym c.cell-cell.ensures) can.holds;
    }

pub owe_if-requires : goal.owe_if-requires
owe_if-requires g c =
    let can = gives_seated c.self.invariant c.self.view_is c.args.owed c.requires in
    let few = can.room in
    let room : 69632 ≤ deque_capacity c.self.inside.owed = c.self.invariant.fits.room in
    let long = c.self.inside.owed.ok.0 in
    omega arith

pub invariant_of-self : goal.invariant_of-self
invariant_of-self g c =
    gave_seated c.self.invariant c.self.view_is c.args.owed c.cell-cell.result c.give_back-given.result c.give_back-given.new.share c.push.new.self _ c.give_back-given.new.held c.owe_if.new.listed
    c.requires c.cell-cell.ensures c.give_back-given.ensures.of c.give_back-given.ensures.same c.give_back-given.ensures.owes c.give_back-given.ensures.held c.without-self-inside.ensures c.push.ensures c.owe_if.ensures.listed c.owe_if.ensures.capacity

pub returns : goal.returns
returns g c =
    gave_told c.self.invariant c.self.view_is c.args.owed c.cell-cell.result c.give_back-given.result c.give_back-given.new.share c.push.new.self _ c.give_back-given.new.held c.owe_if.new.listed
    c.requires c.cell-cell.ensures c.give_back-given.ensures.of c.give_back-given.ensures.same c.give_back-given.ensures.held c.without-self-inside.ensures c.push.ensures c.owe_if.ensures.listed
