-- At the end nobody holds the thing, so its release is owed, and by one seat alone.
use Rattle.std.proofs.Common.{◌≡◌, ap, ◌∙◌, arith}
use Rattle.std.proofs.Common.{◌+◌}
use Rattle.ov_base.specs.Sums.{count_of}
use Rattle.ov_base.proofs.Sums.{total_append}
use Rattle.ov_turn.specs.Lists.{has}
use Rattle.ov_turn.specs.Seats.{holds_of, owes_of}
use Rattle.ov_clients.specs.Stages.{dying_cells}
use Rattle.ov_clients.proofs.Lasts.{none_left, one_last}
use Rattle.ov_clients.proofs.holding.hold_on_two_threads.Goals as goal

pub join-seat-requires-clause-apart : goal.join-seat-requires-clause-apart
join-seat-requires-clause-apart g c κs k =
    let a : count_of k (holds_of c.join-one.result.0.0) ≡ 0 = ap (count_of k) c.join-one.ensures.first.1.1.0 ∙ none_left c.hold-one.new.held c.end-one.ensures.keeps.only k in
    let b : count_of k (holds_of c.join-one.result.1.0) ≡ 0 = ap (count_of k) c.join-one.ensures.second.1.1.0 ∙ none_left c.hold-two.new.held c.hold-two.ensures.keeps.only k in
    omega arith

pub returns-in-Dying : goal.returns-in-Dying
returns-in-Dying g c =
    let seat = c.join-seat.result in
    let a : count_of 0 (holds_of c.join-one.result.0.0) ≡ 0 = ap (count_of 0) c.join-one.ensures.first.1.1.0 ∙ none_left c.hold-one.new.held c.end-one.ensures.keeps.only 0 in
    let b : count_of 0 (holds_of c.join-one.result.1.0) ≡ 0 = ap (count_of 0) c.join-one.ensures.second.1.1.0 ∙ none_left c.hold-two.new.held c.hold-two.ensures.keeps.only 0 in
    let none : count_of 0 (holds_of seat) ≡ count_of 0 (holds_of c.join-one.result.0.0) + count_of 0 (holds_of c.join-one.result.1.0) =
    ap (count_of 0) c.join-seat.ensures.holds ∙ total_append _ (holds_of c.join-one.result.0.0) (holds_of c.join-one.result.1.0) in
    let dying : has 0 (dying_cells c.close.result) ≡ 1 = ap (λ s. has 0 (dying_cells s)) c.in-Dying.is in
    let owed = c.close.ensures.cells 0 dying in
    one_last c.join-one.result.0.1 c.join-one.result.1.1 (owes_of c.join-one.result.0.0) (owes_of c.join-one.result.1.0) (owes_of seat) c.join-one.ensures.first.1.1.1 c.join-one.ensures.second.1.1.1 c.join-seat.ensures.owes (omega arith) (c.join-seat.ensures.once 0)
