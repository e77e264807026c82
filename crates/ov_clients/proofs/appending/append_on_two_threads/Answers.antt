-- Each thread's entries are its seat's own, and both together are the whole history.
use Rattle.std.proofs.Common.{rules, ◌≤◌, ◌++◌, ℕ, List, length, sym, subst, arith, length-append}
use Rattle.ov_turn.specs.Seats.{share_of, seen_of, own_of}
use Rattle.ov_turn.specs.Lists.{IsWhole}
use Rattle.ov_clients.specs.declared.journal.Entry.{Entry}
use Rattle.ov_clients.specs.Entries.{HasAppended, AreBoth}
use Rattle.ov_clients.proofs.Orders.{InOrder-wider, prefix_length, length-whole}
use Rattle.ov_clients.proofs.appending.append_on_two_threads.Goals as goal

pub returns : goal.returns
returns g c =
    let one = c.join-one.result.0.0 in
    let two = c.join-one.result.1.0 in
    let a : HasAppended c.in-Ok.lock (share_of c.split-one.result.0) 1 c.join-one.result.0.1 one = search rules in
    let b : HasAppended c.in-Ok.lock (share_of c.split-one.result.1) 2 c.join-one.result.1.1 two = search rules in
    let log : List Entry = c.close-journal.result in
    let seen = prefix_length (seen_of c.join-seat.result) log c.close-journal.ensures.seen in
    let first : length (seen_of one) ≤ length log = omega (arith, prefix_length (seen_of one) (seen_of c.join-seat.result) c.join-seat.ensures.seen.0) in
    let second : length (seen_of two) ≤ length log = omega (arith, prefix_length (seen_of two) (seen_of c.join-seat.result) c.join-seat.ensures.seen.1) in
    let whole = subst (λ (own : List (ℕ × Entry)). IsWhole log own) c.join-seat.ensures.own c.close-journal.ensures.own in
    subst (λ (l : List Entry). AreBoth l c.join-one.result.0.1 c.join-one.result.1.1) (sym c.into_entries.ensures) (
      omega (arith, length-whole log (own_of one ++ own_of two) whole, length-append (own_of one) (own_of two), a.counted, b.counted),
      (
        own_of one,
        own_of two,
        a.counted,
        b.counted,
        InOrder-wider 1 0 0 (length (seen_of one)) (length log) (own_of one) a.order first,
        InOrder-wider 2 0 0 (length (seen_of two)) (length log) (own_of two) b.order second,
        whole,
      ),
    )
