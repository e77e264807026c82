use Rattle.std.proofs.Common.{rules, ◌≡◌, ◌≤◌, ℕ, subst}
use Rattle.ov_base.specs.Sums.{count_of}
use Rattle.ov_turn.specs.Seats.{Sight, sight_of}
use Rattle.ov_model.specs.declared.entry.Entry.{Entry}
use Rattle.ov_share.proofs.words.Words.meet.Goals as goal

pub show_both-first-requires-clause-once : goal.show_both-first-requires-clause-once
show_both-first-requires-clause-once c =
    let here : c.args.one.now.sight ≡ sight_of c.in-Some.first = search rules in
    subst (λ (s : Sight Entry). (cell : ℕ) → count_of cell s.holds ≤ 1) here c.requires.once

pub show_both-first-requires-clause-also : goal.show_both-first-requires-clause-also
show_both-first-requires-clause-also c =
    let here : c.args.other.now.sight ≡ sight_of c.in-Some-take.second = search rules in
    subst (λ (s : Sight Entry). (cell : ℕ) → count_of cell s.holds ≤ 1) here c.requires.also
