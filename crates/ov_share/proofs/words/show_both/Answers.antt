use Rattle.std.proofs.Common.{◌≡◌, List, sym, subst, ◌∙◌, inl, inr}
use mathlib.Core.List.{IsPrefix}
use Rattle.ov_turn.specs.Seats.{seen_of}
use Rattle.ov_model.specs.declared.entry.Entry.{Entry}
use Rattle.ov_share.proofs.Fronts.{prefix_both}
use Rattle.ov_share.proofs.words.show_both.Goals as goal

pub returns-clause-same : goal.returns-clause-same
returns-clause-same c =
    let shown = c.split-other.ensures.seen in
    elim c.join-one.ensures.longer [
      | inl mine ↦
          let own : seen_of c.split-one.result.1 ≡ seen_of c.join-one.result = c.split-one.ensures.seen.1 ∙ sym c.split-one.ensures.seen.0 ∙ sym mine in
          let front : IsPrefix (seen_of c.join-one.result) (seen_of c.join-other.result) = subst (λ (l : List Entry). IsPrefix l (seen_of c.join-other.result)) own c.join-other.ensures.seen.1 in
          let back : IsPrefix (seen_of c.join-other.result) (seen_of c.join-one.result) = subst (λ (l : List Entry). IsPrefix l (seen_of c.join-one.result)) shown.1 c.join-one.ensures.seen.1 in
          prefix_both (seen_of c.join-one.result) (seen_of c.join-other.result) front back ∙ sym shown.0
      | inr theirs ↦ theirs ∙ shown.1 ∙ sym shown.0
    ]
