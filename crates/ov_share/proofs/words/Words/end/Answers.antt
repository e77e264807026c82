use Rattle.std.proofs.Common.{◌≡◌, List, sym, ap, subst, ◌∙◌}
use mathlib.Core.List.{IsPrefix}
use Rattle.ov_turn.specs.Lists.{IsWhole}
use Rattle.ov_turn.specs.Seats.{Sight, sight_of, seen_of, own_of, holds_of, owes_of}
use Rattle.ov_model.specs.declared.entry.Entry.{Entry}
use Rattle.ov_share.specs.Shares.{Sharing, IsEnd}
use Rattle.ov_share.proofs.LetGo.{all_let_go}
use Rattle.ov_share.proofs.words.Words.end.Goals as goal

pub returns : goal.returns
returns c =
    let its = c.into_seats-seat in
    let seat = its.result.0 in
    let share : Sharing = record { name = c.args.share.name; sight = sight_of seat; parts = its.result.1; drawer = its.result.2 } in
    let is : share ≡ c.args.share = λ i. record { name = c.args.share.name; sight = its.ensures.sight i; parts = its.ensures.parts i; drawer = its.ensures.drawer i } in
    let told = c.finish-journal.ensures.told in
    let journal = c.finish-journal.ensures.journal in
    subst (λ (s : Sharing). IsEnd s c.finish-journal.result.0 c.finish-journal.result.1 c.close-shards.result) is (record {
      run = told.run;
      notes_are = told.notes;
      seen = subst (λ (l : List Entry). IsPrefix (seen_of seat) l) (sym journal) c.close.ensures.seen;
      own = subst (λ (l : List Entry). IsWhole l (own_of seat)) (sym journal) c.close.ensures.own;
      eight = c.close-shards.ensures.eight;
      each = c.close-shards.ensures.each;
      ended = c.ended-drawer.ensures.ended;
      released = all_let_go c.finish-journal.result.0 c.close.result.now (holds_of seat) (owes_of seat) told.last
          (ap (λ (s : Sight Entry). s.holds) its.ensures.sight ∙ c.requires.free.holds) (ap (λ (s : Sight Entry). s.owes) its.ensures.sight ∙ c.requires.free.owes) c.close.ensures.cells;
    })
