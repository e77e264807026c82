-- What a list ends as, where its items were lent for writing.
use Rattle.std.specs.Prelude.{List, length}
use Rattle.std.specs.List.{refill}
use Rattle.std.specs.Borrow.{Lends, Fml, RattleType, MutBor, Array}
use Rattle.ov_base.specs.contracts.list.ListOf.{the_row}

module _ (T : RattleType) where
  -- once the borrow ends, the items are those that it shows last. A slice keeps its length, so
  -- `refill` is the items as they were left
  abbrev pub lends_items : MutBor (List T.Denot) → MutBor (List T.Denot) → Fml
  lends_items list lent = Lends (the_row T) (Array T 0) list lent (refill (length list.now) list.now)
