-- What the view of one seat counts for: the rules add these numbers up over all views.
use Rattle.std.specs.Prelude.{ℕ, ◌==◌, Bool, false, ◌&&◌, if◌then◌else◌, List, []}
use Rattle.ov_base.specs.Sums.{count_of}
use Rattle.ov_turn.specs.declared.view.View.{View}
use Rattle.ov_turn.specs.Lists.{times, all_below}

-- The cells that are live and those that are dying, and which of them are still to be linked and unlinked.
pub record Lists : Type 0 where
  pub live : List ℕ
  pub dying : List ℕ
  pub to_link : List ℕ
  pub to_unlink : List ℕ

module _ {I : Type 0} where
  -- the seat's share
  abbrev pub share : View I → ℕ
  share v = v.share

  -- 1 where the seat has the ticket t
  abbrev pub has_ticket : ℕ → View I → ℕ
  has_ticket t v = if v.queued && (v.ticket == t) then 1 else 0

  -- 1 where the seat has a ticket
  abbrev pub waits : View I → ℕ
  waits v = if v.queued then 1 else 0

  -- 1 where the seat has the kept value
  abbrev pub is_inside : View I → ℕ
  is_inside v = if v.inside then 1 else 0

  -- how many of the seat's own entries stand at the position p
  abbrev pub owns : ℕ → View I → ℕ
  owns p v = times p v.own

  -- how many holds on the cell c the seat has
  abbrev pub holds : ℕ → View I → ℕ
  holds c v = count_of c v.holds

  -- how many releases of the cell c the seat owes
  abbrev pub owes : ℕ → View I → ℕ
  owes c v = count_of c v.owes

  -- the lists of cells that the seat knows
  abbrev pub lists_of : View I → Lists
  lists_of v = record { live = v.live; dying = v.dying; to_link = v.to_link; to_unlink = v.to_unlink }

  -- whether the cells that the seat holds are cells of the table
  abbrev pub holds_fit : View I → Bool
  holds_fit v = all_below v.cells v.holds

  -- whether the cells that the seat knows while it is inside are cells of the table
  abbrev pub lists_fit : View I → Bool
  lists_fit v = all_below v.cells v.live && (all_below v.cells v.to_link && all_below v.cells v.to_unlink)

  -- a seat with this share of a table with this number of cells, which has seen this and has nothing
  abbrev pub blank : ℕ → ℕ → List I → View I
  blank cells part log = record {
    cells = cells;
    share = part;
    seen = log;
    also = [];
    own = [];
    holds = [];
    owes = [];
    live = [];
    dying = [];
    to_link = [];
    to_unlink = [];
    queued = false;
    inside = false;
    ticket = 0;
  }
