-- How the fields of counters and seats make the values that contracts see.
use Rattle.std.specs.Prelude.{◌≡◌, ◌<◌, [], None}
use Rattle.ov_draw.specs.Drawer.{Drawer}
use Rattle.atomic_table.specs.declared.shared.Seat.{Seat}
use Rattle.ov_draw.specs.declared.hand.Hand.{Hand}

-- the seat, as contracts see it
abbrev pub drawer_of : Seat (Unit {0}) Hand → Drawer
drawer_of s = record { of = record { name = s.table_id; first = s.me.0.first }; share = s.me.0.share; drawn = s.me.0.drawn; spent = s.me.0.spent }

-- a seat between two calls: it has no slot, stands at no word, and was joined into no other
pub record IsFree (s : Seat (Unit {0}) Hand) : Type 0 where
  pub slotless : s.me.1 ≡ []
  pub standing : s.me.0.standing ≡ None
  pub live : 0 < s.me.0.share
