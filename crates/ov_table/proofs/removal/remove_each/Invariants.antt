use Rattle.std.proofs.Common.{ℕ, ◌≡◌, ◌≤◌, ◌+◌, ◌*◌, ◌++◌, length}
use Rattle.std.specs.Prelude.{map, drop, vec_len}
use Rattle.std.specs.Vec.{vec_capacity}
use Rattle.ov_model.specs.Runs.{numbered}
use Rattle.ov_model.specs.Tables.{bare, serials_of, keys_of, key_serials}
use Rattle.ov_table.specs.Apart.{Apart}
use Rattle.ov_table.specs.Picked.{picked, left, del_notes}
use Rattle.ov_table.proofs.removal.remove_each.Given as goal

-- What was done and what is left to do is all that there is to do, and there is room for what is left.
abbrev pub invariant-loop-serial : goal.invariant-loop-serial
invariant-loop-serial l = record {
  live : left (drop l.serial-index l.gone) l.live.live ≡ left l.gone l.fn.live.live;
  made : l.live.made ≡ l.fn.live.made;
  keys_made : l.live.keys_made ≡ l.fn.live.keys_made;
  dying : l.dying.items ++ map bare (picked (drop l.serial-index l.gone) l.live.live) ≡ l.fn.dying.items ++ map bare (picked l.gone l.fn.live.live);
  retired : l.retired.items ++ keys_of (picked (drop l.serial-index l.gone) l.live.live) ≡ l.fn.retired.items ++ keys_of (picked l.gone l.fn.live.live);
  notes : l.notes.notes ++ numbered l.entry (del_notes l.reason (picked (drop l.serial-index l.gone) l.live.live)) ≡ l.fn.notes.notes ++ numbered l.entry (del_notes l.reason (picked l.gone l.fn.live.live));
  taken : l.taken.items ++ key_serials (keys_of (picked (drop l.serial-index l.gone) l.live.live)) ≡ l.fn.taken.items ++ key_serials (keys_of (picked l.gone l.fn.live.live));
  dying_room : length l.gone ≤ l.dying.room + l.serial-index;
  retired_room : 2 * length l.gone ≤ l.retired.room + 2 * l.serial-index;
  notes_room : length l.gone ≤ l.notes.room + l.serial-index;
  taken_room : vec_len l.taken + 2 * length l.gone ≤ vec_capacity l.taken + 2 * l.serial-index;
  apart : (made : ℕ) → Apart (serials_of l.fn.live.live) (serials_of l.fn.dying.items) made → Apart (serials_of l.live.live) (serials_of l.dying.items) made;
  keys : (made : ℕ) → Apart (key_serials (keys_of l.fn.live.live)) (key_serials l.fn.retired.items) made → Apart (key_serials (keys_of l.live.live)) (key_serials l.retired.items) made;
  dying_serials : l.dying.serials ≡ l.fn.dying.serials;
  retired_serials : l.retired.serials ≡ l.fn.retired.serials;
  same : length l.live.live + length l.dying.items ≡ length l.fn.live.live + length l.fn.dying.items;
  most : length l.retired.items ≤ length l.fn.retired.items + 2 * l.serial-index;
}
