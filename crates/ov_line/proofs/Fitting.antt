-- A line that bytes say is as short as the grammar says.
use Rattle.std.proofs.Common.{◌≤◌, ℕ, List, length, Option, Some, None}
use Rattle.std.specs.Prelude.{codes}
use Rattle.serde_json.specs.Data.{Data}
use Rattle.serde_json.specs.Find.{get}
use Rattle.ov_model.specs.Limits.{longest_packet, longest_datagram}
use Rattle.ov_model.specs.declared.line.Line.{Line}
use Rattle.ov_model.specs.declared.line.Deed.{Deed}
use Rattle.ov_model.specs.declared.line.Deed.TheVariants as deed
use Rattle.ov_model.specs.Sizes.{Fits}
use Rattle.ov_line.specs.Values.{Given, IsHex}
use Rattle.ov_line.specs.Grammar.{IsDeed, Says}

hex_short : (most : ℕ) (o : Option Data) (bytes : List ℕ) → Given (IsHex most) o (Some bytes) → length bytes ≤ most
hex_short most None bytes h = absurd h
hex_short most (Some v) bytes h = h.short

deed_fits : (d : Data) (asked : Deed) → IsDeed d asked → Fits asked
deed_fits d (deed.Netlink m) has = tt
deed_fits d (deed.Tx packet) has = hex_short longest_packet (get (codes "packet") d) packet has.packet_is
deed_fits d (deed.Rx from bytes) has = hex_short longest_datagram (get (codes "datagram") d) bytes has.datagram_is
deed_fits d (deed.Lost id why) has = tt
deed_fits d deed.Tick has = tt
deed_fits d deed.Down has = tt

-- A line that bytes say fits.
pub says_fits : (bytes : List ℕ) (lanes : ℕ) (line : Line) → Says bytes lanes line → Fits line.deed
says_fits bytes lanes line says = deed_fits says.value line.deed says.is_line.deed
