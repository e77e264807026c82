-- How long packets and datagrams may be.
use Rattle.std.specs.Prelude.{⊤, ◌≤◌, length}
use Rattle.ov_model.specs.Limits.{longest_datagram, longest_packet}
use Rattle.ov_model.specs.declared.line.Deed.{Deed}
use Rattle.ov_model.specs.declared.line.Deed.TheVariants as deed

-- A line's bytes fit into UDP over IPv4: a datagram by itself, and an inner packet with head and tag.
abbrev pub Fits : Deed → Type 0
Fits (deed.Netlink m) = ⊤
Fits (deed.Tx packet) = length packet ≤ longest_packet
Fits (deed.Rx from bytes) = length bytes ≤ longest_datagram
Fits deed.Tick = ⊤
Fits deed.Down = ⊤
Fits (deed.Lost id reason) = ⊤
