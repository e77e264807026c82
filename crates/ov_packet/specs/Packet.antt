-- What the answers of this crate say, in the words of the packets' definitions.
use Rattle.std.specs.Prelude.{Result, Ok, Err}
use Rattle.ov_model.specs.Packets.{HeadKind, short, data_v1, control, data_v2, Inner, v4, v6, not_ip}
use Rattle.ov_packet.specs.declared.head.Head.{Head}
use Rattle.ov_packet.specs.declared.head.HeadStop.{HeadStop}
use Rattle.ov_packet.specs.declared.head.HeadStop.TheVariants as stop
use Rattle.ov_packet.specs.declared.inner_packet.InnerFacts.{InnerFacts}
use Rattle.ov_packet.specs.declared.inner_packet.InnerFacts.TheVariants as facts

-- What an answer says of a datagram's first bytes.
abbrev pub kind_told : Result Head HeadStop → HeadKind
kind_told (Ok head) = data_v2 head.id.number head.key_id.number head.packet_id
kind_told (Err stop.Short) = short
kind_told (Err stop.DataV1) = data_v1
kind_told (Err stop.Control) = control

-- What an answer says of an inner packet.
abbrev pub inner_told : InnerFacts → Inner
inner_told (facts.V4 source destination) = v4 source destination
inner_told (facts.V6 source destination) = v6 source destination
inner_told facts.NotIp = not_ip
