-- How a line begins: by its head, and never with what was sealed.
use Rattle.std.proofs.Common.{◌≡◌, List, [], refl, sym, ◌∙◌, ap, Bool, true, false}
use Rattle.std.specs.Prelude.{Option, Some, None, Result, Ok, Err}
use Rattle.ov_base.specs.declared.address.Addr.{Addr}
use Rattle.ov_base.specs.declared.address.Transport.{Transport}
use Rattle.ov_model.specs.declared.act.Act.TheVariants as act
use Rattle.ov_model.specs.declared.command.Command.{Command}
use Rattle.ov_model.specs.declared.command.Command.TheVariants as command
use Rattle.ov_model.specs.declared.netlink.NlMessage.{NlMessage}
use Rattle.ov_model.specs.declared.ident.PeerId.{PeerId}
use Rattle.ov_model.specs.declared.ident.KeyId.{KeyId}
use Rattle.ov_model.specs.declared.line.Deed.{Deed}
use Rattle.ov_model.specs.declared.line.Deed.TheVariants as deed
use Rattle.ov_model.specs.declared.reply.Errno.{Errno}
use Rattle.ov_model.specs.declared.answer.Answer.{Answer}
use Rattle.ov_model.specs.Ident.{peer_id, key_id}
use Rattle.ov_model.specs.Checked.{checked}
use Rattle.ov_model.specs.Events.{DrawnId}
use Rattle.ov_model.specs.Keys.{sealed_ids}
use Rattle.ov_model.specs.Packets.{HeadKind, short, data_v1, control, data_v2, head_of, Inner, v4, v6, not_ip, inner_of}
use Rattle.ov_model.specs.Path.{Begin, at_once, first, begins, begins_netlink, begins_tx, begins_rx, rx_look_by, NotTick}
use Rattle.ov_model.proofs.PeerIds.{peer_id_of, key_id_of}
use Rattle.ov_model.proofs.Checks.{checked_no_tick}
use Rattle.ov_packet.specs.declared.head.Head.{Head}
use Rattle.ov_path.specs.declared.stage.Stage.TheVariants as stage
use Rattle.ov_path.specs.Walks.{AsksHop}

look_by : (from : Transport) (id : PeerId) (key : KeyId) (a : Option PeerId) (b : Option KeyId) → Some id ≡ a → Some key ≡ b → first (act.RxLook id key from) ≡ rx_look_by a b from
look_by from id key a b e f = rw (← e) (rw (← f) refl)

-- A head that was read looks up its peer and key.
pub begins_data : (from : Transport) (head : Head) (k : HeadKind) → data_v2 head.id.number head.key_id.number head.packet_id ≡ k → first (act.RxLook head.id head.key_id from) ≡ begins_rx from k
begins_data from head k e = rw (← e) (look_by from head.id head.key_id (peer_id head.id.number) (key_id head.key_id.number) (peer_id_of head.id.number head.id.in_range) (key_id_of head.key_id.number head.key_id.in_range))

-- What is answered at once was not sealed.
abbrev unsealed_ids : Begin → List DrawnId
unsealed_ids (at_once a) = sealed_ids a
unsealed_ids (first a) = []

unsealed_netlink : (r : Result Command Errno) → unsealed_ids (begins_netlink r) ≡ []
unsealed_netlink (Ok c) = refl
unsealed_netlink (Err e) = refl

unsealed_tx : (via : Addr → Addr) (i : Inner) → unsealed_ids (begins_tx via i) ≡ []
unsealed_tx via (v4 source destination) = refl
unsealed_tx via (v6 source destination) = refl
unsealed_tx via not_ip = refl

unsealed_look : (id : Option PeerId) (key : Option KeyId) (from : Transport) → unsealed_ids (rx_look_by id key from) ≡ []
unsealed_look (Some id) (Some key) from = refl
unsealed_look (Some id) None from = refl
unsealed_look None key from = refl

unsealed_rx : (from : Transport) (k : HeadKind) → unsealed_ids (begins_rx from k) ≡ []
unsealed_rx from short = refl
unsealed_rx from data_v1 = refl
unsealed_rx from control = refl
unsealed_rx from (data_v2 id key n) = unsealed_look (peer_id id) (key_id key) from

unsealed : (via : Addr → Addr) (d : Deed) → unsealed_ids (begins via d) ≡ []
unsealed via (deed.Netlink m) = unsealed_netlink (checked m)
unsealed via (deed.Tx packet) = unsealed_tx via (inner_of packet)
unsealed via (deed.Rx from bytes) = unsealed_rx from (head_of bytes)
unsealed via deed.Tick = refl
unsealed via deed.Down = refl
unsealed via (deed.Lost id reason) = refl

pub at_once_unsealed : (via : Addr → Addr) (d : Deed) (a : Answer) → begins via d ≡ at_once a → sealed_ids a ≡ []
at_once_unsealed via d a e = let same : unsealed_ids (begins via d) ≡ sealed_ids a = ap unsealed_ids e in rw (← same) (unsealed via d)

-- Only a packet to be sent asks for a next hop where it begins.
pub begins_hop : (via vib : Addr → Addr) (d : Deed) → (AsksHop stage.Fresh d → vib ≡ via) → begins vib d ≡ begins via d
begins_hop via vib (deed.Netlink m) own = refl
begins_hop via vib (deed.Tx packet) own = ap (λ hop. begins_tx hop (inner_of packet)) (own tt)
begins_hop via vib (deed.Rx from bytes) own = refl
begins_hop via vib deed.Tick own = refl
begins_hop via vib deed.Down own = refl
begins_hop via vib (deed.Lost id reason) own = refl

-- ---- ticks

-- Whether a line begins with a tick.
abbrev begins_tick : Begin → Bool
begins_tick (first (act.Do command.Tick)) = true
begins_tick _ = false

plain_begin : (c : Command) → NotTick c → begins_tick (first (act.Do c)) ≡ false
plain_begin command.Tick never = absurd never
plain_begin _ never = refl

-- No message is a tick.
netlink_no_tick : (m : NlMessage) (r : Result Command Errno) → checked m ≡ r → begins_tick (begins_netlink r) ≡ false
netlink_no_tick m (Err e) is = refl
netlink_no_tick m (Ok c) is = plain_begin c (checked_no_tick m c is)

tx_no_tick : (via : Addr → Addr) (i : Inner) → begins_tick (begins_tx via i) ≡ false
tx_no_tick via (v4 source destination) = refl
tx_no_tick via (v6 source destination) = refl
tx_no_tick via not_ip = refl

look_no_tick : (id : Option PeerId) (key : Option KeyId) (from : Transport) → begins_tick (rx_look_by id key from) ≡ false
look_no_tick (Some id) (Some key) from = refl
look_no_tick (Some id) None from = refl
look_no_tick None key from = refl

rx_no_tick : (from : Transport) (k : HeadKind) → begins_tick (begins_rx from k) ≡ false
rx_no_tick from short = refl
rx_no_tick from data_v1 = refl
rx_no_tick from control = refl
rx_no_tick from (data_v2 id key n) = look_no_tick (peer_id id) (key_id key) from

no_tick : {A : Type 0} (b : Begin) → begins_tick b ≡ false → b ≡ first (act.Do command.Tick) → A
no_tick b never is = absurd (let tick : begins_tick b ≡ true = ap begins_tick is in let same : ◌≡◌ {A = Bool} true false = sym tick ∙ never in cc)

-- A line that begins with a tick is one.
pub tick_line : (via : Addr → Addr) (d : Deed) → begins via d ≡ first (act.Do command.Tick) → d ≡ deed.Tick
tick_line via (deed.Netlink m) is = no_tick (begins_netlink (checked m)) (netlink_no_tick m (checked m) refl) is
tick_line via (deed.Tx packet) is = no_tick (begins_tx via (inner_of packet)) (tx_no_tick via (inner_of packet)) is
tick_line via (deed.Rx from bytes) is = no_tick (begins_rx from (head_of bytes)) (rx_no_tick from (head_of bytes)) is
tick_line via deed.Tick is = refl
tick_line via deed.Down is = absurd (cc)
tick_line via (deed.Lost id reason) is = absurd (cc)
