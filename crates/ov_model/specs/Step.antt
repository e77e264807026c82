-- One step of the serial peer table: the table after it, its reply, the keys that it took out of a
-- slot, and its notifications. One definition for each act, its refusals in their order.
use Rattle.std.specs.Prelude.{ℕ, ◌+◌, ◌-◌, ◌^◌, ◌≡◌, max, min, List, [], ◌∷◌, ◌++◌, Bool, true, false, Option, Some, None, is_some, is_none, if◌then◌else◌, nat_lt, nat_le, not, ◌==◌, ◌&&◌, ◌||◌, filter, map, unwrap_or}
use Rattle.std.specs.List.{list_any}
use Rattle.std.specs.Option.{option_or}
use Rattle.ov_base.specs.declared.address.Addr.{Addr}
use Rattle.ov_base.specs.declared.address.Transport.{Transport}
use Rattle.ov_model.specs.declared.ident.PeerId.{PeerId}
use Rattle.ov_model.specs.declared.ident.KeyId.{KeyId}
use Rattle.ov_model.specs.declared.command.Keepalive.{Keepalive}
use Rattle.ov_model.specs.declared.command.Attrs.{Attrs}
use Rattle.ov_model.specs.declared.command.KeyConf.{KeyConf}
use Rattle.ov_model.specs.declared.command.Slot.{Slot}
use Rattle.ov_model.specs.declared.command.Reason.{Reason}
use Rattle.ov_model.specs.declared.command.Reason.TheVariants.{Expired, Teardown}
use Rattle.ov_model.specs.declared.command.Command.{Command}
use Rattle.ov_model.specs.declared.command.Command.TheVariants as command
use Rattle.ov_model.specs.declared.act.Act.{Act}
use Rattle.ov_model.specs.declared.act.Act.TheVariants as act
use Rattle.ov_model.specs.declared.act.InnerKind.{InnerKind}
use Rattle.ov_model.specs.declared.act.InnerKind.TheVariants as kind
use Rattle.ov_model.specs.declared.act.Call.{Call}
use Rattle.ov_model.specs.declared.reply.Counts.{Counts}
use Rattle.ov_model.specs.declared.reply.Errno.{Errno}
use Rattle.ov_model.specs.declared.reply.Errno.TheVariants.{NoEntry, Exists, Invalid, NoSpace}
use Rattle.ov_model.specs.declared.reply.HoldView.{HoldView}
use Rattle.ov_model.specs.declared.reply.KeyView.{KeyView}
use Rattle.ov_model.specs.declared.netlink.Cipher.TheVariants.{AesGcm}
use Rattle.ov_model.specs.declared.reply.Settled.{Settled}
use Rattle.ov_model.specs.declared.reply.Settled.TheVariants as settled
use Rattle.ov_model.specs.declared.reply.Reply.{Reply}
use Rattle.ov_model.specs.declared.reply.Reply.TheVariants as reply
use Rattle.ov_model.specs.declared.note.NoteBody.{NoteBody}
use Rattle.ov_model.specs.declared.note.NoteBody.TheVariants as note
use Rattle.ov_model.specs.Limits.{most_peers, most_keys, greatest_peer_id}
use Rattle.ov_model.specs.Tables.{Peer, Key, Slots, Table, change_first, without_first, has_id, has_serial, by_id, by_serial, by_remote, by_vpn, shares_vpn, view_of, bare, serials_of, no_keys, in_slot, with_slot, key_if_any, keys_of, key_serials, by_key_id, by_key, without_key, swapped, by_rising_id}

-- What a step makes: the table after it, its reply, the serials of the keys that left their slot, in
-- order, and its notes, in order.
pub record Outcome : Type 0 where
  pub after : Table
  pub reply : Reply
  pub taken : List ℕ
  pub notes : List NoteBody

-- ---- outcomes

-- A reply that changes nothing but the moment.
abbrev pub replied : Table → ℕ → Reply → Outcome
replied t now r = record { after = record t { moment = now }; reply = r; taken = []; notes = [] }

-- A command that is refused changes nothing but the moment.
abbrev pub refused : Table → ℕ → Errno → Outcome
refused t now e = replied t now (reply.Refused e)

-- A refusal with whether it applies.
pub data Check : Type 0 where
  refuse : Errno → (applies : Bool) → Check

-- The first refusal that applies, and where none does, the outcome.
abbrev pub unless : Table → ℕ → List Check → Outcome → Outcome
unless t now [] o = o
unless t now (refuse e applies ∷ checks) o = if applies then refused t now e else unless t now checks o

-- What is done with what was found, or a reply where nothing was.
abbrev pub where_found : {X : Type 0} → Table → ℕ → Reply → Option X → (X → Outcome) → Outcome
where_found t now missing None next = replied t now missing
where_found t now missing (Some x) next = next x

-- ---- commands

-- The counts of a new peer.
abbrev pub no_counts : Counts
no_counts = record { vpn_rx_bytes = 0; vpn_rx_packets = 0; vpn_tx_bytes = 0; vpn_tx_packets = 0; link_rx_bytes = 0; link_rx_packets = 0; link_tx_bytes = 0; link_tx_packets = 0 }

-- The keepalive of a peer that was given none.
abbrev pub no_keepalive : Keepalive
no_keepalive = record { interval = 0; timeout = 0 }

-- The peer that peer-new makes: its counts are 0, both its moments are now, and it has no keys.
abbrev pub peer_of : ℕ → ℕ → Attrs → Transport → Peer
peer_of serial now a remote = record { serial = serial; id = a.id; remote = remote; vpn4 = a.vpn4; vpn6 = a.vpn6; keepalive = unwrap_or a.keepalive no_keepalive; counts = no_counts; last_received = now; last_sent = now; slots = no_keys }

-- peer-new and its refusals in their order. Ids, VPN addresses and remote transports are unique among the live
-- peers; at most 4,096 peers are made.
abbrev pub peer_new_checks : Table → Attrs → Transport → List Check
peer_new_checks t a remote =
    refuse Invalid (is_none a.vpn4 && is_none a.vpn6) ∷
    refuse Exists (is_some (by_id a.id t.live)) ∷
    refuse Exists (list_any (shares_vpn a) t.live) ∷
    refuse Exists (is_some (by_remote remote t.live)) ∷
    refuse NoSpace (nat_le most_peers t.made) ∷ []

-- The new peer is live, the last in the order of making.
abbrev pub peer_made : Table → ℕ → Attrs → Transport → Outcome
peer_made t now a remote = replied (record t { live = t.live ++ peer_of t.made now a remote ∷ []; made = t.made + 1 }) now (reply.Made t.made)

-- peer-new with a remote transport.
abbrev pub peer_new_at : Table → ℕ → Attrs → Transport → Outcome
peer_new_at t now a remote = unless t now (peer_new_checks t a remote) (peer_made t now a remote)

-- peer-new: the peer joins the live ones, unless it is refused, and its serial is the reply.
unfoldable pub peer_new : Table → ℕ → Attrs → Outcome
peer_new t now a = where_found t now (reply.Refused Invalid) a.remote (peer_new_at t now a)

-- A moment becomes now where a keepalive is given.
abbrev pub set_moment : Option Keepalive → (now was : ℕ) → ℕ
set_moment None now was = was
set_moment (Some k) now was = now

-- The peer after peer-set: what is given replaces the old, the rest stays. A keepalive that is given begins
-- anew: both moments are now.
abbrev pub set_peer : ℕ → Attrs → Peer → Peer
set_peer now a p = record p { remote = unwrap_or a.remote p.remote; vpn4 = option_or a.vpn4 p.vpn4; vpn6 = option_or a.vpn6 p.vpn6; keepalive = unwrap_or a.keepalive p.keepalive; last_received = set_moment a.keepalive now p.last_received; last_sent = set_moment a.keepalive now p.last_sent }

-- Whether a transport that is given is the remote of one of some peers.
abbrev pub takes_remote : Option Transport → List Peer → Bool
takes_remote None peers = false
takes_remote (Some remote) peers = is_some (by_remote remote peers)

-- The live peers but the one with an id.
abbrev pub others : PeerId → List Peer → List Peer
others id live = without_first (has_id id) live

-- The refusals of peer-set, once its peer was found: VPN addresses and remote transports are unique.
abbrev pub peer_set_checks : Table → Attrs → List Check
peer_set_checks t a =
    refuse Exists (list_any (shares_vpn a) (others a.id t.live)) ∷
    refuse Exists (takes_remote a.remote (others a.id t.live)) ∷ []

-- The live peer with the attributes' id is changed.
abbrev pub peer_changed : Table → ℕ → Attrs → Outcome
peer_changed t now a = replied (record t { live = change_first (has_id a.id) (set_peer now a) t.live }) now reply.Done

-- peer-set of the live peer with an id.
unfoldable pub peer_set : Table → ℕ → Attrs → Outcome
peer_set t now a = where_found t now (reply.Refused NoEntry) (by_id a.id t.live)
    (λ p. unless t now (peer_set_checks t a) (peer_changed t now a))

-- peer-get of one peer: what the live peer with an id shows.
unfoldable pub peer_get : Table → ℕ → PeerId → Outcome
peer_get t now id = where_found t now (reply.Refused NoEntry) (by_id id t.live) (λ p. replied t now (reply.Peer (view_of p)))

-- peer-get of all peers: what each live peer shows, by rising id.
unfoldable pub peer_dump : Table → ℕ → Outcome
peer_dump t now = replied t now (reply.Peers (map view_of (by_rising_id t.live)))

-- The removal of the live peers `gone`, in this order, which leaves the live peers `left`: they join the
-- dying list, the keys of their slots join the retired ones, and one peer-del note each tells their ids and
-- the reason.
abbrev pub removals : Table → ℕ → Reason → (gone left : List Peer) → Reply → Outcome
removals t now reason gone left r = record {
  after = record t { live = left; dying = t.dying ++ map bare gone; retired = t.retired ++ keys_of gone; moment = now };
  reply = r;
  taken = key_serials (keys_of gone);
  notes = map (λ p. note.PeerDel p.id reason) gone;
}

-- peer-del of the live peer with an id, with the reason that its note gives.
unfoldable pub remove_peer : Table → ℕ → PeerId → Reason → Outcome
remove_peer t now id reason = where_found t now (reply.Refused NoEntry) (by_id id t.live)
    (λ p. removals t now reason (p ∷ []) (without_first (has_id id) t.live) (reply.Removed (serials_of (p ∷ []))))

-- The key that key-new makes.
abbrev pub key_of_conf : ℕ → KeyConf → Key
key_of_conf serial c = record { serial = serial; key_id = c.key_id; material = record { encrypt = c.encrypt; decrypt = c.decrypt } }

-- A peer with a key in a slot.
abbrev pub with_key : Slot → Key → Peer → Peer
with_key slot k p = record p { slots = with_slot slot (Some k) p.slots }

-- key-new puts a key into a slot of the live peer with an id; the key that stood there is retired. At
-- most 65,536 keys are made.
abbrev pub key_made : Table → ℕ → KeyConf → Peer → Outcome
key_made t now c p = record {
  after = record t { live = change_first (has_id c.peer) (with_key c.slot (key_of_conf t.keys_made c)) t.live; retired = t.retired ++ key_if_any (in_slot c.slot p.slots); keys_made = t.keys_made + 1; moment = now };
  reply = reply.Made t.keys_made;
  taken = key_serials (key_if_any (in_slot c.slot p.slots));
  notes = [];
}

-- The refusal of key-new, once its peer was found: at most 65,536 keys are made.
abbrev pub key_new_checks : Table → List Check
key_new_checks t = refuse NoSpace (nat_le most_keys t.keys_made) ∷ []

-- key-new into a slot of the live peer with an id.
unfoldable pub key_new : Table → ℕ → KeyConf → Outcome
key_new t now c = where_found t now (reply.Refused NoEntry) (by_id c.peer t.live)
    (λ p. unless t now (key_new_checks t) (key_made t now c p))

-- What key-get shows of a key. AES-GCM is the one cipher that is taken.
abbrev pub key_view : PeerId → Slot → Key → KeyView
key_view id slot k = record { peer = id; slot = slot; key_id = k.key_id; cipher = AesGcm }

-- key-get: what the key in a slot of the live peer with an id is called.
unfoldable pub key_get : Table → ℕ → PeerId → Slot → Outcome
key_get t now id slot = where_found t now (reply.Refused NoEntry) (by_id id t.live)
    (λ p. where_found t now (reply.Refused NoEntry) (in_slot slot p.slots)
    (λ k. replied t now (reply.Key (key_view id slot k))))

-- A peer with its slots changed.
abbrev pub with_slots : (Slots → Slots) → Peer → Peer
with_slots change p = record p { slots = change p.slots }

-- The slots of the live peer with an id are changed, and the keys that left them are retired.
abbrev pub slots_changed : Table → ℕ → PeerId → (Slots → Slots) → List Key → Outcome
slots_changed t now id change out = record {
  after = record t { live = change_first (has_id id) (with_slots change) t.live; retired = t.retired ++ out; moment = now };
  reply = reply.Done;
  taken = key_serials out;
  notes = [];
}

-- key-swap: the keys in the slots of the live peer with an id change places.
unfoldable pub key_swap : Table → ℕ → PeerId → Outcome
key_swap t now id = where_found t now (reply.Refused NoEntry) (by_id id t.live) (λ p. slots_changed t now id swapped [])

-- key-del: a slot of the live peer with an id becomes empty; the key that stood there is retired.
unfoldable pub key_del : Table → ℕ → PeerId → Slot → Outcome
key_del t now id slot = where_found t now (reply.Refused NoEntry) (by_id id t.live)
    (λ p. slots_changed t now id (with_slot slot None) (key_if_any (in_slot slot p.slots)))

-- Nothing was heard of a peer for its keepalive timeout, where it has one.
abbrev pub is_expired : ℕ → Peer → Bool
is_expired now p = nat_lt 0 p.keepalive.timeout && nat_le p.keepalive.timeout (now - p.last_received)

-- A peer that isn't expired and has a primary key is due a ping: nothing was sent to it for its keepalive
-- interval, where it has one.
abbrev pub is_due : ℕ → Peer → Bool
is_due now p = not (is_expired now p) && (nat_lt 0 p.keepalive.interval && (is_some p.slots.primary && nat_le p.keepalive.interval (now - p.last_sent)))

-- The expired peers, by rising id.
abbrev pub expired_of : ℕ → List Peer → List Peer
expired_of now live = filter (is_expired now) (by_rising_id live)

-- The peers that are due a ping, by rising id.
abbrev pub due_of : ℕ → List Peer → List Peer
due_of now live = filter (is_due now) (by_rising_id live)

-- tick: the expired peers are removed, and the reply names them and those that are due a ping.
unfoldable pub tick : Table → ℕ → Outcome
tick t now = removals t now Expired (expired_of now t.live) (filter (λ p. not (is_expired now p)) t.live)
    (reply.Ticked (serials_of (expired_of now t.live)) (serials_of (due_of now t.live)))

-- down: all live peers are removed, by rising id.
unfoldable pub down : Table → ℕ → Outcome
down t now = removals t now Teardown (by_rising_id t.live) [] (reply.Removed (serials_of (by_rising_id t.live)))

-- ---- look-ups

-- A hold on a peer and its key, with the peer's remote at this step.
abbrev pub hold_of : Peer → Key → HoldView
hold_of p k = record { peer = p.serial; id = p.id; key = k.serial; key_id = k.key_id; to = p.remote }

-- The reply of a look-up that found a peer, by the key that it found.
abbrev pub key_found : Table → ℕ → Peer → Option Key → Outcome
key_found t now p k = where_found t now reply.NoKey k (λ x. replied t now (reply.Hold (hold_of p x)))

-- Where an inner packet goes: the live peer with the VPN address that is its next hop, and that peer's
-- primary key.
unfoldable pub tx_look : Table → ℕ → Addr → Outcome
tx_look t now a = where_found t now reply.NoPeer (by_vpn a t.live) (λ p. key_found t now p p.slots.primary)

-- Whose a datagram is: the live peer with the id of its head or, where that is 16777215, with the
-- transport that it came from.
abbrev pub rx_peer : PeerId → Transport → List Peer → Option Peer
rx_peer id from peers = if id.number == greatest_peer_id then by_remote from peers else by_id id peers

-- Whose a datagram is, and which of that peer's keys: the one with the head's key id.
unfoldable pub rx_look : Table → ℕ → PeerId → KeyId → Transport → Outcome
rx_look t now id key_id from = where_found t now reply.NoPeer (rx_peer id from t.live) (λ p. key_found t now p (by_key_id key_id p.slots))

-- Whether a peer that was due still takes a ping: it is live, and its primary slot holds a key.
unfoldable pub keep_look : Table → (now peer : ℕ) → Outcome
keep_look t now peer = where_found t now reply.Skip (by_serial peer t.live)
    (λ p. where_found t now reply.Skip p.slots.primary (λ k. replied t now (reply.Hold (hold_of p k))))

-- ---- what is done with a hold

-- Whether a peer with this serial is in a list.
abbrev pub is_there : ℕ → List Peer → Bool
is_there serial peers = list_any (has_serial serial) peers

-- The live peer with a serial is changed or, where none is live, the dying one.
abbrev pub change_peer : ℕ → (live dying : Peer → Peer) → Table → Table
change_peer serial live dying t =
    if is_there serial t.live then record t { live = change_first (has_serial serial) live t.live } else
    record t { dying = change_first (has_serial serial) dying t.dying }

-- A count goes up and stays at the greatest 64-bit number.
abbrev pub up : ℕ → ℕ → ℕ
up count more = min (count + more) (2 ^ 64 - 1)

-- A datagram was sent: the link counts it, and inside the tunnel its packet counts unless it is a ping.
abbrev pub sent_counts : (inner outer : ℕ) → Bool → Counts → Counts
sent_counts inner outer ping c =
    if ping then record c { link_tx_bytes = up c.link_tx_bytes outer; link_tx_packets = up c.link_tx_packets 1 } else
    record c { link_tx_bytes = up c.link_tx_bytes outer; link_tx_packets = up c.link_tx_packets 1; vpn_tx_bytes = up c.vpn_tx_bytes inner; vpn_tx_packets = up c.vpn_tx_packets 1 }

-- The peer after a datagram was sent to it.
abbrev pub sent_peer : (now inner outer : ℕ) → Bool → Peer → Peer
sent_peer now inner outer ping p = record p { last_sent = now; counts = sent_counts inner outer ping p.counts }

-- A datagram was sent to a peer, live or dying.
unfoldable pub sent : Table → (now peer inner outer : ℕ) → Bool → Outcome
sent t now peer inner outer ping = replied (change_peer peer (sent_peer now inner outer ping) (sent_peer now inner outer ping) t) now reply.Done

-- The peer after a datagram was received from it: the link counts it.
abbrev pub received_peer : (now outer : ℕ) → Peer → Peer
received_peer now outer p = record p { last_received = now; counts = record p.counts { link_rx_bytes = up p.counts.link_rx_bytes outer; link_rx_packets = up p.counts.link_rx_packets 1 } }

-- A packet that is delivered counts inside the tunnel too.
abbrev pub settled_peer : Settled → ℕ → Peer → Peer
settled_peer settled.Deliver inner p = record p { counts = record p.counts { vpn_rx_bytes = up p.counts.vpn_rx_bytes inner; vpn_rx_packets = up p.counts.vpn_rx_packets 1 } }
settled_peer _ inner p = p

-- A live peer floats to the transport that its datagram came from, unless a live peer has it already.
abbrev pub floated : List Peer → Option Transport → Peer → Peer
floated live None p = p
floated live (Some from) p = if is_some (by_remote from live) then p else record p { remote = from }

-- Whether a peer was found and has this serial.
abbrev pub is_serial : ℕ → Option Peer → Bool
is_serial serial None = false
is_serial serial (Some p) = p.serial == serial

-- What becomes of a packet: it is delivered exactly where the live peer with the VPN address that is the
-- next hop of its source is the peer that was held.
abbrev pub settled_as : ℕ → InnerKind → List Peer → Settled
settled_as peer (kind.From a) live = if is_serial peer (by_vpn a live) then settled.Deliver else settled.NotOwner
settled_as peer kind.Ping live = settled.Ping
settled_as peer kind.NotIp live = settled.NotIp

-- A datagram of a peer was received and its packet opened: the peer is counted, and a live one may float; what
-- becomes of the packet is the reply.
unfoldable pub settle : Table → (now peer : ℕ) → Option Transport → InnerKind → (inner outer : ℕ) → Outcome
settle t now peer from k inner outer =
    let s : Settled = settled_as peer k t.live in
    replied (change_peer peer
    (λ p. settled_peer s inner (floated t.live from (received_peer now outer p)))
    (λ p. settled_peer s inner (received_peer now outer p)) t) now (reply.Settled s)

-- A key that gave its last packet id is taken out of its slot, and one key-swap note tells so.
abbrev pub spent_key : Table → (now peer key : ℕ) → Peer → Key → Outcome
spent_key t now peer key p k = record {
  after = record t { live = change_first (has_serial peer) (λ q. record q { slots = without_key key q.slots }) t.live; retired = t.retired ++ k ∷ []; moment = now };
  reply = reply.Killed;
  taken = key ∷ [];
  notes = note.KeySwap p.id k.key_id ∷ [];
}

-- A key gave its last packet id: it is taken out of its slot, where it stands in one of a live peer.
unfoldable pub spend : Table → (now peer key : ℕ) → Outcome
spend t now peer key = where_found t now reply.AlreadyGone (by_serial peer t.live)
    (λ p. where_found t now reply.AlreadyGone (by_key key p.slots) (spent_key t now peer key p))

-- ---- releases

-- A dying peer is let go.
unfoldable pub released : Table → ℕ → ℕ → Outcome
released t now serial = replied (record t { dying = without_first (has_serial serial) t.dying }) now (reply.Released serial)

-- Whether a key has this serial.
abbrev pub has_key_serial : ℕ → Key → Bool
has_key_serial serial k = k.serial == serial

-- A retired key is let go.
unfoldable pub key_released : Table → ℕ → ℕ → Outcome
key_released t now serial = replied (record t { retired = without_first (has_key_serial serial) t.retired }) now (reply.KeyReleased serial)

-- ---- every step

-- The step of a command.
abbrev pub command_step : Table → ℕ → Command → Outcome
command_step t now (command.PeerNew a) = peer_new t now a
command_step t now (command.PeerSet a) = peer_set t now a
command_step t now (command.PeerGet id) = peer_get t now id
command_step t now command.PeerDump = peer_dump t now
command_step t now (command.Remove id reason) = remove_peer t now id reason
command_step t now (command.KeyNew c) = key_new t now c
command_step t now (command.KeyGet id slot) = key_get t now id slot
command_step t now (command.KeySwap id) = key_swap t now id
command_step t now (command.KeyDel id slot) = key_del t now id slot
command_step t now command.Tick = tick t now
command_step t now command.Down = down t now

-- The step of an act at a moment.
abbrev pub act_step : Table → ℕ → Act → Outcome
act_step t now (act.Do c) = command_step t now c
act_step t now (act.TxLook a) = tx_look t now a
act_step t now (act.RxLook id key_id from) = rx_look t now id key_id from
act_step t now (act.Sent peer inner outer ping) = sent t now peer inner outer ping
act_step t now (act.Settle peer from k inner outer) = settle t now peer from k inner outer
act_step t now (act.Spend peer key) = spend t now peer key
act_step t now (act.KeepLook peer) = keep_look t now peer
act_step t now (act.Released serial) = released t now serial
act_step t now (act.KeyReleased serial) = key_released t now serial

-- The step of a call. A table's moment is the greatest that it has seen.
abbrev pub step : Table → Call → Outcome
step t c = act_step t (max t.moment c.at) c.act

-- Whether a key with this serial is in a list.
abbrev pub is_retired : ℕ → List Key → Bool
is_retired serial keys = list_any (has_key_serial serial) keys

-- Whether a peer has the key with this serial in a slot.
abbrev pub has_key : ℕ → Peer → Bool
has_key key p = is_some (by_key key p.slots)

-- What must hold where an act is made: what a hold names is still there, and only a dying peer and a
-- retired key are let go.
abbrev pub may_act : Table → Act → Bool
may_act t (act.Do c) = true
may_act t (act.TxLook a) = true
may_act t (act.RxLook id key_id from) = true
may_act t (act.Sent peer inner outer ping) = is_there peer t.live || is_there peer t.dying
may_act t (act.Settle peer from k inner outer) = is_there peer t.live || is_there peer t.dying
may_act t (act.Spend peer key) = (is_there peer t.live || is_there peer t.dying) && (list_any (has_key key) t.live || is_retired key t.retired)
may_act t (act.KeepLook peer) = true
may_act t (act.Released serial) = is_there serial t.dying
may_act t (act.KeyReleased serial) = is_retired serial t.retired

-- A call is allowed at a table: what its act needs is there.
abbrev pub May : Table → Call → Type 0
May t c = may_act t c.act ≡ true
