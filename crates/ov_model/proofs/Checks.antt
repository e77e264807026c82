-- What the attribute checks never make of a netlink message: a tick is the clock's alone.
use Rattle.std.proofs.Common.{◌≡◌, subst, true, false, if◌then◌else◌}
use Rattle.std.specs.Prelude.{⊤, Option, Some, None, Result, Ok, Err}
use Rattle.ov_model.specs.declared.ident.PeerId.{PeerId}
use Rattle.ov_model.specs.declared.command.Attrs.{Attrs}
use Rattle.ov_model.specs.declared.command.Slot.{Slot}
use Rattle.ov_model.specs.declared.command.KeyConf.{KeyConf}
use Rattle.ov_model.specs.declared.command.Command.{Command}
use Rattle.ov_model.specs.declared.command.Command.TheVariants as command
use Rattle.ov_model.specs.declared.netlink.Cipher.{Cipher}
use Rattle.ov_model.specs.declared.netlink.Cipher.TheVariants.{NoCipher, AesGcm, ChaCha20Poly1305}
use Rattle.ov_model.specs.declared.netlink.NlKeyConf.{NlKeyConf}
use Rattle.ov_model.specs.declared.netlink.NlMessage.{NlMessage}
use Rattle.ov_model.specs.declared.netlink.NlOp.{NlOp}
use Rattle.ov_model.specs.declared.netlink.NlOp.TheVariants as op
use Rattle.ov_model.specs.declared.netlink.NlPeer.{NlPeer}
use Rattle.ov_model.specs.declared.reply.Errno.{Errno}
use Rattle.ov_model.specs.declared.reply.Errno.TheVariants.{Invalid}
use Rattle.ov_model.specs.Checked.{is_invalid, attrs_of, checked_attrs, checked_peer, checked_with, key_conf, with_cipher, checked_slot, checked_swap, checked_keyconf, checked_key, checked_op, checked}
use Rattle.ov_model.specs.Path.{NotTick}

-- A refusal, or a command that isn't a tick.
abbrev NoTick : Result Command Errno → Type 0
NoTick (Ok c) = NotTick c
NoTick (Err e) = ⊤

attrs_no_tick : (make : Attrs → Command) (p : NlPeer) (id : PeerId) → ((a : Attrs) → NotTick (make a)) → NoTick (checked_attrs make p id)
attrs_no_tick make p id never = elim (is_invalid p) as (λ b. NoTick (if b then Err Invalid else Ok (make (attrs_of id p)))) [ true ↦ tt | false ↦ never (attrs_of id p) ]

peer_no_tick : (o : NlOp) (p : NlPeer) (id : Option PeerId) → NoTick (checked_peer o p id)
peer_no_tick op.PeerNew p (Some id) = attrs_no_tick command.PeerNew p id (λ a. tt)
peer_no_tick op.PeerSet p (Some id) = attrs_no_tick command.PeerSet p id (λ a. tt)
peer_no_tick _ p (Some id) = tt
peer_no_tick _ p None = tt

with_no_tick : (o : NlOp) (p : Option NlPeer) → NoTick (checked_with o p)
with_no_tick o None = tt
with_no_tick o (Some p) = peer_no_tick o p _

cipher_no_tick : (cipher : Option Cipher) (c : Option KeyConf) → NoTick (with_cipher cipher c)
cipher_no_tick None c = tt
cipher_no_tick (Some AesGcm) None = tt
cipher_no_tick (Some AesGcm) (Some c) = tt
cipher_no_tick (Some NoCipher) None = tt
cipher_no_tick (Some NoCipher) (Some c) = tt
cipher_no_tick (Some ChaCha20Poly1305) None = tt
cipher_no_tick (Some ChaCha20Poly1305) (Some c) = tt

slot_no_tick : (make : PeerId → Slot → Command) (id : Option PeerId) (slot : Option Slot) → ((i : PeerId) (s : Slot) → NotTick (make i s)) → NoTick (checked_slot make id slot)
slot_no_tick make (Some id) (Some slot) never = never id slot
slot_no_tick make (Some id) None never = tt
slot_no_tick make None slot never = tt

swap_no_tick : (id : Option PeerId) → NoTick (checked_swap id)
swap_no_tick (Some id) = tt
swap_no_tick None = tt

keyconf_no_tick : (o : NlOp) (k : NlKeyConf) → NoTick (checked_keyconf o k)
keyconf_no_tick op.KeyNew k = cipher_no_tick k.cipher (key_conf k)
keyconf_no_tick op.KeyGet k = slot_no_tick command.KeyGet _ k.slot (λ i s. tt)
keyconf_no_tick op.KeySwap k = swap_no_tick _
keyconf_no_tick op.KeyDel k = slot_no_tick command.KeyDel _ k.slot (λ i s. tt)
keyconf_no_tick _ k = tt

key_no_tick : (o : NlOp) (k : Option NlKeyConf) → NoTick (checked_key o k)
key_no_tick o None = tt
key_no_tick o (Some k) = keyconf_no_tick o k

op_no_tick : (o : NlOp) (m : NlMessage) → NoTick (checked_op o m)
op_no_tick op.PeerNew m = with_no_tick op.PeerNew m.peer
op_no_tick op.PeerSet m = with_no_tick op.PeerSet m.peer
op_no_tick op.PeerGet m = with_no_tick op.PeerGet m.peer
op_no_tick op.PeerDel m = with_no_tick op.PeerDel m.peer
op_no_tick op.PeerDump m = tt
op_no_tick op.KeyNew m = key_no_tick op.KeyNew m.keyconf
op_no_tick op.KeyGet m = key_no_tick op.KeyGet m.keyconf
op_no_tick op.KeySwap m = key_no_tick op.KeySwap m.keyconf
op_no_tick op.KeyDel m = key_no_tick op.KeyDel m.keyconf

-- A netlink message is never checked to a tick.
pub checked_no_tick : (m : NlMessage) (c : Command) → checked m ≡ Ok c → NotTick c
unfolding checked
checked_no_tick m c is = subst NoTick is (op_no_tick m.op m)
