-- What the steps of the table answer.
use Rattle.std.proofs.Common.{ℕ, ◌≡◌, Bool, true, false, refl}
use Rattle.std.specs.Prelude.{Option}
use Rattle.ov_base.specs.declared.address.Addr.{Addr}
use Rattle.ov_base.specs.declared.address.Transport.{Transport}
use Rattle.ov_model.specs.declared.ident.PeerId.{PeerId}
use Rattle.ov_model.specs.declared.ident.KeyId.{KeyId}
use Rattle.ov_model.specs.declared.command.Command.{Command}
use Rattle.ov_model.specs.declared.command.Command.TheVariants as command
use Rattle.ov_model.specs.declared.act.InnerKind.{InnerKind}
use Rattle.ov_model.specs.declared.reply.Reply.TheVariants as reply
use Rattle.ov_model.specs.Tables.{Table, by_id, by_serial, by_vpn, by_key_id, in_slot}
use Rattle.ov_model.specs.Step.{Outcome, peer_new_checks, peer_made, peer_new, peer_set_checks, peer_changed, peer_set, peer_get, peer_dump, remove_peer, key_new_checks, key_made, key_new, key_get, key_swap, key_del, tx_look, rx_peer, rx_look, keep_look, sent, settle, settled_as, tick, down, command_step}
use Rattle.ov_model.specs.Next.{is_killed}
use Rattle.ov_model.specs.Path.{spent_reply}
use Rattle.ov_model.proofs.StepCases.{unless_has, found_has}
use Rattle.ov_path.specs.Desks.{IsLookReply, IsKeepReply, IsSpendReply, is_tick, is_ticked}

pub tx_fits : (t : Table) (now : ℕ) (a : Addr) → IsLookReply (tx_look t now a).reply
unfolding tx_look
tx_fits t now a =
    let P : Outcome → Type 0 = λ o. IsLookReply o.reply in
    found_has P t now _ (by_vpn a t.live) _ tt (λ p at. found_has P t now _ p.slots.primary _ tt (λ k has. tt))

pub rx_fits : (t : Table) (now : ℕ) (id : PeerId) (key_id : KeyId) (from : Transport) → IsLookReply (rx_look t now id key_id from).reply
unfolding rx_look
rx_fits t now id key_id from =
    let P : Outcome → Type 0 = λ o. IsLookReply o.reply in
    found_has P t now _ (rx_peer id from t.live) _ tt (λ p at. found_has P t now _ (by_key_id key_id p.slots) _ tt (λ k has. tt))

pub keep_fits : (t : Table) (now peer : ℕ) → IsKeepReply (keep_look t now peer).reply
unfolding keep_look
keep_fits t now peer =
    let P : Outcome → Type 0 = λ o. IsKeepReply o.reply in
    found_has P t now _ (by_serial peer t.live) _ tt (λ p at. found_has P t now _ p.slots.primary _ tt (λ k has. tt))

pub sent_done : (t : Table) (now peer inner outer : ℕ) (ping : Bool) → (sent t now peer inner outer ping).reply ≡ reply.Done
unfolding sent
sent_done t now peer inner outer ping = refl

pub settle_says : (t : Table) (now peer : ℕ) (from : Option Transport) (k : InnerKind) (inner outer : ℕ) → (settle t now peer from k inner outer).reply ≡ reply.Settled (settled_as peer k t.live)
unfolding settle
settle_says t now peer from k inner outer = refl

pub is_spend : (killed : Bool) → IsSpendReply (spent_reply killed)
is_spend true = tt
is_spend false = tt

pub killed_is : (killed : Bool) → is_killed (spent_reply killed) ≡ killed
killed_is true = refl
killed_is false = refl

abbrev NotTicked : Outcome → Type 0
NotTicked o = is_ticked o.reply ≡ false

-- A tick alone is answered as one.
pub command_ticked : (t : Table) (now : ℕ) (c : Command) → is_ticked (command_step t now c).reply ≡ is_tick c
unfolding peer_new peer_set peer_get peer_dump remove_peer key_new key_get key_swap key_del tick down
command_ticked t now (command.PeerNew a) = found_has NotTicked t now _ a.remote _ refl
    (λ remote is. unless_has NotTicked t now (peer_new_checks t a remote) (peer_made t now a remote) (λ e. refl) refl)
command_ticked t now (command.PeerSet a) = found_has NotTicked t now _ (by_id a.id t.live) _ refl
    (λ p found. unless_has NotTicked t now (peer_set_checks t a) (peer_changed t now a) (λ e. refl) refl)
command_ticked t now (command.PeerGet id) = found_has NotTicked t now _ (by_id id t.live) _ refl (λ p found. refl)
command_ticked t now command.PeerDump = refl
command_ticked t now (command.Remove id reason) = found_has NotTicked t now _ (by_id id t.live) _ refl (λ p found. refl)
command_ticked t now (command.KeyNew c) = found_has NotTicked t now _ (by_id c.peer t.live) _ refl
    (λ p found. unless_has NotTicked t now (key_new_checks t) (key_made t now c p) (λ e. refl) refl)
command_ticked t now (command.KeyGet id slot) = found_has NotTicked t now _ (by_id id t.live) _ refl
    (λ p found. found_has NotTicked t now _ (in_slot slot p.slots) _ refl (λ k has. refl))
command_ticked t now (command.KeySwap id) = found_has NotTicked t now _ (by_id id t.live) _ refl (λ p found. refl)
command_ticked t now (command.KeyDel id slot) = found_has NotTicked t now _ (by_id id t.live) _ refl (λ p found. refl)
command_ticked t now command.Tick = refl
command_ticked t now command.Down = refl
