-- What is owed after each kind of event.
use Rattle.std.proofs.Common.{ℕ, ◌≡◌, ◌+◌, ◌<◌, ◌≤◌, List, [], ◌∷◌, ◌++◌, refl, sym, ap, ◌∙◌, subst, Bool, true, false, arith, if◌then◌else◌, ◌==◌, inl, inr}
use Rattle.std.specs.List.{list_any}
use Rattle.std.specs.Prelude.{⊤, filter, map, Some, slice_get, slice_set, max}
use Rattle.std.proofs.lemmas.Bool.{cases_eq, cases_lt, eq-eqb, ne_eqb}
use Rattle.ov_base.specs.Sums.{total}
use Rattle.ov_base.specs.declared.address.Addr.{Addr}
use Rattle.ov_base.proofs.Sums.{total_append}
use Rattle.ov_model.specs.declared.place.Place.{Place}
use Rattle.ov_model.specs.declared.act.Act.{Act}
use Rattle.ov_model.specs.declared.act.Act.TheVariants as act
use Rattle.ov_model.specs.declared.act.Call.{Call}
use Rattle.ov_model.specs.declared.hold.Given.{Given}
use Rattle.ov_model.specs.declared.hold.Given.TheVariants as given
use Rattle.ov_model.specs.declared.hold.Owed.{Owed}
use Rattle.ov_model.specs.declared.hold.Owed.TheVariants as owed
use Rattle.ov_model.specs.declared.reply.HoldView.{HoldView}
use Rattle.ov_model.specs.declared.reply.Reply.{Reply}
use Rattle.ov_model.specs.declared.reply.Reply.TheVariants as reply
use Rattle.ov_model.specs.Tables.{Table, Peer, Key, serials_of, key_serials}
use Rattle.ov_model.specs.Events.{GaveKey, GavePeer}
use Rattle.ov_model.specs.Step.{Outcome, tx_look, rx_look, keep_look, step, act_step, May, is_there, is_retired}
use Rattle.ov_model.specs.Path.{removed}
use Rattle.ov_model.specs.Removals.{times, released_by, key_released_by}
use Rattle.ov_model.proofs.Firsts.{is_of}
use Rattle.ov_model.proofs.KeysTaken.{slot_serials}
use Rattle.ov_model.proofs.Tallies.{peer_stands, key_stands, any_stands}
use Rattle.ov_model.proofs.Freed.{act_balance}
use Rattle.ov_model.proofs.Removing.{Keeps, tx_look_keeps, rx_look_keeps, keep_look_keeps}
use Rattle.ov_model.specs.Next.{release_act}
use Rattle.ov_path.specs.Desks.{Holding, NoHold, Both, PeerLeft, look_holds, held_after, MayCall, first_owed, peer_left, owed_if, HoldsKey, LeftPeer}
use Rattle.ov_table.specs.Recorded.{Recorded, IsTold}
use Rattle.ov_core.specs.Worlds.{World, Seat, holds_peer, holds_key, peer_holds, key_holds, is_peer, is_key, peer_owes, key_owes, joined_by, let_go, seat_stepped, after_step, seen_from, given_where, without_key, without_hold, key_given, peer_given, after_key, after_peer}
use Rattle.ov_core.specs.Sounds.{Owes}
use Rattle.ov_core.proofs.Owing.{due, joins_owed, taken_owed, given_owed, times_filter, total_changed_at}
use Rattle.ov_core.proofs.There.{peer_once, key_once, HoldLives, ReplyLives, tx_lives, rx_lives, keep_lives}

-- ---- what is owed, counted

peers_of_peers : (p : ℕ) (ps : List ℕ) → total (is_peer p) (map owed.Peer ps) ≡ times p ps
peers_of_peers p [] = refl
peers_of_peers p (q ∷ ps) = elim (cases_eq q p) [
  | inl same ↦ rw (eq-eqb q p same, peers_of_peers p ps) (omega arith)
  | inr other ↦ rw (ne_eqb q p other, peers_of_peers p ps) (omega arith)
]

peers_of_keys : (p : ℕ) (ks : List ℕ) → total (is_peer p) (map owed.Key ks) ≡ 0
peers_of_keys p [] = refl
peers_of_keys p (k ∷ ks) = rw (peers_of_keys p ks) refl

keys_of_keys : (k : ℕ) (ks : List ℕ) → total (is_key k) (map owed.Key ks) ≡ times k ks
keys_of_keys k [] = refl
keys_of_keys k (q ∷ ks) = elim (cases_eq q k) [
  | inl same ↦ rw (eq-eqb q k same, keys_of_keys k ks) (omega arith)
  | inr other ↦ rw (ne_eqb q k other, keys_of_keys k ks) (omega arith)
]

keys_of_peers : (k : ℕ) (ps : List ℕ) → total (is_key k) (map owed.Peer ps) ≡ 0
keys_of_peers k [] = refl
keys_of_peers k (p ∷ ps) = rw (keys_of_peers k ps) refl

-- What joins is what nobody holds.
peers_joined : (p : ℕ) (seats : List Seat) (taken gone : List ℕ) → total (is_peer p) (joined_by seats taken gone) ≡ due (peer_holds p seats) (times p gone)
peers_joined p seats taken gone =
    let keys : List ℕ = filter (λ k. key_holds k seats == 0) taken in
    let peers : List ℕ = filter (λ q. peer_holds q seats == 0) gone in
    let both : total (is_peer p) (map owed.Key keys ++ map owed.Peer peers) ≡ total (is_peer p) (map owed.Key keys) + total (is_peer p) (map owed.Peer peers) = total_append (is_peer p) (map owed.Key keys) (map owed.Peer peers) in
    let none : total (is_peer p) (map owed.Key keys) ≡ 0 = peers_of_keys p keys in
    let all : total (is_peer p) (map owed.Peer peers) ≡ times p peers = peers_of_peers p peers in
    let some : times p peers ≡ due (peer_holds p seats) (times p gone) = times_filter p (λ q. peer_holds q seats == 0) gone in
    omega arith

keys_joined : (k : ℕ) (seats : List Seat) (taken gone : List ℕ) → total (is_key k) (joined_by seats taken gone) ≡ due (key_holds k seats) (times k taken)
keys_joined k seats taken gone =
    let keys : List ℕ = filter (λ q. key_holds q seats == 0) taken in
    let peers : List ℕ = filter (λ q. peer_holds q seats == 0) gone in
    let both : total (is_key k) (map owed.Key keys ++ map owed.Peer peers) ≡ total (is_key k) (map owed.Key keys) + total (is_key k) (map owed.Peer peers) = total_append (is_key k) (map owed.Key keys) (map owed.Peer peers) in
    let none : total (is_key k) (map owed.Peer peers) ≡ 0 = keys_of_peers k peers in
    let all : total (is_key k) (map owed.Key keys) ≡ times k keys = keys_of_keys k keys in
    let some : times k keys ≡ due (key_holds k seats) (times k taken) = times_filter k (λ q. key_holds q seats == 0) taken in
    omega arith

-- A release is that of the first that is owed.
abbrev pub ReleasesFirst : Act → List Owed → Type 0
ReleasesFirst (act.Released p) os = first_owed os ≡ Some (owed.Peer p)
ReleasesFirst (act.KeyReleased k) os = first_owed os ≡ Some (owed.Key k)
ReleasesFirst _ os = ⊤

-- A release takes from what is owed what it lets go.
pub record LetsGo (a : Act) (os : List Owed) : Type 0 where
  pub peers : (p : ℕ) → total (is_peer p) (let_go a os) + times p (released_by a) ≡ total (is_peer p) os
  pub keys : (k : ℕ) → total (is_key k) (let_go a os) + times k (key_released_by a) ≡ total (is_key k) os

first_peer : (serial p : ℕ) → times p (serial ∷ []) ≡ is_peer p (owed.Peer serial)
first_peer serial p = elim (cases_eq serial p) [ inl same ↦ rw (eq-eqb serial p same) refl | inr other ↦ rw (ne_eqb serial p other) refl ]

lets_peer : (serial : ℕ) (os : List Owed) → first_owed os ≡ Some (owed.Peer serial) → LetsGo (act.Released serial) os
lets_peer serial [] first = cc
lets_peer serial (o ∷ os) first =
    let its : o ≡ owed.Peer serial = cc in
    rw its (record { peers = λ p. let one = first_peer serial p in omega arith; keys = λ k. omega arith })

lets_key : (serial : ℕ) (os : List Owed) → first_owed os ≡ Some (owed.Key serial) → LetsGo (act.KeyReleased serial) os
lets_key serial [] first = cc
lets_key serial (o ∷ os) first =
    let its : o ≡ owed.Key serial = cc in
    rw its (record { peers = λ p. omega arith; keys = λ k. let one = first_peer serial k in omega arith })

lets_none : (a : Act) (os : List Owed) → let_go a os ≡ os → released_by a ≡ [] → key_released_by a ≡ [] → LetsGo a os
lets_none a os same no_peer no_key = record {
  peers = λ p. rw (same, no_peer) (omega arith);
  keys = λ k. rw (same, no_key) (omega arith);
}

pub lets_go_first : (a : Act) (os : List Owed) → ReleasesFirst a os → LetsGo a os
lets_go_first (act.Do c) os first = lets_none (act.Do c) os refl refl refl
lets_go_first (act.TxLook a) os first = lets_none (act.TxLook a) os refl refl refl
lets_go_first (act.RxLook id key_id from) os first = lets_none (act.RxLook id key_id from) os refl refl refl
lets_go_first (act.KeepLook peer) os first = lets_none (act.KeepLook peer) os refl refl refl
lets_go_first (act.Sent peer inner outer ping) os first = lets_none (act.Sent peer inner outer ping) os refl refl refl
lets_go_first (act.Settle peer from k inner outer) os first = lets_none (act.Settle peer from k inner outer) os refl refl refl
lets_go_first (act.Spend peer key) os first = lets_none (act.Spend peer key) os refl refl refl
lets_go_first (act.Released serial) os first = lets_peer serial os first
lets_go_first (act.KeyReleased serial) os first = lets_key serial os first

-- ---- what is held after a step

-- Of a serial: one hold more or none, and more only where it isn't on its way out.
abbrev pub TakesOne : (was now out : ℕ) → Type 0
TakesOne was now out = (more : ℕ) × (now ≡ was + more) × (0 < more → out ≡ 0)

-- What a lane holds stays, or it holds what isn't on its way out.
pub record Takes (before after : Holding) (t : Table) : Type 0 where
  pub peers : (p : ℕ) → TakesOne (holds_peer p before) (holds_peer p after) (times p (serials_of t.dying))
  pub keys : (k : ℕ) → TakesOne (holds_key k before) (holds_key k after) (times k (key_serials t.retired))

takes_none : (h : Holding) (t : Table) → Takes h h t
takes_none h t = record { peers = λ p. (0, omega arith, λ some. absurd (omega arith)); keys = λ k. (0, omega arith, λ some. absurd (omega arith)) }

-- A hold on a serial that is live is on nothing that is on its way out.
takes_one : (serial x lives outs : ℕ) → ((serial ≡ x) → (1 ≤ lives) × (lives + outs ≤ 1)) → TakesOne 0 (if serial == x then 1 else 0) outs
takes_one serial x lives outs live = elim (cases_eq serial x) [
  | inl same ↦ rw (eq-eqb serial x same) (1, refl, λ some. let both = live same in omega arith)
  | inr other ↦ rw (ne_eqb serial x other) (0, refl, λ some. absurd (omega arith))
]

-- A look-up needs a lane that holds nothing.
abbrev pub LooksFree : Act → Holding → Type 0
LooksFree (act.TxLook a) h = h ≡ NoHold
LooksFree (act.RxLook id key_id from) h = h ≡ NoHold
LooksFree (act.KeepLook peer) h = h ≡ NoHold
LooksFree _ h = ⊤

-- What stands twice is on its way out where it isn't live.
not_leaving : (live out : ℕ) → 1 ≤ live → live + out ≤ 1 → out ≡ 0
not_leaving live out lives once = omega arith

held_takes : (t after : Table) (h : HoldView) → HoldLives t h → ((x : ℕ) → peer_stands x t ≤ 1) → ((x : ℕ) → key_stands x t ≤ 1) → ((x : ℕ) → times x (serials_of after.dying) ≡ times x (serials_of t.dying)) → ((x : ℕ) → times x (key_serials after.retired) ≡ times x (key_serials t.retired)) → Takes NoHold (Both h) after
held_takes t after h lives peers keys dying retired = record {
  peers = λ p. takes_one h.peer p (times p (serials_of t.live)) (times p (serials_of after.dying)) (λ same.
      let live : 1 ≤ times p (serials_of t.live) = subst (λ x. 1 ≤ times x (serials_of t.live)) same lives.peer in
      let once : times p (serials_of t.live) + times p (serials_of t.dying) ≤ 1 = peers p in
      let stays : times p (serials_of after.dying) ≡ times p (serials_of t.dying) = dying p in
      (live, omega arith));
  keys = λ k. takes_one h.key k (times k (slot_serials t.live)) (times k (key_serials after.retired)) (λ same.
      let live : 1 ≤ times k (slot_serials t.live) = subst (λ x. 1 ≤ times x (slot_serials t.live)) same lives.key in
      let once : times k (slot_serials t.live) + times k (key_serials t.retired) ≤ 1 = keys k in
      let stays : times k (key_serials after.retired) ≡ times k (key_serials t.retired) = retired k in
      (live, omega arith));
}

look_takes : (t after : Table) (r : Reply) → ReplyLives t r → ((x : ℕ) → peer_stands x t ≤ 1) → ((x : ℕ) → key_stands x t ≤ 1) → ((x : ℕ) → times x (serials_of after.dying) ≡ times x (serials_of t.dying)) → ((x : ℕ) → times x (key_serials after.retired) ≡ times x (key_serials t.retired)) → Takes NoHold (look_holds NoHold r) after
look_takes t after (reply.Hold h) lives peers keys dying retired = held_takes t after h lives peers keys dying retired
look_takes t after (reply.Made n) lives peers keys dying retired = takes_none NoHold after
look_takes t after reply.Done lives peers keys dying retired = takes_none NoHold after
look_takes t after (reply.Peer p) lives peers keys dying retired = takes_none NoHold after
look_takes t after (reply.Peers vs) lives peers keys dying retired = takes_none NoHold after
look_takes t after (reply.Key k) lives peers keys dying retired = takes_none NoHold after
look_takes t after (reply.Removed ps) lives peers keys dying retired = takes_none NoHold after
look_takes t after (reply.Ticked expired due) lives peers keys dying retired = takes_none NoHold after
look_takes t after reply.Skip lives peers keys dying retired = takes_none NoHold after
look_takes t after reply.NoPeer lives peers keys dying retired = takes_none NoHold after
look_takes t after reply.NoKey lives peers keys dying retired = takes_none NoHold after
look_takes t after (reply.Settled s) lives peers keys dying retired = takes_none NoHold after
look_takes t after reply.Killed lives peers keys dying retired = takes_none NoHold after
look_takes t after reply.AlreadyGone lives peers keys dying retired = takes_none NoHold after
look_takes t after (reply.Released s) lives peers keys dying retired = takes_none NoHold after
look_takes t after (reply.KeyReleased s) lives peers keys dying retired = takes_none NoHold after
look_takes t after (reply.Refused e) lives peers keys dying retired = takes_none NoHold after

-- What a lane holds after its step.
held_of : (t : Table) (now : ℕ) (a : Act) (h : Holding) → LooksFree a h → ((x : ℕ) → peer_stands x t ≤ 1) → ((x : ℕ) → key_stands x t ≤ 1) → Takes h (held_after h a (act_step t now a).reply) (act_step t now a).after
held_of t now (act.Do c) h free peers keys = takes_none h (act_step t now (act.Do c)).after
held_of t now (act.TxLook a) h free peers keys =
    let keeps : Keeps t (tx_look t now a) = tx_look_keeps t now a in
    rw free (look_takes t (tx_look t now a).after (tx_look t now a).reply (tx_lives t now a) peers keys (λ x. ap (times x) keeps.dying) (λ x. ap (λ (ks : List Key). times x (key_serials ks)) keeps.retired))
held_of t now (act.RxLook id key_id from) h free peers keys =
    let keeps : Keeps t (rx_look t now id key_id from) = rx_look_keeps t now id key_id from in
    rw free (look_takes t (rx_look t now id key_id from).after (rx_look t now id key_id from).reply (rx_lives t now id key_id from) peers keys (λ x. ap (times x) keeps.dying) (λ x. ap (λ (ks : List Key). times x (key_serials ks)) keeps.retired))
held_of t now (act.KeepLook peer) h free peers keys =
    let keeps : Keeps t (keep_look t now peer) = keep_look_keeps t now peer in
    rw free (look_takes t (keep_look t now peer).after (keep_look t now peer).reply (keep_lives t now peer) peers keys (λ x. ap (times x) keeps.dying) (λ x. ap (λ (ks : List Key). times x (key_serials ks)) keeps.retired))
held_of t now (act.Sent peer inner outer ping) h free peers keys = takes_none h (act_step t now (act.Sent peer inner outer ping)).after
held_of t now (act.Settle peer from k inner outer) h free peers keys = takes_none h (act_step t now (act.Settle peer from k inner outer)).after
held_of t now (act.Spend peer key) h free peers keys = takes_none h (act_step t now (act.Spend peer key)).after
held_of t now (act.Released serial) h free peers keys = takes_none h (act_step t now (act.Released serial)).after
held_of t now (act.KeyReleased serial) h free peers keys = takes_none h (act_step t now (act.KeyReleased serial)).after

-- ---- a step of the table

-- One serial: the table's side, the lane's, and the sums over all lanes.
step_counts : (holds owes held_now owed_now out left freed gone was now own mine kept joined : ℕ) → owes ≡ due holds out → left + freed ≡ out + gone → TakesOne was now left → held_now + was ≡ holds + now → owed_now + own ≡ owes + mine → mine ≡ kept + joined → kept + freed ≡ own → joined ≡ due holds gone → owed_now ≡ due held_now left
step_counts holds owes held_now owed_now out left freed gone was now own mine kept joined owed table takes hold owing parts lets joins =
    let more : ℕ = takes.0 in
    let now_is : now ≡ was + more = takes.1 in
    let held_is : held_now ≡ holds + more = omega arith in
    let same : owed_now ≡ due holds left = joins_owed holds owes owed_now out left freed gone owed table (omega arith) in
    rw held_is (taken_owed holds more owed_now left same takes.2)

-- A step of any act: what is released is the first that the lane owes, and what looks up holds nothing.
pub step_owes : (w : World) (i : ℕ) (s : Seat) (place : Place) (call : Call) → IsTold w.table → Owes w → slice_get w.seats i ≡ Some s → May w.table.now call → ReleasesFirst call.act s.owing → LooksFree call.act s.hold → Owes (after_step w i s place call)
step_owes w i s place call told owes at may first free =
    let t : Table = w.table.now in
    let a : Act = call.act in
    let o : Outcome = step t call in
    let after : Seat = seat_stepped w.seats s place call o in
    let takes : Takes s.hold after.hold o.after = held_of t (max t.moment call.at) a s.hold free (λ x. peer_once w.table x told) (λ x. key_once w.table x told) in
    let lets : LetsGo a s.owing = lets_go_first a s.owing first in
    record {
      peers = λ p. step_counts (peer_holds p w.seats) (peer_owes p w.seats) _ _ (times p (serials_of t.dying)) (times p (serials_of o.after.dying)) (times p (released_by a)) (times p (removed o.reply)) (holds_peer p s.hold) (holds_peer p after.hold) (total (is_peer p) s.owing) (total (is_peer p) after.owing) (total (is_peer p) (let_go a s.owing)) (total (is_peer p) (joined_by w.seats o.taken (removed o.reply)))
          (owes.peers p)
          (act_balance p t _ a may).peers
          (takes.peers p)
          (total_changed_at (λ r. holds_peer p r.hold) w.seats i s after at)
          (total_changed_at (λ r. total (is_peer p) r.owing) w.seats i s after at)
          (total_append (is_peer p) (let_go a s.owing) (joined_by w.seats o.taken (removed o.reply)))
          (lets.peers p)
          (peers_joined p w.seats o.taken (removed o.reply));
      keys = λ k. step_counts (key_holds k w.seats) (key_owes k w.seats) _ _ (times k (key_serials t.retired)) (times k (key_serials o.after.retired)) (times k (key_released_by a)) (times k o.taken) (holds_key k s.hold) (holds_key k after.hold) (total (is_key k) s.owing) (total (is_key k) after.owing) (total (is_key k) (let_go a s.owing)) (total (is_key k) (joined_by w.seats o.taken (removed o.reply)))
          (owes.keys k)
          (act_balance k t _ a may).keys
          (takes.keys k)
          (total_changed_at (λ r. holds_key k r.hold) w.seats i s after at)
          (total_changed_at (λ r. total (is_key k) r.owing) w.seats i s after at)
          (total_append (is_key k) (let_go a s.owing) (joined_by w.seats o.taken (removed o.reply)))
          (lets.keys k)
          (keys_joined k w.seats o.taken (removed o.reply));
    }

-- What a line may ask for is no release, and looks up only where its lane holds nothing.
pub call_first : (via : Addr → Addr) (w : World) (s : Seat) (a : Act) → MayCall (seen_from via w s) a → ReleasesFirst a s.owing × LooksFree a s.hold
call_first via w s (act.Do c) may = (tt, tt)
call_first via w s (act.TxLook a) may = (tt, may.0)
call_first via w s (act.RxLook id key_id from) may = (tt, may.0)
call_first via w s (act.KeepLook peer) may = (tt, may.hold)
call_first via w s (act.Sent peer inner outer ping) may = (tt, tt)
call_first via w s (act.Settle peer from k inner outer) may = (tt, tt)
call_first via w s (act.Spend peer key) may = (tt, tt)
call_first via w s (act.Released serial) may = absurd may
call_first via w s (act.KeyReleased serial) may = absurd may

release_first : (o : Owed) (os : List Owed) (h : Holding) → first_owed os ≡ Some o → ReleasesFirst (release_act o) os × LooksFree (release_act o) h
release_first (owed.Peer p) os h first = (first, tt)
release_first (owed.Key k) os h first = (first, tt)

-- The release of what a lane owes first.
pub owed_first : (a : Act) (o : Owed) (os : List Owed) (h : Holding) → first_owed os ≡ Some o → a ≡ release_act o → ReleasesFirst a os × LooksFree a h
owed_first a o os h first is = subst (λ b. ReleasesFirst b os × LooksFree b h) (sym is) (release_first o os h first)

-- ---- give-backs

-- The release that joins where a hold was the last, of the serial itself.
last_owed : (leaving : Bool) (left out : ℕ) → out ≤ 1 → (leaving ≡ true → 1 ≤ out) → (1 ≤ out → leaving ≡ true) → (f : Owed → ℕ) (o : Owed) → f o ≡ 1 → total f (owed_if (given_where leaving left) o) ≡ due left out
last_owed false left out once there all f o one =
    let none : out ≡ 0 = elim (cases_lt 0 out) [ inl some ↦ absurd (let wrong : false ≡ true = all some in cc) | inr never ↦ omega arith ] in
    rw none (elim (left == 0) as (λ b. ◌≡◌ {A = ℕ} 0 (if b then 0 else 0)) [ true ↦ refl | false ↦ refl ])
last_owed true left out once there all f o one =
    let is : out ≡ 1 = (let some : 1 ≤ out = there refl in omega arith) in
    rw is (elim (left == 0) as (λ b. total f (owed_if (if b then given.Last else given.More) o) ≡ (if b then 1 else 0)) [ true ↦ omega arith | false ↦ refl ])

-- And what joins is no other serial's.
other_owed : (given : Given) (f : Owed → ℕ) (o : Owed) → f o ≡ 0 → total f (owed_if given o) ≡ 0
other_owed given.More f o none = refl
other_owed given.Last f o none = omega arith

-- A list in which a serial stands has a member with it.
any_with : {X : Type 0} (f : X → ℕ) (serial : ℕ) (xs : List X) → 1 ≤ times serial (map f xs) → list_any (is_of f serial) xs ≡ true
any_with f serial [] stands = absurd (omega arith)
any_with f serial (x ∷ xs) stands = elim (cases_eq (f x) serial) [
  | inl same ↦ rw (eq-eqb (f x) serial same) refl
  | inr other ↦
      let skip : times serial (map f (x ∷ xs)) ≡ times serial (map f xs) = rw (ne_eqb (f x) serial other) refl in
      rw (ne_eqb (f x) serial other) (any_with f serial xs (rw (← skip) stands))
]

-- And a member with it stands.
with_any : {X : Type 0} (f : X → ℕ) (serial : ℕ) (xs : List X) → list_any (is_of f serial) xs ≡ true → 1 ≤ times serial (map f xs)
with_any f serial xs any =
    let stands : times serial (serial ∷ []) ≤ times serial (map f xs) = any_stands f serial serial xs any in
    let one : times serial (serial ∷ []) ≡ 1 = rw (eq-eqb serial serial refl) refl in
    omega arith

-- One serial where its hold was given back: the sums over all lanes, and what joins.
given_counts : (holds owes held_now owed_now out was now own mine joined : ℕ) → owes ≡ due holds out → held_now + was ≡ holds + now → owed_now + own ≡ owes + mine → mine ≡ own + joined → was ≡ now + 1 → joined ≡ due held_now out → owed_now ≡ due held_now out
given_counts holds owes held_now owed_now out was now own mine joined owed hold owing parts less joins =
    given_owed holds held_now owes owed_now out owed (omega arith) (omega arith)

-- One serial whose hold stayed.
kept_counts : (holds owes held_now owed_now out was now own mine joined : ℕ) → owes ≡ due holds out → held_now + was ≡ holds + now → owed_now + own ≡ owes + mine → mine ≡ own + joined → was ≡ now → joined ≡ 0 → owed_now ≡ due held_now out
kept_counts holds owes held_now owed_now out was now own mine joined owed hold owing parts same none =
    let held : held_now ≡ holds = omega arith in
    let owes_now : owed_now ≡ owes = omega arith in
    rw (held, owes_now) owed

-- What lanes hold and owe once lane i has another seat.
held_then : (f : Holding → ℕ) (seats : List Seat) (i : ℕ) (s a b : Seat) → slice_get seats i ≡ Some s → a.hold ≡ b.hold → total (λ r. f r.hold) (slice_set seats i a) ≡ total (λ r. f r.hold) (slice_set seats i b)
held_then f seats i s a b at same =
    let with_a : total (λ r. f r.hold) (slice_set seats i a) + f s.hold ≡ total (λ r. f r.hold) seats + f a.hold = total_changed_at (λ r. f r.hold) seats i s a at in
    let with_b : total (λ r. f r.hold) (slice_set seats i b) + f s.hold ≡ total (λ r. f r.hold) seats + f b.hold = total_changed_at (λ r. f r.hold) seats i s b at in
    let alike : f a.hold ≡ f b.hold = ap f same in
    omega arith

-- The key that is given back, and any other.
key_less : (h : Holding) (key k : ℕ) → HoldsKey h key → (holds_key k h ≡ is_key k (owed.Key key)) × (holds_key k (peer_left h) ≡ 0)
key_less NoHold key k holds = absurd holds
key_less (Both h) key k holds = (rw holds refl, refl)
key_less (PeerLeft h) key k holds = absurd holds

key_same_peer : (h : Holding) (key p : ℕ) → HoldsKey h key → holds_peer p h ≡ holds_peer p (peer_left h)
key_same_peer NoHold key p holds = absurd holds
key_same_peer (Both h) key p holds = refl
key_same_peer (PeerLeft h) key p holds = absurd holds

-- The peer that is given back, and any other.
peer_less : (h : Holding) (peer p : ℕ) → LeftPeer h peer → holds_peer p h ≡ is_peer p (owed.Peer peer)
peer_less NoHold peer p left = absurd left
peer_less (Both h) peer p left = absurd left
peer_less (PeerLeft h) peer p left = rw left refl

peer_same_key : (h : Holding) (peer k : ℕ) → LeftPeer h peer → holds_key k h ≡ 0
peer_same_key NoHold peer k left = absurd left
peer_same_key (Both h) peer k left = absurd left
peer_same_key (PeerLeft h) peer k left = refl

-- A key's hold is given back: the last one owes its release, where it is retired.
pub key_owes_back : (w : World) (i : ℕ) (s : Seat) (key : ℕ) → IsTold w.table → Owes w → slice_get w.seats i ≡ Some s → HoldsKey s.hold key → Owes (after_key w i s key)
key_owes_back w i s key told owes at holds =
    let t : Table = w.table.now in
    let retired : List Key = t.retired in
    let serial : Key → ℕ = λ k. k.serial in
    let given : Given = key_given w i s key in
    let after : Seat = record { events = s.events ++ GaveKey key given ∷ []; hold = peer_left s.hold; owing = s.owing ++ owed_if given (owed.Key key) } in
    let seats : List Seat = slice_set w.seats i after in
    let once : times key (key_serials retired) ≤ 1 = (let most : key_stands key t ≤ 1 = key_once w.table key told in omega arith) in
    let left : key_holds key (without_key w.seats i s) ≡ key_holds key seats = held_then (holds_key key) w.seats i s (record s { hold = peer_left s.hold }) after at refl in
    let joins : total (is_key key) (owed_if given (owed.Key key)) ≡ due (key_holds key (without_key w.seats i s)) (times key (key_serials retired)) =
    last_owed (is_retired key retired) (key_holds key (without_key w.seats i s)) (times key (key_serials retired)) once (with_any serial key retired) (any_with serial key retired) (is_key key) (owed.Key key) (rw (eq-eqb key key refl) refl) in
    record {
      peers = λ p. kept_counts (peer_holds p w.seats) (peer_owes p w.seats) (peer_holds p seats) (peer_owes p seats) (times p (serials_of t.dying)) (holds_peer p s.hold) (holds_peer p after.hold) (total (is_peer p) s.owing) (total (is_peer p) after.owing) (total (is_peer p) (owed_if given (owed.Key key)))
          (owes.peers p)
          (total_changed_at (λ r. holds_peer p r.hold) w.seats i s after at)
          (total_changed_at (λ r. total (is_peer p) r.owing) w.seats i s after at)
          (total_append (is_peer p) s.owing (owed_if given (owed.Key key)))
          (key_same_peer s.hold key p holds)
          (other_owed given (is_peer p) (owed.Key key) refl);
      keys = λ k.
          let less : holds_key k s.hold ≡ is_key k (owed.Key key) = (key_less s.hold key k holds).0 in
          let none_left : holds_key k (peer_left s.hold) ≡ 0 = (key_less s.hold key k holds).1 in
          let hold = total_changed_at (λ r. holds_key k r.hold) w.seats i s after at in
          let owing = total_changed_at (λ r. total (is_key k) r.owing) w.seats i s after at in
          let parts = total_append (is_key k) s.owing (owed_if given (owed.Key key)) in
          elim (cases_eq key k) [
            | inl same ↦ given_counts (key_holds k w.seats) (key_owes k w.seats) (key_holds k seats) (key_owes k seats) (times k (key_serials retired)) (holds_key k s.hold) (holds_key k after.hold) (total (is_key k) s.owing) (total (is_key k) after.owing) (total (is_key k) (owed_if given (owed.Key key))) (owes.keys k) hold owing parts
                (let one : is_key k (owed.Key key) ≡ 1 = rw (eq-eqb key k same) refl in omega arith)
                (subst (λ x. total (is_key x) (owed_if given (owed.Key key)) ≡ due (key_holds x seats) (times x (key_serials retired))) same (joins ∙ ap (λ n. due n (times key (key_serials retired))) left))
            | inr other ↦ kept_counts (key_holds k w.seats) (key_owes k w.seats) (key_holds k seats) (key_owes k seats) (times k (key_serials retired)) (holds_key k s.hold) (holds_key k after.hold) (total (is_key k) s.owing) (total (is_key k) after.owing) (total (is_key k) (owed_if given (owed.Key key))) (owes.keys k) hold owing parts
                (let none : is_key k (owed.Key key) ≡ 0 = rw (ne_eqb key k other) refl in omega arith)
                (other_owed given (is_key k) (owed.Key key) (rw (ne_eqb key k other) refl))
          ];
    }

-- A peer's hold is given back: the last one owes its release, where it is dying.
pub peer_owes_back : (w : World) (i : ℕ) (s : Seat) (peer : ℕ) → IsTold w.table → Owes w → slice_get w.seats i ≡ Some s → LeftPeer s.hold peer → Owes (after_peer w i s peer)
peer_owes_back w i s peer told owes at holds =
    let t : Table = w.table.now in
    let dying : List Peer = t.dying in
    let serial : Peer → ℕ = λ p. p.serial in
    let given : Given = peer_given w i s peer in
    let after : Seat = record { events = s.events ++ GavePeer peer given ∷ []; hold = NoHold; owing = s.owing ++ owed_if given (owed.Peer peer) } in
    let seats : List Seat = slice_set w.seats i after in
    let once : times peer (serials_of dying) ≤ 1 = (let most : peer_stands peer t ≤ 1 = peer_once w.table peer told in omega arith) in
    let left : peer_holds peer (without_hold w.seats i s) ≡ peer_holds peer seats = held_then (holds_peer peer) w.seats i s (record s { hold = NoHold }) after at refl in
    let joins : total (is_peer peer) (owed_if given (owed.Peer peer)) ≡ due (peer_holds peer (without_hold w.seats i s)) (times peer (serials_of dying)) =
    last_owed (is_there peer dying) (peer_holds peer (without_hold w.seats i s)) (times peer (serials_of dying)) once (with_any serial peer dying) (any_with serial peer dying) (is_peer peer) (owed.Peer peer) (rw (eq-eqb peer peer refl) refl) in
    record {
      peers = λ p.
          let less : holds_peer p s.hold ≡ is_peer p (owed.Peer peer) = peer_less s.hold peer p holds in
          let hold = total_changed_at (λ r. holds_peer p r.hold) w.seats i s after at in
          let owing = total_changed_at (λ r. total (is_peer p) r.owing) w.seats i s after at in
          let parts = total_append (is_peer p) s.owing (owed_if given (owed.Peer peer)) in
          elim (cases_eq peer p) [
            | inl same ↦ given_counts (peer_holds p w.seats) (peer_owes p w.seats) (peer_holds p seats) (peer_owes p seats) (times p (serials_of dying)) (holds_peer p s.hold) 0 (total (is_peer p) s.owing) (total (is_peer p) after.owing) (total (is_peer p) (owed_if given (owed.Peer peer))) (owes.peers p) hold owing parts
                (let one : is_peer p (owed.Peer peer) ≡ 1 = rw (eq-eqb peer p same) refl in omega arith)
                (subst (λ x. total (is_peer x) (owed_if given (owed.Peer peer)) ≡ due (peer_holds x seats) (times x (serials_of dying))) same (joins ∙ ap (λ n. due n (times peer (serials_of dying))) left))
            | inr other ↦ kept_counts (peer_holds p w.seats) (peer_owes p w.seats) (peer_holds p seats) (peer_owes p seats) (times p (serials_of dying)) (holds_peer p s.hold) 0 (total (is_peer p) s.owing) (total (is_peer p) after.owing) (total (is_peer p) (owed_if given (owed.Peer peer))) (owes.peers p) hold owing parts
                (let none : is_peer p (owed.Peer peer) ≡ 0 = rw (ne_eqb peer p other) refl in omega arith)
                (other_owed given (is_peer p) (owed.Peer peer) (rw (ne_eqb peer p other) refl))
          ];
      keys = λ k. kept_counts (key_holds k w.seats) (key_owes k w.seats) (key_holds k seats) (key_owes k seats) (times k (key_serials t.retired)) (holds_key k s.hold) 0 (total (is_key k) s.owing) (total (is_key k) after.owing) (total (is_key k) (owed_if given (owed.Peer peer)))
          (owes.keys k)
          (total_changed_at (λ r. holds_key k r.hold) w.seats i s after at)
          (total_changed_at (λ r. total (is_key k) r.owing) w.seats i s after at)
          (total_append (is_key k) s.owing (owed_if given (owed.Peer peer)))
          (peer_same_key s.hold peer k holds)
          (other_owed given (is_key k) (owed.Peer peer) refl);
    }

-- ---- events that change no hold and nothing that is owed

-- Lane i's seat has other events, and what it holds and owes is the same.
pub still_owes : (w v : World) (i : ℕ) (s r : Seat) → Owes w → slice_get w.seats i ≡ Some s → v.seats ≡ slice_set w.seats i r → r.hold ≡ s.hold → r.owing ≡ s.owing → v.table ≡ w.table → Owes v
still_owes w v i s r owes at seats hold owing table =
    let table_now : v.table.now ≡ w.table.now = ap (λ (x : Recorded). x.now) table in
    record {
      peers = λ p. rw (seats, table_now) (kept_counts (peer_holds p w.seats) (peer_owes p w.seats) (peer_holds p (slice_set w.seats i r)) (peer_owes p (slice_set w.seats i r)) (times p (serials_of w.table.now.dying)) (holds_peer p s.hold) (holds_peer p r.hold) (total (is_peer p) s.owing) (total (is_peer p) r.owing) 0
          (owes.peers p)
          (total_changed_at (λ x. holds_peer p x.hold) w.seats i s r at)
          (total_changed_at (λ x. total (is_peer p) x.owing) w.seats i s r at)
          (rw owing (omega arith)) (rw hold refl) refl);
      keys = λ k. rw (seats, table_now) (kept_counts (key_holds k w.seats) (key_owes k w.seats) (key_holds k (slice_set w.seats i r)) (key_owes k (slice_set w.seats i r)) (times k (key_serials w.table.now.retired)) (holds_key k s.hold) (holds_key k r.hold) (total (is_key k) s.owing) (total (is_key k) r.owing) 0
          (owes.keys k)
          (total_changed_at (λ x. holds_key k x.hold) w.seats i s r at)
          (total_changed_at (λ x. total (is_key k) x.owing) w.seats i s r at)
          (rw owing (omega arith)) (rw hold refl) refl);
    }
