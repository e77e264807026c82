-- What is held stands in the table, whatever step of the table is made: nothing that is held is let go.
use Rattle.std.proofs.Common.{ℕ, ◌≡◌, ◌+◌, ◌≤◌, [], ◌∷◌, refl, sym, subst, true, arith, inl, inr}
use Rattle.std.specs.Prelude.{Some, slice_get, slice_set, max}
use Rattle.std.proofs.lemmas.Bool.{eq-eqb}
use Rattle.std.proofs.lemmas.Bool.Decides.{nat_tests}
use Rattle.ov_base.specs.Sums.{total}
use Rattle.ov_model.specs.declared.place.Place.{Place}
use Rattle.ov_model.specs.declared.act.Act.{Act}
use Rattle.ov_model.specs.declared.act.Act.TheVariants as act
use Rattle.ov_model.specs.declared.act.Call.{Call}
use Rattle.ov_model.specs.declared.entry.Entry.{Entry}
use Rattle.ov_model.specs.declared.reply.Reply.{Reply}
use Rattle.ov_model.specs.declared.reply.Reply.TheVariants as reply
use Rattle.ov_model.specs.Tables.{Table, serials_of, key_serials}
use Rattle.ov_model.specs.Step.{act_step, step, may_act, May}
use Rattle.ov_model.specs.Removals.{times, released_by, key_released_by}
use Rattle.ov_model.proofs.Tallies.{peer_stands, key_stands, Shows, reply_stands, Moves, peer_tally, key_tally, peer_moves, key_moves}
use Rattle.ov_path.specs.Desks.{Holding, NoHold, Both, PeerLeft, look_holds, held_after, peer_left}
use Rattle.ov_core.specs.Worlds.{World, Seat, holds_peer, holds_key, peer_holds, key_holds, is_peer, is_key, peer_owes, key_owes, seat_stepped, let_go}
use Rattle.ov_core.specs.Sounds.{HeldThere, Owes}
use Rattle.ov_core.proofs.Owing.{due, part_of_total}
use Rattle.ov_core.proofs.Seats.{set_case}
use Rattle.ov_core.proofs.Balance.{ReleasesFirst, LetsGo, lets_go_first}

-- ---- what a step leaves

peer_stays : (p : ℕ) (t : Table) (call : Call) → May t call → times p (released_by call.act) ≡ 0 → peer_stands p t ≤ peer_stands p (step t call).after
peer_stays p t call may none =
    let e : Entry = record { place = record { lane = 0; line = 0 }; call = call; reply = (step t call).reply } in
    let moves : Moves (peer_tally p) t e = peer_moves p t e may refl in
    let balance : peer_stands p (step t call).after + times p (released_by call.act) ≡ peer_stands p t + moves.new = moves.balance in
    omega arith

key_stays : (k : ℕ) (t : Table) (call : Call) → May t call → times k (key_released_by call.act) ≡ 0 → key_stands k t ≤ key_stands k (step t call).after
key_stays k t call may none =
    let e : Entry = record { place = record { lane = 0; line = 0 }; call = call; reply = (step t call).reply } in
    let moves : Moves (key_tally k) t e = key_moves k t e may refl in
    let balance : key_stands k (step t call).after + times k (key_released_by call.act) ≡ key_stands k t + moves.new = moves.balance in
    omega arith

-- The step lets go nothing of what is held.
record Spares (a : Act) (h : Holding) : Type 0 where
  peers : (p : ℕ) → 1 ≤ holds_peer p h → times p (released_by a) ≡ 0
  keys : (k : ℕ) → 1 ≤ holds_key k h → times k (key_released_by a) ≡ 0

held_stays : (t : Table) (call : Call) (h : Holding) → May t call → Spares call.act h → HeldThere t h → HeldThere (step t call).after h
held_stays t call NoHold may spares there = tt
held_stays t call (Both h) may spares there =
    let peer : peer_stands h.peer t ≤ peer_stands h.peer (step t call).after = peer_stays h.peer t call may (spares.peers h.peer (rw (eq-eqb h.peer h.peer refl) (omega arith))) in
    let key : key_stands h.key t ≤ key_stands h.key (step t call).after = key_stays h.key t call may (spares.keys h.key (rw (eq-eqb h.key h.key refl) (omega arith))) in
    let peer_there : 1 ≤ peer_stands h.peer t = there.0 in
    let key_there : 1 ≤ key_stands h.key t = there.1 in
    (omega arith, omega arith)
held_stays t call (PeerLeft h) may spares there =
    let peer : peer_stands h.peer t ≤ peer_stands h.peer (step t call).after = peer_stays h.peer t call may (spares.peers h.peer (rw (eq-eqb h.peer h.peer refl) (omega arith))) in
    let peer_there : 1 ≤ peer_stands h.peer t = there in
    omega arith

-- ---- nothing that is held is let go

-- Of one serial: what a lane lets go it owed, and what is owed nobody holds.
spares_one : (holds owes out freed left own held : ℕ) → owes ≡ due holds out → left + freed ≡ own → own ≤ owes → held ≤ holds → 1 ≤ held → freed ≡ 0
spares_one holds owes out freed left own held owed lets part of_all holds_it = grind (arith, nat_tests)

spares_release : (w : World) (i : ℕ) (s : Seat) (a : Act) → Owes w → slice_get w.seats i ≡ Some s → ReleasesFirst a s.owing → (j : ℕ) (r : Seat) → slice_get w.seats j ≡ Some r → Spares a r.hold
spares_release w i s a owes at first j r other =
    let lets : LetsGo a s.owing = lets_go_first a s.owing first in
    record {
      peers = λ p held. spares_one (peer_holds p w.seats) (peer_owes p w.seats) (times p (serials_of w.table.now.dying)) (times p (released_by a)) (total (is_peer p) (let_go a s.owing)) (total (is_peer p) s.owing) (holds_peer p r.hold)
          (owes.peers p) (lets.peers p) (part_of_total (λ x. total (is_peer p) x.owing) w.seats i s at) (part_of_total (λ x. holds_peer p x.hold) w.seats j r other) held;
      keys = λ k held. spares_one (key_holds k w.seats) (key_owes k w.seats) (times k (key_serials w.table.now.retired)) (times k (key_released_by a)) (total (is_key k) (let_go a s.owing)) (total (is_key k) s.owing) (holds_key k r.hold)
          (owes.keys k) (lets.keys k) (part_of_total (λ x. total (is_key k) x.owing) w.seats i s at) (part_of_total (λ x. holds_key k x.hold) w.seats j r other) held;
    }

-- What any lane holds stands after a step of lane i.
there_after : (w : World) (i : ℕ) (s : Seat) (call : Call) → Owes w → slice_get w.seats i ≡ Some s → May w.table.now call → ReleasesFirst call.act s.owing → (j : ℕ) (r : Seat) → slice_get w.seats j ≡ Some r → HeldThere w.table.now r.hold → HeldThere (step w.table.now call).after r.hold
there_after w i s call owes at may first j r other there = held_stays w.table.now call r.hold may (spares_release w i s call.act owes at first j r other) there

-- ---- what a look-up holds

shown_there : (t : Table) (r : Reply) (h : Holding) → Shows t r → HeldThere t h → HeldThere t (look_holds h r)
shown_there t (reply.Hold v) h shows there =
    let peer : times v.peer (v.peer ∷ []) ≤ peer_stands v.peer t = shows.peers v.peer in
    let key : times v.key (v.key ∷ []) ≤ key_stands v.key t = shows.keys v.key in
    let peer_one : times v.peer (v.peer ∷ []) ≡ 1 = rw (eq-eqb v.peer v.peer refl) refl in
    let key_one : times v.key (v.key ∷ []) ≡ 1 = rw (eq-eqb v.key v.key refl) refl in
    (omega arith, omega arith)
shown_there t (reply.Made n) h shows there = there
shown_there t reply.Done h shows there = there
shown_there t (reply.Peer p) h shows there = there
shown_there t (reply.Peers vs) h shows there = there
shown_there t (reply.Key k) h shows there = there
shown_there t (reply.Removed ps) h shows there = there
shown_there t (reply.Ticked expired due) h shows there = there
shown_there t reply.Skip h shows there = there
shown_there t reply.NoPeer h shows there = there
shown_there t reply.NoKey h shows there = there
shown_there t (reply.Settled s) h shows there = there
shown_there t reply.Killed h shows there = there
shown_there t reply.AlreadyGone h shows there = there
shown_there t (reply.Released s) h shows there = there
shown_there t (reply.KeyReleased s) h shows there = there
shown_there t (reply.Refused e) h shows there = there

-- What a lane holds after its step stands already before it.
taken_there : (t : Table) (now : ℕ) (a : Act) (h : Holding) → may_act t a ≡ true → HeldThere t h → HeldThere t (held_after h a (act_step t now a).reply)
taken_there t now (act.Do c) h may there = there
taken_there t now (act.TxLook a) h may there = shown_there t (act_step t now (act.TxLook a)).reply h (reply_stands t now (act.TxLook a) may) there
taken_there t now (act.RxLook id key_id from) h may there = shown_there t (act_step t now (act.RxLook id key_id from)).reply h (reply_stands t now (act.RxLook id key_id from) may) there
taken_there t now (act.KeepLook peer) h may there = shown_there t (act_step t now (act.KeepLook peer)).reply h (reply_stands t now (act.KeepLook peer) may) there
taken_there t now (act.Sent peer inner outer ping) h may there = there
taken_there t now (act.Settle peer from k inner outer) h may there = there
taken_there t now (act.Spend peer key) h may there = there
taken_there t now (act.Released serial) h may there = there
taken_there t now (act.KeyReleased serial) h may there = there

-- A look-up lets nothing go, and another act holds nothing more.
spares_taken : (t : Table) (now : ℕ) (a : Act) (h : Holding) → Spares a h → Spares a (held_after h a (act_step t now a).reply)
spares_taken t now (act.Do c) h spares = spares
spares_taken t now (act.TxLook a) h spares = record { peers = λ p held. refl; keys = λ k held. refl }
spares_taken t now (act.RxLook id key_id from) h spares = record { peers = λ p held. refl; keys = λ k held. refl }
spares_taken t now (act.KeepLook peer) h spares = record { peers = λ p held. refl; keys = λ k held. refl }
spares_taken t now (act.Sent peer inner outer ping) h spares = spares
spares_taken t now (act.Settle peer from k inner outer) h spares = spares
spares_taken t now (act.Spend peer key) h spares = spares
spares_taken t now (act.Released serial) h spares = spares
spares_taken t now (act.KeyReleased serial) h spares = spares

there_looked : (t : Table) (call : Call) (h : Holding) → May t call → Spares call.act h → HeldThere t h → HeldThere (step t call).after (held_after h call.act (step t call).reply)
there_looked t call h may spares there =
    held_stays t call (held_after h call.act (step t call).reply) may (spares_taken t (max t.moment call.at) call.act h spares) (taken_there t (max t.moment call.at) call.act h may there)

-- ---- after every event

-- After a step of lane i, what each lane holds stands.
pub seats_there : (w : World) (i : ℕ) (s : Seat) (place : Place) (call : Call) → Owes w → slice_get w.seats i ≡ Some s → May w.table.now call → ReleasesFirst call.act s.owing → ((j : ℕ) (r : Seat) → slice_get w.seats j ≡ Some r → HeldThere w.table.now r.hold) → (j : ℕ) (r : Seat) → slice_get (slice_set w.seats i (seat_stepped w.seats s place call (step w.table.now call))) j ≡ Some r → HeldThere (step w.table.now call).after r.hold
seats_there w i s place call owes at may first there j r now_at =
    let after : Seat = seat_stepped w.seats s place call (step w.table.now call) in
    let own : HeldThere (step w.table.now call).after after.hold = there_looked w.table.now call s.hold may (spares_release w i s call.act owes at first i s at) (there i s at) in
    elim (set_case w.seats i j after r now_at) [
      | inl here ↦ subst (λ (x : Seat). HeldThere (step w.table.now call).after x.hold) (sym here.1) own
      | inr other ↦ there_after w i s call owes at may first j r other.1 (there j r other.1)
    ]

-- What is left of a hold stands.
pub there_left : (t : Table) (h : Holding) → HeldThere t h → HeldThere t (peer_left h)
there_left t NoHold there = tt
there_left t (Both h) there = there.0
there_left t (PeerLeft h) there = there
