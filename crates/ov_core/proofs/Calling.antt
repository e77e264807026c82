-- What a step of the table leaves: any that a line may ask for, and a release.
use Rattle.std.proofs.Common.{ℕ, ◌≡◌, ◌+◌, ◌*◌, ◌-◌, ◌≤◌, ◌<◌, List, [], ◌∷◌, ◌++◌, length, get_or, length-append, append-nil, refl, sym, ◌∙◌, ap, subst, arith, Bool, true, false, ◌==◌, if◌then◌else◌}
use Rattle.std.specs.Prelude.{⊤, filter, map, max, Option, Some, None, is_some, nat_eq, slice_get, slice_set, slice_index_or}
use Rattle.std.specs.List.{IsDistinct}
use Rattle.std.proofs.lemmas.Bool.{eq-eqb}
use Rattle.std.proofs.lemmas.List.{length-map}
use Rattle.ov_model.specs.declared.place.Place.{Place}
use Rattle.ov_model.specs.declared.command.Command.{Command}
use Rattle.ov_model.specs.declared.act.Act.{Act}
use Rattle.ov_model.specs.declared.act.Act.TheVariants as act
use Rattle.ov_model.specs.declared.act.Call.{Call}
use Rattle.ov_model.specs.declared.hold.Owed.{Owed}
use Rattle.ov_model.specs.declared.hold.Owed.TheVariants as owed
use Rattle.ov_model.specs.declared.reply.HoldView.{HoldView}
use Rattle.ov_model.specs.declared.reply.Reply.{Reply}
use Rattle.ov_model.specs.declared.reply.Reply.TheVariants as reply
use Rattle.ov_model.specs.Tables.{Table, Material}
use Rattle.ov_model.specs.Step.{Outcome, step, May, released, key_released}
use Rattle.ov_model.specs.Events.{Event, Stepped, release_of}
use Rattle.ov_model.specs.Keys.{key_of}
use Rattle.ov_model.specs.Lifetime.{key_made_by}
use Rattle.ov_model.specs.Next.{is_killed, release_act}
use Rattle.ov_model.specs.Path.{removed, spent_taken, spent_reply}
use Rattle.ov_model.proofs.Removing.{Keeps, tx_look_keeps, rx_look_keeps, keep_look_keeps, sent_keeps, settle_keeps, Spends, spend_spends}
use Rattle.ov_model.proofs.Tallies.{removed_differ}
use Rattle.ov_path.specs.Desks.{Holding, NoHold, Both, PeerLeft, Called, SameLine, IsFree, MayCall, HoldsKey, IsLookReply, IsSettledReply, IsSpendReply, IsReplyOf, Joins, HasMaterial, HoldHas, held_after, look_holds, stepped_as, first_owed, after_first}
use Rattle.ov_table.specs.Pairs.{pair_in}
use Rattle.ov_table.specs.Recorded.{Recorded, IsTold, stepped, entry_of}
use Rattle.ov_table.proofs.Held.{tx_held, rx_held, keep_held}
use Rattle.ov_table.proofs.Installed.{pair_installed, key_of-append}
use Rattle.ov_table.proofs.Told.{told_step}
use Rattle.ov_core.specs.Worlds.{World, Seat, let_go, joined_by, seat_stepped, after_step, key_holds, peer_holds}
use Rattle.ov_core.specs.Sounds.{WorldSound}
use Rattle.ov_core.specs.Seats.{Sitting, Seated, Happened, seen, world_of, seat_of, shown_of, via_in, empty_seat, owing_list, owe_each, has, is_held, unheld, leaving, takes_room, removes_all, room_of, seat_begun, begun_at, seat_called, after_call, release_call, after_release, may_owe, Kept}
use Rattle.ov_core.proofs.Seats.{length-slice_set, set_own, set_same, set_set, map_set}
use Rattle.ov_core.proofs.Leaving.{EventDone, below, own_at, seen_at, own_spare, spare_set}
use Rattle.ov_core.proofs.Acts.{tx_fits, rx_fits, keep_fits, sent_done, SettledReply, settle_says, command_few, command_ticked}
use Rattle.ov_core.proofs.Asking.{read_seat, read_left}
use Rattle.ov_core.proofs.Joining.{unheld_joins, unheld_few, held_by, some_filter, owed_each, owe_each-append, unheld_same}
use Rattle.ov_core.proofs.Mays.{call_may, release_may}
use Rattle.ov_core.proofs.Keeping.{keeps_call, keeps_release}

-- ---- small facts

free_owes : (h : Holding) → h ≡ NoHold → may_owe h ≡ 0
free_owes h free = rw free refl

none_joined : (seats : List Sitting) (taken gone : List ℕ) → taken ≡ [] → gone ≡ [] → unheld seats (leaving taken gone) ≡ []
none_joined seats taken gone keys peers = rw (keys, peers) refl

-- A seat that takes room changes nothing else.
pub begun_is : (t : Table) (a : Act) (s : Sitting) → begun_at t a s ≡ record s { spare = (begun_at t a s).spare }
begun_is t a s = elim (takes_room a) as (λ b. (if b then record s { spare = room_of t a } else s) ≡ record s { spare = (if b then record s { spare = room_of t a } else s).spare }) [ true ↦ refl | false ↦ refl ]

-- There is room for what a line holds.
room_three : (t : Table) (a : Act) → 3 ≤ room_of t a
room_three t a = elim (removes_all a) as (λ b. 3 ≤ (if b then 3 + 3 * length t.live else 3)) [ true ↦ omega arith | false ↦ omega arith ]

-- ---- what each act gives

-- What a step of the table gives that a line asked for: its reply, what joins what is owed, and that there is room
-- for it.
record Fitting (d : Seated) (call : Call) (o : Outcome) (joined : List Owed) (material : ℕ → Option Material) : Type 0 where
  fits : IsReplyOf call.act o.reply
  joins : Joins call.act o.reply o.taken joined
  has_material : HasMaterial material call.act o.reply
  spare : may_owe (held_after (seat_of d).hold call.act o.reply) + length joined ≤ (begun_at d.table.now call.act (seat_of d)).spare
  few : length o.taken + length (removed o.reply) ≤ (begun_at d.table.now call.act (seat_of d)).spare
  no_release : let_go call.act (seat_of d).owing ≡ (seat_of d).owing

-- The releases of what a step took and removed and nobody holds.
abbrev joined_at : Seated → Call → List Owed
joined_at d call = unheld d.seats (leaving (step d.table.now call).taken (removed (step d.table.now call).reply))

command_fits : (d : Seated) (at : ℕ) (c : Command) (material : ℕ → Option Material) → IsFree (shown_of d) → (let call : Call = record { at = at; act = act.Do c } in Fitting d call (step d.table.now call) (joined_at d call) material)
command_fits d at c material free =
    let call : Call = record { at = at; act = act.Do c } in
    let o : Outcome = step d.table.now call in
    let joined : List Owed = joined_at d call in
    let seats : List Seat = (world_of d).seats in
    let few : length o.taken + length (removed o.reply) ≤ room_of d.table.now (act.Do c) = (command_few d.table.now (max d.table.now.moment at) c).few in
    let some : length joined ≤ length (leaving o.taken (removed o.reply)) = unheld_few d.seats (leaving o.taken (removed o.reply)) in
    let whole = length-append (map owed.Key o.taken) (map owed.Peer (removed o.reply)) in
    let first = length-map o.taken owed.Key in
    let second = length-map (removed o.reply) owed.Peer in
    let owe_none : may_owe (seat_of d).hold ≡ 0 = free_owes (seat_of d).hold free.0 in
    record {
      fits = command_ticked d.table.now (max d.table.now.moment at) c;
      joins = record {
        some_keys = filter (λ k. key_holds k seats == 0) o.taken;
        some_peers = filter (λ p. peer_holds p seats == 0) (removed o.reply);
        of_keys = some_filter (λ k. key_holds k seats == 0) o.taken;
        of_peers = some_filter (λ p. peer_holds p seats == 0) (removed o.reply);
        are = unheld_joins d.seats o.taken (removed o.reply);
      };
      has_material = tt;
      spare = omega arith;
      few = omega arith;
      no_release = refl;
    }

look_owes : (h : Holding) (r : Reply) → h ≡ NoHold → may_owe (look_holds h r) ≤ 2
look_owes h (reply.Hold v) free = omega arith
look_owes h _ free = rw free (omega arith)

hold_has : (material : ℕ → Option Material) (r : Reply) → ((v : HoldView) → r ≡ reply.Hold v → (m : Material) × (material v.key ≡ Some m)) → HoldHas material r
hold_has material (reply.Hold v) installed = installed v refl
hold_has material _ installed = tt

some_of : (o : Option Material) → is_some o ≡ true → (m : Material) × (o ≡ Some m)
some_of (Some m) some = (m, refl)
some_of None some = absurd (cc)

-- An act that looks a peer and its key up.
abbrev LooksUp : Act → Type 0
LooksUp (act.TxLook a) = ⊤
LooksUp (act.RxLook id key_id from) = ⊤
LooksUp (act.KeepLook peer) = ⊤
LooksUp _ = ⊥

-- The material of what a look-up holds.
abbrev Installs : Seated → Place → Call → Type 0
Installs d place call = (v : HoldView) → (step d.table.now call).reply ≡ reply.Hold v → (m : Material) × (key_of (stepped d.table place call).journal v.key ≡ Some m)

looks_fit : (d : Seated) (place : Place) (call : Call) → 3 ≤ (begun_at d.table.now call.act (seat_of d)).spare → held_after (seat_of d).hold call.act (step d.table.now call).reply ≡ look_holds (seat_of d).hold (step d.table.now call).reply
    → (seat_of d).hold ≡ NoHold → IsReplyOf call.act (step d.table.now call).reply → Keeps d.table.now (step d.table.now call) → let_go call.act (seat_of d).owing ≡ (seat_of d).owing
    → ((step d.table.now call).taken ≡ [] → joined_at d call ≡ [] → Joins call.act (step d.table.now call).reply (step d.table.now call).taken (joined_at d call))
    → (HoldHas (key_of (stepped d.table place call).journal) (step d.table.now call).reply → HasMaterial (key_of (stepped d.table place call).journal) call.act (step d.table.now call).reply)
    → Installs d place call → Fitting d call (step d.table.now call) (joined_at d call) (key_of (stepped d.table place call).journal)
looks_fit d place call room held free fits keeps no_release joins has_material installed =
    let o : Outcome = step d.table.now call in
    let joined : List Owed = joined_at d call in
    let nobody : joined ≡ [] = none_joined d.seats o.taken (removed o.reply) keeps.taken keeps.removes_none in
    let most : may_owe (look_holds (seat_of d).hold o.reply) ≤ 2 = look_owes (seat_of d).hold o.reply free in
    let owes : may_owe (held_after (seat_of d).hold call.act o.reply) ≡ may_owe (look_holds (seat_of d).hold o.reply) = ap may_owe held in
    let none_long : length joined ≡ 0 = ap length nobody in
    let taken_none : length o.taken ≡ 0 = ap length keeps.taken in
    let gone_none : length (removed o.reply) ≡ 0 = ap length keeps.removes_none in
    record {
      fits = fits;
      joins = joins keeps.taken nobody;
      has_material = has_material (hold_has (key_of (stepped d.table place call).journal) o.reply installed);
      spare = omega arith;
      few = omega arith;
      no_release = no_release;
    }

-- ---- the uses of a hold

is_settled : (r : Reply) → SettledReply r → IsSettledReply r
is_settled r s = rw s.is tt

is_spend : (killed : Bool) → IsSpendReply (spent_reply killed)
is_spend true = tt
is_spend false = tt

killed_is : (killed : Bool) → is_killed (spent_reply killed) ≡ killed
killed_is true = refl
killed_is false = refl

spent_removes : (killed : Bool) → removed (spent_reply killed) ≡ []
spent_removes true = refl
spent_removes false = refl

spent_few : (killed : Bool) (key : ℕ) → length (spent_taken killed key) ≤ 1
spent_few true key = omega arith
spent_few false key = omega arith

spent_joins : (seats : List Sitting) (killed : Bool) (key : ℕ) → is_held seats (owed.Key key) ≡ true → unheld seats (leaving (spent_taken killed key) []) ≡ []
spent_joins seats true key held = rw held refl
spent_joins seats false key held = refl

names_key : (h : Holding) (key : ℕ) → HoldsKey h key → (has (owed.Key key) h ≡ true) × (may_owe h ≡ 2)
names_key (Both h) key names = (eq-eqb h.key key names, refl)
names_key NoHold key names = absurd names
names_key (PeerLeft h) key names = absurd names

-- What a use of a hold gives, where it takes and removes nothing that joins.
use_fits : (d : Seated) (call : Call) (material : ℕ → Option Material) → Kept d → begun_at d.table.now call.act (seat_of d) ≡ seat_of d → held_after (seat_of d).hold call.act (step d.table.now call).reply ≡ (seat_of d).hold
    → joined_at d call ≡ [] → IsReplyOf call.act (step d.table.now call).reply → (joined_at d call ≡ [] → Joins call.act (step d.table.now call).reply (step d.table.now call).taken (joined_at d call)) → HasMaterial material call.act (step d.table.now call).reply
    → length (step d.table.now call).taken + length (removed (step d.table.now call).reply) ≤ (seat_of d).spare → let_go call.act (seat_of d).owing ≡ (seat_of d).owing → Fitting d call (step d.table.now call) (joined_at d call) material
use_fits d call material kept begun held nobody fits joins has_material few no_release =
    let spare : may_owe (seat_of d).hold ≤ (seat_of d).spare = own_spare d kept in
    let owes : may_owe (held_after (seat_of d).hold call.act (step d.table.now call).reply) ≡ may_owe (seat_of d).hold = ap may_owe held in
    let none_long : length (joined_at d call) ≡ 0 = ap length nobody in
    let spare_is : (begun_at d.table.now call.act (seat_of d)).spare ≡ (seat_of d).spare = ap (λ (s : Sitting). s.spare) begun in
    record {
      fits = fits;
      joins = joins nobody;
      has_material = has_material;
      spare = omega arith;
      few = omega arith;
      no_release = no_release;
    }

keeps_few : (t : Table) (o : Outcome) (n : ℕ) → Keeps t o → length o.taken + length (removed o.reply) ≤ n
keeps_few t o n keeps =
    let taken_none : length o.taken ≡ 0 = ap length keeps.taken in
    let gone_none : length (removed o.reply) ≡ 0 = ap length keeps.removes_none in
    omega arith

-- What any step gives that a line may ask for.
call_fits : (d : Seated) (place : Place) (at : ℕ) (a : Act) → Kept d → MayCall (shown_of d) a → (LooksUp a → Installs d place (record { at = at; act = a }))
    → (let call : Call = record { at = at; act = a } in Fitting d call (step d.table.now call) (joined_at d call) (key_of (stepped d.table place call).journal))
call_fits d place at (act.Do c) kept may installed = command_fits d at c _ may
call_fits d place at (act.TxLook a) kept may installed =
    let now : ℕ = max d.table.now.moment at in
    looks_fit d place (record { at = at; act = act.TxLook a }) (omega arith) refl may.0 (tx_fits d.table.now now a) (tx_look_keeps d.table.now now a) refl (λ x y. (x, y)) (λ x. x) (installed tt)
call_fits d place at (act.RxLook id key_id from) kept may installed =
    let now : ℕ = max d.table.now.moment at in
    looks_fit d place (record { at = at; act = act.RxLook id key_id from }) (omega arith) refl may.0 (rx_fits d.table.now now id key_id from) (rx_look_keeps d.table.now now id key_id from) refl (λ x y. (x, y)) (λ x. x) (installed tt)
call_fits d place at (act.KeepLook peer) kept may installed =
    let now : ℕ = max d.table.now.moment at in
    looks_fit d place (record { at = at; act = act.KeepLook peer }) (omega arith) refl may.hold (keep_fits d.table.now now peer) (keep_look_keeps d.table.now now peer) refl (λ x y. (x, y)) (λ x. x) (installed tt)
call_fits d place at (act.Sent peer inner outer ping) kept may installed =
    let now : ℕ = max d.table.now.moment at in
    let call : Call = record { at = at; act = act.Sent peer inner outer ping } in
    let o : Outcome = step d.table.now call in
    let keeps : Keeps d.table.now o = sent_keeps d.table.now now peer inner outer ping in
    use_fits d call _ kept refl refl (none_joined d.seats o.taken (removed o.reply) keeps.taken keeps.removes_none)
    (sent_done d.table.now now peer inner outer ping) (λ x. (keeps.taken, x)) tt (keeps_few d.table.now o _ keeps) refl
call_fits d place at (act.Settle peer from k inner outer) kept may installed =
    let now : ℕ = max d.table.now.moment at in
    let call : Call = record { at = at; act = act.Settle peer from k inner outer } in
    let o : Outcome = step d.table.now call in
    let keeps : Keeps d.table.now o = settle_keeps d.table.now now peer from k inner outer in
    let says : SettledReply o.reply = settle_says d.table.now now peer from k inner outer in
    use_fits d call _ kept refl refl (none_joined d.seats o.taken (removed o.reply) keeps.taken keeps.removes_none)
    (is_settled o.reply says) (λ x. (keeps.taken, x)) tt (keeps_few d.table.now o _ keeps) refl
call_fits d place at (act.Spend peer key) kept may installed =
    let now : ℕ = max d.table.now.moment at in
    let call : Call = record { at = at; act = act.Spend peer key } in
    let o : Outcome = step d.table.now call in
    let s : Spends d.table.now key o = spend_spends d.table.now now peer key in
    let own = names_key (seat_of d).hold key may.1 in
    let held : is_held d.seats (owed.Key key) ≡ true = held_by d.seats d.turn (seat_of d) (owed.Key key) (own_at d kept) own.0 in
    let gone : removed o.reply ≡ [] = ap removed s.reply_is ∙ spent_removes s.killed in
    let nobody : joined_at d call ≡ [] = ap (λ ks. unheld d.seats (leaving ks (removed o.reply))) s.taken ∙ ap (λ ps. unheld d.seats (leaving (spent_taken s.killed key) ps)) gone ∙ spent_joins d.seats s.killed key held in
    let taken : o.taken ≡ spent_taken (is_killed o.reply) key = s.taken ∙ ap (λ k. spent_taken k key) (sym (killed_is s.killed) ∙ ap is_killed (sym s.reply_is)) in
    let few_taken : length o.taken ≤ 1 = rw s.taken (spent_few s.killed key) in
    let gone_none : length (removed o.reply) ≡ 0 = ap length gone in
    let spare : may_owe (seat_of d).hold ≤ (seat_of d).spare = own_spare d kept in
    let two : may_owe (seat_of d).hold ≡ 2 = own.1 in
    use_fits d call _ kept refl refl nobody
    (rw s.reply_is (is_spend s.killed)) (λ x. (taken, x)) tt (omega arith) refl
call_fits d place at (act.Released peer) kept may installed = absurd may
call_fits d place at (act.KeyReleased key) kept may installed = absurd may

look_installed : (r : Recorded) (place : Place) (at : ℕ) (a : Act) (v : HoldView) → LooksUp a → (step r.now (record { at = at; act = a })).reply ≡ reply.Hold v → IsTold r → (m : Material) × (key_of (stepped r place (record { at = at; act = a })).journal v.key ≡ Some m)
look_installed r place at (act.TxLook a) v look is told =
    let call : Call = record { at = at; act = act.TxLook a } in
    let pair = some_of (pair_in (step r.now call).after v.key) (tx_held r.now (max r.now.moment at) a v is) in
    (pair.0, pair_installed (stepped r place call) v.key pair.0 (told_step r place call refl told) pair.1)
look_installed r place at (act.RxLook id key_id from) v look is told =
    let call : Call = record { at = at; act = act.RxLook id key_id from } in
    let pair = some_of (pair_in (step r.now call).after v.key) (rx_held r.now (max r.now.moment at) id key_id from v is) in
    (pair.0, pair_installed (stepped r place call) v.key pair.0 (told_step r place call refl told) pair.1)
look_installed r place at (act.KeepLook peer) v look is told =
    let call : Call = record { at = at; act = act.KeepLook peer } in
    let pair = some_of (pair_in (step r.now call).after v.key) (keep_held r.now (max r.now.moment at) peer v is) in
    (pair.0, pair_installed (stepped r place call) v.key pair.0 (told_step r place call refl told) pair.1)
look_installed r place at (act.Do c) v look is told = absurd look
look_installed r place at (act.Sent peer inner outer ping) v look is told = absurd look
look_installed r place at (act.Settle peer from k inner outer) v look is told = absurd look
look_installed r place at (act.Spend peer key) v look is told = absurd look
look_installed r place at (act.Released serial) v look is told = absurd look
look_installed r place at (act.KeyReleased serial) v look is told = absurd look

fitting : (d : Seated) (place : Place) (call : Call) → Kept d → MayCall (shown_of d) call.act → Fitting d call (step d.table.now call) (joined_at d call) (key_of (stepped d.table place call).journal)
fitting d place call kept may = call_fits d place call.at call.act kept may (λ look v is. look_installed d.table place call.at call.act v look is kept.sound.told)

-- ---- a step that was made

-- All that a step of the table is to leave.
pub record CallDone (d : Seated) (place : Place) (call : Call) (r : Reply) : Type 0 where
  pub called : Called shown_of Happened d place call r (after_call d place call r)
  pub kept : Kept (after_call d place call r)

pub called_at : {d0 d e f : Seated} {place : Place} {call : Call} {r : Reply} → d ≡ d0 → f ≡ e → Called shown_of Happened d place call r e → Called shown_of Happened d0 place call r f
called_at same is called = rw (← same, is) called

key_of_more : (r : Recorded) (place : Place) (call : Call) (key : ℕ) (m : Material) → key_of r.journal key ≡ Some m → key_of (stepped r place call).journal key ≡ Some m
key_of_more r place call key m known = key_of-append r.journal (entry_of r.now place call ∷ []) key ∙ rw known refl

step_done : (d : Seated) (place : Place) (call : Call) → Kept d → MayCall (shown_of d) call.act → CallDone d place call (step d.table.now call).reply
step_done d place call kept asks =
    let o : Outcome = step d.table.now call in
    let w : World = world_of d in
    let was : Sitting = seat_of d in
    let seat : Seat = seen was in
    let at : slice_get w.seats d.turn ≡ Some seat = seen_at d kept in
    let may : May d.table.now call = call_may (via_in d) w d.turn seat call kept.sound at asks in
    let f : Fitting d call o (joined_at d call) (key_of (stepped d.table place call).journal) = fitting d place call kept asks in
    let s : Sitting = seat_called d.table.now was place call o.reply o.taken (joined_at d call) in
    let e : Seated = after_call d place call o.reply in
    let owing_is : was.owing ++ joined_at d call ≡ let_go call.act was.owing ++ joined_by w.seats o.taken (removed o.reply) =
    ap (λ os. os ++ joined_at d call) (sym f.no_release) ∙ ap (λ os. let_go call.act was.owing ++ os) (unheld_joins d.seats o.taken (removed o.reply)) in
    let is : world_of e ≡ after_step w d.turn seat place call =
    ap (λ (z : List Seat). record w { table = stepped d.table place call; next = d.next ++ map (λ _. d.first) (key_made_by call.act o.reply); seats = z })
    (map_set seen d.seats d.turn s ∙ ap (λ os. slice_set w.seats d.turn (record { events = s.events; hold = s.hold; owing = os })) owing_is) in
    let own : seat_of e ≡ s = set_own d.seats d.turn s empty_seat (below d kept) in
    let differ = removed_differ d.table.journal call kept.sound.told.run in
    record {
      called = record {
        taken = o.taken;
        joined = joined_at d call;
        fits = f.fits;
        joins = f.joins;
        apart = subst (λ (t : Table). IsDistinct nat_eq (removed (step t call).reply)) kept.sound.told.last differ;
        has = f.has_material;
        leaves = record {
          events = ap (λ (t : Sitting). t.events) own;
          hold_is = ap (λ (t : Sitting). t.hold) own;
          owing_is = ap (λ (t : Sitting). t.owing) own;
          grows = λ key v known. key_of_more d.table place call key v known;
          hops = tt;
        };
        done = record { happened = record { seat = seat; seat_is = at; makes = (may, is) }; turn = refl; routes = refl };
      };
      kept = record {
        sound = subst WorldSound (sym is) (keeps_call (via_in d) w d.turn seat place call kept.sound at may asks);
        long = length-slice_set d.seats d.turn s ∙ kept.long;
        turn = kept.turn;
        numbers = kept.numbers;
        spare = spare_set d s kept (let fits = f.spare in omega arith);
      };
    }

pub call_done : (d : Seated) (place : Place) (call : Call) (r : Reply) → Kept d → MayCall (shown_of d) call.act → r ≡ (step d.table.now call).reply → CallDone d place call r
call_done d place call r kept asks is = rw is (step_done d place call kept asks)

-- ---- a release

pub release_asks : (at : ℕ) (o : Owed) → (release_call at o).act ≡ release_act o
release_asks at (owed.Peer p) = refl
release_asks at (owed.Key k) = refl

-- What a release leaves of the lane's seat and of the counters.
record Frees (w : World) (h : Holding) (os : List Owed) (place : Place) (at : ℕ) (o : Owed) (out : Outcome) : Type 0 where
  event : stepped_as place (release_call at o) out.reply out.taken ≡ Stepped (release_of place at o)
  owing : after_first os ≡ let_go (release_call at o).act os ++ joined_by w.seats out.taken (removed out.reply)
  hold : h ≡ held_after h (release_call at o).act out.reply
  next : w.next ≡ w.next ++ map (λ _. w.first) (key_made_by (release_call at o).act out.reply)

frees : (w : World) (h : Holding) (os : List Owed) (place : Place) (at : ℕ) (o : Owed) → Frees w h os place at o (step w.table.now (release_call at o))
unfolding released key_released
frees w h os place at (owed.Peer p) = record { event = refl; owing = sym (append-nil (after_first os)); hold = refl; next = sym (append-nil w.next) }
frees w h os place at (owed.Key k) = record { event = refl; owing = sym (append-nil (after_first os)); hold = refl; next = sym (append-nil w.next) }

pub release_done : (d : Seated) (place : Place) (at : ℕ) (o : Owed) → Kept d → first_owed (shown_of d).owing ≡ Some o → EventDone d (Stepped (release_of place at o)) (after_release d place at o)
release_done d place at o kept first =
    let call : Call = release_call at o in
    let out : Outcome = step d.table.now call in
    let w : World = world_of d in
    let was : Sitting = seat_of d in
    let seat : Seat = seen was in
    let at_i : slice_get w.seats d.turn ≡ Some seat = seen_at d kept in
    let may : May d.table.now call = release_may w d.turn seat call o kept.sound at_i first (release_asks at o) in
    let x : Event = stepped_as place call out.reply out.taken in
    let s : Sitting = record was { events = was.events ++ Stepped (release_of place at o) ∷ []; owing = after_first was.owing } in
    let e : Seated = after_release d place at o in
    let f : Frees w was.hold was.owing place at o out = frees w was.hold was.owing place at o in
    let seats_are : map seen (slice_set d.seats d.turn s) ≡ slice_set w.seats d.turn (seat_stepped w.seats seat place call out) =
    map_set seen d.seats d.turn s
    ∙ ap (λ y. slice_set w.seats d.turn (record seat { events = was.events ++ y ∷ []; owing = after_first was.owing })) (sym f.event)
    ∙ ap (λ os. slice_set w.seats d.turn (record seat { events = was.events ++ x ∷ []; owing = os })) f.owing
    ∙ ap (λ h. slice_set w.seats d.turn (record { events = was.events ++ x ∷ []; hold = h; owing = let_go call.act was.owing ++ joined_by w.seats out.taken (removed out.reply) })) f.hold in
    let is : world_of e ≡ after_step w d.turn seat place call =
    ap (λ (z : List Seat). record w { table = stepped d.table place call; seats = z }) seats_are
    ∙ ap (λ (z : List ℕ). record w { table = stepped d.table place call; next = z; seats = slice_set w.seats d.turn (seat_stepped w.seats seat place call out) }) f.next in
    let own : seat_of e ≡ s = set_own d.seats d.turn s empty_seat (below d kept) in
    let done : EventDone d x e = record {
      did = record {
        leaves = record {
          events = ap (λ (t : Sitting). t.events) own ∙ ap (λ y. was.events ++ y ∷ []) (sym f.event);
          hold_is = ap (λ (t : Sitting). t.hold) own;
          owing_is = ap (λ (t : Sitting). t.owing) own;
          grows = λ key v known. key_of_more d.table place call key v known;
          hops = tt;
        };
        done = record { happened = record { seat = seat; seat_is = at_i; makes = (may, is) }; turn = refl; routes = refl };
      };
      kept = record {
        sound = subst WorldSound (sym is) (keeps_release w d.turn seat place call o kept.sound at_i may first (release_asks at o));
        long = length-slice_set d.seats d.turn s ∙ kept.long;
        turn = kept.turn;
        numbers = kept.numbers;
        spare = spare_set d s kept (own_spare d kept);
      };
    } in
    subst (λ (y : Event). EventDone d y e) f.event done

-- ---- at the calls

-- The seat that the release is told to, as its call is given it.
pub released_is : (d : Seated) (place : Place) (at : ℕ) (o : Owed) (x : Sitting) (call : Call) (r : Reply) (left : Recorded) → Kept d → x ≡ slice_index_or d.seats d.turn x → call ≡ release_call at o → r ≡ (step d.table.now call).reply → left ≡ stepped d.table place call
    → ◌≡◌ {A = Sitting} (record x { events = x.events ++ stepped_as place call r left.taken ∷ []; owing = after_first x.owing }) (record (seat_of d) { events = (seat_of d).events ++ Stepped (release_of place at o) ∷ []; owing = after_first (seat_of d).owing })
released_is d place at o x call r left kept x_is call_is r_is left_is =
    let f = frees (world_of d) (seat_of d).hold (seat_of d).owing place at o in
    let event : stepped_as place call r left.taken ≡ Stepped (release_of place at o) = rw (r_is, left_is, call_is) f.event in
    ap (λ (s : Sitting). record s { events = s.events ++ stepped_as place call r left.taken ∷ []; owing = after_first s.owing }) (read_seat d x kept x_is)
    ∙ ap (λ y. record (seat_of d) { events = (seat_of d).events ++ y ∷ []; owing = after_first (seat_of d).owing }) event

-- The seat that took its room, as the calls tell it.
pub begun_so : (t : Table) (a : Act) (room : ℕ) (x b : Sitting) → room ≡ room_of t a → b ≡ seat_begun room a x → b ≡ begun_at t a x
begun_so t a room x b is begun_is = begun_is ∙ ap (λ n. seat_begun n a x) is

-- Before the step: the room is taken, where the step takes any.
pub record Begun (d e : Seated) : Type 0 where
  pub kept : Kept e
  pub line : SameLine (shown_of d) (shown_of e)

-- A lane's own seat is put back.
same_seat : (d : Seated) → Kept d → slice_set (world_of d).seats d.turn (seen (seat_of d)) ≡ (world_of d).seats
same_seat d kept = sym (map_set seen d.seats d.turn (seat_of d)) ∙ ap (λ xs. map seen xs) (set_same d.seats d.turn empty_seat)

may_owe_two : (h : Holding) → may_owe h ≤ 2
may_owe_two NoHold = omega arith
may_owe_two (Both h) = omega arith
may_owe_two (PeerLeft h) = omega arith

begun_spare : (t : Table) (a : Act) (s : Sitting) → may_owe s.hold ≤ s.spare → may_owe (begun_at t a s).hold ≤ (begun_at t a s).spare
begun_spare t a s enough = elim (takes_room a) as (λ b. may_owe (if b then record s { spare = room_of t a } else s).hold ≤ (if b then record s { spare = room_of t a } else s).spare) [
  | true ↦ (let two = may_owe_two s.hold in let room = room_three t a in omega arith)
  | false ↦ enough
]

pub begun : (d e : Seated) (a : Act) → Kept d → e ≡ record d { seats = slice_set d.seats d.turn (begun_at d.table.now a (seat_of d)) } → Begun d e
begun d e a kept e_is =
    let s : Sitting = begun_at d.table.now a (seat_of d) in
    let v : Seated = record d { seats = slice_set d.seats d.turn s } in
    let shape : s ≡ record (seat_of d) { spare = s.spare } = begun_is d.table.now a (seat_of d) in
    let own : seat_of v ≡ s = set_own d.seats d.turn s empty_seat (below d kept) in
    let seats_are : map seen (slice_set d.seats d.turn s) ≡ (world_of d).seats =
    map_set seen d.seats d.turn s ∙ ap (λ (t : Sitting). slice_set (world_of d).seats d.turn (seen t)) shape ∙ same_seat d kept in
    let is : world_of v ≡ world_of d = ap (λ (z : List Seat). record (world_of d) { seats = z }) seats_are in
    let done : Begun d v = record {
      kept = record {
        sound = subst WorldSound (sym is) kept.sound;
        long = length-slice_set d.seats d.turn s ∙ kept.long;
        turn = kept.turn;
        numbers = kept.numbers;
        spare = spare_set d s kept (begun_spare d.table.now a (seat_of d) (own_spare d kept));
      };
      line = record {
        events = ap (λ (t : Sitting). t.events) (own ∙ shape);
        hold = ap (λ (t : Sitting). t.hold) (own ∙ shape);
        owing = ap (λ (t : Sitting). t.owing) (own ∙ shape);
        grows = λ key m known. known;
      };
    } in
    subst (λ (x : Seated). Begun d x) (sym e_is) done

-- ---- the seats at the step of the table

-- The seats, as the step of the table goes on: they had their room taken, and then owe what a step took and
-- removed.
pub record Readies (d : Seated) (call : Call) (b : Sitting) (taken gone : List ℕ) : Type 0 where
  pub first_spare : length taken ≤ (get_or (slice_set d.seats d.turn b) d.turn empty_seat).spare
  pub long : d.turn < length (owe_each (slice_set d.seats d.turn b) d.turn (map owed.Key taken))
  pub second_spare : length gone ≤ (get_or (owe_each (slice_set d.seats d.turn b) d.turn (map owed.Key taken)) d.turn empty_seat).spare
  pub seats : owe_each (owe_each (slice_set d.seats d.turn b) d.turn (map owed.Key taken)) d.turn (map owed.Peer gone) ≡ slice_set d.seats d.turn (owing_list (begun_at d.table.now call.act (seat_of d)) (unheld d.seats (leaving taken gone)))

pub readies : (d : Seated) (place : Place) (call : Call) (x b : Sitting) (taken gone : List ℕ) → Kept d → MayCall (shown_of d) call.act → x ≡ slice_index_or d.seats d.turn x → b ≡ begun_at d.table.now call.act x → taken ≡ (step d.table.now call).taken → gone ≡ removed (step d.table.now call).reply → Readies d call b taken gone
readies d place call x b taken gone kept asks x_is b_is taken_is gone_is =
    let f : Fitting d call (step d.table.now call) (joined_at d call) (key_of (stepped d.table place call).journal) = fitting d place call kept asks in
    let was : Sitting = seat_of d in
    let c : Sitting = begun_at d.table.now call.act was in
    let its : b ≡ c = b_is ∙ ap (λ (z : Sitting). begun_at d.table.now call.act z) (read_seat d x kept x_is) in
    let few : length taken + length gone ≤ c.spare = rw (taken_is, gone_is) f.few in
    let hold_is : c.hold ≡ was.hold = ap (λ (z : Sitting). z.hold) (begun_is d.table.now call.act was) in
    let under : d.turn < length d.seats = below d kept in
    let seats : List Sitting = slice_set d.seats d.turn c in
    let long : length seats ≡ length d.seats = length-slice_set d.seats d.turn c in
    let under_too : d.turn < length seats = omega arith in
    let own : get_or seats d.turn empty_seat ≡ c = set_own d.seats d.turn c empty_seat under in
    let spare_is : (get_or seats d.turn empty_seat).spare ≡ c.spare = ap (λ (z : Sitting). z.spare) own in
    let ks : List Owed = map owed.Key taken in
    let first : owe_each seats d.turn ks ≡ slice_set seats d.turn (owing_list (get_or seats d.turn empty_seat) (unheld seats ks)) = owed_each seats d.turn ks under_too in
    let t : Sitting = owing_list (get_or seats d.turn empty_seat) (unheld seats ks) in
    let own_first : get_or (owe_each seats d.turn ks) d.turn empty_seat ≡ t = ap (λ (z : List Sitting). get_or z d.turn empty_seat) first ∙ set_own seats d.turn t empty_seat under_too in
    let spare_first : (get_or (owe_each seats d.turn ks) d.turn empty_seat).spare ≡ t.spare = ap (λ (z : Sitting). z.spare) own_first in
    let less : length (unheld seats ks) ≤ length ks = unheld_few seats ks in
    let ks_long : length ks ≡ length taken = length-map taken owed.Key in
    let long_first : length (owe_each seats d.turn ks) ≡ length seats = ap length first ∙ length-slice_set seats d.turn t in
    let all : List Owed = leaving taken gone in
    let both : owe_each (owe_each seats d.turn ks) d.turn (map owed.Peer gone) ≡ slice_set d.seats d.turn (owing_list c (unheld d.seats all)) =
    owe_each-append seats d.turn ks (map owed.Peer gone) ∙ owed_each seats d.turn all under_too ∙ set_set d.seats d.turn c (owing_list (get_or seats d.turn empty_seat) (unheld seats all))
    ∙ ap (λ (z : Sitting). slice_set d.seats d.turn (owing_list z (unheld seats all))) own
    ∙ ap (λ (os : List Owed). slice_set d.seats d.turn (owing_list c os)) (unheld_same d.seats d.turn c all hold_is) in
    let done : Readies d call c taken gone = record {
      first_spare = omega arith;
      long = omega arith;
      second_spare = omega arith;
      seats = both;
    } in
    subst (λ (z : Sitting). Readies d call z taken gone) (sym its) done

-- The seat that the step is marked on, and the seats then.
pub called_seats : (d : Seated) (place : Place) (call : Call) (r : Reply) (b y new : Sitting) (taken gone : List ℕ) (seats : List Sitting) (left : Recorded) → Kept d → Readies d call b taken gone → taken ≡ (step d.table.now call).taken → gone ≡ removed r
    → seats ≡ owe_each (owe_each (slice_set d.seats d.turn b) d.turn (map owed.Key taken)) d.turn (map owed.Peer gone) → y ≡ slice_index_or seats d.turn y → left ≡ stepped d.table place call
    → new ≡ record y { events = y.events ++ stepped_as place call r left.taken ∷ []; hold = held_after y.hold call.act r }
    → slice_set seats d.turn new ≡ slice_set d.seats d.turn (seat_called d.table.now (seat_of d) place call r (step d.table.now call).taken (unheld d.seats (leaving (step d.table.now call).taken (removed r))))
called_seats d place call r b y new taken gone seats left kept ready taken_is gone_is seats_is y_is left_is new_is =
    let was : Sitting = seat_of d in
    let c : Sitting = begun_at d.table.now call.act was in
    let t : Sitting = owing_list c (unheld d.seats (leaving taken gone)) in
    let are : seats ≡ slice_set d.seats d.turn t = seats_is ∙ ready.seats in
    let its : y ≡ t = read_left d t y kept (subst (λ (z : List Sitting). y ≡ slice_index_or z d.turn y) are y_is) in
    let F : Sitting → List ℕ → List Owed → Sitting = λ z ks os. record { events = z.events ++ stepped_as place call r ks ∷ []; hold = held_after z.hold call.act r; owing = z.owing ++ os; spare = z.spare - length os } in
    let made_is : new ≡ F (record was { spare = c.spare }) (step d.table.now call).taken (unheld d.seats (leaving (step d.table.now call).taken (removed r))) =
    new_is ∙ ap (λ (z : Sitting). record z { events = z.events ++ stepped_as place call r left.taken ∷ []; hold = held_after z.hold call.act r }) its
    ∙ ap (λ (z : Recorded). F c z.taken (unheld d.seats (leaving taken gone))) left_is
    ∙ ap (λ (z : Sitting). F z (step d.table.now call).taken (unheld d.seats (leaving taken gone))) (begun_is d.table.now call.act was)
    ∙ ap (λ ks. F (record was { spare = c.spare }) (step d.table.now call).taken (unheld d.seats (leaving ks gone))) taken_is
    ∙ ap (λ ps. F (record was { spare = c.spare }) (step d.table.now call).taken (unheld d.seats (leaving (step d.table.now call).taken ps))) gone_is in
    ap (λ (z : List Sitting). slice_set z d.turn new) are ∙ set_set d.seats d.turn t new ∙ ap (λ (z : Sitting). slice_set d.seats d.turn z) made_is

pub called_below : (d : Seated) (call : Call) (b : Sitting) (taken gone : List ℕ) (seats : List Sitting) → Kept d → Readies d call b taken gone
    → seats ≡ owe_each (owe_each (slice_set d.seats d.turn b) d.turn (map owed.Key taken)) d.turn (map owed.Peer gone) → d.turn < length seats
called_below d call b taken gone seats kept ready seats_is =
    let long = ap length (seats_is ∙ ready.seats) ∙ length-slice_set d.seats d.turn (owing_list (begun_at d.table.now call.act (seat_of d)) (unheld d.seats (leaving taken gone))) in
    let under = below d kept in
    omega arith
