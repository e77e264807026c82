-- What every event of every lane keeps true of the world: what a desk cites at each of its calls.
use Rattle.std.proofs.Common.{ℕ, zero, suc, ◌≡◌, ◌+◌, ◌≤◌, ◌<◌, inl, inr, List, [], ◌∷◌, ◌++◌, length, refl, sym, ◌∙◌, ap, subst, arith, length-append, Bool, true, false, ◌||◌, nat_lt, if◌then◌else◌, ◌==◌, get_or}
use Rattle.std.specs.Prelude.{map, max, Some, slice_get, slice_set, ⊤}
use Rattle.std.specs.List.{list_any}
use Rattle.std.proofs.lemmas.Bool.{cases_lt, or_cases}
use Rattle.std.proofs.lemmas.Bool.Decides.{nat_tests}
use Rattle.std.proofs.lemmas.List.{length-map}
use Rattle.std.proofs.lemmas.List.Folds.{list_any-append}
use Rattle.ov_base.specs.declared.address.Addr.{Addr}
use Rattle.ov_model.specs.declared.place.Place.{Place}
use Rattle.ov_model.specs.declared.act.Act.{Act}
use Rattle.ov_model.specs.declared.act.Act.TheVariants as act
use Rattle.ov_model.specs.declared.act.Call.{Call}
use Rattle.ov_model.specs.declared.draw.Drawn.TheVariants as drawn
use Rattle.ov_model.specs.declared.entry.Entry.{Entry}
use Rattle.ov_model.specs.declared.hold.Owed.{Owed}
use Rattle.ov_model.specs.declared.hold.Owed.TheVariants as owed
use Rattle.ov_model.specs.declared.replay.ReplayEntry.{ReplayEntry}
use Rattle.ov_model.specs.declared.replay.Verdict.{Verdict}
use Rattle.ov_model.specs.declared.replay.Verdict.TheVariants as verdict
use Rattle.ov_model.specs.declared.reply.HoldView.{HoldView}
use Rattle.ov_model.specs.declared.reply.Reply.{Reply}
use Rattle.ov_model.specs.declared.reply.Reply.TheVariants as reply
use Rattle.ov_model.specs.declared.stand.Stand.{Stand}
use Rattle.ov_model.specs.declared.stand.Stand.TheVariants as stand
use Rattle.ov_model.specs.Events.{Event, Judged, Drew, judgement_of}
use Rattle.ov_model.specs.Keys.{spends_key, spends}
use Rattle.ov_model.specs.Lifetime.{key_made_by}
use Rattle.ov_model.specs.Next.{stand_of, looked, stepped as stands_stepped, judged_used, judged_as, judged as stands_judged, drew as stands_drew, release_act}
use Rattle.ov_model.specs.Replay.{ShardJudges, IsJudged}
use Rattle.ov_model.specs.Step.{step, act_step, May}
use Rattle.ov_model.specs.Tables.{Table}
use Rattle.ov_model.proofs.KeysTaken.{turns}
use Rattle.ov_model.specs.Lanes.{judged_in}
use Rattle.ov_model.proofs.ReplayLemmas.{ShardJudges-push, IsJudged-judged}
use Rattle.ov_model.proofs.Tallies.{key_stands, key_room}
use Rattle.ov_path.specs.Desks.{Holding, NoHold, Both, PeerLeft, held_after, peer_left, stepped_as, HoldsKey, LeftPeer, IsLooked, IsDrawn, IsJudged as IsAccepted, IsSpent, IsPause, MayCall, first_owed}
use Rattle.ov_path.proofs.Seeing.{seen}
use Rattle.ov_table.specs.Recorded.{entry_of}
use Rattle.ov_table.proofs.Told.{told_step}
use Rattle.ov_core.specs.Worlds.{World, Seat, next_of, seen_from, seat_stepped, after_step, shard_of, judged_next, after_replay, drawn_of, next_after, after_draw, after_key, after_peer, no_line}
use Rattle.ov_core.specs.Sounds.{HeldThere, IsDry, SeatSound, Owes, WorldSound}
use Rattle.ov_core.proofs.Nexts.{next_stepped, drawn_most, dry_stays}
use Rattle.ov_core.proofs.Seats.{length-slice_set, set_case}
use Rattle.ov_core.proofs.Staying.{seats_there, there_left}
use Rattle.ov_core.proofs.Balance.{ReleasesFirst, LooksFree, call_first, owed_first, step_owes, key_owes_back, peer_owes_back, still_owes}

-- ---- counters

-- As many keys more are made as the reply says.
keys_made_by : (t : Table) (now : ℕ) (a : Act) → (act_step t now a).after.keys_made ≡ t.keys_made + length (key_made_by a (act_step t now a).reply)
keys_made_by t now a = elim (turns 0 t now a).made [
  | inl still ↦ rw (still.0, still.1) (omega arith)
  | inr grown ↦ rw (grown.0, grown.1) (omega arith)
]

-- ---- lanes that found their key spent

-- A line that stands so hasn't just found its key spent.
abbrev NotSpent : Stand → Type 0
NotSpent (stand.Drew h drawn.Spent) = ⊥
NotSpent _ = ⊤

dry_not : (w : World) (h : Holding) (s : Stand) → NotSpent s → IsDry w h s
dry_not w (Both h) (stand.Drew v drawn.Spent) not = absurd not
dry_not w (Both h) (stand.Drew v (drawn.Id n)) not = tt
dry_not w (Both h) stand.Fresh not = tt
dry_not w (Both h) stand.Replied not = tt
dry_not w (Both h) stand.Missed not = tt
dry_not w (Both h) (stand.Looked v) not = tt
dry_not w (Both h) (stand.Judged v) not = tt
dry_not w (Both h) (stand.Used v u) not = tt
dry_not w (Both h) (stand.KeyGiven v u) not = tt
dry_not w (Both h) (stand.PeerGiven v u) not = tt
dry_not w NoHold s not = tt
dry_not w (PeerLeft h) s not = tt

-- What gave its last id has given it later too.
dry_later : (w v : World) (h : Holding) (s : Stand) → ((key : ℕ) → next_of w key ≡ 4294967296 → next_of v key ≡ 4294967296) → IsDry w h s → IsDry v h s
dry_later w v (Both h) (stand.Drew x drawn.Spent) later dry = later h.key dry
dry_later w v (Both h) (stand.Drew x (drawn.Id n)) later dry = tt
dry_later w v (Both h) stand.Fresh later dry = tt
dry_later w v (Both h) stand.Replied later dry = tt
dry_later w v (Both h) stand.Missed later dry = tt
dry_later w v (Both h) (stand.Looked x) later dry = tt
dry_later w v (Both h) (stand.Judged x) later dry = tt
dry_later w v (Both h) (stand.Used x u) later dry = tt
dry_later w v (Both h) (stand.KeyGiven x u) later dry = tt
dry_later w v (Both h) (stand.PeerGiven x u) later dry = tt
dry_later w v NoHold s later dry = tt
dry_later w v (PeerLeft h) s later dry = tt

looked_not : (r : Reply) → NotSpent (looked r)
looked_not (reply.Hold h) = tt
looked_not _ = tt

used_not : (h : HoldView) (r : Reply) → NotSpent (judged_used h r)
used_not h (reply.Settled s) = tt
used_not h _ = tt

accepted_not : (h : HoldView) (v : Verdict) → NotSpent (judged_as h v)
accepted_not h verdict.Accept = tt
accepted_not h verdict.Zero = tt
accepted_not h verdict.Old = tt
accepted_not h verdict.Below = tt
accepted_not h verdict.Again = tt

pause_not : (s : Stand) (peer : ℕ) (r : Reply) → IsPause s → NotSpent (stands_stepped s (act.KeepLook peer) r)
pause_not stand.Replied peer r pause = looked_not r
pause_not stand.Missed peer r pause = looked_not r
pause_not (stand.PeerGiven h u) peer r pause = looked_not r
pause_not _ peer r pause = absurd pause

sent_not : (s : Stand) (peer inner outer : ℕ) (ping : Bool) (r : Reply) → IsDrawn s → NotSpent (stands_stepped s (act.Sent peer inner outer ping) r)
sent_not (stand.Drew h (drawn.Id n)) peer inner outer ping r drew = tt
sent_not _ peer inner outer ping r drew = absurd drew

spend_not : (s : Stand) (peer key : ℕ) (r : Reply) → IsSpent s → NotSpent (stands_stepped s (act.Spend peer key) r)
spend_not (stand.Drew h drawn.Spent) peer key r spent = tt
spend_not _ peer key r spent = absurd spent

settle_not : (s : Stand) (a : Act) (r : Reply) → IsAccepted s → NotSpent (stands_stepped s a r)
settle_not (stand.Judged h) a r was = used_not h r
settle_not _ a r was = absurd was

-- No step that a line may ask for leaves it at a spent key.
call_not : (via : Addr → Addr) (w : World) (s : Seat) (a : Act) (r : Reply) → MayCall (seen_from via w s) a → NotSpent (stands_stepped (stand_of s.events) a r)
call_not via w s (act.Do c) r may = rw may.2 tt
call_not via w s (act.TxLook a) r may = rw may.2 (looked_not r)
call_not via w s (act.RxLook id key_id from) r may = rw may.2 (looked_not r)
call_not via w s (act.KeepLook peer) r may = pause_not (stand_of s.events) peer r may.pause
call_not via w s (act.Sent peer inner outer ping) r may = sent_not (stand_of s.events) peer inner outer ping r may.1
call_not via w s (act.Settle peer from kind inner outer) r may = settle_not (stand_of s.events) (act.Settle peer from kind inner outer) r may.1
call_not via w s (act.Spend peer key) r may = spend_not (stand_of s.events) peer key r may.2
call_not via w s (act.Released peer) r may = absurd may
call_not via w s (act.KeyReleased key) r may = absurd may

-- A release leaves the line where it was.
release_dry : (w : World) (h : Holding) (s : Stand) (o : Owed) (r : Reply) → IsDry w h s → IsDry w h (stands_stepped s (release_act o) r)
release_dry w h stand.Fresh (owed.Peer p) r dry = dry
release_dry w h stand.Fresh (owed.Key k) r dry = dry
release_dry w h (stand.Drew x drawn.Spent) (owed.Peer p) r dry = dry
release_dry w h (stand.Drew x drawn.Spent) (owed.Key k) r dry = dry
release_dry w h (stand.Drew x (drawn.Id n)) (owed.Peer p) r dry = dry
release_dry w h (stand.Drew x (drawn.Id n)) (owed.Key k) r dry = dry
release_dry w h (stand.Judged x) o r dry = dry_not w h (judged_used x r) (used_not x r)
release_dry w h stand.Replied (owed.Peer p) r dry = dry
release_dry w h stand.Replied (owed.Key k) r dry = dry
release_dry w h stand.Missed (owed.Peer p) r dry = dry
release_dry w h stand.Missed (owed.Key k) r dry = dry
release_dry w h (stand.Looked x) o r dry = dry
release_dry w h (stand.Used x u) o r dry = dry
release_dry w h (stand.KeyGiven x u) o r dry = dry
release_dry w h (stand.PeerGiven x u) (owed.Peer p) r dry = dry
release_dry w h (stand.PeerGiven x u) (owed.Key k) r dry = dry

-- What is said to be spent gave its last id.
spend_dry : (w : World) (h : Holding) (s : Stand) (key : ℕ) → IsDry w h s → HoldsKey h key → IsSpent s → next_of w key ≡ 4294967296
spend_dry w (Both h) (stand.Drew x drawn.Spent) key dry holds spent = subst (λ k. next_of w k ≡ 4294967296) holds dry
spend_dry w (Both h) _ key dry holds spent = absurd spent
spend_dry w NoHold s key dry holds spent = absurd holds
spend_dry w (PeerLeft h) s key dry holds spent = absurd holds

-- ---- a step of the table

-- A list of one.
only_one : (b : Bool) → (b || false) ≡ true → b ≡ true
only_one true is = refl
only_one false is = is

eqb_eq : (m n : ℕ) → (m == n) ≡ true → m ≡ n
eqb_eq m n is = grind (arith, nat_tests)

-- What is asked of a step besides that it may be made: a release is of what is owed first, a look-up is made by
-- a lane that holds nothing, a spent key gave its last id, and the lane isn't left at a spent key that isn't.
record Asked (w : World) (s : Seat) (a : Act) (r : Reply) : Type 0 where
  first : ReleasesFirst a s.owing
  looks : LooksFree a s.hold
  spent : (key : ℕ) → spends_key key a ≡ true → next_of w key ≡ 4294967296
  dry : IsDry w (held_after s.hold a r) (stands_stepped (stand_of s.events) a r)

keeps_step : (w : World) (i : ℕ) (s : Seat) (place : Place) (call : Call) → WorldSound w → slice_get w.seats i ≡ Some s → May w.table.now call → Asked w s call.act (step w.table.now call).reply → WorldSound (after_step w i s place call)
keeps_step w i s place call sound at may asked =
    let v : World = after_step w i s place call in
    let r : Reply = (step w.table.now call).reply in
    let e : Entry = entry_of w.table.now place call in
    let new : Seat = seat_stepped w.seats s place call (step w.table.now call) in
    let counters : length (w.next ++ map (λ _. w.first) (key_made_by call.act r)) ≡ length w.next + length (key_made_by call.act r) =
    length-append w.next (map (λ _. w.first) (key_made_by call.act r)) ∙ ap (λ n. length w.next + n) (length-map (key_made_by call.act r) (λ _. w.first)) in
    let more : (step w.table.now call).after.keys_made ≡ w.table.now.keys_made + length (key_made_by call.act r) = keys_made_by w.table.now (max w.table.now.moment call.at) call.act in
    let later : (key : ℕ) → next_of w key ≡ 4294967296 → next_of v key ≡ 4294967296 = λ key last. next_stepped w i s place call key ∙ last in
    let there = seats_there w i s place call sound.owes at may asked.first (λ j t t_is. (sound.seats j t t_is).there) in
    record {
      told = told_step w.table place call may sound.told;
      eight = sound.eight;
      judges = sound.judges;
      made = counters ∙ rw sound.made (sym more);
      most = λ key. rw (next_stepped w i s place call key) (sound.most key);
      spent = λ key is. later key (elim (or_cases (list_any (spends key) w.table.journal) (list_any (spends key) (e ∷ [])) (sym (list_any-append (spends key) w.table.journal (e ∷ [])) ∙ is)) [
        | inl before ↦ sound.spent key before
        | inr now ↦ asked.spent key (only_one (spends_key key call.act) now)
      ]);
      owes = step_owes w i s place call sound.told sound.owes at may asked.first asked.looks;
      seats = λ j t t_is. record {
        there = there j t t_is;
        dry = elim (set_case w.seats i j new t t_is) [
          | inl here ↦
              let stands : stand_of new.events ≡ stands_stepped (stand_of s.events) call.act r = seen (stand_of s.events) s.events (stepped_as place call r (step w.table.now call).taken) refl in
              let own : IsDry v new.hold (stand_of new.events) = dry_later w v new.hold (stand_of new.events) later (subst (IsDry w new.hold) (sym stands) asked.dry) in
              subst (λ (x : Seat). IsDry v x.hold (stand_of x.events)) (sym here.1) own
          | inr there ↦ dry_later w v t.hold (stand_of t.events) later (sound.seats j t there.1).dry
        ];
      };
    }

-- A step that a line may ask for.
call_spent : (via : Addr → Addr) (w : World) (s : Seat) (a : Act) → SeatSound w s → MayCall (seen_from via w s) a → (key : ℕ) → spends_key key a ≡ true → next_of w key ≡ 4294967296
call_spent via w s (act.Spend peer spent) sound may key is =
    let same : spent ≡ key = eqb_eq spent key is in
    subst (λ k. next_of w k ≡ 4294967296) same (spend_dry w s.hold (stand_of s.events) spent sound.dry may.1 may.2)
call_spent via w s (act.Do c) sound may key is = absurd (cc)
call_spent via w s (act.TxLook a) sound may key is = absurd (cc)
call_spent via w s (act.RxLook id key_id from) sound may key is = absurd (cc)
call_spent via w s (act.KeepLook peer) sound may key is = absurd (cc)
call_spent via w s (act.Sent peer inner outer ping) sound may key is = absurd (cc)
call_spent via w s (act.Settle peer from kind inner outer) sound may key is = absurd (cc)
call_spent via w s (act.Released peer) sound may key is = absurd (cc)
call_spent via w s (act.KeyReleased k) sound may key is = absurd (cc)

pub keeps_call : (via : Addr → Addr) (w : World) (i : ℕ) (s : Seat) (place : Place) (call : Call) → WorldSound w → slice_get w.seats i ≡ Some s → May w.table.now call → MayCall (seen_from via w s) call.act → WorldSound (after_step w i s place call)
keeps_call via w i s place call sound at may asks =
    let r : Reply = (step w.table.now call).reply in
    let first = call_first via w s call.act asks in
    keeps_step w i s place call sound at may (record {
      first = first.0;
      looks = first.1;
      spent = call_spent via w s call.act (sound.seats i s at) asks;
      dry = dry_not w (held_after s.hold call.act r) (stands_stepped (stand_of s.events) call.act r) (call_not via w s call.act r asks);
    })

-- A release of what is owed first.
release_spends : (o : Owed) (key : ℕ) → spends_key key (release_act o) ≡ true → ⊥
release_spends (owed.Peer p) key is = cc
release_spends (owed.Key k) key is = cc

release_holds : (o : Owed) (h : Holding) (r : Reply) → held_after h (release_act o) r ≡ h
release_holds (owed.Peer p) h r = refl
release_holds (owed.Key k) h r = refl

release_asked : (w : World) (s : Seat) (o : Owed) (r : Reply) → SeatSound w s → first_owed s.owing ≡ Some o → Asked w s (release_act o) r
release_asked w s o r sound first =
    let both = owed_first (release_act o) o s.owing s.hold first refl in
    record {
      first = both.0;
      looks = both.1;
      spent = λ key is. absurd (release_spends o key is);
      dry = rw (release_holds o s.hold r) (release_dry w s.hold (stand_of s.events) o r sound.dry);
    }

pub keeps_release : (w : World) (i : ℕ) (s : Seat) (place : Place) (call : Call) (o : Owed) → WorldSound w → slice_get w.seats i ≡ Some s → May w.table.now call → first_owed s.owing ≡ Some o → call.act ≡ release_act o → WorldSound (after_step w i s place call)
keeps_release w i s place call o sound at may first is =
    keeps_step w i s place call sound at may (subst (λ a. Asked w s a (step w.table.now call).reply) (sym is) (release_asked w s o (step w.table.now call).reply (sound.seats i s at) first))

-- ---- a replay step

-- The shards with the step that comes next in one of them.
judges_more : (base : ℕ) (shards : List (List ReplayEntry)) (k : ℕ) (r : ReplayEntry) → ((j : ℕ) (rs : List ReplayEntry) → slice_get shards j ≡ Some rs → ShardJudges (base + j) rs) → IsJudged (base + k) (get_or shards k []) r
    → (j : ℕ) (rs : List ReplayEntry) → slice_get (judged_in shards k r) j ≡ Some rs → ShardJudges (base + j) rs
judges_more base [] k r each new j rs at = absurd (cc)
judges_more base (xs ∷ shards) zero r each new zero rs at = (let its : xs ++ r ∷ [] ≡ rs = cc in subst (ShardJudges (base + 0)) its (ShardJudges-push (base + 0) xs r (each zero xs refl) new))
judges_more base (xs ∷ shards) zero r each new (suc j) rs at = each (suc j) rs at
judges_more base (xs ∷ shards) (suc k) r each new zero rs at = each zero rs at
judges_more base (xs ∷ shards) (suc k) r each new (suc j) rs at =
    let up : (n : ℕ) → base + 1 + n ≡ base + suc n = λ n. omega arith in
    let rest : (n : ℕ) (ys : List ReplayEntry) → slice_get shards n ≡ Some ys → ShardJudges (base + 1 + n) ys = λ n ys n_is. subst (λ (m : ℕ). ShardJudges m ys) (sym (up n)) (each (suc n) ys n_is) in
    let one : IsJudged (base + 1 + k) (get_or shards k []) r = subst (λ (m : ℕ). IsJudged m (get_or shards k []) r) (sym (up k)) new in
    subst (λ (m : ℕ). ShardJudges m rs) (up j) (judges_more (base + 1) shards k r rest one j rs at)

length-judged_in : (shards : List (List ReplayEntry)) (k : ℕ) (r : ReplayEntry) → length (judged_in shards k r) ≡ length shards
length-judged_in [] k r = refl
length-judged_in (rs ∷ shards) zero r = refl
length-judged_in (rs ∷ shards) (suc k) r = rw (length-judged_in shards k r) refl

-- Where a line has looked up, a replay step leaves it elsewhere than at a spent key.
judged_not : (s : Stand) (v : Verdict) → IsLooked s → NotSpent (stands_judged s v)
judged_not (stand.Looked h) v was = accepted_not h v
judged_not _ v was = absurd was

pub keeps_replay : (w : World) (i : ℕ) (s : Seat) (place : Place) (key id at : ℕ) → WorldSound w → slice_get w.seats i ≡ Some s → IsLooked (stand_of s.events) → WorldSound (after_replay w i s place key id at)
keeps_replay w i s place key id at sound s_is was =
    let v : World = after_replay w i s place key id at in
    let r : ReplayEntry = judged_next w place key id at in
    let e : Event = Judged (judgement_of r) in
    let new : Seat = record s { events = s.events ++ e ∷ [] } in
    let base : (n : ℕ) → 0 + n ≡ n = λ n. omega arith in
    let judged_so : IsJudged (shard_of key) (get_or w.shards (shard_of key) []) r = IsJudged-judged (shard_of key) (get_or w.shards (shard_of key) []) place key id at refl in
    record {
      told = sound.told;
      eight = length-judged_in w.shards (shard_of key) r ∙ sound.eight;
      judges = λ j rs rs_is. subst (λ (n : ℕ). ShardJudges n rs) (base j) (judges_more 0 w.shards (shard_of key) r
          (λ n ys ys_is. subst (λ (m : ℕ). ShardJudges m ys) (sym (base n)) (sound.judges n ys ys_is))
          (subst (λ (m : ℕ). IsJudged m (get_or w.shards (shard_of key) []) r) (sym (base (shard_of key))) judged_so) j rs rs_is);
      made = sound.made;
      most = sound.most;
      spent = sound.spent;
      owes = still_owes w v i s new sound.owes s_is refl refl refl refl;
      seats = λ j t t_is. elim (set_case w.seats i j new t t_is) [
        | inl here ↦
            let stands : stand_of new.events ≡ stands_judged (stand_of s.events) r.verdict = seen (stand_of s.events) s.events e refl in
            let own : SeatSound v new = record { there = (sound.seats i s s_is).there; dry = rw stands (dry_not v s.hold (stands_judged (stand_of s.events) r.verdict) (judged_not (stand_of s.events) r.verdict was)) } in
            subst (SeatSound v) (sym here.1) own
        | inr there ↦ let was : SeatSound w t = sound.seats j t there.1 in record { there = was.there; dry = dry_later w v t.hold (stand_of t.events) (λ k last. last) was.dry }
      ];
    }

-- ---- a draw

-- A key that is held was made, so that it has a counter.
holds_below : (made stands key : ℕ) → (made ≤ key → stands ≡ 0) → 1 ≤ stands → key < made
holds_below made stands key unmade there = elim (cases_lt key made) [
  | inl below ↦ below
  | inr past ↦ absurd (let none = unmade (omega arith) in omega arith)
]

held_key : (t : Table) (h : Holding) (key : ℕ) → HeldThere t h → HoldsKey h key → 1 ≤ key_stands key t
held_key t (Both h) key there holds = subst (λ k. 1 ≤ key_stands k t) holds there.1
held_key t NoHold key there holds = absurd holds
held_key t (PeerLeft h) key there holds = absurd holds

pub draws_below : (w : World) (i : ℕ) (s : Seat) (key : ℕ) → WorldSound w → slice_get w.seats i ≡ Some s → HoldsKey s.hold key → key < length w.next
draws_below w i s key sound s_is holds =
    let there : 1 ≤ key_stands key w.table.now = held_key w.table.now s.hold key (sound.seats i s s_is).there holds in
    let unmade : w.table.now.keys_made ≤ key → key_stands key w.table.now ≡ 0 = rw (← sound.told.last) (key_room key w.table.journal sound.told.run).unmade in
    rw sound.made (holds_below w.table.now.keys_made (key_stands key w.table.now) key unmade there)

drawn_dry : (v : World) (h x : HoldView) (n : ℕ) → (n ≡ 4294967296 → next_of v h.key ≡ 4294967296) → n ≤ 4294967296 → IsDry v (Both h) (stand.Drew x (drawn_of n))
drawn_dry v h x n last most =
    elim (nat_lt n 4294967296) as (λ b. nat_lt n 4294967296 ≡ b → IsDry v (Both h) (stand.Drew x (if b then drawn.Id n else drawn.Spent))) [
      | true ↦ λ is. tt
      | false ↦ λ is. last (grind (arith, nat_tests))
    ] refl

looked_drew : (v : World) (h : Holding) (st : Stand) (key n : ℕ) → HoldsKey h key → IsLooked st → (n ≡ 4294967296 → next_of v key ≡ 4294967296) → n ≤ 4294967296 → IsDry v h (stands_drew st (drawn_of n))
looked_drew v (Both h) (stand.Looked x) key n holds was last most = drawn_dry v h x n (λ is. subst (λ k. next_of v k ≡ 4294967296) (sym holds) (last is)) most
looked_drew v (Both h) _ key n holds was last most = absurd was
looked_drew v NoHold st key n holds was last most = absurd holds
looked_drew v (PeerLeft h) st key n holds was last most = absurd holds

pub keeps_draw : (w : World) (i : ℕ) (s : Seat) (key : ℕ) → WorldSound w → slice_get w.seats i ≡ Some s → HoldsKey s.hold key → IsLooked (stand_of s.events) → WorldSound (after_draw w i s key)
keeps_draw w i s key sound s_is holds was =
    let v : World = after_draw w i s key in
    let e : Event = Drew key (drawn_of (next_of w key)) in
    let new : Seat = record s { events = s.events ++ e ∷ [] } in
    let below : key < length w.next = draws_below w i s key sound s_is holds in
    let later : (k : ℕ) → next_of w k ≡ 4294967296 → next_of v k ≡ 4294967296 = λ k last. dry_stays w i s key k below last in
    record {
      told = sound.told;
      eight = sound.eight;
      judges = sound.judges;
      made = length-slice_set w.next key (next_after (next_of w key)) ∙ sound.made;
      most = λ k. drawn_most w i s key k below (sound.most k);
      spent = λ k is. later k (sound.spent k is);
      owes = still_owes w v i s new sound.owes s_is refl refl refl refl;
      seats = λ j t t_is. elim (set_case w.seats i j new t t_is) [
        | inl here ↦
            let stands : stand_of new.events ≡ stands_drew (stand_of s.events) (drawn_of (next_of w key)) = seen (stand_of s.events) s.events e refl in
            let own : SeatSound v new = record { there = (sound.seats i s s_is).there; dry = rw stands (looked_drew v s.hold (stand_of s.events) key (next_of w key) holds was (later key) (sound.most key)) } in
            subst (SeatSound v) (sym here.1) own
        | inr there ↦ let was : SeatSound w t = sound.seats j t there.1 in record { there = was.there; dry = dry_later w v t.hold (stand_of t.events) later was.dry }
      ];
    }

-- ---- give-backs, and a seat that is free again

keeps_seat : (w : World) (i : ℕ) (s new : Seat) → WorldSound w → slice_get w.seats i ≡ Some s → Owes (record w { seats = slice_set w.seats i new }) → HeldThere w.table.now new.hold → ((v : World) → IsDry v new.hold (stand_of new.events)) → WorldSound (record w { seats = slice_set w.seats i new })
keeps_seat w i s new sound s_is owes there dry =
    let v : World = record w { seats = slice_set w.seats i new } in
    record {
      told = sound.told;
      eight = sound.eight;
      judges = sound.judges;
      made = sound.made;
      most = sound.most;
      spent = sound.spent;
      owes = owes;
      seats = λ j t t_is. elim (set_case w.seats i j new t t_is) [
        | inl here ↦ let own : SeatSound v new = record { there = there; dry = dry v } in subst (SeatSound v) (sym here.1) own
        | inr there ↦ let was : SeatSound w t = sound.seats j t there.1 in record { there = was.there; dry = dry_later w v t.hold (stand_of t.events) (λ k last. last) was.dry }
      ];
    }

left_dry : (v : World) (h : Holding) (st : Stand) → IsDry v (peer_left h) st
left_dry v NoHold st = tt
left_dry v (Both h) st = tt
left_dry v (PeerLeft h) st = tt

pub keeps_key : (w : World) (i : ℕ) (s : Seat) (key : ℕ) → WorldSound w → slice_get w.seats i ≡ Some s → HoldsKey s.hold key → WorldSound (after_key w i s key)
keeps_key w i s key sound s_is holds =
    keeps_seat w i s _ sound s_is (key_owes_back w i s key sound.told sound.owes s_is holds) (there_left w.table.now s.hold (sound.seats i s s_is).there) (λ v. left_dry v s.hold _)

pub keeps_peer : (w : World) (i : ℕ) (s : Seat) (peer : ℕ) → WorldSound w → slice_get w.seats i ≡ Some s → LeftPeer s.hold peer → WorldSound (after_peer w i s peer)
keeps_peer w i s peer sound s_is holds = keeps_seat w i s _ sound s_is (peer_owes_back w i s peer sound.told sound.owes s_is holds) tt (λ v. tt)

-- A line is over.
pub keeps_free : (w : World) (i : ℕ) (s : Seat) → WorldSound w → slice_get w.seats i ≡ Some s → s.hold ≡ NoHold → s.owing ≡ [] → WorldSound (record w { seats = slice_set w.seats i no_line })
keeps_free w i s sound s_is hold owing =
    keeps_seat w i s no_line sound s_is (still_owes w (record w { seats = slice_set w.seats i no_line }) i s no_line sound.owes s_is refl (sym hold) (sym owing) refl) tt (λ v. tt)
