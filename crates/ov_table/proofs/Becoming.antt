-- What a step of the table makes of each cell: what became live is left to link, what became dying to unlink,
-- and only what is owed is let go. It follows from what a step makes, removes, takes out and lets go of each
-- serial, whatever the act.
use Rattle.std.proofs.Common.{ℕ, ◌≡◌, ◌+◌, ◌-◌, ◌<◌, ◌≤◌, List, [], ◌∷◌, refl, sym, ap, ◌∙◌, subst, arith, if◌then◌else◌, ◌==◌, true, inl, inr}
use Rattle.std.specs.Prelude.{map}
use Rattle.std.proofs.lemmas.Bool.{cases_eq, cases_lt, eq-eqb, ne_eqb}
use Rattle.std.proofs.lemmas.Bool.Decides.{nat_tests}
use mathlib.Core.Logic.{dite}
use native.Mathlib.Decide.{ℕ_discrete}
use Rattle.ov_base.specs.Sums.{count_of}
use Rattle.ov_base.proofs.Sums.{total_append}
use Rattle.ov_turn.specs.Lists.{has, newly}
use Rattle.ov_turn.specs.HoldRule.{MayBecome}
use Rattle.ov_turn.proofs.Members.{has_le, has_counted, counted_has, newly_old, newly_new}
use Rattle.ov_model.specs.declared.place.Place.{Place}
use Rattle.ov_model.specs.declared.act.Act.{Act}
use Rattle.ov_model.specs.declared.act.Act.TheVariants as act
use Rattle.ov_model.specs.declared.act.Call.{Call}
use Rattle.ov_model.specs.Tables.{Peer, Key, Table, serials_of, keys_of, key_serials}
use Rattle.ov_model.specs.Step.{Outcome, step, May, may_act}
use Rattle.ov_model.specs.Path.{removed}
use Rattle.ov_model.specs.Limits.{most_peers, most_keys}
use Rattle.ov_model.specs.Removals.{times, released_by, key_released_by}
use Rattle.ov_model.specs.Lifetime.{peer_made_by, key_made_by}
use Rattle.ov_model.proofs.Times.{times_first}
use Rattle.ov_model.proofs.KeysTaken.{slot_serials, keys_serials, Turns, step_turns}
use Rattle.ov_model.proofs.Freed.{Balance, act_balance}
use Rattle.ov_model.proofs.Tallies.{Comes, comes_next, Room, peer_tally, key_tally, peer_stands, peer_room, key_room, peers_most, keys_most, any_stands}
use Rattle.ov_table.specs.Recorded.{Recorded, stepped, IsTold}
use Rattle.ov_table.specs.Cells.{key_cell, cells, live_cells, dying_cells, made_cells, gone_cells, freed_cells, OwesFreed}
use Rattle.ov_table.proofs.Told.{told_step}

-- ---- one serial, or one cell, on numbers

-- How often it is live and dying before a step and after it, and how often the step makes it, takes it out
-- and lets it go.
pub record Shifts (count c live dying live' dying' made gone freed : ℕ) : Type 0 where
  pub up : live' + gone ≡ live + made
  pub down : dying' + freed ≡ dying + gone
  pub before : live + dying ≤ 1
  pub after : live' + dying' ≤ 1
  pub was_live : gone ≤ live
  pub was_dying : freed ≤ dying
  pub new : 0 < made → (c < count) × (live + dying ≡ 0)

-- ---- the serials

-- What is let go was dying.
freed_peers : (x : ℕ) (t : Table) (a : Act) → may_act t a ≡ true → times x (released_by a) ≤ times x (serials_of t.dying)
freed_peers x t (act.Do c) may = omega arith
freed_peers x t (act.TxLook a) may = omega arith
freed_peers x t (act.RxLook id key_id from) may = omega arith
freed_peers x t (act.Sent peer inner outer ping) may = omega arith
freed_peers x t (act.Settle peer from k inner outer) may = omega arith
freed_peers x t (act.Spend peer key) may = omega arith
freed_peers x t (act.KeepLook peer) may = omega arith
freed_peers x t (act.Released peer) may = any_stands (λ (p : Peer). p.serial) x peer t.dying may
freed_peers x t (act.KeyReleased key) may = omega arith

freed_keys : (x : ℕ) (t : Table) (a : Act) → may_act t a ≡ true → times x (key_released_by a) ≤ times x (key_serials t.retired)
freed_keys x t (act.Do c) may = omega arith
freed_keys x t (act.TxLook a) may = omega arith
freed_keys x t (act.RxLook id key_id from) may = omega arith
freed_keys x t (act.Sent peer inner outer ping) may = omega arith
freed_keys x t (act.Settle peer from k inner outer) may = omega arith
freed_keys x t (act.Spend peer key) may = omega arith
freed_keys x t (act.KeepLook peer) may = omega arith
freed_keys x t (act.Released peer) may = omega arith
freed_keys x t (act.KeyReleased key) may = any_stands (λ (k : Key). k.serial) x key t.retired may

module _ (r : Recorded) (place : Place) (call : Call) (told : IsTold r) (may : May r.now call) where
  abbrev next : Outcome
  next = step r.now call

  peers_before : (x : ℕ) → Room (peer_tally x) r.now
  peers_before x = subst (Room (peer_tally x)) told.last (peer_room x r.journal told.run)

  keys_before : (x : ℕ) → Room (key_tally x) r.now
  keys_before x = subst (Room (key_tally x)) told.last (key_room x r.journal told.run)

  later : IsTold (stepped r place call)
  later = told_step r place call may told

  peers_after : (x : ℕ) → Room (peer_tally x) next.after
  peers_after x = subst (Room (peer_tally x)) later.last (peer_room x (stepped r place call).journal later.run)

  keys_after : (x : ℕ) → Room (key_tally x) next.after
  keys_after x = subst (Room (key_tally x)) later.last (key_room x (stepped r place call).journal later.run)

  few_peers : next.after.made ≤ most_peers
  few_peers = subst (λ (t : Table). t.made ≤ most_peers) later.last (peers_most (stepped r place call).journal)

  few_keys : next.after.keys_made ≤ most_keys
  few_keys = subst (λ (t : Table). t.keys_made ≤ most_keys) later.last (keys_most (stepped r place call).journal)

  peer_shifts : (x : ℕ) → Shifts most_peers x (times x (serials_of r.now.live)) (times x (serials_of r.now.dying)) (times x (serials_of next.after.live)) (times x (serials_of next.after.dying)) (times x (peer_made_by call.act next.reply)) (times x (removed next.reply)) (times x (released_by call.act))
  peer_shifts x =
      let turn : Turns x r.now call.act next = step_turns x r.now call in
      let balance : Balance x r.now call.act next = act_balance x r.now _ call.act may in
      let comes : Comes x r.now.made next.after.made (times x (peer_made_by call.act next.reply)) = comes_next x r.now.made next.after.made (peer_made_by call.act next.reply) turn.born in
      record {
        up = turn.peers;
        down = balance.peers;
        before = (peers_before x).most;
        after = (peers_after x).most;
        was_live = turn.removed_live;
        was_dying = freed_peers x r.now call.act may;
        new = λ some.
            let first : x ≡ r.now.made = (comes.next some).0 in
            let more : next.after.made ≡ r.now.made + 1 = (comes.next some).1 in
            (omega (arith, few_peers), (peers_before x).unmade (omega arith));
      }

  -- A serial that no peer has.
  record Nobody (x : ℕ) : Type 0 where
    before : peer_stands x r.now ≡ 0
    after : peer_stands x next.after ≡ 0
    made : times x (peer_made_by call.act next.reply) ≡ 0
    gone : times x (removed next.reply) ≡ 0
    freed : times x (released_by call.act) ≡ 0

  nobody : (x : ℕ) → 4096 ≤ x → Nobody x
  nobody x past =
      let turn : Turns x r.now call.act next = step_turns x r.now call in
      let comes : Comes x r.now.made next.after.made (times x (peer_made_by call.act next.reply)) = comes_next x r.now.made next.after.made (peer_made_by call.act next.reply) turn.born in
      let few : next.after.made ≤ 4096 = few_peers in
      let grows : r.now.made ≤ next.after.made = comes.grows in
      let was : peer_stands x r.now ≡ 0 = (peers_before x).unmade (omega arith) in
      let is : peer_stands x next.after ≡ 0 = (peers_after x).unmade (omega arith) in
      let shifts = peer_shifts x in
      let gone = shifts.was_live in
      let freed = shifts.was_dying in
      let up = shifts.up in
      record { before = was; after = is; made = omega arith; gone = omega arith; freed = omega arith }

  key_shifts : (x : ℕ) → Shifts most_keys x (times x (slot_serials r.now.live)) (times x (key_serials r.now.retired)) (times x (slot_serials next.after.live)) (times x (key_serials next.after.retired)) (times x (key_made_by call.act next.reply)) (times x next.taken) (times x (key_released_by call.act))
  key_shifts x =
      let turn : Turns x r.now call.act next = step_turns x r.now call in
      let balance : Balance x r.now call.act next = act_balance x r.now _ call.act may in
      let comes : Comes x r.now.keys_made next.after.keys_made (times x (key_made_by call.act next.reply)) = comes_next x r.now.keys_made next.after.keys_made (key_made_by call.act next.reply) turn.made in
      record {
        up = turn.slots;
        down = balance.keys;
        before = (keys_before x).most;
        after = (keys_after x).most;
        was_live = turn.taken_live;
        was_dying = freed_keys x r.now call.act may;
        new = λ some.
            let first : x ≡ r.now.keys_made = (comes.next some).0 in
            let more : next.after.keys_made ≡ r.now.keys_made + 1 = (comes.next some).1 in
            (omega (arith, few_keys), (keys_before x).unmade (omega arith));
      }

-- ---- the cells

pub count_times : (x : ℕ) (xs : List ℕ) → count_of x xs ≡ times x xs
count_times x [] = refl
count_times x (y ∷ ys) =
    let all : times x (y ∷ ys) ≡ times x (y ∷ []) + times x ys = times_first x y ys in
    elim (cases_eq y x) [
      | inl same ↦ rw (all, eq-eqb y x same, count_times x ys) refl
      | inr other ↦ rw (all, ne_eqb y x other, count_times x ys) refl
    ]

keys_past : (c : ℕ) (keys : List ℕ) → c < 4096 → count_of c (map key_cell keys) ≡ 0
keys_past c [] below = refl
keys_past c (k ∷ keys) below = rw (ne_eqb (4096 + k) c (λ e. absurd (omega arith)), keys_past c keys below) refl

one_cell : (k x : ℕ) → ◌≡◌ {A = ℕ} (if (4096 + k) == (4096 + x) then 1 else 0) (if k == x then 1 else 0)
one_cell k x = grind (arith, nat_tests)

keys_are : (x : ℕ) (keys : List ℕ) → count_of (4096 + x) (map key_cell keys) ≡ count_of x keys
keys_are x [] = refl
keys_are x (k ∷ keys) = omega (arith, one_cell k x, keys_are x keys)

-- A cell below 4,096 is a peer's.
pub peer_cell : (c : ℕ) (peers keys : List ℕ) → c < 4096 → count_of c (cells peers keys) ≡ times c peers
peer_cell c peers keys below = omega (arith, total_append (λ x. if x == c then 1 else 0) peers (map key_cell keys), keys_past c keys below, count_times c peers)

-- Any other is a key's, unless a peer has it.
pub other_cell : (x : ℕ) (peers keys : List ℕ) → count_of (4096 + x) (cells peers keys) ≡ times (4096 + x) peers + times x keys
other_cell x peers keys = omega (arith, total_append (λ y. if y == (4096 + x) then 1 else 0) peers (map key_cell keys), keys_are x keys, count_times x keys, count_times (4096 + x) peers)

-- The same numbers of another list.
like_shifts : {count c live dying live' dying' made gone freed count2 c2 l d l' d' m g f : ℕ} → Shifts count c live dying live' dying' made gone freed → l ≡ live → d ≡ dying → l' ≡ live' → d' ≡ dying' → m ≡ made → g ≡ gone → f ≡ freed → (c < count → c2 < count2) → Shifts count2 c2 l d l' d' m g f
like_shifts s e1 e2 e3 e4 e5 e6 e7 within = record {
  up = omega (arith, s.up);
  down = omega (arith, s.down);
  before = omega (arith, s.before);
  after = omega (arith, s.after);
  was_live = omega (arith, s.was_live);
  was_dying = omega (arith, s.was_dying);
  new = λ some. let both = s.new (omega arith) in (within both.0, omega (arith, both.1));
}

abbrev pub CellShifts : Recorded → Call → ℕ → Type 0
CellShifts r call c =
    let o : Outcome = step r.now call in
    Shifts 69632 c (count_of c (live_cells r.now)) (count_of c (dying_cells r.now)) (count_of c (live_cells o.after)) (count_of c (dying_cells o.after)) (count_of c (made_cells call.act o.reply)) (count_of c (gone_cells o.taken o.reply)) (count_of c (freed_cells call.act))

pub cell_shifts : (r : Recorded) (place : Place) (call : Call) → IsTold r → May r.now call → (c : ℕ) → CellShifts r call c
cell_shifts r place call told may c =
    let o : Outcome = step r.now call in
    let slots : (t : Table) → key_serials (keys_of t.live) ≡ slot_serials t.live = λ t. keys_serials t.live in
    elim (cases_lt c 4096) [
      | inl below ↦ like_shifts (peer_shifts r place call told may c)
          (peer_cell c (serials_of r.now.live) (key_serials (keys_of r.now.live)) below)
          (peer_cell c (serials_of r.now.dying) (key_serials r.now.retired) below)
          (peer_cell c (serials_of o.after.live) (key_serials (keys_of o.after.live)) below)
          (peer_cell c (serials_of o.after.dying) (key_serials o.after.retired) below)
          (peer_cell c (peer_made_by call.act o.reply) (key_made_by call.act o.reply) below)
          (peer_cell c (removed o.reply) o.taken below)
          (peer_cell c (released_by call.act) (key_released_by call.act) below)
          (λ within. omega arith)
      | inr past ↦
          let x : ℕ = c - 4096 in
          let is : 4096 + x ≡ c = omega arith in
          subst (CellShifts r call) is (key_cell_shifts x)
    ]
  where
    key_cell_shifts : (x : ℕ) → CellShifts r call (4096 + x)
    key_cell_shifts x =
        let o : Outcome = step r.now call in
        let none = nobody r place call told may (4096 + x) (omega arith) in
        let before = none.before in
        let after = none.after in
        like_shifts (key_shifts r place call told may x)
        (omega (arith, other_cell x (serials_of r.now.live) (key_serials (keys_of r.now.live)), ap (times x) (keys_serials r.now.live)))
        (omega (arith, other_cell x (serials_of r.now.dying) (key_serials r.now.retired)))
        (omega (arith, other_cell x (serials_of o.after.live) (key_serials (keys_of o.after.live)), ap (times x) (keys_serials o.after.live)))
        (omega (arith, other_cell x (serials_of o.after.dying) (key_serials o.after.retired)))
        (omega (arith, other_cell x (peer_made_by call.act o.reply) (key_made_by call.act o.reply), none.made))
        (omega (arith, other_cell x (removed o.reply) o.taken, none.gone))
        (omega (arith, other_cell x (released_by call.act) (key_released_by call.act), none.freed))
        (λ within. omega arith)

-- ---- what the lock asks, and what is left to link and to unlink

-- What stands at most once is there as often as it stands.
pub has_is : (c : ℕ) (xs : List ℕ) → count_of c xs ≤ 1 → has c xs ≡ count_of c xs
has_is c xs most = dite (ℕ_discrete (count_of c xs) 0)
    (λ none. dite (ℕ_discrete (has c xs) 0) (λ e. omega arith) (λ n. absurd (let some = counted_has c xs (omega arith) in omega arith)))
    (λ some. let one = has_counted c xs (omega arith) in omega arith)

-- What is there of one cell.
record Seen (r : Recorded) (call : Call) (c : ℕ) : Type 0 where
  shifts : CellShifts r call c
  live : has c (live_cells r.now) ≡ count_of c (live_cells r.now)
  dying : has c (dying_cells r.now) ≡ count_of c (dying_cells r.now)
  live' : has c (live_cells (step r.now call).after) ≡ count_of c (live_cells (step r.now call).after)
  dying' : has c (dying_cells (step r.now call).after) ≡ count_of c (dying_cells (step r.now call).after)

seen : (r : Recorded) (place : Place) (call : Call) → IsTold r → May r.now call → (c : ℕ) → Seen r call c
seen r place call told may c =
    let shifts = cell_shifts r place call told may c in
    let before = shifts.before in
    let after = shifts.after in
    record {
      shifts = shifts;
      live = has_is c (live_cells r.now) (omega arith);
      dying = has_is c (dying_cells r.now) (omega arith);
      live' = has_is c (live_cells (step r.now call).after) (omega arith);
      dying' = has_is c (dying_cells (step r.now call).after) (omega arith);
    }

pub becomes : (r : Recorded) (place : Place) (call : Call) (owes : List ℕ) → IsTold r → May r.now call → OwesFreed call.act owes → MayBecome 69632 (live_cells r.now) (dying_cells r.now) owes (live_cells (step r.now call).after) (dying_cells (step r.now call).after)
becomes r place call owes told may owed = record {
  apart = λ c. let s = seen r place call told may c in omega (arith, s.live', s.dying', s.shifts.after);
  to_live = λ c is was.
      let s = seen r place call told may c in
      let new = s.shifts.new (omega (arith, s.live', s.live, s.shifts.up)) in
      (new.0, omega (arith, s.dying, new.1));
  to_dying = λ c is was. let s = seen r place call told may c in omega (arith, s.dying', s.dying, s.live, s.shifts.down, s.shifts.was_live, s.shifts.before);
  from_live = λ c was is. let s = seen r place call told may c in omega (arith, s.live, s.live', s.dying', s.shifts.up, s.shifts.down, s.shifts.was_live, s.shifts.was_dying, s.shifts.before);
  from_dying = λ c was is. let s = seen r place call told may c in owed c (omega (arith, s.dying, s.dying', s.shifts.down));
}

-- What became live is what was made, and what became dying is what was removed and taken out.
pub record Left (r : Recorded) (call : Call) (c : ℕ) : Type 0 where
  pub link : has c (newly (live_cells r.now) (live_cells (step r.now call).after)) ≡ count_of c (made_cells call.act (step r.now call).reply)
  pub unlink : has c (newly (dying_cells r.now) (dying_cells (step r.now call).after)) ≡ count_of c (gone_cells (step r.now call).taken (step r.now call).reply)

pub left : (r : Recorded) (place : Place) (call : Call) → IsTold r → May r.now call → (c : ℕ) → Left r call c
left r place call told may c =
    let s = seen r place call told may c in
    let up = s.shifts.up in
    let down = s.shifts.down in
    let before = s.shifts.before in
    let was_live = s.shifts.was_live in
    let was_dying = s.shifts.was_dying in
    record {
      link = dite (ℕ_discrete (has c (live_cells r.now)) 0)
          (λ none. newly_new c (live_cells r.now) (live_cells (step r.now call).after) none ∙ omega (arith, s.live, s.live'))
          (λ some. let one = has_le c (live_cells r.now) in newly_old c (live_cells r.now) (live_cells (step r.now call).after) (omega arith) ∙ sym (unmade (count_of c (made_cells call.act (step r.now call).reply)) (λ new. let n = s.shifts.new new in omega (arith, s.live, n.1))));
      unlink = dite (ℕ_discrete (has c (dying_cells r.now)) 0)
          (λ none. newly_new c (dying_cells r.now) (dying_cells (step r.now call).after) none ∙ omega (arith, s.dying, s.dying'))
          (λ some. let one = has_le c (dying_cells r.now) in newly_old c (dying_cells r.now) (dying_cells (step r.now call).after) (omega arith) ∙ omega (arith, s.dying));
    }
  where
    unmade : (n : ℕ) → (0 < n → ⊥) → n ≡ 0
    unmade n none = dite (ℕ_discrete n 0) (λ e. e) (λ some. absurd (none (omega arith)))
