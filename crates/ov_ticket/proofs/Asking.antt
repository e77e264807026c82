-- What a seat holds and owes stands in the table that it finds: so it may ask for the steps of what it holds, and make the
-- releases that it owes.
use Rattle.std.proofs.Common.{ℕ, ◌≡◌, ◌+◌, ◌<◌, List, [], ◌∷◌, refl, ap, Bool, true, false, arith, ◌==◌, ◌||◌, ◌&&◌, inl, inr}
use Rattle.std.specs.Prelude.{find, map, is_some}
use Rattle.std.specs.List.{AllByRecursion, list_any}
use Rattle.std.proofs.lemmas.Bool.{eq-eqb, ne_eqb, cases_eq}
use mathlib.Core.Logic.{dite}
use native.Mathlib.Decide.{ℕ_discrete}
use Rattle.ov_base.specs.Sums.{count_of}
use Rattle.ov_turn.specs.Lists.{has, still}
use Rattle.ov_turn.proofs.Members.{has_counted, counted_has}
use Rattle.ov_model.specs.declared.act.Act.{Act}
use Rattle.ov_model.specs.declared.act.Act.TheVariants as act
use Rattle.ov_model.specs.declared.act.Call.{Call}
use Rattle.ov_model.specs.declared.hold.Owed.{Owed}
use Rattle.ov_model.specs.declared.hold.Owed.TheVariants as kind
use Rattle.ov_model.specs.declared.place.Place.{Place}
use Rattle.ov_model.specs.Tables.{Peer, Key, Table, serials_of, key_serials, keys_of, keys_in}
use Rattle.ov_model.specs.Step.{step, is_there, is_retired, has_key, may_act, May}
use Rattle.ov_model.specs.Removals.{times}
use Rattle.ov_model.proofs.Times.{times_first}
use Rattle.ov_model.proofs.KeysTaken.{slot_serials, peer_keys, keys_serials, slots_first}
use Rattle.ov_table.specs.Recorded.{Recorded, IsTold}
use Rattle.ov_table.specs.Cells.{key_cell, live_cells, dying_cells, freed_cells, OwesFreed}
use Rattle.ov_table.proofs.Becoming.{peer_cell, other_cell, cell_shifts}
use Rattle.ov_ticket.specs.Within.{cell_of, IsOut}
use Rattle.ov_ticket.specs.Asks.{IsLow, MayAsk}
use Rattle.ov_ticket.proofs.Releasing.{stands_any}
use Rattle.ov_ticket.proofs.Looking.{no_peer, peer_low}

-- ---- what is held

-- One of two is there.
one_of : (a b : ℕ) → a + b ≡ 1 → (P : Type 0) → (0 < a → P) → (0 < b → P) → P
one_of a b both P left right = dite (ℕ_discrete a 0) (λ none. right (omega arith)) (λ some. left (omega arith))

or_right : (a b : Bool) → b ≡ true → (a || b) ≡ true
or_right true b is = refl
or_right false b is = is

or_left : (a b : Bool) → a ≡ true → (a || b) ≡ true
or_left true b is = refl
or_left false b is = absurd (let e : ◌≡◌ {A = Bool} false true = is in cc)

-- A peer that is live or dying is there.
peer_there : (t : Table) (x : ℕ) → x < 4096 → has x (live_cells t) + has x (dying_cells t) ≡ 1 → (is_there x t.live || is_there x t.dying) ≡ true
peer_there t x low one = one_of (has x (live_cells t)) (has x (dying_cells t)) one _
    (λ live. or_left (is_there x t.live) (is_there x t.dying) (stands_any (λ (p : Peer). p.serial) x t.live (let some = counted_has x (live_cells t) live in omega (arith, peer_cell x (serials_of t.live) (key_serials (keys_of t.live)) low))))
    (λ dying. or_right (is_there x t.live) (is_there x t.dying) (stands_any (λ (p : Peer). p.serial) x t.dying (let some = counted_has x (dying_cells t) dying in omega (arith, peer_cell x (serials_of t.dying) (key_serials t.retired) low))))

-- A key that stands in a slot is found there.
key_found : (x : ℕ) (ks : List Key) → 0 < times x (key_serials ks) → is_some (find (λ (k : Key). k.serial == x) ks) ≡ true
key_found x [] some = absurd (omega arith)
key_found x (k ∷ ks) some =
    let all : times x (k.serial ∷ key_serials ks) ≡ times x (k.serial ∷ []) + times x (key_serials ks) = times_first x k.serial (key_serials ks) in
    elim (cases_eq k.serial x) [
      | inl same ↦ rw (eq-eqb k.serial x same) refl
      | inr other ↦
          let others : times x (k.serial ∷ []) ≡ 0 = rw (ne_eqb k.serial x other) refl in
          rw (ne_eqb k.serial x other) (key_found x ks (omega arith))
    ]

slot_found : (x : ℕ) (ps : List Peer) → 0 < times x (slot_serials ps) → list_any (has_key x) ps ≡ true
slot_found x [] some = absurd (omega arith)
slot_found x (p ∷ ps) some =
    let all : times x (slot_serials (p ∷ ps)) ≡ times x (peer_keys p) + times x (slot_serials ps) = slots_first x p ps in
    dite (ℕ_discrete (times x (peer_keys p)) 0)
    (λ none. or_right (has_key x p) (list_any (has_key x) ps) (slot_found x ps (omega arith)))
    (λ here. or_left (has_key x p) (list_any (has_key x) ps) (key_found x (keys_in p.slots) (omega arith)))

-- A key that stands in a slot or is retired is there.
key_there : (r : Recorded) → IsTold r → (x : ℕ) → has (key_cell x) (live_cells r.now) + has (key_cell x) (dying_cells r.now) ≡ 1 → (list_any (has_key x) r.now.live || is_retired x r.now.retired) ≡ true
key_there r told x one =
    let none = no_peer r told (4096 + x) (omega arith) in
    one_of (has (key_cell x) (live_cells r.now)) (has (key_cell x) (dying_cells r.now)) one _
    (λ live. or_left (list_any (has_key x) r.now.live) (is_retired x r.now.retired) (slot_found x r.now.live (let some = counted_has (key_cell x) (live_cells r.now) live in omega (arith, other_cell x (serials_of r.now.live) (key_serials (keys_of r.now.live)), ap (times x) (keys_serials r.now.live)))))
    (λ dying. or_right (list_any (has_key x) r.now.live) (is_retired x r.now.retired) (stands_any (λ (k : Key). k.serial) x r.now.retired (let some = counted_has (key_cell x) (dying_cells r.now) dying in omega (arith, other_cell x (serials_of r.now.dying) (key_serials r.now.retired)))))

both_so : (a b : Bool) → a ≡ true → b ≡ true → (a && b) ≡ true
both_so true b x y = y
both_so false b x y = absurd (let e : ◌≡◌ {A = Bool} false true = x in cc)

-- What a seat holds, it may ask for.
pub may_ask : (r : Recorded) → IsTold r → (holds owes : List ℕ) (a : Act) → MayAsk holds owes a → ((c : ℕ) → 0 < count_of c holds → has c (live_cells r.now) + has c (dying_cells r.now) ≡ 1) → may_act r.now a ≡ true
may_ask r told holds owes (act.Do c) asks held = refl
may_ask r told holds owes (act.TxLook a) asks held = refl
may_ask r told holds owes (act.RxLook id key_id from) asks held = refl
may_ask r told holds owes (act.KeepLook peer) asks held = refl
may_ask r told holds owes (act.Sent peer inner outer ping) asks held = peer_there r.now peer asks.0 (held peer asks.1)
may_ask r told holds owes (act.Settle peer from k inner outer) asks held = peer_there r.now peer asks.0 (held peer asks.1)
may_ask r told holds owes (act.Spend peer key) asks held = both_so (is_there peer r.now.live || is_there peer r.now.dying) (list_any (has_key key) r.now.live || is_retired key r.now.retired) (peer_there r.now peer asks.0.0 (held peer asks.0.1)) (key_there r told key (held (key_cell key) asks.1))
may_ask r told holds owes (act.Released peer) asks held = absurd asks
may_ask r told holds owes (act.KeyReleased key) asks held = absurd asks

-- ---- what is owed

-- What a seat asks for lets nothing go.
pub frees_none : (holds owes : List ℕ) (a : Act) → MayAsk holds owes a → freed_cells a ≡ []
frees_none holds owes (act.Do c) asks = refl
frees_none holds owes (act.TxLook a) asks = refl
frees_none holds owes (act.RxLook id key_id from) asks = refl
frees_none holds owes (act.KeepLook peer) asks = refl
frees_none holds owes (act.Sent peer inner outer ping) asks = refl
frees_none holds owes (act.Settle peer from k inner outer) asks = refl
frees_none holds owes (act.Spend peer key) asks = refl
frees_none holds owes (act.Released peer) asks = absurd asks
frees_none holds owes (act.KeyReleased key) asks = absurd asks

pub owes_none : (a : Act) (owes : List ℕ) → freed_cells a ≡ [] → OwesFreed a owes
owes_none a owes none c some = absurd (let zero_times = ap (count_of c) none in omega arith)

all_still : (dying owes : List ℕ) → ((c : ℕ) → 0 < count_of c owes → has c dying ≡ 1) → still dying owes ≡ owes
all_still dying [] each = refl
all_still dying (d ∷ ds) each =
    let one : has d dying ≡ 1 = each d (rw (eq-eqb d d refl) (omega arith)) in
    rw one (ap (λ l. d ∷ l) (all_still dying ds (λ c some. each c (omega arith))))

-- What is owed stays so where nothing is let go.
pub owes_stay : (r : Recorded) (place : Place) (call : Call) (owes : List ℕ) → IsTold r → May r.now call → freed_cells call.act ≡ [] → ((c : ℕ) → 0 < count_of c owes → has c (dying_cells r.now) ≡ 1) → still (dying_cells (step r.now call).after) owes ≡ owes
owes_stay r place call owes told may none each = all_still (dying_cells (step r.now call).after) owes (λ c some.
    let shifts = cell_shifts r place call told may c in
    let down = shifts.down in
    let most = shifts.after in
    let freed = ap (count_of c) none in
    let was = counted_has c (dying_cells r.now) (let one = each c some in omega arith) in
    let now : 0 < count_of c (dying_cells (step r.now call).after) = omega arith in
    has_counted c (dying_cells (step r.now call).after) now)

-- ---- what is owed is on its way out

out_of : (r : Recorded) → IsTold r → (o : Owed) → IsLow o → has (cell_of o) (dying_cells r.now) ≡ 1 → IsOut r.now o
out_of r told (kind.Peer p) low one = (let some = counted_has p (dying_cells r.now) (omega arith) in omega (arith, peer_cell p (serials_of r.now.dying) (key_serials r.now.retired) low))
out_of r told (kind.Key k) low one = (let some = counted_has (key_cell k) (dying_cells r.now) (omega arith) in let none = no_peer r told (4096 + k) (omega arith) in omega (arith, other_cell k (serials_of r.now.dying) (key_serials r.now.retired)))

pub all_out : (r : Recorded) → IsTold r → (os : List Owed) → AllByRecursion IsLow os → ((c : ℕ) → 0 < count_of c (map cell_of os) → has c (dying_cells r.now) ≡ 1) → AllByRecursion (IsOut r.now) os
all_out r told [] low each = tt
all_out r told (o ∷ os) low each = (
  out_of r told o low.0 (each (cell_of o) (rw (eq-eqb (cell_of o) (cell_of o) refl) (omega arith))),
  all_out r told os low.1 (λ c some. each c (omega arith)),
)

out_low : (r : Recorded) → IsTold r → (o : Owed) → IsOut r.now o → IsLow o
out_low r told (kind.Peer p) out = peer_low r told p (omega arith)
out_low r told (kind.Key k) out = tt

-- The serials of peers on their way out are low.
pub all_low : (r : Recorded) → IsTold r → (os : List Owed) → AllByRecursion (IsOut r.now) os → AllByRecursion IsLow os
all_low r told [] out = tt
all_low r told (o ∷ os) out = (out_low r told o out.0, all_low r told os out.1)
