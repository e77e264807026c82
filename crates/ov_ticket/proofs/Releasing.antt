-- One release after another: each is of what is on its way out and owed, and leaves the rest so.
use Rattle.std.proofs.Common.{ℕ, ◌≡◌, ◌≢◌, ◌+◌, ◌<◌, suc, List, [], ◌∷◌, ◌++◌, length, length-append, append_assoc, append-nil, refl, sym, ap, ◌∙◌, subst, arith, inl, inr, true, if◌then◌else◌, ◌==◌}
use Rattle.std.specs.Prelude.{Option, Some, map}
use Rattle.std.specs.Option.{option_to_list}
use Rattle.std.specs.List.{AllByRecursion, list_any}
use Rattle.std.proofs.lemmas.Bool.{cases_eq, eq-eqb, ne_eqb}
use Rattle.std.proofs.lemmas.List.{map-append}
use Rattle.ov_base.specs.Sums.{count_of}
use Rattle.ov_turn.specs.declared.inside.Inside.{Inside}
use Rattle.ov_turn.specs.Lists.{has, still}
use Rattle.ov_turn.specs.Insides.{inside_with, kept_of, seen_in, own_in, owes_in, dying_in, to_link_in, to_unlink_in}
use Rattle.ov_model.specs.declared.act.Call.{Call}
use Rattle.ov_model.specs.declared.entry.Entry.{Entry}
use Rattle.ov_model.specs.declared.hold.Owed.{Owed}
use Rattle.ov_model.specs.declared.hold.Owed.TheVariants as kind
use Rattle.ov_model.specs.declared.place.Place.{Place}
use Rattle.ov_model.specs.declared.reply.Reply.{Reply}
use Rattle.ov_model.specs.Tables.{Peer, Key, Table, serials_of, key_serials}
use Rattle.ov_model.specs.Step.{step, May, released, key_released}
use Rattle.ov_model.specs.Events.{Event, Stepped, Step, release_of, releases}
use Rattle.ov_model.specs.Path.{removed}
use Rattle.ov_model.specs.Removals.{times}
use Rattle.ov_model.proofs.Firsts.{is_of}
use Rattle.ov_model.proofs.Times.{times_first}
use Rattle.ov_model.proofs.Freed.{Balance, act_balance}
use Rattle.ov_path.specs.Desks.{stepped_as}
use Rattle.ov_table.specs.Recorded.{Recorded, entry_of, IsTold}
use Rattle.ov_table.specs.Cells.{key_cell, live_cells, dying_cells, made_cells, gone_cells, freed_cells, OwesFreed}
use Rattle.ov_table.proofs.Becoming.{cell_shifts, has_is, count_times, other_cell}
use Rattle.ov_base.proofs.Sums.{total_append}
use Rattle.ov_ticket.specs.Within.{cell_of, release_call, from_position, entries_of, IsSettled, IsCounted, IsOut, IsReleasing, HasMade}
use Rattle.ov_ticket.proofs.Stepping.{none_has}

-- ---- what is on its way out may be let go

pub stands_any : {X : Type 0} (f : X → ℕ) (x : ℕ) (ps : List X) → 0 < times x (map f ps) → list_any (is_of f x) ps ≡ true
stands_any f x [] some = absurd (omega arith)
stands_any f x (p ∷ ps) some =
    let all : times x (f p ∷ map f ps) ≡ times x (f p ∷ []) + times x (map f ps) = times_first x (f p) (map f ps) in
    elim (cases_eq (f p) x) [
      | inl same ↦ rw (eq-eqb (f p) x same) refl
      | inr other ↦
          let others : times x (f p ∷ []) ≡ 0 = rw (ne_eqb (f p) x other) refl in
          rw (ne_eqb (f p) x other) (stands_any f x ps (omega arith))
    ]

pub out_may : (t : Table) (at : ℕ) (o : Owed) → IsOut t o → May t (release_call at o)
out_may t at (kind.Peer p) out = stands_any (λ (q : Peer). q.serial) p t.dying out
out_may t at (kind.Key k) out = stands_any (λ (q : Key). q.serial) k t.retired out

-- ---- what a release is

pub release_entry : (t : Table) (place : Place) (at : ℕ) (o : Owed) → entry_of t place (release_call at o) ≡ (release_of place at o).entry
unfolding released key_released
release_entry t place at (kind.Peer p) = refl
release_entry t place at (kind.Key k) = refl

-- What a release tells as an event: it takes nothing out of a slot.
release_event : (t : Table) (place : Place) (at : ℕ) (o : Owed) → stepped_as place (release_call at o) (step t (release_call at o)).reply (step t (release_call at o)).taken ≡ Stepped (release_of place at o)
unfolding released key_released
release_event t place at (kind.Peer p) = refl
release_event t place at (kind.Key k) = refl

pub release_tells : (t : Table) (place : Place) (at : ℕ) (o : Owed) (call : Call) (r : Reply) (taken : List ℕ) (event : Event) → event ≡ stepped_as place call r taken → call ≡ release_call at o → r ≡ (step t call).reply → taken ≡ (step t call).taken → event ≡ Stepped (release_of place at o)
release_tells t place at o call r taken event tells is says takes =
    tells ∙ ap (stepped_as place call r) takes ∙ ap (λ (q : Reply). stepped_as place call q (step t call).taken) says ∙ ap (λ (k : Call). stepped_as place k (step t k).reply (step t k).taken) is ∙ release_event t place at o

release_makes : (t : Table) (at : ℕ) (o : Owed) → made_cells (release_call at o).act (step t (release_call at o)).reply ≡ []
unfolding released key_released
release_makes t at (kind.Peer p) = refl
release_makes t at (kind.Key k) = refl

release_takes : (t : Table) (at : ℕ) (o : Owed) → gone_cells (step t (release_call at o)).taken (step t (release_call at o)).reply ≡ []
unfolding released key_released
release_takes t at (kind.Peer p) = refl
release_takes t at (kind.Key k) = refl

pub release_frees : (at : ℕ) (o : Owed) → freed_cells (release_call at o).act ≡ cell_of o ∷ []
release_frees at (kind.Peer p) = refl
release_frees at (kind.Key k) = refl

-- ---- the others stay on their way out

one_here : (c : ℕ) → count_of c (c ∷ []) ≡ 1
one_here c = rw (eq-eqb c c refl) refl

one_other : (c d : ℕ) → c ≢ d → count_of c (d ∷ []) ≡ 0
one_other c d other = rw (ne_eqb d c (λ e. other (sym e))) refl

times_other : (c d : ℕ) → c ≢ d → times c (d ∷ []) ≡ 0
times_other c d other = sym (count_times c (d ∷ [])) ∙ one_other c d other

released_none : (t : Table) (at : ℕ) (o : Owed) → (removed (step t (release_call at o)).reply ≡ []) × ((step t (release_call at o)).taken ≡ [])
unfolding released key_released
released_none t at (kind.Peer p) = (refl, refl)
released_none t at (kind.Key k) = (refl, refl)

out_stays : (t : Table) (at : ℕ) (o other : Owed) → May t (release_call at o) → cell_of other ≢ cell_of o → IsOut t other → IsOut (step t (release_call at o)).after other
out_stays t at (kind.Peer p) (kind.Peer q) may differs out =
    let balance : Balance q t (release_call at (kind.Peer p)).act (step t (release_call at (kind.Peer p))) = act_balance q t _ (release_call at (kind.Peer p)).act may in
    let both = balance.peers in
    omega (arith, times_other q p differs, ap (times q) (released_none t at (kind.Peer p)).0)
out_stays t at (kind.Peer p) (kind.Key k) may differs out =
    let balance : Balance k t (release_call at (kind.Peer p)).act (step t (release_call at (kind.Peer p))) = act_balance k t _ (release_call at (kind.Peer p)).act may in
    let both = balance.keys in
    omega (arith, ap (times k) (released_none t at (kind.Peer p)).1)
out_stays t at (kind.Key j) (kind.Peer q) may differs out =
    let balance : Balance q t (release_call at (kind.Key j)).act (step t (release_call at (kind.Key j))) = act_balance q t _ (release_call at (kind.Key j)).act may in
    let both = balance.peers in
    omega (arith, ap (times q) (released_none t at (kind.Key j)).0)
out_stays t at (kind.Key j) (kind.Key k) may differs out =
    let balance : Balance k t (release_call at (kind.Key j)).act (step t (release_call at (kind.Key j))) = act_balance k t _ (release_call at (kind.Key j)).act may in
    let both = balance.keys in
    omega (arith, times_other k j (λ e. differs (ap key_cell e)), ap (times k) (released_none t at (kind.Key j)).1)

-- What is on its way out has a dying cell.
out_dying : (t : Table) (o : Owed) → IsOut t o → 0 < count_of (cell_of o) (dying_cells t)
out_dying t (kind.Peer p) out = omega (arith, total_append (λ x. if x == p then 1 else 0) (serials_of t.dying) (map key_cell (key_serials t.retired)), count_times p (serials_of t.dying))
out_dying t (kind.Key k) out = omega (arith, other_cell k (serials_of t.dying) (key_serials t.retired))

-- ---- the list of what is owed

still_rest : (dying : List ℕ) (c : ℕ) (cs : List ℕ) → has c dying ≡ 0 → AllByRecursion (λ d. has d dying ≡ 1) cs → still dying (c ∷ cs) ≡ cs
still_rest dying c cs gone stay = rw gone (all_stay cs stay)
  where
    all_stay : (ds : List ℕ) → AllByRecursion (λ d. has d dying ≡ 1) ds → still dying ds ≡ ds
    all_stay [] all = refl
    all_stay (d ∷ ds) all = rw all.0 (ap (λ l. d ∷ l) (all_stay ds all.1))

-- They are on their way out, and their cells are dying.
record Rest (after : Table) (os : List Owed) : Type 0 where
  out : AllByRecursion (IsOut after) os
  dying : AllByRecursion (λ d. has d (dying_cells after) ≡ 1) (map cell_of os)

rest_stays : (r : Recorded) (place : Place) (at : ℕ) (o : Owed) (os : List Owed) → IsTold r → May r.now (release_call at o) → count_of (cell_of o) (map cell_of os) ≡ 0 → AllByRecursion (IsOut r.now) os → Rest (step r.now (release_call at o)).after os
rest_stays r place at o [] told may differ out = record { out = tt; dying = tt }
rest_stays r place at o (q ∷ os) told may differ out =
    let after : Table = (step r.now (release_call at o)).after in
    let later = rest_stays r place at o os told may (omega arith) out.1 in
    let differs : cell_of q ≢ cell_of o = λ e. absurd (let one : ◌≡◌ {A = ℕ} (if cell_of q == cell_of o then 1 else 0) 1 = rw (eq-eqb (cell_of q) (cell_of o) e) refl in omega arith) in
    let shifts = cell_shifts r place (release_call at o) told may (cell_of q) in
    let down = shifts.down in
    let most = shifts.after in
    let before = shifts.before in
    let was = out_dying r.now q out.0 in
    let freed : count_of (cell_of q) (freed_cells (release_call at o).act) ≡ 0 = ap (count_of (cell_of q)) (release_frees at o) ∙ one_other (cell_of q) (cell_of o) differs in
    record {
      out = (out_stays r.now at o q may differs out.0, later.out);
      dying = (has_is (cell_of q) (dying_cells after) (omega arith) ∙ (let one : count_of (cell_of q) (dying_cells after) ≡ 1 = omega arith in one), later.dying);
    }

-- ---- one release

pub owes_release : (at : ℕ) (o : Owed) (os : List Owed) (owes : List ℕ) → owes ≡ map cell_of (o ∷ os) → OwesFreed (release_call at o).act owes
owes_release at o os owes are c some =
    let part : count_of c (cell_of o ∷ []) ≡ count_of c (freed_cells (release_call at o).act) = sym (ap (count_of c) (release_frees at o)) in
    let all = ap (count_of c) are in
    omega arith

pub released_rest : (old new : Inside Recorded Entry) (place : Place) (at : ℕ) (o : Owed) (os : List Owed) → IsReleasing (o ∷ os) old → IsCounted old new place (release_call at o) → IsSettled old → IsReleasing os new
released_rest old new place at o os was is settled =
    let r : Recorded = kept_of old in
    let call : Call = release_call at o in
    let after : Table = (step r.now call).after in
    let may : May r.now call = out_may r.now at o was.out.0 in
    let first : count_of (cell_of o) (map cell_of os) ≡ 0 = (let once = was.once (cell_of o) in let all = ap (count_of (cell_of o)) was.owes in let one = one_here (cell_of o) in omega arith) in
    let rest = rest_stays r place at o os settled.told may first was.out.1 in
    let now : (kept_of new).now ≡ after = ap (λ (k : Recorded). k.now) is.kept in
    let dying : dying_in new ≡ dying_cells after = sym is.dying ∙ ap dying_cells now in
    let shifts = cell_shifts r place call settled.told may (cell_of o) in
    let gone : has (cell_of o) (dying_cells after) ≡ 0 =
    (let down = shifts.down in let before = shifts.before in let most = shifts.after in
    let freed = ap (count_of (cell_of o)) (release_frees at o) ∙ one_here (cell_of o) in
    let none_gone = ap (count_of (cell_of o)) (release_takes r.now at o) in
    let zero_left : count_of (cell_of o) (dying_cells after) ≡ 0 = omega arith in
    has_is (cell_of o) (dying_cells after) (omega arith) ∙ zero_left) in
    let owes : owes_in new ≡ map cell_of os = is.owes ∙ ap (λ l. still l (owes_in old)) dying ∙ ap (still (dying_cells after)) was.owes ∙ still_rest (dying_cells after) (cell_of o) (map cell_of os) gone rest.dying in
    record {
      settled = record {
        cells = is.same.2 ∙ settled.cells;
        told = is.told;
        history = is.history;
        live = is.live;
        dying = is.dying;
        linked = none_has (to_link_in new) (λ c. is.made c ∙ ap (count_of c) (release_makes r.now at o));
        unlinked = none_has (to_unlink_in new) (λ c. is.gone c ∙ ap (count_of c) (release_takes r.now at o));
      };
      owes = owes;
      once = λ c. (let once = was.once c in let all = ap (count_of c) was.owes in let now_owes = ap (count_of c) owes in omega arith);
      out = subst (λ (t : Table). AllByRecursion (IsOut t) os) (sym now) rest.out;
    }

pub released_made : (old new : Inside Recorded Entry) (place : Place) (at : ℕ) (o : Owed) → IsCounted old new place (release_call at o) → HasMade ((release_of place at o).entry ∷ []) old new
released_made old new place at o is = record {
  same = is.same;
  holds = is.holds;
  seen = is.seen ∙ ap (λ e. seen_in old ++ e ∷ []) (release_entry (kept_of old).now place at o);
  own = is.own ∙ ap (λ e. own_in old ++ (length (seen_in old), e) ∷ []) (release_entry (kept_of old).now place at o);
}

-- A loan of the table that changes nothing.
pub counted_lent : (old new : Inside Recorded Entry) (place : Place) (call : Call) (w : Recorded) → w ≡ kept_of new → IsCounted old new place call → IsCounted old (inside_with new w) place call
counted_lent old new place call w same is = record {
  same = is.same;
  told = subst IsTold (sym same) is.told;
  kept = same ∙ is.kept;
  seen = is.seen;
  own = is.own;
  history = ap (λ (k : Recorded). k.journal) same ∙ is.history;
  live = ap (λ (k : Recorded). live_cells k.now) same ∙ is.live;
  dying = ap (λ (k : Recorded). dying_cells k.now) same ∙ is.dying;
  holds = is.holds;
  owes = is.owes;
  made = is.made;
  gone = is.gone;
}

-- ---- one after another

from_more : (p : ℕ) (xs ys : List Entry) → from_position p (xs ++ ys) ≡ from_position p xs ++ from_position (p + length xs) ys
from_more p [] ys = ap (λ n. from_position n ys) (let e : p ≡ p + 0 = omega arith in e)
from_more p (x ∷ xs) ys = ap (λ l. (p, x) ∷ l) (from_more (suc p) xs ys ∙ ap (λ n. from_position (suc p) xs ++ from_position n ys) (let e : suc p + length xs ≡ p + suc (length xs) = omega arith in e))

pub made_none : (it : Inside Recorded Entry) → HasMade [] it it
made_none it = record { same = (refl, refl, refl); holds = refl; seen = sym (append-nil (seen_in it)); own = sym (append-nil (own_in it)) }

pub made_more : (a b c : Inside Recorded Entry) (xs ys : List Entry) → HasMade xs a b → HasMade ys b c → HasMade (xs ++ ys) a c
made_more a b c xs ys p q =
    let long : length (seen_in b) ≡ length (seen_in a) + length xs = ap length p.seen ∙ length-append (seen_in a) xs in
    record {
      same = (q.same.0 ∙ p.same.0, q.same.1 ∙ p.same.1, q.same.2 ∙ p.same.2);
      holds = q.holds ∙ p.holds;
      seen = q.seen ∙ ap (λ l. l ++ ys) p.seen ∙ append_assoc (seen_in a) xs ys;
      own = q.own ∙ ap (λ l. l ++ from_position (length (seen_in b)) ys) p.own ∙ append_assoc (own_in a) (from_position (length (seen_in a)) xs) (from_position (length (seen_in b)) ys)
          ∙ ap (λ n. own_in a ++ (from_position (length (seen_in a)) xs ++ from_position n ys)) long ∙ ap (λ l. own_in a ++ l) (sym (from_more (length (seen_in a)) xs ys));
    }

-- One more release.
pub releases_more : (a b c : Inside Recorded Entry) (place : Place) (at : ℕ) (os : List Owed) (o : Owed) → HasMade (entries_of (releases place at os)) a b → HasMade ((release_of place at o).entry ∷ []) b c → HasMade (entries_of (releases place at (os ++ o ∷ []))) a c
releases_more a b c place at os o p q =
    let entries : entries_of (releases place at (os ++ o ∷ [])) ≡ entries_of (releases place at os) ++ (release_of place at o).entry ∷ [] =
    ap entries_of (map-append (release_of place at) os (o ∷ [])) ∙ map-append (λ (s : Step). s.entry) (releases place at os) (release_of place at o ∷ []) in
    subst (λ l. HasMade l a c) (sym entries) (made_more a b c (entries_of (releases place at os)) ((release_of place at o).entry ∷ []) p q)

-- The first is taken off.
pub popped : (l rest : List Owed) (found : Option Owed) (o : Owed) → l ≡ option_to_list found ++ rest → found ≡ Some o → l ≡ o ∷ rest
popped l rest found o items is = items ∙ ap (λ (q : Option Owed). option_to_list q ++ rest) is

pub none_left : (os : List Owed) → length os ≡ 0 → os ≡ []
none_left [] e = refl
none_left (o ∷ os) e = absurd (omega arith)
