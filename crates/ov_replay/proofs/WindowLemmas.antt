-- What a window knows of the list that it stands for, and what it stands for after an accept.
use Rattle.std.proofs.Common.{◌≡◌, ℕ, ◌+◌, ◌-◌, ◌%◌, ◌<◌, ◌≤◌, max, true, false, ◌||◌, cond, nat_le, ◌==◌, List, [], ◌∷◌, ◌++◌, inl, inr, refl, sym, ap, ◌∙◌, arith}
use Rattle.std.specs.List.{list_any}
use Rattle.std.proofs.lemmas.Bool.{lt-leb, cases_eq, cases_lt, eq-eqb, ne_eqb, or_left, or_right}
use Rattle.std.proofs.lemmas.Bool.Decides.{nat_tests}
use Rattle.ov_model.specs.Replay.{Accepted, greatest_id, before_gap, has_items, floor_of, verdict_of}
use Rattle.ov_model.proofs.ReplayLemmas.{before_gap-push, greatest_id-push, none_above, verdict_rows}
use Rattle.ov_model.specs.declared.replay.Verdict.TheVariants.{Accept}
use Rattle.ov_replay.specs.Window.{Stands, last_moment}
use Rattle.ov_replay.specs.declared.window.Window.{Window}
use Rattle.ov_replay.specs.declared.marks.Marks.{Marks}
use Rattle.ov_replay.specs.Marks.{is_marked}
use Rattle.std.proofs.lemmas.List.Folds.{list_any-append}

pub last_moment-push : (l : List Accepted) (a : Accepted) → last_moment (l ++ a ∷ []) ≡ a.moment
last_moment-push [] a = refl
last_moment-push (x ∷ []) a = refl
last_moment-push (x ∷ y ∷ l) a = last_moment-push (y ∷ l) a

abbrev no_accepts : List Accepted
no_accepts = []

-- The prefix with one more accept before it, `next` being the moment after that accept.
abbrev one_more : Accepted → ℕ → List Accepted → List Accepted
one_more a next later = cond (has_items later || nat_le (a.moment + 30) next) (a ∷ later) []

-- A later moment matters only where it ends the gap after the last accept.
before_gap-later : (l : List Accepted) (m : ℕ) → before_gap l m ≡ cond (nat_le (last_moment l + 30) m) l (before_gap l (last_moment l))
unfolding before_gap
before_gap-later [] m = elim (nat_le 30 m) as (λ t. no_accepts ≡ cond t no_accepts no_accepts) [ true ↦ refl | false ↦ refl ]
before_gap-later (x ∷ []) m = rw (lt-leb (x.moment + 30) x.moment (omega arith)) refl
before_gap-later (x ∷ y ∷ l) m =
    ap (one_more x y.moment) (before_gap-later (y ∷ l) m)
    ∙ (elim (nat_le (last_moment (y ∷ l) + 30) m) as (λ t. one_more x y.moment (cond t (y ∷ l) (before_gap (y ∷ l) (last_moment (y ∷ l)))) ≡ cond t (x ∷ y ∷ l) (one_more x y.moment (before_gap (y ∷ l) (last_moment (y ∷ l))))) [ true ↦ refl | false ↦ refl ])

pub floor_of-later : (l : List Accepted) (m : ℕ) → floor_of l m ≡ cond (nat_le (last_moment l + 30) m) (greatest_id l) (floor_of l (last_moment l))
unfolding floor_of
floor_of-later l m =
    ap greatest_id (before_gap-later l m) ∙ (elim (nat_le (last_moment l + 30) m) as (λ t. greatest_id (cond t l (before_gap l (last_moment l))) ≡ cond t (greatest_id l) (greatest_id (before_gap l (last_moment l)))) [ true ↦ refl | false ↦ refl ])

-- An accept at the moment itself leaves the floor.
pub floor_of-push : (l : List Accepted) (a : Accepted) → floor_of (l ++ a ∷ []) a.moment ≡ floor_of l a.moment
unfolding floor_of
floor_of-push l a = ap greatest_id (before_gap-push l a a.moment ∙ rw (lt-leb (a.moment + 30) a.moment (omega arith)) refl)

-- The floor at the window's moment, by its fields.
pub floor_now : (w : Window) (l : List Accepted) (m : ℕ) → Stands w l m → floor_of l m ≡ cond (nat_le 30 (w.moment - w.last)) w.highest w.floor
floor_now w l m s =
    rw (s.moment, s.last, s.highest, s.floor)
    (floor_of-later l m ∙ ap (λ t. cond t (greatest_id l) (floor_of l (last_moment l))) (grind (arith, nat_tests)))

-- What an accept says of its id.
accepted_near : (l : List Accepted) (id m : ℕ) → verdict_of l id m ≡ Accept → (0 < id) × (greatest_id l < id + 2048)
accepted_near l id m e = (grind (arith, nat_tests, verdict_rows l id m), grind (arith, nat_tests, verdict_rows l id m))

-- The marks after an accept: those of the ids that the ring passed are gone, and its own is set.
marks_after : (w : Window) (l : List Accepted) (id m highest : ℕ) (passed set : Marks) → Stands w l m → verdict_of l id m ≡ Accept
    → highest ≡ max w.highest id
    → ((q : ℕ) → w.highest < q → q ≤ highest → is_marked passed q ≡ false)
    → ((q : ℕ) → q ≤ w.highest → highest < q + 2048 → is_marked passed q ≡ is_marked w.marks q)
    → is_marked set id ≡ true
    → ((q : ℕ) → (q % 2048 ≡ id % 2048 → ⊥) → is_marked set q ≡ is_marked passed q)
    → (q : ℕ) → 0 < q → q ≤ highest → highest < q + 2048 → is_marked set q ≡ list_any (λ a. a.id == q) (l ++ record { id = id; moment = m } ∷ [])
marks_after w l id m highest passed set s e top gone kept own others q positive below near =
    let near_id = accepted_near l id m e in
    let here : w.highest ≡ greatest_id l = s.highest in
    rw (list_any-append (λ a. a.id == q) l (record { id = id; moment = m } ∷ []))
    (elim (cases_eq q id) [
      | inl same ↦ ap (is_marked set) same ∙ own ∙ sym (or_right (list_any (λ a. a.id == q) l) (id == q || false) (or_left (id == q) false (eq-eqb id q (sym same))))
      | inr ne ↦
          let other : (id == q) ≡ false = ne_eqb id q (λ same. ne (sym same)) in
          let before : is_marked passed q ≡ list_any (λ a. a.id == q) l =
          elim (cases_lt w.highest q) [
            | inl new ↦ gone q new below ∙ sym (none_above l q (omega arith))
            | inr old ↦ kept q old near ∙ s.marks q positive old (omega arith)
          ] in
          let stays : is_marked set q ≡ is_marked passed q = others q (λ place. ne (omega arith)) in
          grind arith
    ])

-- What a window stands for after an accept.
pub Stands-push : (w : Window) (l : List Accepted) (id m highest floor : ℕ) (passed set : Marks) → Stands w l m → verdict_of l id m ≡ Accept
    → floor ≡ floor_of l m
    → highest ≡ max w.highest id
    → ((q : ℕ) → w.highest < q → q ≤ highest → is_marked passed q ≡ false)
    → ((q : ℕ) → q ≤ w.highest → highest < q + 2048 → is_marked passed q ≡ is_marked w.marks q)
    → is_marked set id ≡ true
    → ((q : ℕ) → (q % 2048 ≡ id % 2048 → ⊥) → is_marked set q ≡ is_marked passed q)
    → Stands (record { marks = set; highest = highest; floor = floor; last = w.moment; moment = w.moment }) (l ++ record { id = id; moment = m } ∷ []) m
Stands-push w l id m highest floor passed set s e below top gone kept own others =
    let pushed : Accepted = record { id = id; moment = m } in
    record {
      moment = s.moment;
      highest = top ∙ ap (λ x. max x id) s.highest ∙ sym (greatest_id-push l pushed);
      last = s.moment ∙ sym (last_moment-push l pushed);
      floor = below ∙ sym (floor_of-push l pushed) ∙ ap (floor_of (l ++ pushed ∷ [])) (sym (last_moment-push l pushed));
      marks = marks_after w l id m highest passed set s e top gone kept own others;
    }

-- A later moment changes nothing else.
pub Stands-later : (w : Window) (l : List Accepted) (m at now : ℕ) → Stands w l m → now ≡ max w.moment at → Stands (record w { moment = now }) l (max m at)
Stands-later w l m at now s e = record { moment = e ∙ ap (λ x. max x at) s.moment; highest = s.highest; last = s.last; floor = s.floor; marks = s.marks }
