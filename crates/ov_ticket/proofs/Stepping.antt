-- What a step under the lock leaves to link, to unlink and to release.
use Rattle.std.proofs.Common.{ℕ, ◌≡◌, ◌+◌, ◌<◌, ◌≤◌, List, [], ◌∷◌, ◌++◌, refl, sym, ap, ◌∙◌, subst, arith, inl, inr, suc, length, length-append, append_assoc, append-nil, get_or, if◌then◌else◌, ◌==◌, add-one}
use Rattle.ov_base.specs.Sums.{count_of}
use Rattle.ov_turn.specs.Lists.{has, newly, without}
use Rattle.ov_turn.specs.HoldRule.{MayBecome}
use Rattle.ov_turn.proofs.Members.{has_here, has_le, without_has, others_has}
use Rattle.ov_ticket.specs.Within.{cell_list, cell_of, cells_as, OwesOne, OwesSome, IsUnlinked, MayUnlink}
use Rattle.std.specs.Prelude.{Option, Some, map, take, drop}
use Rattle.std.proofs.Math.Seq.{take-suc}
use Rattle.std.proofs.lemmas.List.{map-append, take-append-drop, take_all}
use Rattle.ov_base.proofs.Sums.{total_append}
use Rattle.ov_turn.specs.declared.inside.Inside.{Inside}
use Rattle.ov_turn.specs.Insides.{IsSteady, inside_with, kept_of, holds_in, owes_in, to_link_in, to_unlink_in}
use Rattle.ov_model.specs.declared.entry.Entry.{Entry}
use Rattle.ov_model.specs.declared.hold.Owed.{Owed}
use Rattle.ov_model.specs.Path.{SomeOf, none, kept, passed}
use Rattle.std.proofs.lemmas.Bool.{cases_eq, eq-eqb, ne_eqb}
use Rattle.ov_model.specs.declared.place.Place.{Place}
use Rattle.ov_model.specs.declared.act.Call.{Call}
use Rattle.ov_model.specs.Step.{step, May}
use Rattle.ov_table.specs.Recorded.{Recorded, stepped, IsTold}
use Rattle.ov_table.specs.Cells.{live_cells, dying_cells, made_cells, gone_cells, OwesFreed}
use Rattle.ov_table.proofs.Becoming.{becomes, left}

-- A list that has nothing is empty.
pub none_has : (xs : List ℕ) → ((c : ℕ) → has c xs ≡ 0) → xs ≡ []
none_has [] empty = refl
none_has (x ∷ xs) empty = absurd (let here = has_here x xs in let zero_here = empty x in omega arith)

-- The lock lets a step of the table be an entry.
pub may_append : (r k : Recorded) (place : Place) (call : Call) (cells : ℕ) (live dying owes : List ℕ) → k ≡ stepped r place call → cells ≡ 69632 → live_cells r.now ≡ live → dying_cells r.now ≡ dying → IsTold r → May r.now call → OwesFreed call.act owes
    → MayBecome cells live dying owes (live_cells k.now) (dying_cells k.now)
may_append r k place call cells live dying owes is count l d told may owed = rw (is, count, ← l, ← d) (becomes r place call owes told may owed)

-- What is left to link is what was made.
pub made_left : (r k : Recorded) (place : Place) (call : Call) (live live' : List ℕ) → k ≡ stepped r place call → live_cells r.now ≡ live → live' ≡ live_cells k.now → IsTold r → May r.now call → (c : ℕ) → has c (newly live live') ≡ count_of c (made_cells call.act (step r.now call).reply)
made_left r k place call live live' is l m told may c = rw (m, is, ← l) (left r place call told may c).link

-- What is left to unlink is what is gone.
pub gone_left : (r k : Recorded) (place : Place) (call : Call) (dying dying' : List ℕ) → k ≡ stepped r place call → dying_cells r.now ≡ dying → dying' ≡ dying_cells k.now → IsTold r → May r.now call → (c : ℕ) → has c (newly dying dying') ≡ count_of c (gone_cells (step r.now call).taken (step r.now call).reply)
gone_left r k place call dying dying' is d e told may c = rw (e, is, ← d) (left r place call told may c).unlink

-- A cell that is alone left to link is the last.
pub linked_all : (cell : ℕ) (o : Option ℕ) (xs ys : List ℕ) → o ≡ Some cell → ((c : ℕ) → has c xs ≡ count_of c (cell_list o)) → ys ≡ without cell xs → ys ≡ []
linked_all cell o xs ys is made less = none_has ys (λ x. ap (has x) less ∙ gone x)
  where
    only : (x : ℕ) → has x xs ≡ count_of x (cell ∷ [])
    only x = made x ∙ ap (λ (q : Option ℕ). count_of x (cell_list q)) is

    gone : (x : ℕ) → has x (without cell xs) ≡ 0
    gone x = elim (cases_eq x cell) [
      | inl same ↦ subst (λ (c : ℕ). has c (without cell xs) ≡ 0) (sym same) (without_has cell xs)
      | inr other ↦
          let others : count_of x (cell ∷ []) ≡ 0 = rw (ne_eqb cell x (λ e. other (sym e))) refl in
          others_has cell x xs other ∙ only x ∙ others
    ]

-- ---- unlinking, one after another

pub steady_again : (a b c : Inside Recorded Entry) → IsSteady a b → IsSteady b c → IsSteady a c
steady_again a b c p q = ((q.0.0 ∙ p.0.0, q.0.1 ∙ p.0.1, q.0.2 ∙ p.0.2), q.1 ∙ p.1, q.2 ∙ p.2, q.3 ∙ p.3, q.4 ∙ p.4, q.5 ∙ p.5)

some_push : (xs ys : List ℕ) (x : ℕ) → SomeOf xs ys → SomeOf (xs ++ x ∷ []) (ys ++ x ∷ [])
some_push _ _ x none = kept x [] [] none
some_push _ _ x (kept y xs ys some) = kept y (xs ++ x ∷ []) (ys ++ x ∷ []) (some_push xs ys x some)
some_push _ _ x (passed y xs ys some) = passed y (xs ++ x ∷ []) (ys ++ x ∷ []) (some_push xs ys x some)

some_pass : (xs ys : List ℕ) (x : ℕ) → SomeOf xs ys → SomeOf (xs ++ x ∷ []) ys
some_pass _ _ x none = passed x [] [] none
some_pass _ _ x (kept y xs ys some) = kept y (xs ++ x ∷ []) ys (some_pass xs ys x some)
some_pass _ _ x (passed y xs ys some) = passed y (xs ++ x ∷ []) ys (some_pass xs ys x some)

module _ (kind : ℕ → Owed) where
  owes_more : (serials owes owes1 owes2 : List ℕ) (l l1 l2 : List Owed) (x : ℕ) → OwesSome kind serials owes owes1 l l1 → OwesOne (kind x) owes1 owes2 l1 l2 → OwesSome kind (serials ++ x ∷ []) owes owes2 l l2
  owes_more serials owes owes1 owes2 l l1 l2 x before (inl last) = record {
    some = before.some ++ x ∷ [];
    of = some_push serials before.some x before.of;
    owes_are = last.0 ∙ ap (λ q. q ++ cell_of (kind x) ∷ []) before.owes_are ∙ append_assoc owes (cells_as kind before.some) (cell_of (kind x) ∷ []) ∙ ap (λ q. owes ++ q) (sym (map-append (λ s. cell_of (kind s)) before.some (x ∷ [])));
    listed_are = last.1 ∙ ap (λ q. q ++ kind x ∷ []) before.listed_are ∙ append_assoc l (map kind before.some) (kind x ∷ []) ∙ ap (λ q. l ++ q) (sym (map-append kind before.some (x ∷ [])));
  }
  owes_more serials owes owes1 owes2 l l1 l2 x before (inr more) = record {
    some = before.some;
    of = some_pass serials before.some x before.of;
    owes_are = more.0 ∙ before.owes_are;
    listed_are = more.1 ∙ before.listed_are;
  }

  few_more : (l1 l2 : List Owed) (owes1 owes2 : List ℕ) (x : ℕ) → OwesOne (kind x) owes1 owes2 l1 l2 → length l2 ≤ length l1 + 1
  few_more l1 l2 owes1 owes2 x (inl last) = omega (arith, ap length last.1, length-append l1 (kind x ∷ []))
  few_more l1 l2 owes1 owes2 x (inr more) = omega (arith, ap length more.1)

  pub unlinked_none : (it : Inside Recorded Entry) (l : List Owed) → IsUnlinked kind [] it it l l
  unlinked_none it l = record {
    steady = ((refl, refl, refl), refl, refl, refl, refl, refl);
    holds = refl;
    link = refl;
    unlink = λ c. omega arith;
    owes = record { some = []; of = none; owes_are = sym (append-nil (owes_in it)); listed_are = sym (append-nil l) };
    few = omega arith;
  }

  count_more : (c x : ℕ) (serials : List ℕ) → count_of c (cells_as kind (serials ++ x ∷ [])) ≡ count_of c (cells_as kind serials) + count_of c (cell_of (kind x) ∷ [])
  count_more c x serials = ap (count_of c) (map-append (λ s. cell_of (kind s)) serials (x ∷ [])) ∙ total_append (λ y. if y == c then 1 else 0) (cells_as kind serials) (cell_of (kind x) ∷ [])

  one_here : (c : ℕ) → count_of c (c ∷ []) ≡ 1
  one_here c = rw (eq-eqb c c refl) refl

  -- The next is left to unlink.
  pub next_left : (it cur : Inside Recorded Entry) (xs : List ℕ) (i : ℕ) (l l1 : List Owed) (room : ℕ) → MayUnlink kind xs it l room → IsUnlinked kind (take i xs) it cur l l1 → i < length xs → has (cell_of (kind (get_or xs i 0))) (to_unlink_in cur) ≡ 1
  next_left it cur xs i l l1 room may done below =
      let x : ℕ = get_or xs i 0 in
      let cell : ℕ = cell_of (kind x) in
      let part : count_of cell (cells_as kind (take (suc i) xs)) ≤ count_of cell (cells_as kind xs) = counted_front cell xs (suc i) in
      let next : count_of cell (cells_as kind (take (suc i) xs)) ≡ count_of cell (cells_as kind (take i xs)) + count_of cell (cell ∷ []) = ap (λ ys. count_of cell (cells_as kind ys)) (take-suc xs i 0 below) ∙ count_more cell x (take i xs) in
      omega (arith, one_here cell, may.left cell, done.unlink cell, has_le cell (to_unlink_in cur))
    where
      counted_front : (c : ℕ) (ys : List ℕ) (n : ℕ) → count_of c (cells_as kind (take n ys)) ≤ count_of c (cells_as kind ys)
      counted_front c ys n =
          let whole : count_of c (cells_as kind ys) ≡ count_of c (cells_as kind (take n ys)) + count_of c (cells_as kind (drop n ys)) =
          ap (λ zs. count_of c (cells_as kind zs)) (sym (take-append-drop n ys)) ∙ ap (count_of c) (map-append (λ s. cell_of (kind s)) (take n ys) (drop n ys)) ∙ total_append (λ y. if y == c then 1 else 0) (cells_as kind (take n ys)) (cells_as kind (drop n ys)) in
          omega arith

  -- One more is unlinked.
  pub unlinked_next : (it cur new : Inside Recorded Entry) (xs : List ℕ) (i : ℕ) (l l1 l2 : List Owed) (room : ℕ) → MayUnlink kind xs it l room → IsUnlinked kind (take i xs) it cur l l1 → i < length xs
      → IsSteady cur new → holds_in new ≡ holds_in cur → to_link_in new ≡ to_link_in cur → to_unlink_in new ≡ without (cell_of (kind (get_or xs i 0))) (to_unlink_in cur) → OwesOne (kind (get_or xs i 0)) (owes_in cur) (owes_in new) l1 l2
      → IsUnlinked kind (take (i + 1) xs) it new l l2
  unlinked_next it cur new xs i l l1 l2 room may done below steady holds link unlink owes =
      let x : ℕ = get_or xs i 0 in
      let cell : ℕ = cell_of (kind x) in
      let after : take (i + 1) xs ≡ take i xs ++ x ∷ [] = ap (λ n. take n xs) (add-one i) ∙ take-suc xs i 0 below in
      subst (λ ys. IsUnlinked kind ys it new l l2) (sym after) record {
        steady = steady_again it cur new done.steady steady;
        holds = holds ∙ done.holds;
        link = link ∙ done.link;
        unlink = λ c. elim (cases_eq c cell) [
          | inl same ↦ subst (λ d. has d (to_unlink_in new) + count_of d (cells_as kind (take i xs ++ x ∷ [])) ≡ has d (to_unlink_in it)) (sym same)
              (omega (arith, ap (has cell) unlink, without_has cell (to_unlink_in cur), count_more cell x (take i xs), one_here cell, next_left it cur xs i l l1 room may done below, done.unlink cell))
          | inr other ↦
              let others : count_of c (cell ∷ []) ≡ 0 = rw (ne_eqb cell c (λ e. other (sym e))) refl in
              omega (arith, ap (has c) unlink, others_has cell c (to_unlink_in cur) other, count_more c x (take i xs), others, done.unlink c)
        ];
        owes = owes_more (take i xs) (owes_in it) (owes_in cur) (owes_in new) l l1 l2 x done.owes owes;
        few = omega (arith, few_more l1 l2 (owes_in cur) (owes_in new) x owes, done.few, length-append (take i xs) (x ∷ []));
      }

  -- All are.
  pub unlinked_all : (it cur : Inside Recorded Entry) (xs : List ℕ) (n : ℕ) (l l1 : List Owed) → length xs ≤ n → IsUnlinked kind (take n xs) it cur l l1 → IsUnlinked kind xs it cur l l1
  unlinked_all it cur xs n l l1 all done = subst (λ ys. IsUnlinked kind ys it cur l l1) (take_all n xs all) done

-- A loan of the table that changes nothing.
pub unlinked_lent : (kind : ℕ → Owed) (it cur : Inside Recorded Entry) (xs : List ℕ) (l l1 : List Owed) (w : Recorded) → w ≡ kept_of cur → IsUnlinked kind xs it cur l l1 → IsUnlinked kind xs it (inside_with cur w) l l1
unlinked_lent kind it cur xs l l1 w same done = record {
  steady = steady_again it cur (inside_with cur w) done.steady ((refl, refl, refl), same, refl, refl, refl, refl);
  holds = done.holds;
  link = done.link;
  unlink = done.unlink;
  owes = done.owes;
  few = done.few;
}
