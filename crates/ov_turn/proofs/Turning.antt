-- Each step of the lock keeps the rule.
use Rattle.std.proofs.Common.{◌≡◌, ◌≢◌, ℕ, zero, suc, ◌+◌, ◌%◌, ◌<◌, ◌≤◌, ◌==◌, true, false, if◌then◌else◌, List, [], ◌∷◌, ◌++◌, length, get_or, set, replicate, slice_index, inl, inr, refl, sym, ap, subst, ◌∙◌, arith, length-set, get_or-set_same, get_or-set_other, length-append, eq-eqb, ne_eqb}
use Rattle.std.proofs.lemmas.List.{append-nil, length-replicate, get_or-replicate}
use lib.Seq.{set-get_or}
use lib.ListN.{get_elem?, get_or-eq_default}
use mathlib.Core.Option.{Option, none, some, some-injective, some-ne-none}
use mathlib.Core.Logic.{dite}
use mathlib.Core.Bool.{true≢false}
use mathlib.Core.List.{IsPrefix}
use native.Mathlib.Decide.{ℕ_discrete, dec_le, dec_lt}
use Rattle.atomic_table.specs.Table.{State, Me, step, keeps, takes, gives, put_back, stepped, opening, Final, Seen, Allows, Splits, Joins}
use Rattle.atomic_table.proofs.Lists.{at_last, set_here, set_else, set_again, one_turn}
use Rattle.ov_base.specs.Sums.{total, between, count_of}
use Rattle.ov_base.proofs.Sums.{total_set, total_snoc, total_append, total_le, part_le, pair_le, alone, each_set, each_other, each_snoc, between_in, between_out, between_le, between_is, between_more}
use Rattle.ov_turn.specs.declared.view.View.{View}
use Rattle.ov_turn.specs.Lists.{has, newly, AreOf, IsWhole, all_below}
use Rattle.ov_turn.specs.Views.{Lists, share, has_ticket, waits, is_inside, owns, holds, owes, lists_of, lists_fit}
use Rattle.ov_turn.specs.HoldRule.{AreCells, MayBecome}
use Rattle.ov_turn.specs.TurnRule.{at_rest, whole, Fits, IsTurned}
use Rattle.ov_turn.specs.Steps.{in_line, entered, appended, outside, holding, first_part, second_part, both_parts, no_part, queues, leaves, meets, Enters, enters, appends}
use Rattle.ov_turn.proofs.Members.{below_all, below_filter, true_both, are_longer, are_append}
use Rattle.ov_turn.proofs.Fronts.{prefix_self, prefix_more, prefix_shorter}
use Rattle.ov_turn.proofs.CellSteps.{owed_le, cells_stay, cells_append, cells_open, dying_cell}
use Rattle.ov_turn.proofs.Counting.{total_same, ticket_yes, ticket_other, ticket_no, waits_yes, waits_no, inside_yes, inside_no, waits_share, idle_out, inside_served, unserved_out, idle_owns, idle_holds, idle_owes}

-- the tickets that are out, when one more is drawn and when the first is done
out_more : (served drawn t : ℕ) → served ≤ drawn → between served (drawn + 1) t ≡ between served drawn t + (if drawn == t then 1 else 0)
out_more served drawn t le =
    dite (ℕ_discrete drawn t)
    (λ e. let b : (drawn == t) ≡ true = eq-eqb drawn t e in let x = between_in served (drawn + 1) t (omega arith) (omega arith) in let y = between_out served drawn t (λ _. omega arith) in rw b (omega arith))
    (λ n. let b : (drawn == t) ≡ false = ne_eqb drawn t n in let m = between_more served drawn t le in let y = between_out drawn (drawn + 1) t (λ h. omega arith) in rw b (omega arith))

out_less : (served drawn t : ℕ) → served < drawn → t ≢ served → between (served + 1) drawn t ≡ between served drawn t
out_less served drawn t lt ne =
    dite (dec_lt t drawn)
    (λ below. dite (dec_lt served t)
    (λ above. let x = between_in (served + 1) drawn t (omega arith) below in let y = between_in served drawn t (omega arith) below in omega arith)
    (λ under. let x = between_out (served + 1) drawn t (λ h. omega arith) in let y = between_out served drawn t (λ h. omega arith) in omega arith))
    (λ past. let x = between_out (served + 1) drawn t (λ _. omega arith) in let y = between_out served drawn t (λ _. omega arith) in omega arith)

pub snoc_same : {I : Type 0} (l : List I) (a b : I) → l ++ a ∷ [] ≡ l ++ b ∷ [] → a ≡ b
snoc_same [] a b e = cc e
snoc_same (x ∷ xs) a b e = snoc_same xs a b (cc e)

-- Two lists of views that count for the same in all that the rule adds up.
record CountSame {I : Type 0} (us vs : List (View I)) : Type 0 where
  shares : total share us ≡ total share vs
  tickets : (t : ℕ) → total (has_ticket t) us ≡ total (has_ticket t) vs
  waiting : total waits us ≡ total waits vs
  within : total is_inside us ≡ total is_inside vs
  owned : (p : ℕ) → total (owns p) us ≡ total (owns p) vs
  held : (c : ℕ) → total (holds c) us ≡ total (holds c) vs
  owed : (c : ℕ) → total (owes c) us ≡ total (owes c) vs

module _ {S I : Type 0} (history : S → List I) (live dying : S → List ℕ) (count : ℕ) where
  abbrev M : Type 0
  M = Me S (View I)

  abbrev pub T : State S (View I) → Type 0
  T = IsTurned history live dying count

  -- no more tickets are out than there are seats
  few : (s : State S (View I)) (r : T s) → r.drawn ≤ r.served + 4294967296
  few s r = let w = total_le waits share s.views (λ i v at. waits_share v (r.each i v at)) in omega (arith, r.line, r.shares)

  -- a seat's ticket is one of those that are out
  mine_out : (s : State S (View I)) (r : T s) (id : ℕ) (v : View I) → get_elem? s.views id ≡ some v → v.queued ≡ true → (r.served ≤ v.ticket) × (v.ticket < r.drawn)
  mine_out s r id v at q =
      let p = part_le (has_ticket v.ticket) s.views id v at in
      let one = ticket_yes v.ticket v q refl in
      between_is r.served r.drawn v.ticket (omega (arith, r.out v.ticket))

  -- beside a seat that has the ticket that is served nobody is inside
  pub others_out : (s : State S (View I)) (r : T s) (id : ℕ) (v : View I) → get_elem? s.views id ≡ some v → has_ticket r.served v ≡ 1
      → (j : ℕ) (u : View I) → j ≢ id → get_elem? s.views j ≡ some u → u.inside ≡ true → ⊥
  others_out s r id v at one j u ne there is =
      let p = pair_le (has_ticket r.served) s.views id j v u ne at there in
      let also = inside_served u (r.each j u there) is in
      omega (arith, r.out r.served, between_le r.served r.drawn r.served)

  -- a step that changes one of the first three words, and no hold
  same_cells : (s : State S (View I)) (r : T s) (id : ℕ) (v w : View I) (i n : ℕ) → get_elem? s.views id ≡ some v → i < 3 → w.holds ≡ v.holds → w.owes ≡ v.owes
      → AreCells count r.lists (set s.words i n) (λ c. total (holds c) (set s.views id w)) (λ c. total (owes c) (set s.views id w))
  same_cells s r id v w i n at low h o =
      cells_stay count r.lists s.words (set s.words i n) (λ c. total (holds c) s.views) (λ c. total (holds c) (set s.views id w)) (λ c. total (owes c) s.views) (λ c. total (owes c) (set s.views id w)) r.cells
      (λ c. get_or-set_other s.words i (3 + c) n 0 (λ e. omega arith))
      (λ c. total_same (holds c) s.views id v w at (ap (count_of c) h))
      (λ c. total_same (owes c) s.views id v w at (ap (count_of c) o))

  -- A ticket is drawn.
  pub queue_step : (slots id : ℕ) (me : M) → me.0.queued ≡ false → me.0.inside ≡ false → 0 < me.0.share
      → Allows T slots id me 0 (λ n. (n + 1) % 18446744073709551616) (queues (step slots 0 1 0 none) me)
  queue_step slots id me not_queued not_inside part s r _ at small =
      let v = me.0 in
      let w = in_line v r.drawn in
      let n : ℕ = (get_or s.words 0 0 + 1) % 18446744073709551616 in
      let fits = r.each id v at in
      let wide = r.wide in
      let line = r.line in
      let old_waits = waits_no v not_queued in
      let sum = total_set waits s.views id v w at in (
        w,
        keeps,
        tt,
        record {
          served = r.served;
          drawn = r.drawn + 1;
          log = r.log;
          lists = r.lists;
          wide = length-set s.words 0 n ∙ r.wide;
          slots = r.slots;
          tickets = get_or-set_same s.words 0 n 0 (omega arith) ∙ omega (arith, r.tickets);
          serving = get_or-set_other s.words 0 1 n 0 (λ e. omega arith) ∙ r.serving;
          long = get_or-set_other s.words 0 2 n 0 (λ e. omega arith) ∙ r.long;
          shares = total_same share s.views id v w at refl ∙ r.shares;
          out = λ t.
              let p = total_set (has_ticket t) s.views id v w at in
              let q = ticket_no t v not_queued in
              let m = out_more r.served r.drawn t (omega arith) in
              let o = r.out t in
              omega arith;
          line = omega arith;
          home = λ none_in. r.home (sym (total_same is_inside s.views id v w at refl) ∙ none_in);
          once = λ p. total_same (owns p) s.views id v w at refl ∙ r.once p;
          each = each_set (Fits count r.served r.log r.lists) s.views id w
              record {
                idle = λ z. absurd (omega arith);
                sized = fits.sized;
                seen = fits.seen;
                also = fits.also;
                inside = λ is. absurd (true≢false (sym is ∙ not_inside));
                once = fits.once;
                entries = fits.entries;
              }
              r.each;
          cells = same_cells s r id v w 0 n at (omega arith) refl refl;
        },
        (r.drawn, r.tickets, refl),
      )

  -- a look at a word changes no word
  as_found : (s : State S (View I)) (i : ℕ) (hs : List (Option S)) (vs : List (View I)) → T record { words = s.words; homes = hs; views = vs } → T record { words = set s.words i (get_or s.words i 0); homes = hs; views = vs }
  as_found s i hs vs r = subst (λ (ws : List ℕ). T record { words = ws; homes = hs; views = vs }) (sym (set-get_or s.words i 0)) r

  -- a cell that is listed is a cell of the table
  pub listed : (s : State S (View I)) (r : T s) (c : ℕ) → 0 < has c r.lists.live + has c r.lists.dying → c < count
  listed s r c h = dite (dec_lt c count) (λ lt. lt) (λ n. let z = (r.cells c).small (omega arith) in absurd (omega arith))

  -- The seat finds that its ticket is served, and the kept value is at home.
  served_step : (id : ℕ) (me : M) → me.0.queued ≡ true → me.0.inside ≡ false → 0 < me.0.share → (s : State S (View I)) (r : T s) → get_elem? s.views id ≡ some me.0 → get_or s.words 1 0 ≡ me.0.ticket % 18446744073709551616
      → (y : S) × (get_elem? s.homes 0 ≡ some (some y)) × T (stepped s 1 (get_or s.words 1 0) id me.1 (entered me.0 (history y) (live y) (dying y)) (takes 0 y)) × Enters history live dying me (entered me.0 (history y) (live y) (dying y), (0, y) ∷ me.1) y
  served_step id me q not_inside part s r at is =
      let v = me.0 in
      let fits = r.each id v at in
      let bounds = mine_out s r id v at q in
      let most = few s r in
      let turn : r.served ≡ v.ticket = one_turn r.served v.ticket 18446744073709551616 bounds.0 (omega arith) (sym r.serving ∙ is) in
      let one = ticket_yes r.served v q (sym turn) in
      let all_of_it : total (has_ticket r.served) s.views ≡ has_ticket r.served v = let b = between_in r.served r.drawn r.served (omega arith) (omega arith) in omega (arith, r.out r.served) in
      let none_in : total is_inside s.views ≡ 0 = alone is_inside (has_ticket r.served) s.views id v (λ j u there. unserved_out u (r.each j u there)) at all_of_it ∙ inside_no v not_inside in
      let home = r.home none_in in
      let y = home.0 in
      let w = entered v (history y) (live y) (dying y) in
      let wide = r.wide in
      let sum = total_set is_inside s.views id v w at in
      let cells_are = fits.sized part in (
        y,
        home.1,
        as_found s 1 (set s.homes 0 none) (set s.views id w) record {
          served = r.served;
          drawn = r.drawn;
          log = r.log;
          lists = r.lists;
          wide = r.wide;
          slots = length-set s.homes 0 none ∙ r.slots;
          tickets = r.tickets;
          serving = r.serving;
          long = r.long;
          shares = total_same share s.views id v w at refl ∙ r.shares;
          out = λ t. total_same (has_ticket t) s.views id v w at refl ∙ r.out t;
          line = ap (λ n. n + r.served) (total_same waits s.views id v w at refl) ∙ r.line;
          home = λ none. absurd (let z = inside_no v not_inside in omega arith);
          once = λ p. total_same (owns p) s.views id v w at refl ∙ r.once p;
          each = each_set (Fits count r.served r.log r.lists) s.views id w
              record {
                idle = λ z. absurd (omega arith);
                sized = fits.sized;
                seen = subst (λ (l : List I). IsPrefix l r.log) (sym home.2) (prefix_self r.log);
                also = fits.also;
                inside = λ _. (q, sym turn, home.2, home.3);
                once = fits.once;
                entries = fits.entries;
              }
              r.each;
          cells = cells_stay count r.lists s.words s.words (λ c. total (holds c) s.views) (λ c. total (holds c) (set s.views id w)) (λ c. total (owes c) s.views) (λ c. total (owes c) (set s.views id w)) r.cells
              (λ c. refl) (λ c. total_same (holds c) s.views id v w at refl) (λ c. total_same (owes c) s.views id v w at refl);
        },
        (
          refl,
          subst (λ (l : List I). IsPrefix v.seen l) (sym home.2) fits.seen,
          (λ c h. subst (λ (l : Lists). has c l.live + has c l.dying ≡ 1) (sym home.3) ((r.cells c).known (let p = part_le (holds c) s.views id v at in omega arith))),
          (λ c h. subst (λ (l : Lists). has c l.dying ≡ 1) (sym home.3) ((r.cells c).owed_none (let p = part_le (owes c) s.views id v at in omega arith)).0),
          (λ c. let p = part_le (owes c) s.views id v at in let o = owed_le (r.cells c) in omega arith),
          true_both (all_below v.cells (live y)) true
              (below_all v.cells (live y) (λ c h. let k : 0 < has c r.lists.live = subst (λ (l : Lists). 0 < has c l.live) home.3 h in let lt = listed s r c (omega arith) in omega arith))
              refl,
        ),
      )

  pub enter_step : (slots id : ℕ) (me : M) → me.0.queued ≡ true → me.0.inside ≡ false → 0 < me.0.share → Allows T slots id me 1 (λ n. n) (enters history live dying (step slots 1 0 0 none) me)
  enter_step slots id me q not_inside part s r _ at _ =
      dite (ℕ_discrete (get_or s.words 1 0) (me.0.ticket % 18446744073709551616))
      (λ is. let x = served_step id me q not_inside part s r at is in (
        entered me.0 (history x.0) (live x.0) (dying x.0),
        takes 0 x.0,
        x.1,
        x.2,
        ((λ _. (x.0, x.3)), λ not. absurd (not is)),
      ))
      (λ not. (
        me.0,
        keeps,
        tt,
        as_found s 1 s.homes (set s.views id me.0) (subst (λ (vs : List (View I)). T record { words = s.words; homes = s.homes; views = vs }) (sym (set_again s.views id me.0 at)) r),
        ((λ is. absurd (not is)), λ _. refl),
      ))

  -- What holds of a view that is not inside holds of it when the history is longer, and when the next ticket is served.
  older : {served : ℕ} {log : List I} {lists : Lists} (served' : ℕ) (more : List I) (lists' : Lists) (u : View I) → (u.inside ≡ true → ⊥) → Fits count served log lists u → Fits count served' (log ++ more) lists' u
  older {log = log} served' more lists' u out fits = record {
    idle = fits.idle;
    sized = fits.sized;
    seen = prefix_more u.seen log more fits.seen;
    also = prefix_more u.also log more fits.also;
    inside = λ is. absurd (out is);
    once = fits.once;
    entries = are_longer log more u.own fits.entries;
  }

  -- One entry more.
  pub append_step : (slots id : ℕ) (me : M) → me.0.queued ≡ true → me.0.inside ≡ true → 0 < me.0.share → me.0.to_link ≡ [] → me.0.to_unlink ≡ [] → (y : S) (x : I) → me.1 ≡ (0, y) ∷ [] → history y ≡ me.0.seen ++ x ∷ []
      → length (history y) < 18446744073709551616 → MayBecome me.0.cells me.0.live me.0.dying me.0.owes (live y) (dying y)
      → Allows T slots id me 2 (λ n. (n + 1) % 18446744073709551616) (appends history live dying (step slots 2 1 0 none) me)
  append_step slots id me q here part no_link no_unlink y x slot longer fits_word may s r _ at _ =
      let v = me.0 in
      let w = appended v x (live y) (dying y) in
      let n : ℕ = (get_or s.words 2 0 + 1) % 18446744073709551616 in
      let fits = r.each id v at in
      let known = fits.inside here in
      let wide = r.wide in
      let one = ticket_yes r.served v q known.1 in
      let size : length v.seen ≡ length r.log = ap length known.2 in
      let next : length (history y) ≡ length v.seen + 1 = ap length longer ∙ length-append v.seen (x ∷ []) in
      let after : length (r.log ++ x ∷ []) ≡ length r.log + 1 = length-append r.log (x ∷ []) in
      let cells_are = fits.sized part in
      let cells_after : AreCells count (lists_of w) (set s.words 2 n) (λ c. total (holds c) (set s.views id w)) (λ c. total (owes c) (set s.views id w)) =
      cells_append count (lists_of v) s.words (set s.words 2 n) (λ c. total (holds c) s.views) (λ c. total (holds c) (set s.views id w)) (λ c. total (owes c) s.views) (λ c. total (owes c) (set s.views id w))
      (subst (λ (l : Lists). AreCells count l s.words (λ c. total (holds c) s.views) (λ c. total (owes c) s.views)) (sym known.3) r.cells)
      v.owes (live y) (dying y) no_link no_unlink
      (subst (λ (k : ℕ). MayBecome k v.live v.dying v.owes (live y) (dying y)) cells_are may)
      (λ c. get_or-set_other s.words 2 (3 + c) n 0 (λ e. omega arith))
      (λ c. total_same (holds c) s.views id v w at refl)
      (λ c. part_le (owes c) s.views id v at)
      (λ c. total_set (owes c) s.views id v w at) in
      let small : (c : ℕ) → 0 < has c (live y) + has c (dying y) → c < v.cells = λ c h. dite (dec_lt c v.cells) (λ lt. lt) (λ no. let z = (cells_after c).small (omega arith) in absurd (omega arith)) in
      let live_fit = below_all v.cells (live y) (λ c h. small c (omega arith)) in
      let dying_fit = below_all v.cells (dying y) (λ c h. small c (omega arith)) in
      let fit : lists_fit w ≡ true = true_both (all_below v.cells (live y)) _ live_fit
      (true_both (all_below v.cells (newly v.live (live y))) (all_below v.cells (newly v.dying (dying y))) (below_filter v.cells _ (live y) live_fit) (below_filter v.cells _ (dying y) dying_fit)) in (
        w,
        keeps,
        tt,
        record {
          served = r.served;
          drawn = r.drawn;
          log = r.log ++ x ∷ [];
          lists = lists_of w;
          wide = length-set s.words 2 n ∙ r.wide;
          slots = r.slots;
          tickets = get_or-set_other s.words 2 0 n 0 (λ e. omega arith) ∙ r.tickets;
          serving = get_or-set_other s.words 2 1 n 0 (λ e. omega arith) ∙ r.serving;
          long = get_or-set_same s.words 2 n 0 (omega arith) ∙ omega (arith, r.long);
          shares = total_same share s.views id v w at refl ∙ r.shares;
          out = λ t. total_same (has_ticket t) s.views id v w at refl ∙ r.out t;
          line = ap (λ k. k + r.served) (total_same waits s.views id v w at refl) ∙ r.line;
          home = λ none. absurd (let p = inside_yes v here in let sum = total_same is_inside s.views id v w at refl in let le = part_le is_inside s.views id v at in omega arith);
          once = λ p.
              let sum = total_set (owns p) s.views id v w at in
              let mine = total_snoc (λ (e : ℕ × I). if e.0 == p then 1 else 0) v.own (length v.seen, x) in
              let old = r.once p in
              let grown = out_more 0 (length r.log) p (omega arith) in
              let here : ◌≡◌ {A = ℕ} (if length v.seen == p then 1 else 0) (if length r.log == p then 1 else 0) = ap (λ k. if k == p then 1 else 0) size in
              let long : between 0 (length (r.log ++ x ∷ [])) p ≡ between 0 (length r.log + 1) p = ap (λ k. between 0 k p) after in
              omega arith;
          each = each_other (Fits count r.served (r.log ++ x ∷ []) (lists_of w)) s.views id w
              record {
                idle = λ z. absurd (omega arith);
                sized = fits.sized;
                seen = subst (λ (l : List I). IsPrefix l (r.log ++ x ∷ [])) (ap (λ l. l ++ x ∷ []) (sym known.2)) (prefix_self (r.log ++ x ∷ []));
                also = prefix_more v.also r.log (x ∷ []) fits.also;
                inside = λ _. (q, known.1, ap (λ l. l ++ x ∷ []) known.2, refl);
                once = fits.once;
                entries = are_append (r.log ++ x ∷ []) v.own ((length v.seen, x) ∷ []) (are_longer r.log (x ∷ []) v.own fits.entries) (at_last r.log x (length v.seen) (sym size), tt);
              }
              (λ j u ne there. older r.served (x ∷ []) (lists_of w) u (others_out s r id v at one j u ne there) (r.each j u there));
          cells = cells_after;
        },
        (λ y' x' slot' longer'.
            let same_y : y ≡ y' = ap (λ l. headed y l) (sym slot ∙ slot') in
            let same_x : x ≡ x' = snoc_same v.seen x x' (sym longer ∙ ap history same_y ∙ longer') in
            ((λ i. (appended v (same_x i) (live (same_y i)) (dying (same_y i)), me.1)), fit)),
      )
    where
      headed : S → List (ℕ × S) → S
      headed d [] = d
      headed d (z ∷ zs) = z.1

  -- The kept value is put back, and the next ticket is served.
  pub leave_step : (slots id : ℕ) (me : M) → me.0.queued ≡ true → me.0.inside ≡ true → 0 < me.0.share → me.0.to_link ≡ [] → me.0.to_unlink ≡ [] → (y : S) → me.1 ≡ (0, y) ∷ [] → history y ≡ me.0.seen → live y ≡ me.0.live → dying y ≡ me.0.dying
      → Allows T slots id me 1 (λ n. (n + 1) % 18446744073709551616) (leaves (step slots 1 1 0 none) me)
  leave_step slots id me q here part no_link no_unlink y slot same same_live same_dying s r _ at _ =
      let v = me.0 in
      let w = outside v in
      let n : ℕ = (get_or s.words 1 0 + 1) % 18446744073709551616 in
      let fits = r.each id v at in
      let known = fits.inside here in
      let wide = r.wide in
      let one = ticket_yes r.served v q known.1 in
      let bounds = mine_out s r id v at q in
      let queued = waits_yes v q in
      let sum = total_set waits s.views id v w at in (
        w,
        gives,
        tt,
        record {
          served = r.served + 1;
          drawn = r.drawn;
          log = r.log;
          lists = r.lists;
          wide = length-set s.words 1 n ∙ r.wide;
          slots = subst (λ (l : List (ℕ × S)). length (put_back s.homes l) ≡ 1) (sym slot) (length-set s.homes 0 (some y) ∙ r.slots);
          tickets = get_or-set_other s.words 1 0 n 0 (λ e. omega arith) ∙ r.tickets;
          serving = get_or-set_same s.words 1 n 0 (omega arith) ∙ omega (arith, r.serving);
          long = get_or-set_other s.words 1 2 n 0 (λ e. omega arith) ∙ r.long;
          shares = total_same share s.views id v w at refl ∙ r.shares;
          out = λ t.
              let p = total_set (has_ticket t) s.views id v w at in
              let o = r.out t in
              dite (ℕ_discrete t r.served)
              (λ e.
              let mine = ticket_yes t v q (known.1 ∙ sym e) in
              let x = between_out (r.served + 1) r.drawn t (λ h. omega arith) in
              let z = between_in r.served r.drawn t (omega arith) (omega arith) in
              omega arith)
              (λ ne. let not_mine = ticket_other t v (λ e. ne (sym e ∙ known.1)) in let x = out_less r.served r.drawn t (omega arith) ne in omega arith);
          line = omega (arith, r.line);
          home = λ _. (
            y,
            subst (λ (l : List (ℕ × S)). get_elem? (put_back s.homes l) 0 ≡ some (some y)) (sym slot) (set_here s.homes 0 (some y) (omega (arith, r.slots))),
            same ∙ known.2,
            (λ i. record { live = same_live i; dying = same_dying i; to_link = sym no_link i; to_unlink = sym no_unlink i }) ∙ known.3,
          );
          once = λ p. total_same (owns p) s.views id v w at refl ∙ r.once p;
          each = each_other (Fits count (r.served + 1) r.log r.lists) s.views id w
              record {
                idle = λ z. absurd (omega arith);
                sized = fits.sized;
                seen = fits.seen;
                also = fits.also;
                inside = λ is. absurd (true≢false (sym is));
                once = fits.once;
                entries = fits.entries;
              }
              (λ j u ne there. subst (λ (l : List I). Fits count (r.served + 1) l r.lists u) (append-nil r.log) (older (r.served + 1) [] r.lists u (others_out s r id v at one j u ne there) (r.each j u there)));
          cells = same_cells s r id v w 1 n at (omega arith) refl refl;
        },
        refl,
      )

  -- Other views that count for the same keep the rule: no word, slot, history or list changes.
  count_on : (s : State S (View I)) (r : T s) (us : List (View I)) → CountSame us s.views → ((id : ℕ) (v : View I) → get_elem? us id ≡ some v → Fits count r.served r.log r.lists v) → T record { words = s.words; homes = s.homes; views = us }
  count_on s r us same each = record {
    served = r.served;
    drawn = r.drawn;
    log = r.log;
    lists = r.lists;
    wide = r.wide;
    slots = r.slots;
    tickets = r.tickets;
    serving = r.serving;
    long = r.long;
    shares = same.shares ∙ r.shares;
    out = λ t. same.tickets t ∙ r.out t;
    line = ap (λ k. k + r.served) same.waiting ∙ r.line;
    home = λ none. r.home (sym same.within ∙ none);
    once = λ p. same.owned p ∙ r.once p;
    each = each;
    cells = cells_stay count r.lists s.words s.words (λ c. total (holds c) s.views) (λ c. total (holds c) us) (λ c. total (owes c) s.views) (λ c. total (owes c) us) r.cells (λ c. refl) same.held same.owed;
  }

  -- The seat has seen the longer of what two had seen.
  saw : (s : State S (View I)) (r : T s) (id : ℕ) (v : View I) → get_elem? s.views id ≡ some v → v.inside ≡ false → (l : List I) → IsPrefix l r.log → T record { words = s.words; homes = s.homes; views = set s.views id record v { seen = l; also = [] } }
  saw s r id v at not_inside l pre =
      let w : View I = record v { seen = l; also = [] } in
      let fits = r.each id v at in
      let same : (f : View I → ℕ) → f w ≡ f v → total f (set s.views id w) ≡ total f s.views = λ f is. total_same f s.views id v w at is in
      count_on s r (set s.views id w)
      record { shares = same share refl; tickets = λ t. same (has_ticket t) refl; waiting = same waits refl; within = same is_inside refl; owned = λ p. same (owns p) refl; held = λ c. same (holds c) refl; owed = λ c. same (owes c) refl }
      (each_set (Fits count r.served r.log r.lists) s.views id w
      record {
        idle = fits.idle;
        sized = fits.sized;
        seen = pre;
        also = (r.log, refl);
        inside = λ is. absurd (true≢false (sym is ∙ not_inside));
        once = fits.once;
        entries = fits.entries;
      }
      r.each)

  pub meet_step : (slots id : ℕ) (me : M) → me.0.inside ≡ false → Allows T slots id me 2 (λ n. n) (meets (step slots 2 0 0 none) me)
  meet_step slots id me not_inside s r _ at _ =
      let v = me.0 in
      let fits = r.each id v at in
      let once : (c : ℕ) → count_of c v.owes ≤ 1 = λ c. let p = part_le (owes c) s.views id v at in let o = owed_le (r.cells c) in omega arith in
      dite (dec_le (length v.also) (length v.seen))
      (λ le. (
        record v { also = [] },
        keeps,
        tt,
        as_found s 2 s.homes (set s.views id record v { also = [] }) (saw s r id v at not_inside v.seen fits.seen),
        (refl, prefix_self v.seen, prefix_shorter v.also v.seen r.log fits.also fits.seen le, inl refl, once),
      ))
      (λ more. (
        record v { seen = v.also; also = [] },
        keeps,
        tt,
        as_found s 2 s.homes (set s.views id record v { seen = v.also; also = [] }) (saw s r id v at not_inside v.also fits.also),
        (refl, prefix_shorter v.seen v.also r.log fits.seen fits.also (omega arith), prefix_self v.also, inr refl, once),
      ))

  -- One share is cut off.
  pub split_step : (id : ℕ) (v : View I) → v.queued ≡ false → v.inside ≡ false → 2 ≤ v.share → Splits T id v (first_part v) (second_part v)
  split_step id v not_queued not_inside two s r at =
      let w = first_part v in
      let u = second_part v in
      let fits = r.each id v at in
      let vs : List (View I) = set s.views id w in
      let both : (f : View I → ℕ) → f w ≡ f v → f u ≡ 0 → total f (vs ++ u ∷ []) ≡ total f s.views = λ f same none. let a = total_snoc f vs u in let b = total_same f s.views id v w at same in omega arith in
      let shares_are : total share (vs ++ u ∷ []) ≡ total share s.views = let a = total_snoc share vs u in let b = total_set share s.views id v w at in omega arith in
      count_on s r (vs ++ u ∷ [])
      record { shares = shares_are; tickets = λ t. both (has_ticket t) refl refl; waiting = both waits refl refl; within = both is_inside refl refl; owned = λ p. both (owns p) refl refl; held = λ c. both (holds c) refl refl; owed = λ c. both (owes c) refl refl }
      (each_snoc (Fits count r.served r.log r.lists) vs u
      record {
        idle = λ z. absurd (omega arith);
        sized = λ _. fits.sized (omega arith);
        seen = fits.seen;
        also = (r.log, refl);
        inside = λ is. absurd (true≢false (sym is));
        once = λ c. omega arith;
        entries = tt;
      }
      (each_set (Fits count r.served r.log r.lists) s.views id w
      record {
        idle = λ z. absurd (omega arith);
        sized = λ _. fits.sized (omega arith);
        seen = fits.seen;
        also = fits.also;
        inside = fits.inside;
        once = fits.once;
        entries = fits.entries;
      }
      r.each))

  -- Another seat is taken in.
  pub join_step : (id : ℕ) (v : View I) (other : ℕ) (w : View I) → v.queued ≡ false → v.inside ≡ false → 0 < v.share → w.queued ≡ false → w.inside ≡ false → ((c : ℕ) → count_of c v.holds + count_of c w.holds ≤ 1)
      → Joins T id v other w (both_parts v w) no_part
  join_step id v other w v_out v_not part w_out w_not apart s r at ne at_other =
      let b = both_parts v w in
      let vs : List (View I) = set s.views id b in
      let there = sym (set_else s.views id other b ne) ∙ at_other in
      let mine = r.each id v at in
      let theirs = r.each other w there in
      let taken : (f : View I → ℕ) → f b ≡ f v + f w → f no_part ≡ 0 → total f (set vs other no_part) ≡ total f s.views = λ f sum none. let x = total_set f s.views id v b at in let y = total_set f vs other w no_part at_other in omega arith in
      count_on s r (set vs other no_part)
      record {
        shares = taken share refl refl;
        tickets = λ t. taken (has_ticket t) (let x = ticket_no t v v_out in let y = ticket_no t w w_out in let z = ticket_no t b v_out in omega arith) refl;
        waiting = taken waits (let x = waits_no v v_out in let y = waits_no w w_out in let z = waits_no b v_out in omega arith) refl;
        within = taken is_inside (let x = inside_no v v_not in let y = inside_no w w_not in let z = inside_no b v_not in omega arith) refl;
        owned = λ p. taken (owns p) (total_append (λ (e : ℕ × I). if e.0 == p then 1 else 0) v.own w.own) refl;
        held = λ c. taken (holds c) (total_append (λ k. if k == c then 1 else 0) v.holds w.holds) refl;
        owed = λ c. taken (owes c) (total_append (λ k. if k == c then 1 else 0) v.owes w.owes) refl;
      }
      (each_set (Fits count r.served r.log r.lists) vs other no_part
      record {
        idle = λ _. (refl, refl, refl, refl);
        sized = λ h. absurd (omega arith);
        seen = (r.log, refl);
        also = (r.log, refl);
        inside = λ is. absurd (true≢false (sym is));
        once = λ c. omega arith;
        entries = tt;
      }
      (each_set (Fits count r.served r.log r.lists) s.views id b
      record {
        idle = λ z. absurd (omega arith);
        sized = λ _. mine.sized part;
        seen = mine.seen;
        also = theirs.seen;
        inside = λ is. absurd (true≢false (sym is ∙ v_not));
        once = λ c. let x = total_append (λ k. if k == c then 1 else 0) v.holds w.holds in let y = apart c in omega arith;
        entries = are_append r.log v.own w.own mine.entries theirs.entries;
      }
      r.each))

  -- At the beginning.
  pub opens : (y : S) → history y ≡ [] → live y ≡ [] → dying y ≡ [] → T (opening (replicate (3 + count) 0) (y ∷ []) (whole count))
  opens y none_yet no_live no_dying =
      let none_of : (i : ℕ) → slice_index (replicate (3 + count) 0) i ≡ 0 = λ i. zeros (3 + count) i in
      record {
        served = 0;
        drawn = 0;
        log = [];
        lists = record { live = []; dying = []; to_link = []; to_unlink = [] };
        wide = length-replicate (3 + count) 0;
        slots = refl;
        tickets = none_of 0;
        serving = none_of 1;
        long = none_of 2;
        shares = refl;
        out = λ t. sym (between_out 0 0 t (λ _. omega arith));
        line = refl;
        home = λ _. (y, refl, none_yet, λ i. record { live = no_live i; dying = no_dying i; to_link = []; to_unlink = [] });
        once = λ p. sym (between_out 0 0 p (λ _. omega arith));
        each = λ id v at. subst (λ (u : View I). Fits count 0 [] record { live = []; dying = []; to_link = []; to_unlink = [] } u) (one_of (whole count) v id at)
            record {
              idle = λ z. absurd (omega arith);
              sized = λ _. refl;
              seen = ([], refl);
              also = ([], refl);
              inside = λ is. absurd (true≢false (sym is));
              once = λ c. omega arith;
              entries = tt;
            };
        cells = cells_open count record { live = []; dying = []; to_link = []; to_unlink = [] } (replicate (3 + count) 0) _ _ refl refl refl refl (λ c. none_of (3 + c)) (λ c. refl) (λ c. refl);
      }
    where
      zeros : (n i : ℕ) → slice_index (replicate n 0) i ≡ 0
      zeros n i = dite (dec_lt i n) (λ h. get_or-replicate n i 0 0 h) (λ h. get_or-eq_default (replicate n 0) 0 (let e : length (replicate {A = ℕ} n 0) ≡ n = length-replicate n 0 in omega arith))

      one_of : {A : Type 0} (a b : A) (i : ℕ) → get_elem? (a ∷ []) i ≡ some b → a ≡ b
      one_of a b zero e = some-injective a b e
      one_of a b (suc i) e = absurd (some-ne-none b (sym e))

  -- At the end, with the seat that has the whole share.
  pub closes : (id : ℕ) (v : View I) (y : S) (ws : List ℕ) (xs : List S) → v.share ≡ 4294967296 → v.inside ≡ false → Final (Seen T id v) ws xs → get_elem? xs 0 ≡ some y
      → IsPrefix v.seen (history y) × IsWhole (history y) v.own × ((c : ℕ) → has c (dying y) ≡ 1 → 0 < count_of c v.holds + count_of c v.owes)
  closes id v y ws xs all not_inside final there =
      let s = final.0 in
      let r = final.1.0 in
      let at = final.1.1 in
      let has_all : total share s.views ≡ share v = r.shares ∙ sym all in
      let none_in : total is_inside s.views ≡ 0 = alone is_inside share s.views id v (λ j u at_u z. idle_out u (r.each j u at_u) z) at has_all ∙ inside_no v not_inside in
      let home = r.home none_in in
      let same : home.0 ≡ y = some-injective home.0 y (sym (final.4 0 home.0 home.1) ∙ there) in
      let fits = r.each id v at in
      let log : r.log ≡ history y = sym home.2 ∙ ap history same in (
        subst (λ (l : List I). IsPrefix v.seen l) log fits.seen,
        (
          (λ p. sym (alone (owns p) share s.views id v (λ j u at_u z. idle_owns u (r.each j u at_u) p z) at has_all) ∙ r.once p ∙ ap (λ (l : List I). between 0 (length l) p) log),
          subst (λ (l : List I). AreOf l v.own) log fits.entries,
        ),
        (λ c d.
            let e : at_rest live dying y ≡ r.lists = ap (at_rest live dying) (sym same) ∙ home.3 in
            let k = dying_cell count (at_rest live dying y) s.words (λ c. total (holds c) s.views) (λ c. total (owes c) s.views)
            (subst (λ (l : Lists). AreCells count l s.words (λ c. total (holds c) s.views) (λ c. total (owes c) s.views)) (sym e) r.cells) refl refl c d in
            let h = alone (holds c) share s.views id v (λ j u at_u z. idle_holds u (r.each j u at_u) c z) at has_all in
            let o = alone (owes c) share s.views id v (λ j u at_u z. idle_owes u (r.each j u at_u) c z) at has_all in
            omega arith),
      )

  -- One cell's word changes, with what the seat holds and owes and with what it has left to link and to unlink.
  pub cell_step : (s : State S (View I)) (r : T s) (id : ℕ) (v : View I) → get_elem? s.views id ≡ some v → 0 < v.share → (d n : ℕ) (held owed to_link to_unlink : List ℕ) (lists' : Lists)
      → (total is_inside s.views ≡ 0 → lists' ≡ r.lists)
      → (v.inside ≡ true → lists_of (holding v held owed to_link to_unlink) ≡ lists')
      → ((j : ℕ) (u : View I) → j ≢ id → get_elem? s.views j ≡ some u → u.inside ≡ true → lists' ≡ r.lists)
      → ((c : ℕ) → count_of c held ≤ 1)
      → AreCells count lists' (set s.words (3 + d) n) (λ c. total (holds c) (set s.views id (holding v held owed to_link to_unlink))) (λ c. total (owes c) (set s.views id (holding v held owed to_link to_unlink)))
      → T record { words = set s.words (3 + d) n; homes = s.homes; views = set s.views id (holding v held owed to_link to_unlink) }
  cell_step s r id v at part d n held owed to_link to_unlink lists' at_home mine others once cells_after =
      let w = holding v held owed to_link to_unlink in
      let fits = r.each id v at in
      record {
        served = r.served;
        drawn = r.drawn;
        log = r.log;
        lists = lists';
        wide = length-set s.words (3 + d) n ∙ r.wide;
        slots = r.slots;
        tickets = get_or-set_other s.words (3 + d) 0 n 0 (λ e. omega arith) ∙ r.tickets;
        serving = get_or-set_other s.words (3 + d) 1 n 0 (λ e. omega arith) ∙ r.serving;
        long = get_or-set_other s.words (3 + d) 2 n 0 (λ e. omega arith) ∙ r.long;
        shares = total_same share s.views id v w at refl ∙ r.shares;
        out = λ t. total_same (has_ticket t) s.views id v w at refl ∙ r.out t;
        line = ap (λ k. k + r.served) (total_same waits s.views id v w at refl) ∙ r.line;
        home = λ none. let z = sym (total_same is_inside s.views id v w at refl) ∙ none in let h = r.home z in (h.0, h.1, h.2, h.3 ∙ sym (at_home z));
        once = λ p. total_same (owns p) s.views id v w at refl ∙ r.once p;
        each = each_other (Fits count r.served r.log lists') s.views id w
            record {
              idle = λ z. absurd (omega arith);
              sized = fits.sized;
              seen = fits.seen;
              also = fits.also;
              inside = λ is. let k = fits.inside is in (k.0, k.1, k.2, mine is);
              once = once;
              entries = fits.entries;
            }
            (λ j u ne there. let theirs = r.each j u there in record {
              idle = theirs.idle;
              sized = theirs.sized;
              seen = theirs.seen;
              also = theirs.also;
              inside = λ is. let k = theirs.inside is in (k.0, k.1, k.2, k.3 ∙ sym (others j u ne there is));
              once = theirs.once;
              entries = theirs.entries;
            });
        cells = cells_after;
      }
