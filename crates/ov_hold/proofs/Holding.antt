-- Each step on a cell keeps the rule.
use Rattle.std.proofs.Common.{◌≡◌, ◌≢◌, ℕ, ◌+◌, ◌-◌, ◌%◌, ◌<◌, ◌≤◌, true, List, [], ◌∷◌, ◌++◌, get_or, set, refl, sym, ap, ◌∙◌, arith, get_or-set_same, get_or-set_other}
use mathlib.Core.Option.{none, some}
use mathlib.Core.Logic.{dite}
use native.Mathlib.Decide.{ℕ_discrete}
use lib.ListN.{get_elem?}
use Rattle.atomic_table.specs.Table.{State, Me, step, keeps, Allows}
use Rattle.ov_base.specs.Sums.{total, count_of}
use Rattle.ov_base.proofs.Sums.{total_set, total_le, part_le}
use Rattle.ov_turn.specs.declared.view.View.{View}
use Rattle.ov_turn.specs.Lists.{has, without}
use Rattle.ov_turn.specs.Views.{Lists, share, is_inside, holds, owes, holds_fit, lists_fit}
use Rattle.ov_turn.specs.HoldRule.{AreCells}
use Rattle.ov_turn.specs.Steps.{holding}
use Rattle.ov_turn.specs.Cells.{stays_inside, stays_outside}
use Rattle.ov_turn.proofs.Members.{without_count, others_count, count_snoc_here, count_snoc_other}
use Rattle.ov_turn.proofs.Counting.{total_same, ticket_yes, inside_yes, holds_share}
use Rattle.ov_turn.proofs.CellSteps.{cells_link, cells_unlink, cells_get, cells_give}
use Rattle.ov_turn.proofs.Turning.{T, others_out, listed, cell_step}
use Rattle.ov_hold.specs.Steps.{links, unlinks, gets, gives}
use Rattle.ov_hold.proofs.Fitting.{linked_fit, unlinked_fit, got_fit, given_fit}

-- which cell a word is
pub cell_of : (d : ℕ) → d ≡ 3 + d - 3
cell_of d = omega arith

once_more : (d : ℕ) (held : List ℕ) → ((c : ℕ) → count_of c held ≤ 1) → count_of d held ≡ 0 → (c : ℕ) → count_of c (held ++ d ∷ []) ≤ 1
once_more d held once free c =
    dite (ℕ_discrete c d)
    (λ e. let x = count_snoc_here d held in let same : count_of c (held ++ d ∷ []) ≡ count_of d (held ++ d ∷ []) = ap (λ k. count_of k (held ++ d ∷ [])) e in omega arith)
    (λ n. let x = count_snoc_other d c held n in let y = once c in omega arith)

once_less : (d : ℕ) (held : List ℕ) → ((c : ℕ) → count_of c held ≤ 1) → (c : ℕ) → count_of c (without d held) ≤ 1
once_less d held once c =
    dite (ℕ_discrete c d)
    (λ e. let x = without_count d held in let same : count_of c (without d held) ≡ count_of d (without d held) = ap (λ k. count_of k (without d held)) e in omega arith)
    (λ n. let x = others_count d c held n in let y = once c in omega arith)

module _ {S I : Type 0} (history : S → List I) (live dying : S → List ℕ) (count : ℕ) where
  abbrev M : Type 0
  M = Me S (View I)

  abbrev R : State S (View I) → Type 0
  R = T history live dying count

  -- the seat inside is the only one that knows which cells there are
  nobody_else : (s : State S (View I)) (r : R s) (id : ℕ) (v : View I) → get_elem? s.views id ≡ some v → v.queued ≡ true → v.inside ≡ true → (l : Lists)
      → (total is_inside s.views ≡ 0 → l ≡ r.lists) × ((j : ℕ) (u : View I) → j ≢ id → get_elem? s.views j ≡ some u → u.inside ≡ true → l ≡ r.lists)
  nobody_else s r id v at q here l =
      let known = (r.each id v at).inside here in
      let one = ticket_yes r.served v q known.1 in (
        (λ none. let p = part_le is_inside s.views id v at in let x = inside_yes v here in absurd (omega arith)),
        (λ j u ne there is. absurd (others_out history live dying count s r id v at one j u ne there is)),
      )

  pub link_step : (slots id : ℕ) (me : M) (d : ℕ) → me.0.queued ≡ true → me.0.inside ≡ true → 0 < me.0.share → holds_fit me.0 ≡ true → lists_fit me.0 ≡ true → has d me.0.to_link ≡ 1
      → Allows R slots id me (3 + d) (λ n. (n + 1) % 18446744073709551616) (stays_inside links (step slots (3 + d) 1 0 none) me)
  link_step slots id me d q here part held_fit fit left s r _ at small =
      let v = me.0 in
      let w = holding v v.holds v.owes (without d v.to_link) v.to_unlink in
      let word : ℕ = get_or s.words (3 + d) 0 in
      let n : ℕ = (word + 1) % 18446744073709551616 in
      let known = (r.each id v at).inside here in
      let l : Lists = record r.lists { to_link = without d r.lists.to_link } in
      let is : has d r.lists.to_link ≡ 1 = ap (λ (k : Lists). has d k.to_link) (sym known.3) ∙ left in
      let cell = r.cells d in
      let a = cell.apart in
      let b = cell.linking in
      let u = cell.unlinking in
      let lt = listed history live dying count s r d (omega arith) in
      let old = cell.counted lt in
      let free = cell.fresh (omega arith) in
      let wide = r.wide in
      let next : get_or (set s.words (3 + d) n) (3 + d) 0 ≡ word + 1 = get_or-set_same s.words (3 + d) n 0 (omega arith) ∙ omega arith in
      let others = nobody_else s r id v at q here l in
      let cells_after : AreCells count l (set s.words (3 + d) n) (λ c. total (holds c) (set s.views id w)) (λ c. total (owes c) (set s.views id w)) =
      cells_link count r.lists s.words (set s.words (3 + d) n) (λ c. total (holds c) s.views) (λ c. total (holds c) (set s.views id w)) (λ c. total (owes c) s.views) (λ c. total (owes c) (set s.views id w)) r.cells d
      (λ c ne. get_or-set_other s.words (3 + d) (3 + c) n 0 (λ e. ne (omega arith)))
      (λ c ne. total_same (holds c) s.views id v w at refl)
      (λ c ne. total_same (owes c) s.views id v w at refl)
      lt is next (total_same (holds d) s.views id v w at refl) (total_same (owes d) s.views id v w at refl) in (
        w,
        keeps,
        tt,
        cell_step history live dying count s r id v at part d n v.holds v.owes (without d v.to_link) v.to_unlink l others.0 (λ _. ap (λ (k : Lists). record k { to_link = without d k.to_link }) known.3) others.1 (r.each id v at).once cells_after,
        (refl, held_fit, linked_fit v d fit v.holds v.owes, ap (λ c. holding v v.holds v.owes (without c v.to_link) v.to_unlink) (cell_of d)),
      )

  pub unlink_step : (slots id : ℕ) (me : M) (d : ℕ) → me.0.queued ≡ true → me.0.inside ≡ true → 0 < me.0.share → holds_fit me.0 ≡ true → lists_fit me.0 ≡ true → has d me.0.to_unlink ≡ 1
      → Allows R slots id me (3 + d) (λ n. (n + 18446744073709551615) % 18446744073709551616) (stays_inside unlinks (step slots (3 + d) 1 0 none) me)
  unlink_step slots id me d q here part held_fit fit left s r _ at small =
      let v = me.0 in
      let word : ℕ = get_or s.words (3 + d) 0 in
      let n : ℕ = (word + 18446744073709551615) % 18446744073709551616 in
      let known = (r.each id v at).inside here in
      let l : Lists = record r.lists { to_unlink = without d r.lists.to_unlink } in
      let is : has d r.lists.to_unlink ≡ 1 = ap (λ (k : Lists). has d k.to_unlink) (sym known.3) ∙ left in
      let cell = r.cells d in
      let a = cell.apart in
      let b = cell.linking in
      let u = cell.unlinking in
      let lt = listed history live dying count s r d (omega arith) in
      let old = cell.counted lt in
      let wide = r.wide in
      let next : get_or (set s.words (3 + d) n) (3 + d) 0 + 1 ≡ word = let e : get_or (set s.words (3 + d) n) (3 + d) 0 ≡ n = get_or-set_same s.words (3 + d) n 0 (omega arith) in omega arith in
      let mine = part_le (holds d) s.views id v at in
      let held_more : 0 < count_of (3 + d - 3) v.holds → word ≢ 1 = λ h e. let same : count_of (3 + d - 3) v.holds ≡ count_of d v.holds = ap (λ c. count_of c v.holds) (sym (cell_of d)) in omega arith in
      let others = nobody_else s r id v at q here l in
      let with_owed : (owed : List ℕ) → ((c : ℕ) → c ≢ d → count_of c owed ≡ count_of c v.owes) → (word ≡ 1 → count_of d owed ≡ count_of d v.owes + 1) → (word ≢ 1 → count_of d owed ≡ count_of d v.owes)
      → R record { words = set s.words (3 + d) n; homes = s.homes; views = set s.views id (holding v v.holds owed v.to_link (without d v.to_unlink)) } =
      λ owed same last more. let w = holding v v.holds owed v.to_link (without d v.to_unlink) in let sum = total_set (owes d) s.views id v w at in
      cell_step history live dying count s r id v at part d n v.holds owed v.to_link (without d v.to_unlink) l others.0 (λ _. ap (λ (k : Lists). record k { to_unlink = without d k.to_unlink }) known.3) others.1 (r.each id v at).once
      (cells_unlink count r.lists s.words (set s.words (3 + d) n) (λ c. total (holds c) s.views) (λ c. total (holds c) (set s.views id w)) (λ c. total (owes c) s.views) (λ c. total (owes c) (set s.views id w)) r.cells d
      (λ c ne. get_or-set_other s.words (3 + d) (3 + c) n 0 (λ e. ne (omega arith)))
      (λ c ne. total_same (holds c) s.views id v w at refl)
      (λ c ne. total_same (owes c) s.views id v w at (same c ne))
      lt is next (total_same (holds d) s.views id v w at refl)
      (λ e. let x = last e in omega arith) (λ ne. let x = more ne in omega arith)) in
      dite (ℕ_discrete word 1)
      (λ last. (
        holding v v.holds (v.owes ++ d ∷ []) v.to_link (without d v.to_unlink),
        keeps,
        tt,
        with_owed (v.owes ++ d ∷ []) (λ c ne. count_snoc_other d c v.owes ne) (λ _. count_snoc_here d v.owes) (λ no. absurd (no last)),
        (
          refl,
          held_fit,
          unlinked_fit v d fit v.holds (v.owes ++ d ∷ []),
          ((λ _. ap (λ c. holding v v.holds (v.owes ++ c ∷ []) v.to_link (without c v.to_unlink)) (cell_of d)), (λ no. absurd (no last)), held_more),
        ),
      ))
      (λ more. (
        holding v v.holds v.owes v.to_link (without d v.to_unlink),
        keeps,
        tt,
        with_owed v.owes (λ c ne. refl) (λ last. absurd (more last)) (λ _. refl),
        (
          refl,
          held_fit,
          unlinked_fit v d fit v.holds v.owes,
          ((λ last. absurd (more last)), (λ _. ap (λ c. holding v v.holds v.owes v.to_link (without c v.to_unlink)) (cell_of d)), held_more),
        ),
      ))

  pub get_step : (slots id : ℕ) (me : M) (d : ℕ) → me.0.queued ≡ true → me.0.inside ≡ true → 0 < me.0.share → holds_fit me.0 ≡ true → lists_fit me.0 ≡ true → has d me.0.live ≡ 1 → has d me.0.to_link ≡ 0 → count_of d me.0.holds ≡ 0
      → d < me.0.cells → Allows R slots id me (3 + d) (λ n. (n + 2) % 18446744073709551616) (stays_inside gets (step slots (3 + d) 2 0 none) me)
  get_step slots id me d q here part held_fit fit is_live linked free in_table s r _ at small =
      let v = me.0 in
      let w = holding v (v.holds ++ d ∷ []) v.owes v.to_link v.to_unlink in
      let word : ℕ = get_or s.words (3 + d) 0 in
      let n : ℕ = (word + 2) % 18446744073709551616 in
      let fits = r.each id v at in
      let known = fits.inside here in
      let is : has d r.lists.live ≡ 1 = ap (λ (k : Lists). has d k.live) (sym known.3) ∙ is_live in
      let was_linked : has d r.lists.to_link ≡ 0 = ap (λ (k : Lists). has d k.to_link) (sym known.3) ∙ linked in
      let cell = r.cells d in
      let a = cell.apart in
      let u = cell.unlinking in
      let lt = listed history live dying count s r d (omega arith) in
      let old = cell.counted lt in
      let few = total_le (holds d) share s.views (λ j x there. holds_share x (r.each j x there) d) in
      let all = r.shares in
      let wide = r.wide in
      let next : get_or (set s.words (3 + d) n) (3 + d) 0 ≡ word + 2 = get_or-set_same s.words (3 + d) n 0 (omega arith) ∙ omega arith in
      let sum = total_set (holds d) s.views id v w at in
      let one_more = count_snoc_here d v.holds in
      let cells_after : AreCells count r.lists (set s.words (3 + d) n) (λ c. total (holds c) (set s.views id w)) (λ c. total (owes c) (set s.views id w)) =
      cells_get count r.lists s.words (set s.words (3 + d) n) (λ c. total (holds c) s.views) (λ c. total (holds c) (set s.views id w)) (λ c. total (owes c) s.views) (λ c. total (owes c) (set s.views id w)) r.cells d
      (λ c ne. get_or-set_other s.words (3 + d) (3 + c) n 0 (λ e. ne (omega arith)))
      (λ c ne. total_same (holds c) s.views id v w at (count_snoc_other d c v.holds ne))
      (λ c ne. total_same (owes c) s.views id v w at refl)
      lt is was_linked next (omega arith) (total_same (owes d) s.views id v w at refl) in (
        w,
        keeps,
        tt,
        cell_step history live dying count s r id v at part d n (v.holds ++ d ∷ []) v.owes v.to_link v.to_unlink r.lists (λ _. refl) (λ _. known.3) (λ j x ne there inside. refl) (once_more d v.holds fits.once free) cells_after,
        (refl, got_fit v d held_fit in_table, fit, ap (λ c. holding v (v.holds ++ c ∷ []) v.owes v.to_link v.to_unlink) (cell_of d)),
      )

  pub give_step : (slots id : ℕ) (me : M) (d : ℕ) → 0 < me.0.share → holds_fit me.0 ≡ true → 0 < count_of d me.0.holds
      → Allows R slots id me (3 + d) (λ n. (n + 18446744073709551614) % 18446744073709551616) (stays_outside gives (step slots (3 + d) 2 0 none) me)
  give_step slots id me d part held_fit is s r _ at small =
      let v = me.0 in
      let word : ℕ = get_or s.words (3 + d) 0 in
      let n : ℕ = (word + 18446744073709551614) % 18446744073709551616 in
      let fits = r.each id v at in
      let once = fits.once d in
      let mine = part_le (holds d) s.views id v at in
      let cell = r.cells d in
      let known = cell.known (omega arith) in
      let lt = listed history live dying count s r d (omega arith) in
      let old = cell.counted lt in
      let unlinked : has d r.lists.to_link ≡ 0 = dite (ℕ_discrete (has d r.lists.to_link) 0) (λ e. e) (λ ne. let x = cell.fresh (omega arith) in absurd (omega arith)) in
      let wide = r.wide in
      let next : get_or (set s.words (3 + d) n) (3 + d) 0 + 2 ≡ word = let e : get_or (set s.words (3 + d) n) (3 + d) 0 ≡ n = get_or-set_same s.words (3 + d) n 0 (omega arith) in omega arith in
      let none_left = without_count d v.holds in
      let with_owed : (owed : List ℕ) → ((c : ℕ) → c ≢ d → count_of c owed ≡ count_of c v.owes) → (word ≡ 2 → count_of d owed ≡ count_of d v.owes + 1) → (word ≢ 2 → count_of d owed ≡ count_of d v.owes)
      → R record { words = set s.words (3 + d) n; homes = s.homes; views = set s.views id (holding v (without d v.holds) owed v.to_link v.to_unlink) } =
      λ owed same last more. let w = holding v (without d v.holds) owed v.to_link v.to_unlink in let sum = total_set (owes d) s.views id v w at in let less = total_set (holds d) s.views id v w at in
      cell_step history live dying count s r id v at part d n (without d v.holds) owed v.to_link v.to_unlink r.lists (λ _. refl) (λ inside. (fits.inside inside).3) (λ j x ne there inside. refl) (once_less d v.holds fits.once)
      (cells_give count r.lists s.words (set s.words (3 + d) n) (λ c. total (holds c) s.views) (λ c. total (holds c) (set s.views id w)) (λ c. total (owes c) s.views) (λ c. total (owes c) (set s.views id w)) r.cells d
      (λ c ne. get_or-set_other s.words (3 + d) (3 + c) n 0 (λ e. ne (omega arith)))
      (λ c ne. total_same (holds c) s.views id v w at (others_count d c v.holds ne))
      (λ c ne. total_same (owes c) s.views id v w at (same c ne))
      lt (omega arith) next (λ e. let x = last e in omega arith) (λ ne. let x = more ne in omega arith)) in
      dite (ℕ_discrete word 2)
      (λ last. (
        holding v (without d v.holds) (v.owes ++ d ∷ []) v.to_link v.to_unlink,
        keeps,
        tt,
        with_owed (v.owes ++ d ∷ []) (λ c ne. count_snoc_other d c v.owes ne) (λ _. count_snoc_here d v.owes) (λ no. absurd (no last)),
        (
          refl,
          given_fit v d held_fit,
          ((λ _. ap (λ c. holding v (without c v.holds) (v.owes ++ c ∷ []) v.to_link v.to_unlink) (cell_of d)), λ no. absurd (no last)),
        ),
      ))
      (λ more. (
        holding v (without d v.holds) v.owes v.to_link v.to_unlink,
        keeps,
        tt,
        with_owed v.owes (λ c ne. refl) (λ last. absurd (more last)) (λ _. refl),
        (
          refl,
          given_fit v d held_fit,
          ((λ last. absurd (more last)), λ _. ap (λ c. holding v (without c v.holds) v.owes v.to_link v.to_unlink) (cell_of d)),
        ),
      ))
