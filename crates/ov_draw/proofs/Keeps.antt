-- Each step keeps the draw rule, and tells its caller what its clause says.
use Rattle.std.proofs.Common.{◌≡◌, ◌≢◌, ℕ, zero, suc, ◌+◌, ◌%◌, ◌<◌, ◌≤◌, min, List, [], ◌∷◌, ◌++◌, replicate, get_or, set, sym, refl, ap, ◌∙◌, subst, ⊎_elim, arith, length-set, get_or-set_same, get_or-set_other}
use Rattle.std.specs.Prelude.{None, Some, Contains}
use Rattle.std.proofs.lemmas.List.{set-get_or, length-replicate, get_or-replicate}
use Rattle.std.proofs.lemmas.List.Elements.{Contains-push_cases, Contains-append_cases}
use Rattle.std.proofs.Math.ListN.{get_or-eq_default}
use mathlib.Core.Logic.{dite}
use mathlib.Core.Option.{none, some, some-injective, some-ne-none}
use native.Mathlib.Decide.{ℕ_discrete, dec_le}
use lib.ListN.{get_elem?}
use Rattle.atomic_table.specs.Table.{State, step, keeps, stepped, opening, Allows, Splits, Joins}
use Rattle.atomic_table.proofs.Lists.{set_else, set_again}
use Rattle.ov_base.specs.Sums.{total, between}
use Rattle.ov_base.proofs.Sums.{total_set, total_snoc, part_le, total_le, alone, each_set, each_snoc, between_le, between_is, between_out}
use Rattle.ov_draw.specs.Drawer.{times, IsAbove, IsEnded}
use Rattle.ov_draw.specs.Rule.{share, draws_of, stands_in, stands_at, Fits, Kept}
use Rattle.ov_draw.specs.Steps.{Sat, whole, with_standing, with_draw, with_spent, kept_part, new_part, both_parts, spent_part, looked, took, compared, settled}
use Rattle.ov_draw.specs.declared.hand.Hand.{Hand}
use Rattle.ov_draw.proofs.Counts.{times-append, times-here, times-elsewhere, between-min_more, between-min_ended, stands_in-here, stands_in-elsewhere, stands_in-le}

abbrev St : Type 0
St = State (Unit {0}) Hand

-- one more spent key
ended_more : (words : List ℕ) (spent : List ℕ) (i : ℕ) → ((k : ℕ) → Contains spent k → 4294967296 ≤ get_or words k 0) → 4294967296 ≤ get_or words i 0
    → (k : ℕ) → Contains (spent ++ i ∷ []) k → 4294967296 ≤ get_or words k 0
ended_more words spent i old at k in_it =
    ⊎_elim (λ h. old k h) (λ same. subst (λ (j : ℕ). 4294967296 ≤ get_or words j 0) same at) (Contains-push_cases spent i k in_it)

-- where all seats' shares are 4294967296, no more stand at a word
stands-le : (first : ℕ) (words : List ℕ) (views : List Hand) (k : ℕ) → ((id : ℕ) (v : Hand) → get_elem? views id ≡ some v → Fits first words v) → total (stands_at k) views ≤ total share views
stands-le first words views k each = total_le (stands_at k) share views (λ id v at. stands_in-le k v.standing v.share (λ z. ((each id v at).left z).2))

module _ (first count : ℕ) where
  -- A load writes the word back.
  loaded : (s : St) (i id : ℕ) (m : Sat) (w : Hand) → Kept first count record { words = s.words; homes = s.homes; views = set s.views id w }
      → Kept first count (stepped s i (get_or s.words i 0) id m.1 w keeps)
  loaded s i id m w kept = rw (set-get_or s.words i 0) kept

  spends : (s : St) (r : Kept first count s) (id i : ℕ) (v : Hand) → get_elem? s.views id ≡ some v → v.standing ≡ None → 0 < v.share → 4294967296 ≤ get_or s.words i 0
      → Kept first count record { words = s.words; homes = s.homes; views = set s.views id (with_spent v i) }
  spends s r id i v at free live ended =
      let w : Hand = with_spent v i in
      let old : Fits first s.words v = r.each id v at in
      let stays : (k : ℕ) → stands_at k w ≡ stands_at k v = λ k. ap (stands_in k) (sym free) in record {
        wide = r.wide;
        low = r.low;
        shares = omega (arith, total_set share s.views id v w at, r.shares);
        once = λ k n. omega (arith, total_set (draws_of k n) s.views id v w at, r.once k n);
        room = λ k. omega (arith, total_set (stands_at k) s.views id v w at, stays k, r.room k);
        each = each_set (Fits first s.words) s.views id w record { left = λ z. absurd (omega arith); begins = old.begins; ended = ended_more s.words v.spent i old.ended ended } r.each;
      }

  stands : (s : St) (r : Kept first count s) (id i : ℕ) (v : Hand) → get_elem? s.views id ≡ some v → v.standing ≡ None → 0 < v.share → get_or s.words i 0 < 4294967296
      → Kept first count record { words = s.words; homes = s.homes; views = set s.views id (with_standing v i) }
  stands s r id i v at free live left =
      let w : Hand = with_standing v i in
      let old : Fits first s.words v = r.each id v at in
      let shares' : total share (set s.views id w) ≡ 4294967296 = omega (arith, total_set share s.views id v w at, r.shares) in
      let each' = each_set (Fits first s.words) s.views id w record { left = λ z. absurd (omega arith); begins = old.begins; ended = old.ended } r.each in
      let here : get_or s.words i 0 + total (stands_at i) (set s.views id w) ≤ 8589934591 = omega (arith, stands-le first s.words (set s.views id w) i each', shares') in record {
        wide = r.wide;
        low = r.low;
        shares = shares';
        once = λ k n. omega (arith, total_set (draws_of k n) s.views id v w at, r.once k n);
        room = λ k. dite (ℕ_discrete i k)
            (λ same. subst (λ (j : ℕ). get_or s.words j 0 + total (stands_at j) (set s.views id w) ≤ 8589934591) same here)
            (λ ne.
            let before : stands_at k v ≡ 0 = ap (stands_in k) free in
            let after : stands_at k w ≡ 0 = stands_in-elsewhere i k ne in
            omega (arith, total_set (stands_at k) s.views id v w at, r.room k));
        each = each';
      }

  pub looks : (slots id : ℕ) (me : Sat) (i : ℕ) → me.0.standing ≡ None → 0 < me.0.share
      → Allows (Kept first count) slots id me i (λ n. n) (looked (step slots i 0 0 none) me)
  looks slots id me i free live s r _ at _ = dite (dec_le 4294967296 (get_or s.words i 0))
      (λ ended. (with_spent me.0 i, keeps, tt, loaded s i id me (with_spent me.0 i) (spends s r id i me.0 at free live ended), (refl, (λ lt. absurd (omega arith)), λ _. refl)))
      (λ more.
      let left : get_or s.words i 0 < 4294967296 = omega arith in
      (with_standing me.0 i, keeps, tt, loaded s i id me (with_standing me.0 i) (stands s r id i me.0 at free live left), (refl, (λ _. refl), λ le. absurd (more le))))

  -- an addition raises one word by one
  raised : (s : St) → Kept first count s → (i k : ℕ) → i < count → k ≢ i → get_or (set s.words i (get_or s.words i 0 + 1)) k 0 ≡ get_or s.words k 0
  raised s r i k below ne = get_or-set_other s.words i k (get_or s.words i 0 + 1) 0 ne

  raised_here : (s : St) → Kept first count s → (i : ℕ) → i < count → get_or (set s.words i (get_or s.words i 0 + 1)) i 0 ≡ get_or s.words i 0 + 1
  raised_here s r i below = get_or-set_same s.words i (get_or s.words i 0 + 1) 0 (omega (arith, r.wide))

  not_less : (s : St) → Kept first count s → (i k : ℕ) → i < count → get_or s.words k 0 ≤ get_or (set s.words i (get_or s.words i 0 + 1)) k 0
  not_less s r i k below = dite (ℕ_discrete k i)
      (λ same. subst (λ (j : ℕ). get_or s.words j 0 ≤ get_or (set s.words i (get_or s.words i 0 + 1)) j 0) (sym same) (omega (arith, raised_here s r i below)))
      (λ ne. omega (arith, raised s r i k below ne))

  fits_on : (s : St) → Kept first count s → (i : ℕ) → i < count → (v : Hand) → Fits first s.words v → Fits first (set s.words i (get_or s.words i 0 + 1)) v
  fits_on s r i below v old = record {
    left = old.left;
    begins = old.begins;
    ended = λ k in_it. omega (arith, old.ended k in_it, not_less s r i k below);
  }

  -- the addition, for a view that gains `gain` of each id of the key
  adds : (s : St) (r : Kept first count s) (id i : ℕ) (v w : Hand) → get_elem? s.views id ≡ some v → i < count → v.standing ≡ Some i → w.standing ≡ None → w.share ≡ v.share
      → ((n : ℕ) → times i n w.drawn + between first (min (get_or s.words i 0) 4294967296) n ≡ times i n v.drawn + between first (min (get_or s.words i 0 + 1) 4294967296) n)
      → ((k n : ℕ) → k ≢ i → times k n w.drawn ≡ times k n v.drawn)
      → Fits first (set s.words i (get_or s.words i 0 + 1)) w
      → Kept first count record { words = set s.words i (get_or s.words i 0 + 1); homes = s.homes; views = set s.views id w }
  adds s r id i v w at below standing free same_share gains stays fits =
      let words' : List ℕ = set s.words i (get_or s.words i 0 + 1) in
      let here : get_or words' i 0 ≡ get_or s.words i 0 + 1 = raised_here s r i below in
      let one : stands_at i v ≡ 1 = ap (stands_in i) standing ∙ stands_in-here i in
      let none_left : (k : ℕ) → stands_at k w ≡ 0 = λ k. ap (stands_in k) free in
      let once_here : (n : ℕ) → total (draws_of i n) (set s.views id w) ≡ between first (min (get_or words' i 0) 4294967296) n =
      λ n. rw here (omega (arith, total_set (draws_of i n) s.views id v w at, r.once i n, gains n)) in
      let room_here : get_or words' i 0 + total (stands_at i) (set s.views id w) ≤ 8589934591 =
      rw here (omega (arith, total_set (stands_at i) s.views id v w at, r.room i, one, none_left i)) in record {
        wide = length-set s.words i (get_or s.words i 0 + 1) ∙ r.wide;
        low = λ k lt. omega (arith, r.low k lt, not_less s r i k below);
        shares = omega (arith, total_set share s.views id v w at, r.shares, same_share);
        once = λ k n. dite (ℕ_discrete k i)
            (λ same. subst (λ (j : ℕ). total (draws_of j n) (set s.views id w) ≡ between first (min (get_or words' j 0) 4294967296) n) (sym same) (once_here n))
            (λ ne. rw (raised s r i k below ne) (omega (arith, total_set (draws_of k n) s.views id v w at, r.once k n, stays k n ne)));
        room = λ k. dite (ℕ_discrete k i)
            (λ same. subst (λ (j : ℕ). get_or words' j 0 + total (stands_at j) (set s.views id w) ≤ 8589934591) (sym same) room_here)
            (λ ne. rw (raised s r i k below ne) (omega (arith, total_set (stands_at k) s.views id v w at, r.room k, none_left k)));
        each = each_set (Fits first words') s.views id w fits (λ j u there. fits_on s r i below u (r.each j u there));
      }

  -- no word wraps at an addition
  fits_word : (s : St) (r : Kept first count s) (id i : ℕ) (v : Hand) → get_elem? s.views id ≡ some v → v.standing ≡ Some i → get_or s.words i 0 + 1 ≡ (get_or s.words i 0 + 1) % 18446744073709551616
  fits_word s r id i v at standing =
      let one : stands_at i v ≡ 1 = ap (stands_in i) standing ∙ stands_in-here i in
      let part = part_le (stands_at i) s.views id v at in
      let room = r.room i in
      omega arith

  added : (s : St) (r : Kept first count s) (id i : ℕ) (m : Sat) (w : Hand) → get_elem? s.views id ≡ some m.0 → m.0.standing ≡ Some i
      → Kept first count record { words = set s.words i (get_or s.words i 0 + 1); homes = s.homes; views = set s.views id w }
      → Kept first count (stepped s i ((get_or s.words i 0 + 1) % 18446744073709551616) id m.1 w keeps)
  added s r id i m w at standing kept = subst (λ (x : ℕ). Kept first count record { words = set s.words i x; homes = s.homes; views = set s.views id w }) (fits_word s r id i m.0 at standing) kept

  -- an id in a seat's draws is below the word
  is_above : (s : St) (r : Kept first count s) (id i : ℕ) (v : Hand) → get_elem? s.views id ≡ some v → IsAbove i (get_or s.words i 0) v.drawn
  is_above s r id i v at m some_of =
      let part = part_le (draws_of i m) s.views id v at in
      let once = r.once i m in
      let is = between_is first (min (get_or s.words i 0) 4294967296) m (omega arith) in
      omega arith

  draws : (s : St) (r : Kept first count s) (id i : ℕ) (v : Hand) → get_elem? s.views id ≡ some v → i < count → v.standing ≡ Some i → 0 < v.share → get_or s.words i 0 < 4294967296
      → Kept first count record { words = set s.words i (get_or s.words i 0 + 1); homes = s.homes; views = set s.views id (with_draw v i (get_or s.words i 0)) }
  draws s r id i v at below standing live left =
      let x : ℕ = get_or s.words i 0 in
      let old : Fits first s.words v = r.each id v at in
      let fits = fits_on s r i below v old in
      adds s r id i v (with_draw v i x) at below standing refl refl
      (λ n. omega (arith, times-here i x n v.drawn, between-min_more first x n (r.low i below) left))
      (λ k n ne. times-elsewhere i k x n v.drawn (λ h. ne (sym h)))
      record { left = λ z. absurd (omega arith); begins = old.begins; ended = fits.ended }

  ends : (s : St) (r : Kept first count s) (id i : ℕ) (v : Hand) → get_elem? s.views id ≡ some v → i < count → v.standing ≡ Some i → 0 < v.share → 4294967296 ≤ get_or s.words i 0
      → Kept first count record { words = set s.words i (get_or s.words i 0 + 1); homes = s.homes; views = set s.views id (with_spent v i) }
  ends s r id i v at below standing live ended =
      let x : ℕ = get_or s.words i 0 in
      let old : Fits first s.words v = r.each id v at in
      let fits = fits_on s r i below v old in
      adds s r id i v (with_spent v i) at below standing refl refl
      (λ n. omega (arith, between-min_ended first x n ended))
      (λ k n ne. refl)
      record { left = λ z. absurd (omega arith); begins = old.begins; ended = ended_more (set s.words i (x + 1)) v.spent i fits.ended (omega (arith, raised_here s r i below)) }

  pub takes : (slots id : ℕ) (me : Sat) (i : ℕ) → i < count → me.0.standing ≡ Some i → 0 < me.0.share
      → Allows (Kept first count) slots id me i (λ n. (n + 1) % 18446744073709551616) (took (step slots i 1 0 none) me)
  takes slots id me i below standing live s r _ at _ = dite (dec_le 4294967296 (get_or s.words i 0))
      (λ ended. (with_spent me.0 i, keeps, tt, added s r id i me (with_spent me.0 i) at standing (ends s r id i me.0 at below standing live ended), (refl, (λ lt. absurd (omega arith)), λ _. refl)))
      (λ more.
      let left : get_or s.words i 0 < 4294967296 = omega arith in
      let begins = (r.each id me.0 at).begins live in (
        with_draw me.0 i (get_or s.words i 0),
        keeps,
        tt,
        added s r id i me (with_draw me.0 i (get_or s.words i 0)) at standing (draws s r id i me.0 at below standing live left),
        (refl, (λ _. (refl, omega (arith, r.low i below), is_above s r id i me.0 at)), λ le. absurd (more le)),
      ))

  -- a load that changes no view
  unmoved : (s : St) (r : Kept first count s) (id i : ℕ) (me : Sat) → get_elem? s.views id ≡ some me.0 → Kept first count (stepped s i (get_or s.words i 0) id me.1 me.0 keeps)
  unmoved s r id i me at = loaded s i id me me.0 (rw (set_again s.views id me.0 at) r)

  pub compares : (slots id : ℕ) (me : Sat) (i : ℕ) → Allows (Kept first count) slots id me i (λ n. n) (compared (step slots i 0 0 none) me)
  compares slots id me i s r _ at _ = (
    me.0,
    keeps,
    tt,
    unmoved s r id i me at,
    (
      refl,
      λ k x.
          omega (arith, part_le (draws_of k x) s.views id me.0 at, r.once k x, between_le first (min (get_or s.words k 0) 4294967296) x),
    ),
  )

  -- only a seat with a share has draws
  left_none : (s : St) (r : Kept first count s) (k n j : ℕ) (u : Hand) → get_elem? s.views j ≡ some u → share u ≡ 0 → draws_of k n u ≡ 0
  left_none s r k n j u there z = ap (times k n) ((r.each j u there).left z).0

  all_drawn : (s : St) (r : Kept first count s) (id : ℕ) (v : Hand) → get_elem? s.views id ≡ some v → v.share ≡ 4294967296 → IsEnded v.first v.drawn v.spent
  all_drawn s r id v at all k =
      let begins : v.first ≡ first = (r.each id v at).begins (omega arith) in
      let end : ℕ = min (get_or s.words k 0) 4294967296 in (
        end,
        omega arith,
        (λ n.
            let mine = alone (draws_of k n) share s.views id v (left_none s r k n) at (r.shares ∙ sym all) in
            rw begins (sym mine ∙ r.once k n)),
        (λ in_it. omega (arith, (r.each id v at).ended k in_it)),
      )

  pub settles : (slots id : ℕ) (me : Sat) (i : ℕ) → me.0.share ≡ 4294967296 → Allows (Kept first count) slots id me i (λ n. n) (settled (step slots i 0 0 none) me)
  settles slots id me i all s r _ at _ = (me.0, keeps, tt, unmoved s r id i me at, (refl, all_drawn s r id me.0 at all))

  pub splits : (id : ℕ) (v : Hand) → 2 ≤ v.share → Splits (Kept first count) id v (kept_part v) (new_part v)
  splits id v two s r at =
      let w : Hand = kept_part v in
      let u : Hand = new_part v in
      let old : Fits first s.words v = r.each id v at in record {
        wide = r.wide;
        low = r.low;
        shares = omega (arith, total_snoc share (set s.views id w) u, total_set share s.views id v w at, r.shares);
        once = λ k n. omega (arith, total_snoc (draws_of k n) (set s.views id w) u, total_set (draws_of k n) s.views id v w at, r.once k n);
        room = λ k. omega (arith, total_snoc (stands_at k) (set s.views id w) u, total_set (stands_at k) s.views id v w at, r.room k);
        each = each_snoc (Fits first s.words) (set s.views id w) u
            record { left = λ z. (refl, refl, refl); begins = λ _. old.begins (omega arith); ended = λ k in_it. absurd (omega (arith, in_it.1)) }
            (each_set (Fits first s.words) s.views id w record { left = λ z. absurd (omega arith); begins = λ _. old.begins (omega arith); ended = old.ended } r.each);
      }

  pub joins : (id : ℕ) (v : Hand) (other : ℕ) (w : Hand) → 0 < v.share → Joins (Kept first count) id v other w (both_parts v w) spent_part
  joins id v other w live s r at apart there =
      let b : Hand = both_parts v w in
      let views' : List Hand = set s.views id b in
      let mine : Fits first s.words v = r.each id v at in
      let theirs : Fits first s.words w = r.each other w (sym (set_else s.views id other b apart) ∙ there) in record {
        wide = r.wide;
        low = r.low;
        shares = omega (arith, total_set share views' other w spent_part there, total_set share s.views id v b at, r.shares);
        once = λ k n. omega (arith, total_set (draws_of k n) views' other w spent_part there, total_set (draws_of k n) s.views id v b at, r.once k n, times-append k n v.drawn w.drawn);
        room = λ k. omega (arith, total_set (stands_at k) views' other w spent_part there, total_set (stands_at k) s.views id v b at, r.room k);
        each = each_set (Fits first s.words) views' other spent_part
            record { left = λ z. (refl, refl, refl); begins = λ lt. absurd (omega arith); ended = λ k in_it. absurd (omega (arith, in_it.1)) }
            (each_set (Fits first s.words) s.views id b
            record { left = λ z. absurd (omega arith); begins = λ _. mine.begins live; ended = λ k in_it. ⊎_elim (λ h. mine.ended k h) (λ h. theirs.ended k h) (Contains-append_cases v.spent w.spent k in_it) }
            r.each);
      }

  started : (words : List ℕ) (id : ℕ) (v : Hand) → get_elem? (whole first ∷ []) id ≡ some v → Fits first words v
  started words zero v at = subst (Fits first words) (some-injective (whole first) v at) record { left = λ z. absurd (omega arith); begins = λ _. refl; ended = λ k in_it. absurd (omega (arith, in_it.1)) }
  started words (suc id) v at = absurd (some-ne-none v (sym at))

  -- counters that all begin at `first`
  opened_word : first < 4294967296 → (k : ℕ) → get_or (replicate count first) k 0 ≤ first
  opened_word small k = dite (dec_le count k)
      (λ past. rw (get_or-eq_default (replicate count first) 0 {n = k} (omega (arith, length-replicate count first))) (omega arith))
      (λ within. rw (get_or-replicate count k first 0 (omega arith)) (omega arith))

  pub opens : 1 ≤ first → first < 4294967296 → Kept first count (opening {S = Unit {0}} (replicate count first) [] (whole first))
  opens one small =
      let words : List ℕ = replicate count first in record {
        wide = length-replicate count first;
        low = λ k lt. rw (get_or-replicate count k first 0 lt) (omega arith);
        shares = refl;
        once = λ k n. sym (between_out first (min (get_or words k 0) 4294967296) n (λ le. omega (arith, opened_word small k)));
        room = λ k. omega (arith, opened_word small k);
        each = started words;
      }
