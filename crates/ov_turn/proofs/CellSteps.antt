-- What each step does to the cells, on numbers alone.
use Rattle.std.proofs.Common.{◌≡◌, ◌≢◌, ℕ, ◌+◌, ◌<◌, ◌≤◌, List, [], slice_index, refl, sym, ap, subst, arith}
use mathlib.Core.Logic.{dite}
use native.Mathlib.Decide.{ℕ_discrete, dec_lt}
use Rattle.ov_base.specs.Sums.{count_of}
use Rattle.ov_turn.specs.Lists.{has, newly, still, without}
use Rattle.ov_turn.specs.Views.{Lists}
use Rattle.ov_turn.specs.HoldRule.{IsCell, AreCells, MayBecome}
use Rattle.ov_turn.proofs.Members.{newly_old, newly_new, still_in, still_out, without_has, others_has}

-- One cell.
module _ {count c live dying to_link to_unlink word held owed : ℕ} (k : IsCell count c live dying to_link to_unlink word held owed) where
  -- the same numbers under other names
  pub like_cell : {live' dying' to_link' to_unlink' word' held' owed' : ℕ} → live' ≡ live → dying' ≡ dying → to_link' ≡ to_link → to_unlink' ≡ to_unlink → word' ≡ word → held' ≡ held → owed' ≡ owed
      → IsCell count c live' dying' to_link' to_unlink' word' held' owed'
  like_cell e1 e2 e3 e4 e5 e6 e7 = record {
    counted = λ lt. omega (arith, k.counted lt);
    apart = omega (arith, k.apart);
    linking = omega (arith, k.linking);
    unlinking = omega (arith, k.unlinking);
    small = λ le. omega (arith, k.small le);
    known = λ h. omega (arith, k.known (omega arith));
    fresh = λ h. omega (arith, k.fresh (omega arith));
    owed_one = λ d w. omega (arith, k.owed_one (omega arith) (omega arith));
    owed_none = λ h. let q = k.owed_none (omega arith) in (omega arith, omega arith);
  }

  -- no cell is owed twice
  pub owed_le : owed ≤ 1
  owed_le = dite (ℕ_discrete owed 0) (λ e. omega arith) (λ n. let o = k.owed_none (omega arith) in omega (arith, k.owed_one o.0 o.1))

  -- 0 becomes 1
  pub link_cell : {to_link' word' : ℕ} → c < count → to_link ≡ 1 → to_link' ≡ 0 → word' ≡ word + 1 → IsCell count c live dying to_link' to_unlink word' held owed
  link_cell lt is gone next = let none = k.fresh (omega arith) in let q = k.counted lt in let a = k.apart in let b = k.linking in let u = k.unlinking in record {
    counted = λ _. omega arith;
    apart = k.apart;
    linking = omega arith;
    unlinking = k.unlinking;
    small = k.small;
    known = k.known;
    fresh = λ h. absurd (omega arith);
    owed_one = λ d w. absurd (omega arith);
    owed_none = λ h. let o = k.owed_none h in absurd (omega arith);
  }

  -- one less, and 0 is owed
  pub unlink_cell : {to_unlink' word' owed' : ℕ} → c < count → to_unlink ≡ 1 → to_unlink' ≡ 0 → word' + 1 ≡ word → (word ≡ 1 → owed' ≡ owed + 1) → (word ≢ 1 → owed' ≡ owed) → IsCell count c live dying to_link to_unlink' word' held owed'
  unlink_cell lt is gone next one more = let q = k.counted lt in let a = k.apart in let b = k.linking in let u = k.unlinking in let none : owed ≡ 0 = nothing_owed (omega arith) in record {
    counted = λ _. omega arith;
    apart = k.apart;
    linking = k.linking;
    unlinking = omega arith;
    small = k.small;
    known = k.known;
    fresh = k.fresh;
    owed_one = λ d w. let o = one (omega arith) in omega arith;
    owed_none = λ h. dite (ℕ_discrete word 1) (λ e. (omega arith, omega arith)) (λ n. let o = more n in absurd (omega arith));
  }
    where
      nothing_owed : 0 < word → owed ≡ 0
      nothing_owed h = dite (ℕ_discrete owed 0) (λ e. e) (λ n. let o = k.owed_none (omega arith) in absurd (omega arith))

  -- two more
  pub get_cell : {word' held' : ℕ} → c < count → live ≡ 1 → to_link ≡ 0 → word' ≡ word + 2 → held' ≡ held + 1 → IsCell count c live dying to_link to_unlink word' held' owed
  get_cell lt is linked next one = let q = k.counted lt in let a = k.apart in let u = k.unlinking in record {
    counted = λ _. omega arith;
    apart = k.apart;
    linking = k.linking;
    unlinking = k.unlinking;
    small = k.small;
    known = λ _. omega arith;
    fresh = λ h. absurd (omega arith);
    owed_one = λ d w. absurd (omega arith);
    owed_none = λ h. let o = k.owed_none h in absurd (omega arith);
  }

  -- two less, and 0 is owed
  pub give_cell : {word' held' owed' : ℕ} → c < count → held' + 1 ≡ held → word' + 2 ≡ word → (word ≡ 2 → owed' ≡ owed + 1) → (word ≢ 2 → owed' ≡ owed) → IsCell count c live dying to_link to_unlink word' held' owed'
  give_cell lt one next last more = let q = k.counted lt in let a = k.apart in let b = k.linking in let u = k.unlinking in let here = k.known (omega arith) in let none : owed ≡ 0 = nothing_owed (omega arith) in record {
    counted = λ _. omega arith;
    apart = k.apart;
    linking = k.linking;
    unlinking = k.unlinking;
    small = k.small;
    known = λ _. here;
    fresh = λ h. let f = k.fresh h in absurd (omega arith);
    owed_one = λ d w. let o = last (omega arith) in omega arith;
    owed_none = λ h. dite (ℕ_discrete word 2) (λ e. (last_dying e, omega arith)) (λ n. let o = more n in absurd (omega arith));
  }
    where
      nothing_owed : 0 < word → owed ≡ 0
      nothing_owed h = dite (ℕ_discrete owed 0) (λ e. e) (λ n. let o = k.owed_none (omega arith) in absurd (omega arith))

      last_dying : word ≡ 2 → dying ≡ 1
      last_dying e = let q = k.counted lt in let here = k.known (omega arith) in dite (ℕ_discrete to_link 0) (λ z. omega arith) (λ n. let f = k.fresh (omega arith) in absurd (omega arith))

  -- an entry more
  pub append_cell : {live' dying' to_link' to_unlink' owed' mine : ℕ} → to_link ≡ 0 → to_unlink ≡ 0 → mine ≤ owed
      → live' + dying' ≤ 1
      → (live' ≡ 1 → live ≡ 0 → (c < count) × (dying ≡ 0)) → (dying' ≡ 1 → dying ≡ 0 → live ≡ 1) → (live ≡ 1 → live' ≡ 0 → dying' ≡ 1) → (dying ≡ 1 → dying' ≡ 0 → 0 < mine)
      → (live ≡ 0 → to_link' ≡ live') → (live ≡ 1 → to_link' ≡ 0) → (dying ≡ 0 → to_unlink' ≡ dying') → (dying ≡ 1 → to_unlink' ≡ 0)
      → (dying' ≡ 1 → owed' ≡ owed) → (dying' ≡ 0 → owed' + mine ≡ owed)
      → IsCell count c live' dying' to_link' to_unlink' word held owed'
  append_cell {live'} {dying'} {to_link'} {to_unlink'} {owed'} {mine} z1 z2 part apart to_live to_dying from_live from_dying link_new link_old unlink_new unlink_old stay go =
      dite (ℕ_discrete dying 1) was_dying (λ nd. dite (ℕ_discrete live 1) was_live (λ nl. was_neither (omega (arith, k.apart)) (omega (arith, k.apart))))
    where
      nothing_owed : dying ≡ 0 → owed ≡ 0
      nothing_owed d = dite (ℕ_discrete owed 0) (λ e. e) (λ n. let o = k.owed_none (omega arith) in absurd (omega arith))

      was_dying : dying ≡ 1 → IsCell count c live' dying' to_link' to_unlink' word held owed'
      was_dying d =
          let a = k.apart in
          let l : live ≡ 0 = omega arith in
          let u = unlink_old d in
          let not_live : live' ≡ 0 = dite (ℕ_discrete live' 0) (λ e. e) (λ n. let t = to_live (omega arith) l in absurd (omega arith)) in
          let t = link_new l in
          dite (ℕ_discrete dying' 1)
          (λ d'. let o = stay d' in record {
            counted = λ lt. omega (arith, k.counted lt);
            apart = apart;
            linking = omega arith;
            unlinking = omega arith;
            small = λ le. omega (arith, k.small le);
            known = λ h. omega arith;
            fresh = λ h. absurd (omega arith);
            owed_one = λ _ w. omega (arith, k.owed_one d w);
            owed_none = λ h. (d', (k.owed_none (omega arith)).1);
          })
          (λ nd'. let d' : dying' ≡ 0 = omega arith in let o = go d' in let m = from_dying d d' in
          let at_0 = k.owed_none (omega arith) in let one = k.owed_one d at_0.1 in
          let small : c < count = dite (dec_lt c count) (λ h. h) (λ n. let z = k.small (omega arith) in absurd (omega arith)) in
          let w = k.counted small in
          record {
            counted = λ lt. omega arith;
            apart = apart;
            linking = omega arith;
            unlinking = omega arith;
            small = λ le. omega arith;
            known = λ h. absurd (omega arith);
            fresh = λ h. absurd (omega arith);
            owed_one = λ x _. absurd (omega arith);
            owed_none = λ h. absurd (omega arith);
          })

      was_live : live ≡ 1 → IsCell count c live' dying' to_link' to_unlink' word held owed'
      was_live l =
          let a = k.apart in
          let d : dying ≡ 0 = omega arith in
          let none : owed ≡ 0 = nothing_owed d in
          let t = link_old l in
          let u = unlink_new d in
          dite (ℕ_discrete live' 1)
          (λ l'. let d' : dying' ≡ 0 = omega arith in let o = go d' in record {
            counted = λ lt. omega (arith, k.counted lt);
            apart = apart;
            linking = omega arith;
            unlinking = omega arith;
            small = λ le. omega (arith, k.small le);
            known = λ h. omega arith;
            fresh = λ h. absurd (omega arith);
            owed_one = λ x _. absurd (omega arith);
            owed_none = λ h. absurd (omega arith);
          })
          (λ nl'. let l' : live' ≡ 0 = omega arith in let d' = from_live l l' in let o = stay d' in
          let small : c < count = dite (dec_lt c count) (λ h. h) (λ n. let z = k.small (omega arith) in absurd (omega arith)) in
          let w = k.counted small in
          record {
            counted = λ lt. omega arith;
            apart = apart;
            linking = omega arith;
            unlinking = omega arith;
            small = λ le. absurd (omega arith);
            known = λ h. omega arith;
            fresh = λ h. absurd (omega arith);
            owed_one = λ _ x. absurd (omega arith);
            owed_none = λ h. absurd (omega arith);
          })

      was_neither : live ≡ 0 → dying ≡ 0 → IsCell count c live' dying' to_link' to_unlink' word held owed'
      was_neither l d =
          let none : owed ≡ 0 = nothing_owed d in
          let t = link_new l in
          let u = unlink_new d in
          let not_dying : dying' ≡ 0 = dite (ℕ_discrete dying' 0) (λ e. e) (λ n. let x = to_dying (omega arith) d in absurd (omega arith)) in
          let o = go not_dying in
          let free : held ≡ 0 = dite (ℕ_discrete held 0) (λ e. e) (λ n. let x = k.known (omega arith) in absurd (omega arith)) in
          dite (ℕ_discrete live' 1)
          (λ l'. let x = to_live l' l in let lt = x.0 in let w = k.counted lt in record {
            counted = λ _. omega arith;
            apart = apart;
            linking = omega arith;
            unlinking = omega arith;
            small = λ le. absurd (omega arith);
            known = λ h. omega arith;
            fresh = λ h. free;
            owed_one = λ x _. absurd (omega arith);
            owed_none = λ h. absurd (omega arith);
          })
          (λ nl'. let l' : live' ≡ 0 = omega arith in record {
            counted = λ lt. omega (arith, k.counted lt);
            apart = apart;
            linking = omega arith;
            unlinking = omega arith;
            small = λ le. omega arith;
            known = λ h. absurd (omega arith);
            fresh = λ h. absurd (omega arith);
            owed_one = λ x _. absurd (omega arith);
            owed_none = λ h. absurd (omega arith);
          })

-- All cells.
at_cell : (P : ℕ → Type 0) (d : ℕ) → P d → ((c : ℕ) → c ≢ d → P c) → (c : ℕ) → P c
at_cell P d here there c = dite (ℕ_discrete c d) (λ e. subst P (sym e) here) (λ n. there c n)

module _ (count : ℕ) (l : Lists) (words words' : List ℕ) (held held' owed owed' : ℕ → ℕ) (k : AreCells count l words held owed) where
  pub cells_stay : ((c : ℕ) → slice_index words' (3 + c) ≡ slice_index words (3 + c)) → ((c : ℕ) → held' c ≡ held c) → ((c : ℕ) → owed' c ≡ owed c) → AreCells count l words' held' owed'
  cells_stay w h o c = like_cell (k c) refl refl refl refl (w c) (h c) (o c)

  -- everything but the cell d stays
  module _ (d : ℕ) (w : (c : ℕ) → c ≢ d → slice_index words' (3 + c) ≡ slice_index words (3 + c)) (h : (c : ℕ) → c ≢ d → held' c ≡ held c) (o : (c : ℕ) → c ≢ d → owed' c ≡ owed c) where
    pub cells_link : d < count → has d l.to_link ≡ 1 → slice_index words' (3 + d) ≡ slice_index words (3 + d) + 1 → held' d ≡ held d → owed' d ≡ owed d
        → AreCells count record l { to_link = without d l.to_link } words' held' owed'
    cells_link lt is next hd od =
        at_cell (λ c. IsCell count c (has c l.live) (has c l.dying) (has c (without d l.to_link)) (has c l.to_unlink) (slice_index words' (3 + c)) (held' c) (owed' c)) d
        (like_cell (link_cell (k d) lt is (without_has d l.to_link) next) refl refl refl refl refl hd od)
        (λ c n. like_cell (k c) refl refl (others_has d c l.to_link n) refl (w c n) (h c n) (o c n))

    pub cells_unlink : d < count → has d l.to_unlink ≡ 1 → slice_index words' (3 + d) + 1 ≡ slice_index words (3 + d) → held' d ≡ held d
        → (slice_index words (3 + d) ≡ 1 → owed' d ≡ owed d + 1) → (slice_index words (3 + d) ≢ 1 → owed' d ≡ owed d)
        → AreCells count record l { to_unlink = without d l.to_unlink } words' held' owed'
    cells_unlink lt is next hd last more =
        at_cell (λ c. IsCell count c (has c l.live) (has c l.dying) (has c l.to_link) (has c (without d l.to_unlink)) (slice_index words' (3 + c)) (held' c) (owed' c)) d
        (let a = unlink_cell (k d) lt is (without_has d l.to_unlink) next last more in like_cell a refl refl refl refl refl hd refl)
        (λ c n. like_cell (k c) refl refl refl (others_has d c l.to_unlink n) (w c n) (h c n) (o c n))

    pub cells_get : d < count → has d l.live ≡ 1 → has d l.to_link ≡ 0 → slice_index words' (3 + d) ≡ slice_index words (3 + d) + 2 → held' d ≡ held d + 1 → owed' d ≡ owed d → AreCells count l words' held' owed'
    cells_get lt is linked next hd od =
        at_cell (λ c. IsCell count c (has c l.live) (has c l.dying) (has c l.to_link) (has c l.to_unlink) (slice_index words' (3 + c)) (held' c) (owed' c)) d
        (let a = get_cell (k d) lt is linked next hd in like_cell a refl refl refl refl refl refl od)
        (λ c n. like_cell (k c) refl refl refl refl (w c n) (h c n) (o c n))

    pub cells_give : d < count → held' d + 1 ≡ held d → slice_index words' (3 + d) + 2 ≡ slice_index words (3 + d)
        → (slice_index words (3 + d) ≡ 2 → owed' d ≡ owed d + 1) → (slice_index words (3 + d) ≢ 2 → owed' d ≡ owed d)
        → AreCells count l words' held' owed'
    cells_give lt one next last more =
        at_cell (λ c. IsCell count c (has c l.live) (has c l.dying) (has c l.to_link) (has c l.to_unlink) (slice_index words' (3 + c)) (held' c) (owed' c)) d
        (give_cell (k d) lt one next last more)
        (λ c n. like_cell (k c) refl refl refl refl (w c n) (h c n) (o c n))

  -- an entry more, by a seat that owes the releases `mine`
  pub cells_append : (mine live' dying' : List ℕ) → l.to_link ≡ [] → l.to_unlink ≡ [] → MayBecome count l.live l.dying mine live' dying'
      → ((c : ℕ) → slice_index words' (3 + c) ≡ slice_index words (3 + c)) → ((c : ℕ) → held' c ≡ held c)
      → ((c : ℕ) → count_of c mine ≤ owed c) → ((c : ℕ) → owed' c + count_of c mine ≡ owed c + count_of c (still dying' mine))
      → AreCells count record { live = live'; dying = dying'; to_link = newly l.live live'; to_unlink = newly l.dying dying' } words' held' owed'
  cells_append mine live' dying' z1 z2 may w h part o c =
      let a = append_cell (k c) {live' = has c live'} {dying' = has c dying'} {to_link' = has c (newly l.live live')} {to_unlink' = has c (newly l.dying dying')} {owed' = owed' c} {mine = count_of c mine}
      (ap (has c) z1) (ap (has c) z2) (part c) (may.apart c) (may.to_live c) (may.to_dying c) (may.from_live c) (may.from_dying c)
      (newly_new c l.live live') (newly_old c l.live live') (newly_new c l.dying dying') (newly_old c l.dying dying')
      (λ d. let s = still_in c dying' mine d in let q = o c in omega arith)
      (λ d. let s = still_out c dying' mine d in let q = o c in omega arith) in
      like_cell a refl refl refl refl (w c) (h c) refl

-- At the beginning.
pub cells_open : (count : ℕ) (l : Lists) (words : List ℕ) (held owed : ℕ → ℕ) → l.live ≡ [] → l.dying ≡ [] → l.to_link ≡ [] → l.to_unlink ≡ []
    → ((c : ℕ) → slice_index words (3 + c) ≡ 0) → ((c : ℕ) → held c ≡ 0) → ((c : ℕ) → owed c ≡ 0) → AreCells count l words held owed
cells_open count l words held owed e1 e2 e3 e4 w h o c =
    let a = ap (has c) e1 in
    let b = ap (has c) e2 in
    let d = ap (has c) e3 in
    let e = ap (has c) e4 in
    let x = w c in
    let y = h c in
    let z = o c in
    record {
      counted = λ _. omega arith;
      apart = omega arith;
      linking = omega arith;
      unlinking = omega arith;
      small = λ _. omega arith;
      known = λ p. absurd (omega arith);
      fresh = λ p. absurd (omega arith);
      owed_one = λ p _. absurd (omega arith);
      owed_none = λ p. absurd (omega arith);
    }

-- A dying cell is held or owed, however many do.
pub dying_cell : (count : ℕ) (l : Lists) (words : List ℕ) (held owed : ℕ → ℕ) → AreCells count l words held owed → l.to_unlink ≡ [] → l.to_link ≡ [] → (c : ℕ) → has c l.dying ≡ 1 → 0 < held c + owed c
dying_cell count l words held owed k z1 z2 c d =
    let q = k c in
    let a = q.apart in
    let u = ap (has c) z1 in
    let t = ap (has c) z2 in
    let small : c < count = dite (dec_lt c count) (λ h. h) (λ n. let z = q.small (omega arith) in absurd (omega arith)) in
    let w = q.counted small in
    dite (ℕ_discrete (slice_index words (3 + c)) 0) (λ e. let o = q.owed_one d e in omega arith) (λ n. omega arith)
