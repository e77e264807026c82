-- Passes are made: each is cut off what is left, and their shares and the rest's add up.
use Rattle.std.proofs.Common.{ℕ, suc, ◌≡◌, ◌+◌, ◌<◌, ◌≤◌, List, [], ◌∷◌, ◌++◌, length, length-append, refl, ap, ◌∙◌, subst, arith}
use Rattle.std.specs.Prelude.{map}
use Rattle.std.specs.List.{AllByRecursion}
use Rattle.ov_base.proofs.Sums.{total_append}
use Rattle.ov_model.specs.Own.{RiseFrom}
use Rattle.ov_replay.specs.Desk.{part_at}
use Rattle.ov_share.specs.Shares.{Common, Sharing, IsShareOf, IsBlank, HasEnough, IsCutOff}
use Rattle.ov_share.specs.Passings.{Passing}
use Rattle.ov_lane.specs.Passes.{Shared, IsPassOf, IsFree, HasNothing, IsFresh, AreFreshFrom, AreFresh, AreAllPasses}
use Rattle.ov_lane.specs.Inner.{IsRest, HaveShares, are_fresh}

-- ---- what is left

pub rest_new : (w : Common) (s : Sharing) → IsShareOf w s → IsBlank 4294967296 4294967296 4294967296 s → IsRest w 0 s
rest_new w s of blank = record {
  of = of;
  nothing = record {
    seen = ap (λ v. v.seen) blank.sight;
    own = ap (λ v. v.own) blank.sight;
    free = record { holds = ap (λ v. v.holds) blank.sight; owes = ap (λ v. v.owes) blank.sight };
    parts_seen = λ i lt. (blank.parts i lt).seen;
    parts_own = λ i lt. (blank.parts i lt).own;
    drawn = ap (λ d. d.drawn) blank.drawer;
    spent = ap (λ d. d.spent) blank.drawer;
  };
  table = (let all = ap (λ v. v.share) blank.sight in omega arith);
  parts = λ i lt. (let all = (blank.parts i lt).share_is in omega arith);
  counters = (let all = ap (λ d. d.share) blank.drawer in omega arith);
}

pub rest_enough : (w : Common) (n : ℕ) (s : Sharing) → n < 64 → IsRest w n s → HasEnough s
rest_enough w n s few rest = record {
  table = (let left = rest.table in omega arith);
  parts = λ i lt. (let left = rest.parts i lt in omega arith);
  counters = (let left = rest.counters in omega arith);
}

pub rest_cut : (w : Common) (n : ℕ) (s left right : Sharing) → IsRest w n s → IsShareOf w left → IsCutOff s left right → IsRest w (n + 1) left
rest_cut w n s left right rest of cut =
    let nothing = rest.nothing in
    record {
      of = of;
      nothing = record {
        seen = ap (λ v. v.seen) cut.left_sight ∙ nothing.seen;
        own = ap (λ v. v.own) cut.left_sight ∙ nothing.own;
        free = record { holds = ap (λ v. v.holds) cut.left_sight ∙ nothing.free.holds; owes = ap (λ v. v.owes) cut.left_sight ∙ nothing.free.owes };
        parts_seen = λ i lt. ap (λ p. p.seen) (cut.parts i lt).left_is ∙ nothing.parts_seen i lt;
        parts_own = λ i lt. ap (λ p. p.own) (cut.parts i lt).left_is ∙ nothing.parts_own i lt;
        drawn = ap (λ d. d.drawn) cut.left_drawer ∙ nothing.drawn;
        spent = ap (λ d. d.spent) cut.left_drawer ∙ nothing.spent;
      };
      table = (let was = rest.table in let less = cut.table in omega arith);
      parts = λ i lt. (let was = rest.parts i lt in let less = (cut.parts i lt).share in omega arith);
      counters = (let was = rest.counters in let less = cut.counters in omega arith);
    }

-- What was cut off has nothing.
pub cut_nothing : (s left right : Sharing) → HasNothing s → IsCutOff s left right → HasNothing right
cut_nothing s left right nothing cut = record {
  seen = ap (λ v. v.seen) cut.right_sight ∙ nothing.seen;
  own = ap (λ v. v.own) cut.right_sight;
  free = record { holds = ap (λ v. v.holds) cut.right_sight; owes = ap (λ v. v.owes) cut.right_sight };
  parts_seen = λ i lt. ap (λ p. p.seen) (cut.parts i lt).right_is ∙ nothing.parts_seen i lt;
  parts_own = λ i lt. ap (λ p. p.own) (cut.parts i lt).right_is;
  drawn = ap (λ d. d.drawn) cut.right_drawer;
  spent = ap (λ d. d.spent) cut.right_drawer;
}

-- ---- passes before their first lines

fresh_more : (o : Shared) (a : ℕ) (ps : List Passing) (p : Passing) → AreFreshFrom o a ps → IsFresh o (a + length ps) p → AreFreshFrom o a (ps ++ p ∷ [])
fresh_more o a [] p fresh one = (subst (λ k. IsFresh o k p) (let e : a + 0 ≡ a = omega arith in e) one, tt)
fresh_more o a (q ∷ ps) p fresh one = (fresh.0, fresh_more o (suc a) ps p fresh.1 (subst (λ k. IsFresh o k p) (let e : a + suc (length ps) ≡ suc a + length ps = omega arith in e) one))

fresh_routes : (o o' : Shared) (a : ℕ) (ps : List Passing) → o.words ≡ o'.words → AreFreshFrom o a ps → AreFreshFrom o' a ps
fresh_routes o o' a [] same fresh = tt
fresh_routes o o' a (p ∷ ps) same fresh =
    let is = fresh.0 in (
      record { of = subst (λ w. IsShareOf w p.share) same is.of; number_is = is.number_is; lines = is.lines; nothing = is.nothing },
      fresh_routes o o' (suc a) ps same fresh.1,
    )

fresh_of : (o : Shared) (a : ℕ) (ps : List Passing) → AreFreshFrom o a ps → AllByRecursion (IsPassOf o) ps
fresh_of o a [] fresh = tt
fresh_of o a (p ∷ ps) fresh = (fresh.0.of, fresh_of o (suc a) ps fresh.1)

fresh_free : (o : Shared) (a : ℕ) (ps : List Passing) → AreFreshFrom o a ps → AllByRecursion IsFree ps
fresh_free o a [] fresh = tt
fresh_free o a (p ∷ ps) fresh = (fresh.0.nothing.free, fresh_free o (suc a) ps fresh.1)

fresh_rise : (o : Shared) (b a : ℕ) (ps : List Passing) → b ≤ a → AreFreshFrom o a ps → RiseFrom b (map (λ p. p.number) ps)
fresh_rise o b a [] least fresh = tt
fresh_rise o b a (p ∷ ps) least fresh = (let its = fresh.0.number_is in omega arith, fresh_rise o (suc p.number) (suc a) ps (let its = fresh.0.number_is in omega arith) fresh.1)

-- One pass more was cut off.
pub dealt : (w : Common) (n : ℕ) (ps : List Passing) (s left right : Sharing) → are_fresh w ps → length ps ≡ n → HasNothing s → IsShareOf w right → IsCutOff s left right → are_fresh w (ps ++ record { number = n; lines = 0; share = right } ∷ [])
dealt w n ps s left right fresh long nothing of cut =
    fresh_more (record { words = w; routes = [] }) 0 ps _ fresh record { of = of; number_is = omega arith; lines = refl; nothing = cut_nothing s left right nothing cut }

pub shares_more : (n : ℕ) (ps : List Passing) (s left right : Sharing) → HaveShares n ps → IsCutOff s left right → HaveShares (n + 1) (ps ++ record { number = n; lines = 0; share = right } ∷ [])
shares_more n ps s left right have cut =
    let p : Passing = record { number = n; lines = 0; share = right } in
    record {
      table = (let was = have.table in let two = ap (λ v. v.share) cut.right_sight in omega (arith, total_append (λ (q : Passing). q.share.sight.share) ps (p ∷ [])));
      parts = λ i lt. (let was = have.parts i lt in let one = ap (λ q. q.share) (cut.parts i lt).right_is in omega (arith, total_append (λ (q : Passing). (part_at q.share.parts i).share) ps (p ∷ [])));
      counters = (let was = have.counters in let one = ap (λ d. d.share) cut.right_drawer in omega (arith, total_append (λ (q : Passing). q.share.drawer.share) ps (p ∷ [])));
    }

-- The last pass has what is left.
module _ (o : Shared) (last : ℕ) (ps : List Passing) (rest : Sharing) where
  abbrev pub all_dealt : List Passing
  all_dealt = ps ++ record { number = last; lines = 0; share = rest } ∷ []

  all_fresh : length ps ≡ last → are_fresh o.words ps → IsRest o.words last rest → AreFreshFrom o 0 all_dealt
  all_fresh long fresh is = fresh_more o 0 ps _ (fresh_routes (record { words = o.words; routes = [] }) o 0 ps refl fresh) record { of = is.of; number_is = omega arith; lines = refl; nothing = is.nothing }

  pub new_fresh : (count : ℕ) → last + 1 ≡ count → length ps ≡ last → are_fresh o.words ps → IsRest o.words last rest → AreFresh o count all_dealt
  new_fresh count all long fresh is = record {
    counted = (let both = length-append ps (record { number = last; lines = 0; share = rest } ∷ []) in omega arith);
    each = all_fresh long fresh is;
  }

  pub new_all : length ps ≡ last → are_fresh o.words ps → HaveShares last ps → IsRest o.words last rest → AreAllPasses o all_dealt
  new_all long fresh have is =
      let all = all_fresh long fresh is in
      let p : Passing = record { number = last; lines = 0; share = rest } in
      record {
        of = fresh_of o 0 all_dealt all;
        free = fresh_free o 0 all_dealt all;
        numbers = fresh_rise o 0 0 all_dealt (omega arith) all;
        table = (let was = have.table in let left = is.table in omega (arith, total_append (λ (q : Passing). q.share.sight.share) ps (p ∷ [])));
        parts = λ i lt. (let was = have.parts i lt in let left = is.parts i lt in omega (arith, total_append (λ (q : Passing). (part_at q.share.parts i).share) ps (p ∷ [])));
        counters = (let was = have.counters in let left = is.counters in omega (arith, total_append (λ (q : Passing). q.share.drawer.share) ps (p ∷ [])));
      }

-- ---- rooms

pub all_front : {X : Type 0} (P : X → Type 0) (xs ys : List X) → AllByRecursion P (xs ++ ys) → AllByRecursion P xs
all_front P [] ys all = tt
all_front P (x ∷ xs) ys all = (all.0, all_front P xs ys all.1)

pub all_within : {X : Type 0} (P : X → Type 0) (xs : List X) (y : X) (ys : List X) → AllByRecursion P (xs ++ y ∷ ys) → P y
all_within P [] y ys all = all.0
all_within P (x ∷ xs) y ys all = all_within P xs y ys all.1
