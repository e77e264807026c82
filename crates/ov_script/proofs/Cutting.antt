-- How bytes are cut, and where a byte of joined bytes stands.
use Rattle.std.proofs.Common.{◌≡◌, ◌≢◌, ◌∙◌, ℕ, zero, suc, ◌<◌, ◌==◌, ◌⊎◌, inl, inr, Bool, true, false, if◌then◌else◌, List, [], ◌∷◌, ◌++◌, length, refl, sym, ap, arith}
use Rattle.std.proofs.lemmas.Bool.{ne_eqb}
use Rattle.ov_script.specs.Reading.{Cut, cut, line_first, byte_first}
use Rattle.ov_script.specs.Steps.{NoEnd}

-- what the test of the first byte decides
cut_step : (b : ℕ) (bs : List ℕ) (t : Bool) → (b == 10) ≡ t → cut (b ∷ bs) ≡ (if t then line_first [] (cut bs) else byte_first b (cut bs).ended (cut bs).rest)
cut_step b bs t e = ap (λ (u : Bool). if u then line_first [] (cut bs) else byte_first b (cut bs).ended (cut bs).rest) e

-- Without a line end nothing is ended.
pub cut_none : (bs : List ℕ) → NoEnd bs → cut bs ≡ record { ended = []; rest = bs }
cut_none [] none = refl
cut_none (b ∷ bs) none = cut_step b bs false (ne_eqb b 10 none.0) ∙ ap (λ (c : Cut). byte_first b c.ended c.rest) (cut_none bs none.1)

-- Bytes without a line end behind others end no line more.
held_step : (b : ℕ) (t : Bool) (ended : List (List ℕ)) (rest behind : List ℕ)
    → (if t then line_first [] (record { ended = ended; rest = rest ++ behind }) else byte_first b ended (rest ++ behind))
    ≡ (let c : Cut = if t then record { ended = [] ∷ ended; rest = rest } else byte_first b ended rest in record { ended = c.ended; rest = c.rest ++ behind })
held_step b true ended rest behind = refl
held_step b false [] rest behind = refl
held_step b false (line ∷ others) rest behind = refl

pub cut_held : (bs part : List ℕ) → NoEnd part → cut (bs ++ part) ≡ record { ended = (cut bs).ended; rest = (cut bs).rest ++ part }
cut_held [] part none = cut_none part none
cut_held (b ∷ bs) part none =
    let t : Bool = b == 10 in
    ap (λ (c : Cut). if t then line_first [] c else byte_first b c.ended c.rest) (cut_held bs part none)
    ∙ held_step b t (cut bs).ended (cut bs).rest part

-- A line end behind bytes ends the line that they begin last.
end_step : (b : ℕ) (t : Bool) (ended : List (List ℕ)) (rest : List ℕ)
    → (if t then line_first [] (record { ended = ended ++ rest ∷ []; rest = [] }) else byte_first b (ended ++ rest ∷ []) [])
    ≡ (let c : Cut = if t then record { ended = [] ∷ ended; rest = rest } else byte_first b ended rest in record { ended = c.ended ++ c.rest ∷ []; rest = [] })
end_step b true ended rest = refl
end_step b false [] rest = refl
end_step b false (line ∷ others) rest = refl

pub cut_end : (bs : List ℕ) → cut (bs ++ 10 ∷ []) ≡ record { ended = (cut bs).ended ++ (cut bs).rest ∷ []; rest = [] }
cut_end [] = refl
cut_end (b ∷ bs) =
    let t : Bool = b == 10 in
    ap (λ (c : Cut). if t then line_first [] c else byte_first b c.ended c.rest) (cut_end bs)
    ∙ end_step b t (cut bs).ended (cut bs).rest

-- Bytes behind others are cut as those and what follows the last end of the others are.
on_step : (b : ℕ) (t : Bool) (ended : List (List ℕ)) (rest behind : List ℕ) → (b == 10) ≡ t
    → (if t then line_first [] (record { ended = ended ++ (cut (rest ++ behind)).ended; rest = (cut (rest ++ behind)).rest }) else byte_first b (ended ++ (cut (rest ++ behind)).ended) (cut (rest ++ behind)).rest)
    ≡ (let c : Cut = if t then record { ended = [] ∷ ended; rest = rest } else byte_first b ended rest in record { ended = c.ended ++ (cut (c.rest ++ behind)).ended; rest = (cut (c.rest ++ behind)).rest })
on_step b true ended rest behind e = refl
on_step b false [] rest behind e = sym (cut_step b (rest ++ behind) false e)
on_step b false (line ∷ others) rest behind e = refl

pub cut_on : (bs behind : List ℕ) → cut (bs ++ behind) ≡ record { ended = (cut bs).ended ++ (cut ((cut bs).rest ++ behind)).ended; rest = (cut ((cut bs).rest ++ behind)).rest }
cut_on [] behind = refl
cut_on (b ∷ bs) behind =
    let t : Bool = b == 10 in
    ap (λ (c : Cut). if t then line_first [] c else byte_first b c.ended c.rest) (cut_on bs behind)
    ∙ on_step b t (cut bs).ended (cut bs).rest behind refl

-- A byte of joined bytes stands in the first or in the second.
pub placed : (xs ys front : List ℕ) (byte : ℕ) (behind : List ℕ) → xs ++ ys ≡ front ++ byte ∷ behind
    → ((more : List ℕ) × (xs ≡ front ++ byte ∷ more)) ⊎ ((part : List ℕ) × (front ≡ xs ++ part) × (ys ≡ part ++ byte ∷ behind))
placed [] ys front byte behind is = inr (front, refl, is)
placed (x ∷ xs) ys [] byte behind is = let e : x ∷ xs ≡ byte ∷ xs = cc in inl (xs, e)
placed (x ∷ xs) ys (f ∷ front) byte behind is =
    let first : x ≡ f = cc in
    let others : xs ++ ys ≡ front ++ byte ∷ behind = cc in
    elim (placed xs ys front byte behind others) as (λ _. ((more : List ℕ) × (x ∷ xs ≡ f ∷ (front ++ byte ∷ more))) ⊎ ((part : List ℕ) × (f ∷ front ≡ x ∷ (xs ++ part)) × (ys ≡ part ++ byte ∷ behind))) [
      | inl p ↦ let e : x ∷ xs ≡ f ∷ (front ++ byte ∷ p.0) = cc in inl (p.0, e)
      | inr p ↦ let e : f ∷ front ≡ x ∷ (xs ++ p.0) = cc in inr (p.0, e, p.2)
    ]

-- No byte stands in none, and one byte in itself alone.
pub none_placed : (front : List ℕ) (byte : ℕ) (behind : List ℕ) → ¬ ([] ≡ front ++ byte ∷ behind)
none_placed [] byte behind is = cc
none_placed (f ∷ front) byte behind is = cc

pub one_placed : (b : ℕ) (front : List ℕ) (byte : ℕ) (behind : List ℕ) → b ∷ [] ≡ front ++ byte ∷ behind → (front ≡ []) × (byte ≡ b)
one_placed b [] byte behind is = (refl, cc)
one_placed b (f ∷ front) byte behind is = let others : [] ≡ front ++ byte ∷ behind = cc in absurd (none_placed front byte behind others)

-- Of bytes none of which ends a line those in front of one, and itself, don't.
pub no_end_front : (front : List ℕ) (byte : ℕ) (behind : List ℕ) → NoEnd (front ++ byte ∷ behind) → NoEnd front × (byte ≢ 10)
no_end_front [] byte behind none = (tt, none.0)
no_end_front (f ∷ front) byte behind none =
    let others = no_end_front front byte behind none.1 in ((none.0, others.0), others.1)

-- The byte behind the first so many.
pub record Place (bytes : List ℕ) (at : ℕ) : Type 0 where
  pub front : List ℕ
  pub byte : ℕ
  pub behind : List ℕ
  pub bytes_are : bytes ≡ front ++ byte ∷ behind
  pub size : length front ≡ at

pub place_of : (bytes : List ℕ) (at : ℕ) → at < length bytes → Place bytes at
place_of [] at within = absurd (omega arith)
place_of (b ∷ bytes) zero within = record { front = []; byte = b; behind = bytes; bytes_are = refl; size = refl }
place_of (b ∷ bytes) (suc at) within =
    let p = place_of bytes at (omega arith) in record { front = b ∷ p.front; byte = p.byte; behind = p.behind; bytes_are = ap (λ (bs : List ℕ). b ∷ bs) p.bytes_are; size = ap suc p.size }
