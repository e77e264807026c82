-- Digits by lanes: what a lane computes is what its digit stands for, and pairs of lanes are the bytes.
use Rattle.std.proofs.Common.{◌^◌, ◌≡◌, ◌∙◌, ℕ, zero, suc, ◌+◌, ◌*◌, ◌<◌, ◌≤◌, ◌/◌, ◌%◌, cond, List, [], ◌∷◌, ◌++◌, length, get_or, Bool, true, false, Option, Some, None, inl, inr, Ok, refl, sym, ap, ap₂, subst, append_assoc, length-append, arith}
use Rattle.std.specs.Prelude.{map, unwrap_or}
use Rattle.std.specs.List.{range_with_len}
use Rattle.std.proofs.lemmas.Bool.{cases_eq}
use Rattle.std.proofs.lemmas.Simd.{mask_l-mod, length-zip2, tops_compared, zip2_splat, zip2_splat_left, pick_l_whole}
use Rattle.std.proofs.lemmas.List.{length-map, take_all, length-take-le, length-drop, take-append-drop}
use Rattle.std.proofs.lemmas.Bool.Decides.{nat_tests}
use lib.Dec.{ltb}
use lib.Lanes.{sel_l, Each1, mask_l, zip2, top, pick_l}
use lib.ListN.{take, drop, replicate}
use mir.Syntax.{w8}
use mir.Val.{Fits}
use Rattle.hex.specs.Hex.{hex_digit_value, decode_pairs, decode_of}
use Rattle.hex.proofs.HexLemmas.{decode_of-even}
use Rattle.ov_line.specs.Digits.{value_of, woven, AreJoined, AreDigits, ReadTo}

sel_maps : (p : ℕ → Bool) (f g : ℕ → ℕ) (vs : List ℕ) → sel_l (map p vs) (map f vs) (map g vs) ≡ map (λ v. cond (p v) (f v) (g v)) vs
sel_maps p f g [] = refl
sel_maps p f g (v ∷ vs) = ap (λ l. cond (p v) (f v) (g v) ∷ l) (sel_maps p f g vs)

-- A choice by lanes, where all was computed lane by lane from vs.
pub sel_of_maps : (p : ℕ → Bool) (f g : ℕ → ℕ) (vs : List ℕ) {ms : List Bool} {xs ys : List ℕ} → ms ≡ map p vs → xs ≡ map f vs → ys ≡ map g vs → sel_l ms xs ys ≡ map (λ v. cond (p v) (f v) (g v)) vs
sel_of_maps p f g vs hm hx hy = rw (hm, hx, hy) (sel_maps p f g vs)

-- Two functions that agree at each of n numbers from a on agree at each of them.
same_at : (f g : ℕ → ℕ) (a n : ℕ) → map f (range_with_len a n) ≡ map g (range_with_len a n) → (x : ℕ) → a ≤ x → x < a + n → f x ≡ g x
same_at f g a zero h x low high = absurd (omega arith)
same_at f g a (suc n) h x low high =
    elim (cases_eq x a) [
      | inl e ↦ rw e (ap (λ l. get_or l 0 0) h)
      | inr other ↦ same_at f g (a + 1) n (ap (λ l. drop 1 l) h) x (omega arith) (omega arith)
    ]

-- Two functions that agree at every byte agree at every lane.
pub lanes_same : (f g : ℕ → ℕ) (vs : List ℕ) → Each1 (Fits w8) vs → map f (range_with_len 0 256) ≡ map g (range_with_len 0 256) → map f vs ≡ map g vs
lanes_same f g [] h table = refl
lanes_same f g (v ∷ vs) h table = ap₂ (λ x xs. x ∷ xs) (same_at f g 0 256 table v (omega arith) (let b : v < 256 = h.0.fits in omega (arith, b))) (lanes_same f g vs h.1 table)

pub map_self : (vs : List ℕ) → vs ≡ map (λ x. x) vs
map_self [] = refl
map_self (v ∷ vs) = ap (λ l. v ∷ l) (map_self vs)

-- A digit whose value is below 16 is one.
is_digit : (o : Option ℕ) → unwrap_or o 255 < 16 → o ≡ Some (unwrap_or o 255)
is_digit None small = absurd (omega arith)
is_digit (Some v) small = refl

-- Digits are read as their bytes.
digits_read : (i : ℕ) (digits bytes : List ℕ) → AreDigits digits bytes → decode_pairs i digits ≡ Ok bytes
unfolding decode_pairs
digits_read i [] [] h = refl
digits_read i [] (b ∷ bs) h = absurd h
digits_read i (x ∷ []) bs h = absurd h
digits_read i (x ∷ y ∷ ds) [] h = absurd h
digits_read i (x ∷ y ∷ ds) (b ∷ bs) h =
    let rest = digits_read (i + 2) ds bs h.3 in
    rw (is_digit (hex_digit_value x) h.0, is_digit (hex_digit_value y) h.1, rest, h.2) refl

digits_even : (digits bytes : List ℕ) → AreDigits digits bytes → length digits % 2 ≡ 0
digits_even [] [] h = refl
digits_even [] (b ∷ bs) h = absurd h
digits_even (x ∷ []) bs h = absurd h
digits_even (x ∷ y ∷ ds) [] h = absurd h
digits_even (x ∷ y ∷ ds) (b ∷ bs) h = let rest = digits_even ds bs h.3 in omega (arith, rest)

pub digits_decode : (digits bytes : List ℕ) → AreDigits digits bytes → decode_of digits ≡ Ok bytes
digits_decode digits bytes h = decode_of-even digits (digits_even digits bytes h) ∙ digits_read 0 digits bytes h

-- The digits of joined values are those of the bytes.
pub woven_digits : (highs lows bytes : List ℕ) → AreJoined (map value_of highs) (map value_of lows) bytes → AreDigits (woven highs lows) bytes
woven_digits [] [] [] h = tt
woven_digits [] [] (b ∷ bs) h = absurd h
woven_digits [] (l ∷ ls) bs h = absurd h
woven_digits (x ∷ xs) [] bs h = absurd h
woven_digits (x ∷ xs) (l ∷ ls) [] h = absurd h
woven_digits (x ∷ xs) (l ∷ ls) (b ∷ bs) h = (h.0, h.1, h.2, woven_digits xs ls bs h.3)

-- Digits behind digits are those of bytes behind bytes.
pub digits_append : (ds xs es ys : List ℕ) → AreDigits ds xs → AreDigits es ys → AreDigits (ds ++ es) (xs ++ ys)
digits_append [] [] es ys h k = k
digits_append [] (x ∷ xs) es ys h k = absurd h
digits_append (d ∷ []) xs es ys h k = absurd h
digits_append (d ∷ e ∷ ds) [] es ys h k = absurd h
digits_append (d ∷ e ∷ ds) (x ∷ xs) es ys h k = (h.0, h.1, h.2, digits_append ds xs es ys h.3 k)

-- The first digits are those of the first bytes.
pub digits_front : (n : ℕ) (ds es bytes : List ℕ) → length ds ≡ 2 * n → AreDigits (ds ++ es) bytes → AreDigits ds (take n bytes)
digits_front zero [] es bytes len h = tt
digits_front zero (d ∷ ds) es bytes len h = absurd (omega arith)
digits_front (suc n) [] es bytes len h = absurd (omega arith)
digits_front (suc n) (d ∷ []) es bytes len h = absurd (omega arith)
digits_front (suc n) (d ∷ e ∷ ds) es [] len h = absurd h
digits_front (suc n) (d ∷ e ∷ ds) es (b ∷ bs) len h = (h.0, h.1, h.2, digits_front n ds es bs (omega arith) h.3)

pub read_none : (digits : List ℕ) → ReadTo digits digits []
read_none digits = record { done = []; digits_are = refl; read = tt }

pub read_more : (digits rest part next bytes more : List ℕ) → ReadTo digits rest bytes → rest ≡ part ++ next → AreDigits part more → ReadTo digits next (bytes ++ more)
read_more digits rest part next bytes more r e h = record {
  done = r.done ++ part;
  digits_are = r.digits_are ∙ ap (λ l. r.done ++ l) e ∙ sym (append_assoc r.done part next);
  read = digits_append r.done bytes part more r.read h;
}

pub read_all : (digits rest bytes last : List ℕ) → ReadTo digits rest bytes → AreDigits rest last → decode_of digits ≡ Ok (bytes ++ last)
read_all digits rest bytes last r h = rw r.digits_are (digits_decode (r.done ++ rest) (bytes ++ last) (digits_append r.done bytes rest last r.read h))

bit_clear : (b : Bool) (n : ℕ) → cond b 1 0 + 2 * n ≡ 0 → b ≡ false
bit_clear true n h = absurd (omega arith)
bit_clear false n h = refl

-- Where no bit of a mask is set, no lane passes the test.
pub none_set : (p : ℕ → Bool) (xs : List ℕ) → mask_l (map p xs) ≡ 0 → Each1 (λ x. p x ≡ false) xs
none_set p [] h = tt
none_set p (x ∷ xs) h = (bit_clear (p x) _ h, none_set p xs (omega arith))

-- What holds of each byte's two halves holds of all values below 16.
pub from_halves : (k : ℕ → ℕ → ℕ) → map (λ b. k (b / 16) (b % 16)) (range_with_len 0 256) ≡ map (λ b. b) (range_with_len 0 256) → (h l : ℕ) → h < 16 → l < 16 → k h l ≡ h * 16 + l
from_halves k table h l high low =
    let upper : (h * 16 + l) / 16 ≡ h = omega arith in
    let lower : (h * 16 + l) % 16 ≡ l = omega arith in
    rw (upper, lower) at (same_at (λ b. k (b / 16) (b % 16)) (λ b. b) 0 256 table (h * 16 + l) (omega arith) (omega arith))

sel_zip : (t : ℕ → ℕ → Bool) (hs ls : List ℕ) → sel_l (zip2 t ls hs) hs ls ≡ zip2 (λ h l. cond (t l h) h l) hs ls
sel_zip t [] [] = refl
sel_zip t [] (l ∷ ls) = refl
sel_zip t (h ∷ hs) [] = refl
sel_zip t (h ∷ hs) (l ∷ ls) = ap (λ xs. cond (t l h) h l ∷ xs) (sel_zip t hs ls)

-- Whether one number is above another, as lanes are compared.
abbrev above : ℕ → ℕ → Bool
above a b = ltb b a

both_small : (h l : ℕ) → above (cond (above h l) h l) 15 ≡ false → (h < 16) × (l < 16)
both_small h l e = grind (arith, nat_tests)

lanes_joined : (f g : ℕ → ℕ → ℕ) → ((h l : ℕ) → h < 16 → l < 16 → f (g h 4) l ≡ h * 16 + l)
    → (hs ls : List ℕ) → length hs ≡ length ls → Each1 (λ x. above x 15 ≡ false) (zip2 (λ h l. cond (above h l) h l) hs ls) → AreJoined hs ls (zip2 f (map (λ h. g h 4) hs) ls)
lanes_joined f g byte [] [] len each = tt
lanes_joined f g byte [] (l ∷ ls) len each = absurd (omega arith)
lanes_joined f g byte (h ∷ hs) [] len each = absurd (omega arith)
lanes_joined f g byte (h ∷ hs) (l ∷ ls) len each =
    let both = both_small h l each.0 in
    (both.0, both.1, byte h l both.0 both.1, lanes_joined f g byte hs ls (omega arith) each.1)

-- Where no lane's greater value is above 15, the two of each lane are the halves of its byte.
pub halves_joined : (f g : ℕ → ℕ → ℕ) (hs ls : List ℕ) → length hs ≡ 16 → length ls ≡ 16
    → map (λ b. f (g (b / 16) 4) (b % 16)) (range_with_len 0 256) ≡ map (λ b. b) (range_with_len 0 256)
    → mask_l (map (top 7) (zip2 (λ a b. cond (ltb a b) 255 0) (replicate 16 15) (sel_l (map (top 7) (zip2 (λ a b. cond (ltb a b) 255 0) ls hs)) hs ls))) % 2 ^ 64 ≡ 0
    → AreJoined hs ls (zip2 f (zip2 g hs (replicate 16 4)) ls)
halves_joined f g hs ls high low table mask =
    let m : ℕ → ℕ → ℕ = λ h l. cond (above h l) h l in
    let greater : sel_l (map (top 7) (zip2 (λ a b. cond (ltb a b) 255 0) ls hs)) hs ls ≡ zip2 m hs ls = ap (λ ms. sel_l ms hs ls) (tops_compared w8 ltb ls hs) ∙ sel_zip ltb hs ls in
    let long : length (zip2 m hs ls) ≡ 16 = length-zip2 m hs ls (high ∙ sym low) ∙ high in
    let marks : map (top 7) (zip2 (λ a b. cond (ltb a b) 255 0) (replicate 16 15) (zip2 m hs ls)) ≡ map (λ x. above x 15) (zip2 m hs ls) =
    tops_compared w8 ltb (replicate 16 15) (zip2 m hs ls) ∙ zip2_splat_left ltb 15 16 (zip2 m hs ls) long in
    let P : List ℕ → Type 0 = λ xs. mask_l (map (top 7) (zip2 (λ a b. cond (ltb a b) 255 0) (replicate 16 15) xs)) % 2 ^ 64 ≡ 0 in
    let few : length (map (λ x. above x 15) (zip2 m hs ls)) ≤ 64 = let n = length-map (zip2 m hs ls) (λ x. above x 15) in omega (arith, n, long) in
    let clear : mask_l (map (λ x. above x 15) (zip2 m hs ls)) ≡ 0 = sym (mask_l-mod _ 64 few) ∙ ap (λ ms. mask_l ms % 2 ^ 64) (sym marks) ∙ subst P greater mask in
    let Q : List ℕ → Type 0 = λ up. AreJoined hs ls (zip2 f up ls) in
    subst Q (sym (zip2_splat g hs 16 4 high)) (lanes_joined f g (from_halves (λ h l. f (g h 4) l) table) hs ls (high ∙ sym low) (none_set (λ x. above x 15) (zip2 m hs ls) clear))

-- All places of two halves, in order, are the whole.
pub whole_of : (xs : List ℕ) → length xs ≡ 32 → pick_l 0 (take 16 (take 16 xs) ++ take 16 (take 16 (drop 16 xs))) (range_with_len 0 32) ≡ xs
whole_of xs len =
    let front : take 16 (take 16 xs) ≡ take 16 xs = take_all 16 _ (let t = length-take-le 16 xs (omega arith) in omega (arith, t)) in
    let back : take 16 (take 16 (drop 16 xs)) ≡ drop 16 xs =
    let d = length-drop 16 xs in
    ap (take 16) (take_all 16 (drop 16 xs) (omega (arith, d))) ∙ take_all 16 (drop 16 xs) (omega (arith, d)) in
    rw (front, back, take-append-drop 16 xs) (pick_l_whole 0 xs 32 len)

-- With the last digits, which others were put behind, all are read.
pub read_last : (digits rest others bytes last : List ℕ) → length digits % 2 ≡ 0 → ReadTo digits rest bytes → AreDigits (rest ++ others) last → decode_of digits ≡ Ok (bytes ++ take (length rest / 2) last)
read_last digits rest others bytes last even r h =
    let front : length r.done % 2 ≡ 0 = digits_even r.done bytes r.read in
    let sum : length digits ≡ length r.done + length rest = ap length r.digits_are ∙ length-append r.done rest in
    read_all digits rest bytes (take (length rest / 2) last) r (digits_front (length rest / 2) rest others last (omega (arith, even, front, sum)) h)
