-- How the sum follows the blocks as they come.
use Rattle.std.proofs.Common.{◌≡◌, ℕ, ◌^◌, ◌<◌, List, [], ◌∷◌, ◌++◌, Bool, length, map, get_or, bit_xor, replicate, refl, sym, ap, ap₂, ◌∙◌, arith}
use Rattle.std.proofs.lemmas.Nat.{xor_lt}
use lib.Lanes.{zip2}
use Rattle.std.specs.Int.{w128, to_be_bytes}
use Rattle.std.proofs.lemmas.List.{map_push}
use Rattle.ov_ghash.specs.Block.{bits, number, number_of, polynomial, block_of, sum_of_powers, ghash}
use Rattle.ov_ghash.proofs.Turning.{horner-lt}
use Rattle.ov_ghash.proofs.BitLists.{number-bits}
use Rattle.ov_ghash.proofs.RowFacts.{number_of-lt, number_of-xor, number_of-bytes}
use Rattle.ov_ghash.specs.Turn.{horner}
use Rattle.ov_ghash.proofs.Field.{value_of, value_of-lt, value_of-bits, sum_of_powers-is, sum_of_powers-push, horner_comm}

pub sum_of_powers_more : (h sum n : ℕ) (xs : List (List Bool)) → h < 2 ^ 128 → sum < 2 ^ 128 → n < 2 ^ 128
    → sum_of_powers (bits 128 h) xs ≡ bits 128 sum
    → sum_of_powers (bits 128 h) (xs ++ bits 128 n ∷ []) ≡ bits 128 (horner (bits 128 (bit_xor sum n)) h)
sum_of_powers_more h sum n xs small_h small_sum small_n so_far =
    sum_of_powers-is (bits 128 h) (xs ++ bits 128 n ∷ [])
    ∙ ap (bits 128)
    (sum_of_powers-push (bits 128 h) xs (bits 128 n)
    ∙ ap₂ (λ (s x : ℕ). horner (bits 128 h) (bit_xor s x)) (ap value_of so_far ∙ value_of-bits sum small_sum) (value_of-bits n small_n)
    ∙ horner_comm h (bit_xor sum n) small_h (xor_lt 128 sum n small_sum small_n))

-- one block more, from the hash of those before it
pub ghash-more : (h sum block : List ℕ) (xs : List (List ℕ)) → number_of h < 2 ^ 128 → length sum ≡ 16 → length block ≡ 16
    → ((k : ℕ) → get_or sum k 0 < 256) → ((k : ℕ) → get_or block k 0 < 256) → ghash h xs ≡ sum
    → ghash h (xs ++ block ∷ []) ≡ to_be_bytes w128 (horner (bits 128 (number_of (zip2 bit_xor sum block))) (number_of h))
unfolding ghash block_of polynomial
ghash-more h sum block xs small long_sum long_block small_sum small_block so_far =
    let k : List Bool = bits 128 (number_of h) in
    let before : List (List Bool) = map polynomial xs in
    let s : List Bool = sum_of_powers k before in
    let v : ℕ = value_of s in
    let small_v : v < 2 ^ 128 = value_of-lt s in
    let s_is : s ≡ bits 128 v = sum_of_powers-is k before in
    let s_number : number s ≡ v = ap number s_is ∙ number-bits 128 v ∙ omega (arith, small_v) in
    let sum_is : number_of sum ≡ v = ap number_of (sym so_far ∙ ap (to_be_bytes w128) s_number) ∙ number_of-bytes v small_v in
    let n : ℕ = number_of block in
    let product : ℕ = horner (bits 128 (bit_xor (number_of sum) n)) (number_of h) in
    let small_product : product < 2 ^ 128 = horner-lt (bits 128 (bit_xor (number_of sum) n)) (number_of h) small in
    let after : sum_of_powers k (map polynomial (xs ++ block ∷ [])) ≡ bits 128 product =
    ap (sum_of_powers k) (map_push polynomial xs block)
    ∙ sum_of_powers_more (number_of h) (number_of sum) n before small (number_of-lt sum small_sum) (number_of-lt block small_block)
    (s_is ∙ ap (bits 128) (sym sum_is)) in
    ap (λ (p : List Bool). to_be_bytes w128 (number p)) after
    ∙ ap (to_be_bytes w128) (number-bits 128 product ∙ omega (arith, small_product)
    ∙ ap (λ (x : ℕ). horner (bits 128 x) (number_of h)) (sym (number_of-xor sum block long_sum long_block small_sum small_block)))

-- the hash of no block
pub ghash-none : (h : List ℕ) → ghash h [] ≡ replicate 16 0
unfolding ghash block_of number sum_of_powers
ghash-none h = refl
