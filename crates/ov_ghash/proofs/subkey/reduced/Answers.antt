use Rattle.std.proofs.Common.{◌≡◌, ℕ, ◌<◌, length, get_or, bit_xor, sym, ap₂, ◌∙◌, rules}
use lib.Lanes.{zip2}
use Rattle.std.proofs.lemmas.Simd.{length-zip2}
use Rattle.ov_ghash.specs.Turn.{turns}
use Rattle.ov_ghash.proofs.RowFacts.{bytes_small, number_of-vector, zip2_small}
use Rattle.ov_ghash.proofs.Remainders.{remainder-is}
use Rattle.ov_ghash.proofs.subkey.reduced.Goals as goal

pub returns : goal.returns
returns c =
    let high = c.args.high in
    let low = c.args.low in
    let kept = c.parts_kept.result in
    let moved = c.moved.result in
    let long_kept : length kept ≡ 16 = search rules in
    let long_moved : length moved ≡ 16 = search rules in
    let long_sum : length (zip2 bit_xor high kept) ≡ 16 = length-zip2 bit_xor high kept (c.fits-high.0 ∙ sym long_kept) ∙ c.fits-high.0 in
    let small_high = bytes_small high c.fits-high.1 in
    let small_low = bytes_small low c.fits-low.1 in
    let small_kept : (k : ℕ) → get_or kept k 0 < 256 = search rules in
    let small_moved : (k : ℕ) → get_or moved k 0 < 256 = search rules in
    let small_sum = zip2_small high kept c.fits-high.0 long_kept small_high small_kept in
    number_of-vector (zip2 bit_xor (zip2 bit_xor high kept) moved) (zip2_small (zip2 bit_xor high kept) moved long_sum long_moved small_sum small_moved)
    ∙ remainder-is high low kept c.parts_passed.result moved c.fits-high.0 long_kept long_moved long_sum small_low c.requires c.parts_kept.ensures c.parts_passed.ensures c.moved.ensures.first c.moved.ensures.rest
    ∙ ap₂ (λ (a b : ℕ). bit_xor a (turns 128 b)) (sym (number_of-vector high small_high)) (sym (number_of-vector low small_low))
