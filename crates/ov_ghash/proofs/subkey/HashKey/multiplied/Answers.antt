use Rattle.std.proofs.Common.{◌≡◌, ℕ, ◌+◌, ◌*◌, List, length, get_or, bit_xor, refl, sym, ap, ap₂, ◌∙◌, arith, rules}
use lib.Lanes.{zip2}
use Rattle.std.proofs.lemmas.Simd.{get_or-zip2, length-zip2}
use Rattle.ov_ghash.specs.Block.{number_of}
use Rattle.ov_ghash.specs.Turn.{turn, turns}
use Rattle.ov_ghash.specs.Ghash.{IsPrepared, prepared}
use Rattle.ov_ghash.proofs.ByBytes.{by_bytes, by_bytes-more}
use Rattle.ov_ghash.proofs.RowFacts.{vector, row_of, row-more, rows-byte, rows-all, vector-row, number_of-vector, bytes_small, zeros, zeros-more}
use Rattle.ov_ghash.proofs.subkey.HashKey.multiplied.Goals as goal

pub each-init : goal.each-init
unfolding vector by_bytes turns turn
each-init c = record { start = λ at_start. refl; zeros = λ k past. zeros 16 k; done = λ h is. refl }

pub each-preserved : goal.each-preserved
unfolding IsPrepared prepared
each-preserved c =
    let place : ℕ = c.each.place in
    let block : List ℕ = c.args.block in
    let first : List ℕ = c.looked_up.result in
    let second : List ℕ = c.looked_up-in-each.result in
    let row : List ℕ = zip2 bit_xor first second in
    let long_first : length first ≡ 16 = search rules in
    let long_second : length second ≡ 16 = search rules in
    let long_next : length c.moved-next.result ≡ 16 = search rules in
    let long_moved : length c.moved.result ≡ 16 = search rules in
    let long_row : length row ≡ 16 = length-zip2 bit_xor first second (long_first ∙ sym long_second) ∙ long_first in
    let none : get_or c.each.low 15 0 ≡ 0 = c.each.invariant.zeros 15 (omega arith) in
    record {
      start = λ at_start. absurd (omega (arith, at_start));
      zeros =
          zeros-more c.moved-next.result c.each.low place (get_or c.each.high 15 0) long_next c.moved-next.ensures.first
          c.moved-next.ensures.rest c.each.invariant.start c.each.invariant.zeros;
      done = λ h is.
          let k : ℕ = number_of h in
          let prepared_is = sym is.1 in
          row-more row c.each.high c.each.low c.moved.result c.moved-next.result long_row long_moved c.moved.ensures.first
          c.moved.ensures.rest c.moved-next.ensures.first c.moved-next.ensures.rest none
          ∙ ap₂ (λ (a b : ℕ). bit_xor a (turns 8 b))
          (vector-row k place block row
          (λ i below.
          let small = bytes_small block c.fits-block.1 i in
          get_or-zip2 bit_xor first second i 0 0 0 (omega (arith, long_first)) (omega (arith, long_second))
          ∙ ap₂ bit_xor
          (c.looked_up.ensures i below ∙ (λ t. get_or ((prepared_is t).first) (16 * place + c.first_halves-firsts.ensures.halves i below t) 0))
          (c.looked_up-in-each.ensures i below ∙ (λ t. get_or ((prepared_is t).second) (16 * place + c.second_halves-seconds.ensures.halves i below t) 0))
          ∙ rows-byte k place (get_or block i 0) (omega arith) small))
          (c.each.invariant.done h is)
          ∙ sym (by_bytes-more place (row_of k block));
    }

pub reduced-requires : goal.reduced-requires
reduced-requires c = c.each.invariant.zeros 15 (omega arith)

pub returns : goal.returns
unfolding IsPrepared
returns c = λ h is.
    let all : c.each.place ≡ 16 = omega arith in
    c.reduced.ensures
    ∙ ap₂ (λ (a b : ℕ). bit_xor a (turns 128 b))
    (number_of-vector c.each.high (bytes_small c.each.high c.each.auto.high.1))
    (number_of-vector c.each.low (bytes_small c.each.low c.each.auto.low.1))
    ∙ c.each.invariant.done h is
    ∙ ap (λ (n : ℕ). by_bytes n (row_of (number_of h) c.args.block)) all
    ∙ rows-all (number_of h) c.args.block is.0 (bytes_small c.args.block c.fits-block.1)
