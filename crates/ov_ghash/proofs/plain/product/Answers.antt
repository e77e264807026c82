use Rattle.std.proofs.Common.{◌≡◌, ℕ, ◌+◌, ◌-◌, ◌/◌, ◌%◌, ◌^◌, bit_and, bit_xor, refl, sym, ap, ap₂, ◌∙◌, arith, add-one}
use Rattle.std.proofs.lemmas.Nat.{and_mask, shr-shr}
use Rattle.ov_ghash.specs.Block.{bits}
use Rattle.ov_ghash.specs.Turn.{turn, turns, horner}
use Rattle.ov_ghash.proofs.BitByBit.{horner-bit_set, horner-bit_clear}
use Rattle.ov_ghash.proofs.Field.{times-bits}
use Rattle.ov_ghash.proofs.plain.product.Goals as goal
use Rattle.ov_ghash.proofs.plain.product.Goals.{then-x-i-eq1, else-x-i-eq1}

pub each-init : goal.each-init
unfolding turns bits horner
each-init c = record { moved = refl; done = refl }

pub each-preserved : goal.each-preserved
unfolding turns
each-preserved c =
    let i : ℕ = c.each.i in
    let n : ℕ = c.args.x / 2 ^ (127 - i) in
    let y : ℕ = c.args.y in
    let place : 127 - i ≡ 128 - (i + 1) = omega arith in
    let half : n / 2 ≡ c.args.x / 2 ^ (128 - i) =
    let next : 127 - i + 1 ≡ 128 - i = omega (arith, c.each-test.true) in
    shr-shr c.args.x (127 - i) 1 ∙ ap (λ (k : ℕ). c.args.x / 2 ^ k) next in
    let before : c.each.z ≡ horner (bits i (n / 2)) y =
    c.each.invariant.done ∙ ap (λ (m : ℕ). horner (bits i m) y) (sym half) in
    let lowest : bit_and n 1 ≡ n % 2 = and_mask n 1 in
    let after : c.if-x-i-eq1.z ≡ horner (bits (i + 1) n) y =
    elim c.if-x-i-eq1.branch [
      | then-x-i-eq1 w ↦
          let set : n % 2 ≡ 1 = omega arith in
          w.z-is ∙ ap₂ bit_xor before c.each.invariant.moved ∙ sym (horner-bit_set i n y set)
      | else-x-i-eq1 w ↦
          let clear : n % 2 ≡ 0 = omega arith in
          w.z-is ∙ before ∙ sym (horner-bit_clear i n y clear)
    ] in
    record {
      moved = rw add-one (c.turned-v.ensures ∙ ap turn c.each.invariant.moved);
      done = after ∙ ap (λ (k : ℕ). horner (bits (i + 1) (c.args.x / 2 ^ k)) y) place;
    }

pub returns : goal.returns
returns c =
    let x : ℕ = c.args.x in
    let y : ℕ = c.args.y in
    let at_end : c.each.i ≡ 128 = omega arith in
    let whole : x / 1 ≡ x = omega arith in
    ap (bits 128)
    (c.each.invariant.done ∙ ap (λ (k : ℕ). horner (bits k (x / 2 ^ (128 - k))) y) at_end ∙ ap (λ (n : ℕ). horner (bits 128 n) y) whole)
    ∙ sym (times-bits (bits 128 x) y (omega arith))
