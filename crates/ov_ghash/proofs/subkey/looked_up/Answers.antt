use Rattle.std.proofs.Common.{ℕ, ◌≡◌, ◌+◌, ◌*◌, ◌-◌, ◌/◌, ◌<◌, List, length, get_or, w8, refl, ap, ◌∙◌, arith}
use Rattle.std.proofs.lemmas.Simd.{SwzOk-from_below, get_or-swz_l_below, get_or-chunk, Each1-get_or}
use lib.Lanes.{chunk}
use Rattle.ov_ghash.proofs.subkey.looked_up.Goals as goal

pub swizzle : goal.swizzle
swizzle c = SwzOk-from_below w8 16 1 16 0 c.args.halves refl (omega (arith, c.fits-halves.0)) c.requires.halves

pub returns : goal.returns
returns c = λ k below.
    let start : ℕ = 16 * c.args.place in
    let tail : List ℕ = chunk start (256 - start) c.args.rows.now in
    let half : ℕ = get_or c.args.halves k 0 in
    let inside : k < length c.args.halves = omega (arith, c.fits-halves.0) in
    let small : half < 16 = Each1-get_or (λ x. x < 16) c.args.halves k 0 inside c.requires.halves in
    let here : 16 * ((0 + k) / 16) + half ≡ half = omega arith in
    get_or-swz_l_below w8 16 (chunk 0 16 tail) 0 c.args.halves k inside small
    ∙ ap (λ (x : ℕ). get_or (chunk 0 16 tail) x 0) here
    ∙ get_or-chunk 0 16 tail half 0 small
    ∙ ap (λ (x : ℕ). get_or tail x 0) (let e : 0 + half ≡ half = omega arith in e)
    ∙ get_or-chunk start (256 - start) c.args.rows.now half 0 (omega arith)
