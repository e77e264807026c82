use Rattle.std.proofs.Common.{ℕ, ◌≡◌, ◌+◌, ◌*◌, ◌-◌, List, get_or, ap, ◌∙◌, arith}
use Rattle.std.proofs.lemmas.Simd.{get_or-chunk}
use lib.Lanes.{chunk}
use Rattle.ov_aes.proofs.round_keys.kept_at.Goals as goal

pub returns : goal.returns
returns c = λ m below.
    let start : ℕ = 16 * c.args.r in
    let tail : List ℕ = chunk start (240 - start) c.args.keys.now in
    let here : 0 + m ≡ m = omega arith in
    get_or-chunk 0 16 tail m 0 below ∙ ap (λ (x : ℕ). get_or tail x 0) here
    ∙ get_or-chunk start (240 - start) c.args.keys.now m 0 (omega arith)
