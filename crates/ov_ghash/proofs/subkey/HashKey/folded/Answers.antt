use Rattle.std.proofs.Common.{◌≡◌, ℕ, ◌<◌, length, get_or, sym, ap, ◌∙◌, rules}
use Rattle.std.specs.Int.{w128, to_be_bytes}
use Rattle.ov_ghash.specs.Ghash.{IsPrepared}
use Rattle.ov_ghash.proofs.Held.{ghash-more}
use Rattle.ov_ghash.proofs.RowFacts.{bytes-number_of}
use Rattle.ov_ghash.proofs.subkey.HashKey.folded.Goals as goal

pub returns : goal.returns
unfolding IsPrepared
returns c = λ h xs is so_far.
    let long_sum : length c.args.sum ≡ 16 = search rules in
    let long_block : length c.args.block ≡ 16 = search rules in
    let small_sum : (k : ℕ) → get_or c.args.sum k 0 < 256 = search rules in
    let small_block : (k : ℕ) → get_or c.args.block k 0 < 256 = search rules in
    let long_product : length c.multiplied.result ≡ 16 = search rules in
    let small_product : (k : ℕ) → get_or c.multiplied.result k 0 < 256 = search rules in
    ghash-more h c.args.sum c.args.block xs is.0 long_sum long_block small_sum small_block so_far
    ∙ ap (to_be_bytes w128) (sym (c.multiplied.ensures h is))
    ∙ bytes-number_of c.multiplied.result long_product small_product
