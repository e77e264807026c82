use Rattle.std.proofs.Common.{ℕ, ◌≡◌, ◌<◌, length, get_or, rules}
use Rattle.std.proofs.lemmas.Simd.{Each1-from_get_or}
use Rattle.ov_aes.proofs.cipher.vector_of.Goals as goal

pub returns-clause-bytes : goal.returns-clause-bytes
returns-clause-bytes c =
    let long : length c.args.bytes ≡ 16 = search rules in
    let small : (k : ℕ) → get_or c.args.bytes k 0 < 256 = search rules in
    (long, Each1-from_get_or (λ x. x < 256) c.args.bytes 0 (λ k below. small k))
