use Rattle.std.proofs.Common.{ℕ, ◌+◌, ◌/◌, List, length, arith, sym, ap, subst, ◌∙◌}
use Rattle.ov_aes.specs.Aes.{IsKeyLength}
use Rattle.ov_aes.specs.KeySchedule.{key_schedule}
use Rattle.ov_aes.specs.RoundKeys.{kept_keys, keys_of, HasKeys}
use Rattle.ov_aes.specs.Words.{words_of}
use Rattle.ov_aes.proofs.Schedules.{key_length}
use Rattle.ov_aes.proofs.KeptFacts.{has-keys}
use Rattle.ov_aes.proofs.key.AesKey.of.Goals as goal

pub invariant_of-result : goal.invariant_of-result
unfolding keys_of
invariant_of-result c =
    let now : List ℕ = c.bytes-bytes.result.now in
    let same = c.bytes-bytes.ensures.bytes in
    let back = sym same in
    let nr : ℕ = length now / 4 + 6 in
    let sizes = key_length (length now) c.bytes-bytes.ensures.length in
    let kept = c.kept_of-keys.ensures in (
      (λ t. kept_keys (words_of (back t)) (length (back t) / 4 + 6))
          ∙ ap (λ ws. kept_keys ws nr) c.expand.ensures.words ∙ kept,
      subst (λ k. HasKeys c.kept_of-keys.result (key_schedule k) (length k / 4 + 6)) same
          (has-keys c.expand.result c.kept_of-keys.result (key_schedule now) nr (length now + 28) c.expand.ensures.schedule
          (omega (arith, sizes.0)) (omega (arith, sizes.2)) kept),
      ap (λ k. length k / 4 + 6) back,
      subst (λ k. IsKeyLength (length k)) same c.bytes-bytes.ensures.length,
    )
