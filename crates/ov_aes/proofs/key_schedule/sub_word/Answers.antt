use Rattle.std.proofs.Common.{[], ◌∷◌, get_or, ◌∙◌}
use Rattle.ov_aes.specs.SBox.{sub_byte, sub_bytes}
use Rattle.ov_aes.proofs.key_schedule.sub_word.Goals as goal

pub returns : goal.returns
unfolding sub_bytes
returns c =
    let found = c.substituted.ensures in
    let bytes = c.to_be_bytes.ensures in
    c.word_of.ensures
    ∙ (λ t. get_or (found t) 0 0 ∷ get_or (found t) 1 0 ∷ get_or (found t) 2 0 ∷ get_or (found t) 3 0 ∷ [])
    ∙ (λ t. sub_byte (get_or (bytes t) 0 0) ∷ sub_byte (get_or (bytes t) 1 0) ∷ sub_byte (get_or (bytes t) 2 0) ∷ sub_byte (get_or (bytes t) 3 0) ∷ [])
