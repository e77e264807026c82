use Rattle.std.proofs.Common.{[], ◌∷◌, ◌∙◌}
use Rattle.ov_aes.specs.Field.{plus}
use Rattle.ov_aes.specs.SBox.{sub_bytes}
use Rattle.ov_aes.specs.KeySchedule.{round_constant}
use Rattle.ov_aes.proofs.Bytes.{to_be_bytes-xor}
use Rattle.ov_aes.proofs.key_schedule.turned.Goals as goal

pub returns : goal.returns
returns c =
    to_be_bytes-xor c.sub_word.result c.word_of.result
    ∙ (λ t. plus (c.sub_word.ensures t) (c.word_of.ensures t))
    ∙ (λ t. plus (sub_bytes (c.word_of-moved.ensures t)) (c.power.ensures t ∷ 0 ∷ 0 ∷ 0 ∷ []))
    ∙ (λ t. plus (sub_bytes (c.byte1.ensures t ∷ c.byte2.ensures t ∷ c.byte3.ensures t ∷ c.byte0.ensures t ∷ [])) (round_constant c.args.round))
