use Rattle.std.proofs.Common.{ℕ, List, sym, ap, subst, ◌∙◌}
use Rattle.ov_aes.specs.Aes.{key_list}
use Rattle.ov_aes.specs.KeySchedule.{key_schedule}
use Rattle.ov_aes.specs.Cipher.{aes, cipher}
use Rattle.ov_aes.specs.RoundKeys.{HasKeys}
use Rattle.ov_aes.proofs.key.AesKey.encrypt.Goals as goal

pub returns : goal.returns
unfolding aes
returns c =
    let key : List ℕ = key_list c.self.inside.key in
    let rounds = c.self.invariant.2 in
    let has = subst (HasKeys c.self.inside.keys (key_schedule key)) rounds c.self.invariant.1 in
    rw (← c.self.view_is) (c.encrypted.ensures (key_schedule key) has ∙ ap (λ n. cipher (key_schedule key) n c.args.block) (sym rounds))
