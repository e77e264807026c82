use Rattle.std.proofs.Common.{ℕ, List, sym, ap, subst, ◌∙◌}
use Rattle.ov_aes.specs.Aes.{key_list}
use Rattle.ov_aes.specs.KeySchedule.{key_schedule}
use Rattle.ov_aes.specs.Cipher.{aes, cipher}
use Rattle.ov_aes.specs.RoundKeys.{HasKeys}
use Rattle.ov_aes.proofs.key.AesKey.encrypt_two.Goals as goal

pub returns-clause-first : goal.returns-clause-first
unfolding aes
returns-clause-first c =
    let key : List ℕ = key_list c.self.inside.key in
    let rounds = c.self.invariant.2 in
    let has = subst (HasKeys c.self.inside.keys (key_schedule key)) rounds c.self.invariant.1 in
    rw (← c.self.view_is) (c.encrypted_two.ensures.first (key_schedule key) has ∙ ap (λ n. cipher (key_schedule key) n c.args.first) (sym rounds))

pub returns-clause-second : goal.returns-clause-second
unfolding aes
returns-clause-second c =
    let key : List ℕ = key_list c.self.inside.key in
    let rounds = c.self.invariant.2 in
    let has = subst (HasKeys c.self.inside.keys (key_schedule key)) rounds c.self.invariant.1 in
    rw (← c.self.view_is) (c.encrypted_two.ensures.second (key_schedule key) has ∙ ap (λ n. cipher (key_schedule key) n c.args.second) (sym rounds))
