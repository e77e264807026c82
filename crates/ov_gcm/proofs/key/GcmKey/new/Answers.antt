use Rattle.std.proofs.Common.{sym, ap, ◌∙◌, subst}
use Rattle.ov_ghash.specs.Ghash.{IsPrepared, prepared}
use Rattle.ov_gcm.specs.Gcm.{hash_key}
use Rattle.ov_gcm.proofs.key.GcmKey.new.Goals as goal

pub invariant_of-result : goal.invariant_of-result
unfolding hash_key
invariant_of-result c = (
  ap prepared (sym c.encrypt.ensures) ∙ sym c.new-hash.ensures.value,
  subst (IsPrepared c.new-hash.result) c.encrypt.ensures c.new-hash.ensures.prepared,
)
