-- Whether what stands in a slot has a key id.
use Rattle.std.specs.Prelude.{Bool, false, Option, Some, None, ◌==◌}
use Rattle.ov_model.specs.declared.ident.KeyId.{KeyId}
use Rattle.ov_model.specs.Tables.{Key}

-- Whether what stands in a slot has a key id.
abbrev pub is_id : KeyId → Option Key → Bool
is_id id None = false
is_id id (Some k) = k.key_id.number == id.number
