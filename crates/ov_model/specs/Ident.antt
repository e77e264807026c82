-- The ids of peers and keys as values that definitions make.
use Rattle.std.specs.Prelude.{ℕ, Option, Some, None}
use Rattle.ov_model.specs.Limits.{greatest_peer_id, greatest_key_id}
use mathlib.Core.Logic.{dite}
use native.Mathlib.Decide.{dec_le}
use Rattle.ov_model.specs.declared.ident.PeerId.{PeerId}
use Rattle.ov_model.specs.declared.ident.KeyId.{KeyId}

-- The peer id with a number, and none above the greatest.
abbrev pub peer_id : ℕ → Option PeerId
peer_id n = dite (dec_le n greatest_peer_id) (λ within. Some (record { number = n; in_range = within })) (λ _. None)

-- The key id with a number, and none above the greatest.
abbrev pub key_id : ℕ → Option KeyId
key_id n = dite (dec_le n greatest_key_id) (λ within. Some (record { number = n; in_range = within })) (λ _. None)
