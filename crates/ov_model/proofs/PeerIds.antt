-- What the definitions of a peer id and a key id compute to.
use Rattle.std.proofs.Common.{ℕ, ◌≡◌, ◌≤◌, ap}
use Rattle.std.specs.Prelude.{Option, Some, None}
use Rattle.std.proofs.Math.Bridge.{le_prop}
use mathlib.Core.Logic.{dite}
use native.Mathlib.Decide.{dec_le}
use Rattle.ov_model.specs.declared.ident.PeerId.{PeerId}
use Rattle.ov_model.specs.declared.ident.KeyId.{KeyId}
use Rattle.ov_model.specs.Ident.{peer_id, key_id}

-- A number in range is the id's, whichever proof the range has.
pub peer_id_of : (n : ℕ) (within : n ≤ 16777215) → ◌≡◌ {A = Option PeerId} (Some (record { number = n; in_range = within })) (peer_id n)
peer_id_of n within =
    elim (dec_le n 16777215)
    as (λ d. ◌≡◌ {A = Option PeerId} (Some (record { number = n; in_range = within })) (dite d (λ k. Some (record { number = n; in_range = k })) (λ _. None)))
    [ yes k ↦ ap (λ (h : n ≤ 16777215). let id : PeerId = record { number = n; in_range = h } in Some id) (le_prop within k) | no k ↦ absurd (k within) ]

pub key_id_of : (n : ℕ) (within : n ≤ 7) → ◌≡◌ {A = Option KeyId} (Some (record { number = n; in_range = within })) (key_id n)
key_id_of n within =
    elim (dec_le n 7)
    as (λ d. ◌≡◌ {A = Option KeyId} (Some (record { number = n; in_range = within })) (dite d (λ k. Some (record { number = n; in_range = k })) (λ _. None)))
    [ yes k ↦ ap (λ (h : n ≤ 7). let id : KeyId = record { number = n; in_range = h } in Some id) (le_prop within k) | no k ↦ absurd (k within) ]
