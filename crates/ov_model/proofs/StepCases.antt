-- What holds of each outcome that a step may have holds of the step.
use Rattle.std.proofs.Common.{ℕ, ◌≡◌, List, [], ◌∷◌, true, false, if◌then◌else◌, refl}
use Rattle.std.specs.Prelude.{⊤, Option, Some, None}
use Rattle.ov_model.specs.declared.reply.Errno.{Errno}
use Rattle.ov_model.specs.declared.reply.Reply.{Reply}
use Rattle.ov_model.specs.Tables.{Peer, Table, change_first, has_serial}
use Rattle.ov_model.specs.Step.{Outcome, replied, refused, Check, refuse, unless, where_found, is_there, change_peer}

-- No refusal applies.
abbrev pub Passed : List Check → Type 0
Passed [] = ⊤
Passed (refuse e applies ∷ checks) = (applies ≡ false) × Passed checks

pub unless_passed : (P : Outcome → Type 0) (t : Table) (now : ℕ) (checks : List Check) (o : Outcome) → ((e : Errno) → P (refused t now e)) → (Passed checks → P o) → P (unless t now checks o)
unless_passed P t now [] o refusal h = h tt
unless_passed P t now (refuse e true ∷ checks) o refusal h = refusal e
unless_passed P t now (refuse e false ∷ checks) o refusal h = unless_passed P t now checks o refusal (λ passed. h (refl, passed))

pub unless_has : (P : Outcome → Type 0) (t : Table) (now : ℕ) (checks : List Check) (o : Outcome) → ((e : Errno) → P (refused t now e)) → P o → P (unless t now checks o)
unless_has P t now checks o refusal h = unless_passed P t now checks o refusal (λ passed. h)

pub found_has : {X : Type 0} (P : Outcome → Type 0) (t : Table) (now : ℕ) (missing : Reply) (x : Option X) (next : X → Outcome) → P (replied t now missing) → ((y : X) → x ≡ Some y → P (next y)) → P (where_found t now missing x next)
found_has P t now missing None next none each = none
found_has P t now missing (Some y) next none each = each y refl

-- A peer that is changed in place, live or dying.
pub changed_has : (P : Table → Type 0) (t : Table) (serial : ℕ) (live dying : Peer → Peer) → P (record t { live = change_first (has_serial serial) live t.live }) → P (record t { dying = change_first (has_serial serial) dying t.dying }) → P (change_peer serial live dying t)
changed_has P t serial live dying on_live on_dying =
    elim (is_there serial t.live)
    as (λ b. P (if b then record t { live = change_first (has_serial serial) live t.live } else record t { dying = change_first (has_serial serial) dying t.dying }))
    [ true ↦ on_live | false ↦ on_dying ]
