-- A journal that goes on: what its last table, notes and steps are after more entries.
use Rattle.std.proofs.Common.{ℕ, ◌≡◌, ◌+◌, List, [], ◌∷◌, ◌++◌, length, refl, ap, append_assoc, arith, add-zero}
use Rattle.ov_model.specs.declared.entry.Entry.{Entry}
use Rattle.ov_model.specs.Tables.{Table}
use Rattle.ov_model.specs.Step.{step}
use Rattle.ov_model.specs.Runs.{table_after, Follows, notes_after}
use Rattle.ov_model.specs.Events.{steps_after}

pub table_after-append : (t : Table) (es fs : List Entry) → table_after t (es ++ fs) ≡ table_after (table_after t es) fs
table_after-append t [] fs = refl
table_after-append t (e ∷ es) fs = table_after-append (step t e.call).after es fs

pub steps_after-append : (t : Table) (es fs : List Entry) → steps_after t (es ++ fs) ≡ steps_after t es ++ steps_after (table_after t es) fs
steps_after-append t [] fs = refl
steps_after-append t (e ∷ es) fs = ap (λ ss. record { entry = e; taken = (step t e.call).taken } ∷ ss) (steps_after-append (step t e.call).after es fs)

pub notes_after-append : (n : ℕ) (t : Table) (es fs : List Entry) → notes_after n t (es ++ fs) ≡ notes_after n t es ++ notes_after (n + length es) (table_after t es) fs
notes_after-append n t [] fs = rw add-zero refl
notes_after-append n t (e ∷ es) fs =
    let here : n + 1 + length es ≡ n + length (e ∷ es) = omega arith in
    let rest : notes_after (n + 1) (step t e.call).after (es ++ fs) ≡ notes_after (n + 1) (step t e.call).after es ++ notes_after (n + length (e ∷ es)) (table_after (step t e.call).after es) fs
    = rw (← here) (notes_after-append (n + 1) (step t e.call).after es fs) in
    rw (rest, append_assoc) refl

pub follows_more : (t : Table) (es fs : List Entry) → Follows t es → Follows (table_after t es) fs → Follows t (es ++ fs)
follows_more t [] fs before more = more
follows_more t (e ∷ es) fs before more = (before.0, before.1, follows_more (step t e.call).after es fs before.2 more)
