-- At the end every peer and key that is gone was let go: nothing is dying, since the one share that is left holds and owes
-- nothing.
use Rattle.std.proofs.Common.{ℕ, ◌≡◌, ◌+◌, ◌<◌, List, [], ◌∷◌, refl, sym, ap, subst, arith, inl, inr}
use Rattle.std.proofs.lemmas.Bool.{cases_eq}
use Rattle.ov_base.specs.Sums.{count_of}
use Rattle.ov_turn.specs.Lists.{has}
use Rattle.ov_turn.proofs.Members.{has_le}
use Rattle.ov_model.specs.declared.entry.Entry.{Entry}
use Rattle.ov_model.specs.Tables.{Peer, Key, Table, serials_of, key_serials}
use Rattle.ov_model.specs.Removals.{AllReleased}
use Rattle.ov_model.specs.Runs.{last_table}
use Rattle.ov_table.specs.Cells.{cells, dying_cells}
use Rattle.ov_ticket.proofs.Stepping.{none_has}

no_cells : (ps : List Peer) (ks : List Key) → cells (serials_of ps) (key_serials ks) ≡ [] → (ps ≡ []) × (ks ≡ [])
no_cells [] [] e = (refl, refl)
no_cells [] (k ∷ ks) e = absurd (cc)
no_cells (p ∷ ps) ks e = absurd (cc)

pub all_let_go : (journal : List Entry) (t : Table) (holds owes : List ℕ) → last_table journal ≡ t → holds ≡ [] → owes ≡ [] → ((c : ℕ) → has c (dying_cells t) ≡ 1 → 0 < count_of c holds + count_of c owes) → AllReleased journal
all_let_go journal t holds owes last none_held none_owed dying =
    let empty : (c : ℕ) → has c (dying_cells t) ≡ 0 = λ c. elim (cases_eq (has c (dying_cells t)) 1) [
      | inl one ↦ absurd (let some_of = dying c one in let a = ap (count_of c) none_held in let b = ap (count_of c) none_owed in omega arith)
      | inr other ↦ (let most = has_le c (dying_cells t) in omega arith)
    ] in
    let both = no_cells t.dying t.retired (none_has (dying_cells t) empty) in
    let all : ((last_table journal).dying ≡ []) × ((last_table journal).retired ≡ []) = subst (λ (q : Table). (q.dying ≡ []) × (q.retired ≡ [])) (sym last) both in
    record { peers = all.0; keys = all.1 }
