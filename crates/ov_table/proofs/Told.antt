-- A step keeps the record told: the journal stays a run, with its last table and its notes.
use Rattle.std.proofs.Common.{◌+◌, ◌≡◌, List, [], ◌∷◌, ◌++◌, length, refl, sym, ◌∙◌, ap, subst, append-nil, zero-add}
use Rattle.ov_model.specs.declared.place.Place.{Place}
use Rattle.ov_model.specs.declared.act.Call.{Call}
use Rattle.ov_model.specs.declared.entry.Entry.{Entry}
use Rattle.ov_model.specs.Tables.{empty_table}
use Rattle.ov_model.specs.Step.{Outcome, step, May}
use Rattle.ov_model.specs.Runs.{Follows, table_after, notes_after, last_table, notes_of, numbered}
use Rattle.ov_model.proofs.Going.{table_after-append, notes_after-append, follows_more}
use Rattle.ov_table.specs.Recorded.{Recorded, entry_of, stepped, IsTold}

pub told_step : (r : Recorded) (place : Place) (call : Call) → May r.now call → IsTold r → IsTold (stepped r place call)
told_step r place call may told =
    let es : List Entry = entry_of r.now place call ∷ [] in
    let one : Follows r.now es = (may, refl, tt) in
    let more : Follows (last_table r.journal) es = subst (λ t. Follows t es) (sym told.last) one in
    let notes_of_one : notes_after (length r.journal) r.now es ≡ numbered (length r.journal) (step r.now call).notes = append-nil _ in
    let after : notes_of (r.journal ++ es) ≡ notes_of r.journal ++ notes_after (0 + length r.journal) (last_table r.journal) es = notes_after-append 0 empty_table r.journal es in
    let after_now : notes_of (r.journal ++ es) ≡ notes_of r.journal ++ notes_after (length r.journal) r.now es = (rw (zero-add, told.last) at after) in
    record {
      run = follows_more empty_table r.journal es told.run more;
      last = table_after-append empty_table r.journal es ∙ ap (λ t. table_after t es) told.last;
      notes = cc (told.notes, notes_of_one, after_now);
    }

pub told_after : (r : Recorded) (place : Place) (call : Call) (s : Recorded) → s ≡ stepped r place call → May r.now call → IsTold r → IsTold s
told_after r place call s is may told = subst IsTold (sym is) (told_step r place call may told)

-- A step whose outcome is known otherwise.
pub swept : (r : Recorded) (place : Place) (call : Call) (o : Outcome) → step r.now call ≡ o
    → ◌≡◌ {A = Recorded} (record { now = o.after; journal = r.journal ++ record { place = place; call = call; reply = o.reply } ∷ []; notes = r.notes ++ numbered (length r.journal) o.notes; taken = o.taken }) (stepped r place call)
swept r place call o is = sym (λ i. record { now = (is i).after; journal = r.journal ++ record { place = place; call = call; reply = (is i).reply } ∷ []; notes = r.notes ++ numbered (length r.journal) (is i).notes; taken = (is i).taken })
