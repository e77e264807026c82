-- What a step and a release make of a lane's share, and what more is known of the keys then.
use Rattle.std.proofs.Common.{ℕ, ◌≡◌, ◌+◌, ◌≤◌, List, [], ◌∷◌, ◌++◌, length, length-append, refl, sym, ◌∙◌, ap, subst, arith}
use Rattle.std.specs.Prelude.{Some}
use mathlib.Core.List.{IsPrefix}
use mathlib.Core.Option.{some}
use lib.ListN.{get_elem?}
use Rattle.ov_model.specs.declared.entry.Entry.{Entry}
use Rattle.ov_model.specs.declared.hold.Owed.{Owed}
use Rattle.ov_model.specs.declared.hold.Owed.TheVariants as owed
use Rattle.ov_model.specs.declared.place.Place.{Place}
use Rattle.ov_model.specs.Tables.{Table, empty_table}
use Rattle.ov_model.specs.Step.{step, released, key_released}
use Rattle.ov_model.specs.Events.{Step, steps_of, release_of}
use Rattle.ov_model.specs.Keys.{key_of}
use Rattle.ov_model.specs.Runs.{last_table}
use Rattle.ov_model.proofs.Going.{steps_after-append}
use Rattle.ov_model.proofs.Stands.{length-steps_after}
use Rattle.ov_path.specs.Desks.{Grows}
use Rattle.ov_share.specs.Shares.{Sharing}
use Rattle.ov_share.specs.Makings.{HasMade, SpendKnown}
use Rattle.ov_table.proofs.Installed.{key_of-append}
use Rattle.ov_turn.proofs.Fronts.{prefix_more}

-- ---- a history that goes on

-- What is known of the keys stays known.
pub key_grows : (es fs : List Entry) → IsPrefix es fs → Grows (key_of es) (key_of fs)
key_grows es fs front key m known = subst (λ l. key_of l key ≡ Some m) front.1 (key_of-append es front.0 key ∙ rw known refl)

-- The history with one entry more goes on from what was seen.
pub seen_on : (old before seen : List Entry) (e : Entry) → IsPrefix old before → seen ≡ before ++ e ∷ [] → IsPrefix old seen
seen_on old before seen e front is = subst (IsPrefix old) (sym is) (prefix_more old before (e ∷ []) front)

front_length : (old before : List Entry) → IsPrefix old before → length old ≤ length before
front_length old before front =
    let both : length (old ++ front.0) ≡ length old + length front.0 = length-append old front.0 in
    let whole : length (old ++ front.0) ≡ length before = ap length front.1 in
    omega arith

elem_last : {X : Type 0} (xs : List X) (x : X) → get_elem? (xs ++ x ∷ []) (length xs) ≡ some x
elem_last [] x = refl
elem_last (y ∷ ys) x = elem_last ys x

-- The step of the last entry stands behind all others.
step_stands : (before seen : List Entry) (e : Entry) → seen ≡ before ++ e ∷ [] → get_elem? (steps_of seen) (length before) ≡ some (record { entry = e; taken = (step (last_table before) e.call).taken })
step_stands before seen e is =
    let its : Step = record { entry = e; taken = (step (last_table before) e.call).taken } in
    let steps : steps_of seen ≡ steps_of before ++ its ∷ [] = ap steps_of is ∙ steps_after-append empty_table before (e ∷ []) in
    let long : length (steps_of before) ≡ length before = length-steps_after empty_table before in
    subst (λ ss. get_elem? ss (length before) ≡ some its) (sym steps) (subst (λ n. get_elem? (steps_of before ++ its ∷ []) n ≡ some its) long (elem_last (steps_of before) its))

-- An entry that was made behind all that the lane had seen.
pub entry_made : (old new : Sharing) (before : List Entry) (e : Entry) (s : Step) → s ≡ record { entry = e; taken = (step (last_table before) e.call).taken } → IsPrefix old.sight.seen before → new.sight.seen ≡ before ++ e ∷ []
    → new.sight.own ≡ old.sight.own ++ (length before, e) ∷ [] → new.sight.share ≡ old.sight.share → new ≡ record old { sight = new.sight } → SpendKnown old.drawer.spent e.call.act → HasMade old new s
entry_made old new before e s s_is front seen own share same spent = record {
  at = length before;
  front = seen_on old.sight.seen before new.sight.seen e front seen;
  late = front_length old.sight.seen before front;
  is = step_stands before new.sight.seen e seen ∙ ap (λ (x : Step). some x) (sym s_is);
  own = own ∙ ap (λ (x : Step). old.sight.own ++ (length before, x.entry) ∷ []) (sym s_is);
  share = share;
  spent = subst (λ (x : Step). SpendKnown old.drawer.spent x.entry.call.act) (sym s_is) spent;
  same = same;
}

-- ---- a release

-- A release takes nothing out of slots.
pub release_step : (t : Table) (place : Place) (at : ℕ) (o : Owed) → release_of place at o ≡ record { entry = (release_of place at o).entry; taken = (step t (release_of place at o).entry.call).taken }
unfolding released key_released
release_step t place at (owed.Peer p) = refl
release_step t place at (owed.Key k) = refl

pub release_spends : (spent : List ℕ) (place : Place) (at : ℕ) (o : Owed) → SpendKnown spent (release_of place at o).entry.call.act
release_spends spent place at (owed.Peer p) = tt
release_spends spent place at (owed.Key k) = tt
