-- A member of a list with holes that is taken out, changed and put back at its place.
use Rattle.std.proofs.Common.{ℕ, ◌≡◌, ◌∙◌, ap, sym, List, Bool, true, false}
use Rattle.std.specs.Prelude.{Option, Some, None, slice_set}
use Rattle.std.specs.List.{list_any}
use Rattle.ov_model.specs.Tables.{change_first}
use Rattle.ov_index.specs.Index.{present, standing}
use Rattle.ov_index.proofs.Slots.{set_set, hole_where_none, At, Nowhere}

pub record Back {X : Type 0} (fits : X → Bool) (slots put : List (Option X)) (k : ℕ) (f : X → X) (x : X) : Type 0 where
  pub items : put ≡ slice_set slots k (Some (f x))
  pub any : list_any fits (present slots) ≡ true
  pub changed : present put ≡ change_first fits f (present slots)

pub back : {X : Type 0} (fits : X → Bool) (slots left put : List (Option X)) (k : ℕ) (f : X → X) (x y : X) → At fits slots k x → left ≡ slice_set slots k None → put ≡ slice_set left k (Some y) → y ≡ f x → Back fits slots put k f x
back fits slots left put k f x y at taken put_is is =
    let items : put ≡ slice_set slots k (Some (f x)) = put_is ∙ ap (λ xs. slice_set xs k (Some y)) taken ∙ set_set slots k None (Some y) ∙ ap (λ z. slice_set slots k (Some z)) is in
    record { items = items; any = at.any; changed = ap present items ∙ sym (at.changed f) }

-- Nobody was there to take out.
pub record Stayed {X : Type 0} (fits : X → Bool) (slots left : List (Option X)) : Type 0 where
  pub items : left ≡ slots
  pub any : list_any fits (present slots) ≡ false
  pub changed : (f : X → X) → present left ≡ change_first fits f (present slots)

pub stayed : {X : Type 0} (fits : X → Bool) (slots left : List (Option X)) (k : ℕ) → Nowhere fits slots → standing slots k ≡ None → left ≡ slice_set slots k None → Stayed fits slots left
stayed fits slots left k none hole taken =
    let items : left ≡ slots = taken ∙ hole_where_none slots k hole in
    record { items = items; any = none.any; changed = λ f. ap present items ∙ sym (none.same f) }
