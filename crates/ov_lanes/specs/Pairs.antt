-- A call with two elements of a list.
use Rattle.std.specs.Prelude.{ℕ, ◌≡◌, List, slice_get, slice_set, Some}
use Rattle.std.specs.Borrow.{MutBor}
use Rattle.std.specs.Fn.{Once}

module _ {F T : Type 0} (g : Once F (MutBor T × (MutBor T × Unit {0})) (Unit {0} × (MutBor T × (MutBor T × Unit {0})))) (f : F) (old : List T) (low high : ℕ) where
  -- It may be called with the two at these places.
  abbrev pub TakesBoth : Type 0
  TakesBoth = (one other : MutBor T) → slice_get old low ≡ Some one.now → slice_get old high ≡ Some other.now → g.pre f (one, (other, tt))

  -- It was called with the two, and left others in their places; all else is as it was.
  pub record ChangesBoth (new : List T) : Type 0 where
    pub one : MutBor T
    pub other : MutBor T
    pub one_is : slice_get old low ≡ Some one.now
    pub other_is : slice_get old high ≡ Some other.now
    pub one_after : MutBor T
    pub other_after : MutBor T
    pub call : g.post f (one, (other, tt)) (tt, (one_after, (other_after, tt)))
    pub left : new ≡ slice_set (slice_set old low one_after.now) high other_after.now
