-- The texts of a report have no fractions, so the printer's text of each is exact.
use Rattle.std.proofs.Common.{ℕ, ◌≡◌, List, refl, true, false, Bool, ◌||◌, Ordering, Less, Equal, Greater, true≢false}
use Rattle.std.specs.Ordering.{match_ordering, nat_cmp}
use Rattle.std.specs.Cmp.Lexicographic.{slice_cmp}
use Rattle.serde_json.specs.Data.{Data, Members, no_members, member, put}
use Rattle.serde_json.specs.Written.{has_float, members_have_float}

or_left : (a b : Bool) → (a || b) ≡ false → a ≡ false
or_left true b h = h
or_left false b h = refl

or_right : (a b : Bool) → (a || b) ≡ false → b ≡ false
or_right true b h = absurd (true≢false h)
or_right false b h = h

or_both : (a b : Bool) → a ≡ false → b ≡ false → (a || b) ≡ false
or_both a b x y = rw (x, y) refl

ordered : (o : Ordering) (a b c : Members) → members_have_float a ≡ false → members_have_float b ≡ false → members_have_float c ≡ false → members_have_float (match_ordering o a b c) ≡ false
ordered Less a b c x y z = x
ordered Equal a b c x y z = y
ordered Greater a b c x y z = z

pub put_no_float : (k : List ℕ) (d : Data) (ms : Members) → has_float d ≡ false → members_have_float ms ≡ false → members_have_float (put k d ms) ≡ false
put_no_float k d no_members x y = rw x refl
put_no_float k d (member l e ms) x y =
    let e_no : has_float e ≡ false = or_left (has_float e) (members_have_float ms) y in
    let ms_no : members_have_float ms ≡ false = or_right (has_float e) (members_have_float ms) y in
    ordered (slice_cmp nat_cmp k l) (member k d (member l e ms)) (member l d ms) (member l e (put k d ms))
    (or_both (has_float d) (has_float e || members_have_float ms) x y)
    (or_both (has_float d) (members_have_float ms) x ms_no)
    (or_both (has_float e) (members_have_float (put k d ms)) e_no (put_no_float k d ms x ms_no))
