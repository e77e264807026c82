-- The text of an object whose names rise reads as the object.
use Rattle.std.proofs.Common.{◌≡◌, ◌∙◌, ℕ, suc, ◌≤◌, ◌&&◌, List, [], ◌∷◌, Bool, true, false, Ordering, Less, Equal, Greater, Option, Some, None, refl, sym, ap, subst, arith}
use Rattle.std.specs.Prelude.{⊤, IfSome, option_map}
use Rattle.std.specs.Ordering.{nat_cmp, match_ordering}
use Rattle.std.specs.Cmp.Lexicographic.{slice_cmp}
use Rattle.std.specs.Str.{IsUtf8}
use Rattle.json.specs.Tree as tree
use Rattle.serde_json.specs.Data.{Data, string, object, Members, no_members, member, put}
use Rattle.serde_json.specs.Read.{read, of_json, of_members}
use Rattle.serde_json.specs.Find.{get_member}
use Rattle.serde_json.specs.Written.{outline, members_outline, compact_text}
use Rattle.serde_json.proofs.Numbers.{number_of-decimal}
use Rattle.ov_line.specs.Values.{Given, Has, most_number}
use Rattle.ov_write.specs.Text.{Field, with_field, given, num}
use Rattle.ov_line.proofs.PlainText.{IsPlain, ArePlain, reads_compact}

-- ---- looking up

abbrev pub pick : Option Data → Option Data → Option Data
pick None other = other
pick (Some d) other = Some d

pick_none : (o : Option Data) → pick o None ≡ o
pick_none None = refl
pick_none (Some d) = refl

-- What stands under a name, from the list of names.
abbrev pub found : List ℕ → List Field → Option Data
found name [] = None
found name (f ∷ fs) = match_ordering (slice_cmp nat_cmp name f.0) (found name fs) (pick f.1 (found name fs)) (found name fs)

same_all : (o : Ordering) (x : Option Data) → match_ordering o x x x ≡ x
same_all Less x = refl
same_all Equal x = refl
same_all Greater x = refl

with_get : (name l : List ℕ) (o : Option Data) (ms : Members) → get_member name (with_field l o ms) ≡ match_ordering (slice_cmp nat_cmp name l) (get_member name ms) (pick o (get_member name ms)) (get_member name ms)
with_get name l None ms = sym (same_all (slice_cmp nat_cmp name l) (get_member name ms))
with_get name l (Some d) ms = refl

get_found : (name : List ℕ) (fs : List Field) → get_member name (given fs) ≡ found name fs
get_found name [] = refl
get_found name (f ∷ fs) =
    with_get name f.0 f.1 (given fs)
    ∙ ap (λ (x : Option Data). match_ordering (slice_cmp nat_cmp name f.0) x (pick f.1 x) x) (get_found name fs)

given_map : {A : Type 0} (kind : Data → A → Type 0) (f : A → Data) (good : A → Type 0) → ((a : A) → good a → kind (f a) a) → (o : Option A) → IfSome o good → Given kind (option_map f o) o
given_map kind f good holds None h = tt
given_map kind f good holds (Some a) h = holds a h

-- A field is what the object has under its name.
pub has_field : {A : Type 0} (kind : Data → A → Type 0) (f : A → Data) (good : A → Type 0) → ((a : A) → good a → kind (f a) a) → (name : List ℕ) (fs : List Field) (o : Option A) → found name fs ≡ pick (option_map f o) None → IfSome o good → Has kind name (object (given fs)) o
has_field {A} kind f good holds name fs o is h =
    let same : get_member name (given fs) ≡ option_map f o = get_found name fs ∙ is ∙ pick_none (option_map f o) in
    subst (λ (x : Option Data). Given kind x o) (sym same) (given_map kind f good holds o h)

-- ---- reading back

-- A value that is plain, shallow, and whose names stand in order.
pub record Good (k : ℕ) (d : Data) : Type 0 where
  pub plain : IsPlain d
  pub shallow : tree.depth (outline d) ≤ k
  pub made : of_json (outline d) ≡ Some d

abbrev pub GoodValue : ℕ → Option Data → Type 0
GoodValue k None = ⊤
GoodValue k (Some d) = Good k d

abbrev pub GoodFields : ℕ → List Field → Type 0
GoodFields k [] = ⊤
GoodFields k (f ∷ fs) = IsUtf8 f.0 × GoodValue k f.1 × GoodFields k fs

pub good_number : (k n : ℕ) → n ≤ most_number → Good k (num n)
good_number k n h = record { plain = omega arith; shallow = omega arith; made = rw (number_of-decimal n (omega arith)) refl }

pub good_text : (k : ℕ) (s : List ℕ) → IsUtf8 s → Good k (string s)
good_text k s h = record { plain = h; shallow = omega arith; made = refl }

pub good_map : {A : Type 0} (k : ℕ) (f : A → Data) (good : A → Type 0) → ((a : A) → good a → Good k (f a)) → (o : Option A) → IfSome o good → GoodValue k (option_map f o)
good_map k f good holds None h = tt
good_map k f good holds (Some a) h = holds a h

-- Names that rise, in bytes.
abbrev is_greater : Ordering → Bool
is_greater Less = false
is_greater Equal = false
is_greater Greater = true

abbrev after : List ℕ → List Field → Bool
after name [] = true
after name (f ∷ fs) = is_greater (slice_cmp nat_cmp f.0 name) && after name fs

abbrev pub rising : List Field → Bool
rising [] = true
rising (f ∷ fs) = after f.0 fs && rising fs

both : (a b : Bool) → (a && b) ≡ true → (a ≡ true) × (b ≡ true)
both true b h = (refl, h)
both false b h = absurd (cc h)

greater_is : (o : Ordering) → is_greater o ≡ true → o ≡ Greater
greater_is Less h = absurd (cc h)
greater_is Equal h = absurd (cc h)
greater_is Greater h = refl

abbrev snoc : Members → List ℕ → Data → Members
snoc no_members k d = member k d no_members
snoc (member l e ms) k d = member l e (snoc ms k d)

abbrev joined : Members → Members → Members
joined no_members ns = ns
joined (member l e ms) ns = member l e (joined ms ns)

joined_none : (ms : Members) → joined ms no_members ≡ ms
joined_none no_members = refl
joined_none (member l e ms) = ap (member l e) (joined_none ms)

joined_snoc : (ms : Members) (k : List ℕ) (d : Data) (ns : Members) → joined (snoc ms k d) ns ≡ joined ms (member k d ns)
joined_snoc no_members k d ns = refl
joined_snoc (member l e ms) k d ns = ap (member l e) (joined_snoc ms k d ns)

-- All names of the members are before this one.
abbrev Before : Members → List ℕ → Type 0
Before no_members k = ⊤
Before (member l e ms) k = (slice_cmp nat_cmp k l ≡ Greater) × Before ms k

put_last : (k : List ℕ) (d : Data) (ms : Members) → Before ms k → put k d ms ≡ snoc ms k d
put_last k d no_members h = refl
put_last k d (member l e ms) h = rw (h.0) (ap (member l e) (put_last k d ms h.1))

before_snoc : (ms : Members) (k : List ℕ) (d : Data) (q : List ℕ) → Before ms q → slice_cmp nat_cmp q k ≡ Greater → Before (snoc ms k d) q
before_snoc no_members k d q h g = (g, tt)
before_snoc (member l e ms) k d q h g = (h.0, before_snoc ms k d q h.1 g)

abbrev AllBefore : Members → List Field → Type 0
AllBefore ms [] = ⊤
AllBefore ms (f ∷ fs) = Before ms f.0 × AllBefore ms fs

all_snoc : (ms : Members) (k : List ℕ) (d : Data) (fs : List Field) → AllBefore ms fs → after k fs ≡ true → AllBefore (snoc ms k d) fs
all_snoc ms k d [] h a = tt
all_snoc ms k d (f ∷ fs) h a =
    let parts = both (is_greater (slice_cmp nat_cmp f.0 k)) (after k fs) a in
    (before_snoc ms k d f.0 h.0 (greater_is (slice_cmp nat_cmp f.0 k) parts.0), all_snoc ms k d fs h.1 parts.1)

all_none : (fs : List Field) → AllBefore no_members fs
all_none [] = tt
all_none (f ∷ fs) = (tt, all_none fs)

made_one : (k : ℕ) (name : List ℕ) (o : Option Data) (ms was : Members) → GoodValue k o → Before was name → of_members (members_outline ms) was ≡ Some (joined was ms)
    → ((d : Data) → of_members (members_outline ms) (snoc was name d) ≡ Some (joined (snoc was name d) ms)) → of_members (members_outline (with_field name o ms)) was ≡ Some (joined was (with_field name o ms))
made_one k name None ms was g b stay go = stay
made_one k name (Some d) ms was g b stay go = rw (g.made) (ap (λ (f : Members). of_members (members_outline ms) f) (put_last name d was b) ∙ go d ∙ ap Some (joined_snoc was name d ms))

made_members : (k : ℕ) (fs : List Field) (was : Members) → rising fs ≡ true → GoodFields k fs → AllBefore was fs → of_members (members_outline (given fs)) was ≡ Some (joined was (given fs))
made_members k [] was r g b = ap Some (sym (joined_none was))
made_members k (f ∷ fs) was r g b =
    let parts = both (after f.0 fs) (rising fs) r in
    made_one k f.0 f.1 (given fs) was g.1 b.0 (made_members k fs was parts.1 g.2 b.1)
    (λ d. made_members k fs (snoc was f.0 d) parts.1 g.2 (all_snoc was f.0 d fs b.1 parts.0))

plain_one : (k : ℕ) (name : List ℕ) (o : Option Data) (ms : Members) → IsUtf8 name → GoodValue k o → ArePlain ms → ArePlain (with_field name o ms)
plain_one k name None ms u g h = h
plain_one k name (Some d) ms u g h = (u, g.plain, h)

plain_fields : (k : ℕ) (fs : List Field) → GoodFields k fs → ArePlain (given fs)
plain_fields k [] g = tt
plain_fields k (f ∷ fs) g = plain_one k f.0 f.1 (given fs) g.0 g.1 (plain_fields k fs g.2)

shallow_one : (k : ℕ) (name : List ℕ) (o : Option Data) (ms : Members) → GoodValue k o → tree.members_depth (members_outline ms) ≤ k → tree.members_depth (members_outline (with_field name o ms)) ≤ k
shallow_one k name None ms g h = h
shallow_one k name (Some d) ms g h = let here : tree.depth (outline d) ≤ k = g.shallow in omega (arith, here, h)

shallow_fields : (k : ℕ) (fs : List Field) → GoodFields k fs → tree.members_depth (members_outline (given fs)) ≤ k
shallow_fields k [] g = omega arith
shallow_fields k (f ∷ fs) g = shallow_one k f.0 f.1 (given fs) g.1 (shallow_fields k fs g.2)

-- An object of good values under rising names is good.
pub good_object : (k : ℕ) (fs : List Field) → rising fs ≡ true → GoodFields k fs → Good (suc k) (object (given fs))
good_object k fs r g = record {
  plain = plain_fields k fs g;
  shallow = let inside = shallow_fields k fs g in omega (arith, inside);
  made = rw (made_members k fs no_members r g (all_none fs)) refl;
}

-- The text of a good value reads as the value.
pub good_reads : (d : Data) → Good 3 d → read (compact_text d) ≡ Some d
good_reads d g = reads_compact d g.plain (let h : tree.depth (outline d) ≤ 3 = g.shallow in omega (arith, h)) g.made
