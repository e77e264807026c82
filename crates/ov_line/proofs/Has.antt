-- Facts on what objects have under names.
use Rattle.std.proofs.Common.{◌≡◌, ◌∙◌, ℕ, List, Option, Some, None, false, refl, sym, ap, subst}
use Rattle.std.specs.Prelude.{is_some, option_and_then}
use Rattle.serde_json.specs.Data.{Data, null, boolean, number, string, array, object, Num, unsigned, negative, float}
use Rattle.serde_json.specs.Find.{get, as_str, as_number, as_u64, as_object}
use Rattle.ov_line.specs.Values.{Given, Has}

none_is_no_some : {A : Type 0} (a : A) → ¬ (◌≡◌ {A = Option A} None (Some a))
none_is_no_some a h = cc

-- Nothing stands under a name.
pub has_none : {A : Type 0} (kind : Data → A → Type 0) (name : List ℕ) (d : Data) → None ≡ get name d → Has kind name d None
has_none kind name d h = subst (λ (o : Option Data). Given kind o None) h tt

-- Something of the kind stands there.
pub has_some : {A : Type 0} (kind : Data → A → Type 0) (name : List ℕ) (d v : Data) (a : A) → Some v ≡ get name d → kind v a → Has kind name d (Some a)
has_some kind name d v a h k = subst (λ (o : Option Data). Given kind o (Some a)) h k

-- Something of another kind stands there.
given_not : {A : Type 0} (kind : Data → A → Type 0) (v : Data) → ((a : A) → ¬ (kind v a)) → (found : Option A) → ¬ (Given kind (Some v) found)
given_not kind v none None h = h
given_not kind v none (Some a) h = none a h

pub has_not : {A : Type 0} (kind : Data → A → Type 0) (name : List ℕ) (d v : Data) → Some v ≡ get name d → ((a : A) → ¬ (kind v a)) → (found : Option A) → ¬ (Has kind name d found)
has_not kind name d v h none found has = given_not kind v none found (subst (λ (o : Option Data). Given kind o found) (sym h) has)

-- Where nothing stands, there is nothing that could be needed.
given_one : {A : Type 0} (kind : Data → A → Type 0) (o : Option Data) (a : A) → Given kind o None → ¬ (Given kind o (Some a))
given_one kind None a h k = k
given_one kind (Some v) a h k = h

pub has_one : {A : Type 0} (kind : Data → A → Type 0) (name : List ℕ) (d : Data) (a : A) → Has kind name d None → ¬ (Has kind name d (Some a))
has_one kind name d a h k = given_one kind (get name d) a h k

-- Nothing that is needed stands there, so none has it.
pub has_nothing : {A : Type 0} (kind : Data → A → Type 0) (name : List ℕ) (d : Data) (a : A) → None ≡ get name d → ¬ (Has kind name d (Some a))
has_nothing kind name d a h k = has_one kind name d a (has_none kind name d h) k

-- Two texts under one value are one.
pub string_same : (s t : List ℕ) → string s ≡ string t → s ≡ t
string_same s t h = let same : Some s ≡ Some t = ap as_str h in cc

-- A value's text.
pub text_is : (d : Data) (text : List ℕ) → Some text ≡ as_str d → d ≡ string text
text_is null text h = absurd (none_is_no_some text (sym h))
text_is (boolean b) text h = absurd (none_is_no_some text (sym h))
text_is (number n) text h = absurd (none_is_no_some text (sym h))
text_is (string s) text h = cc
text_is (array ds) text h = absurd (none_is_no_some text (sym h))
text_is (object ms) text h = absurd (none_is_no_some text (sym h))

pub no_text : (d : Data) (text : List ℕ) → None ≡ as_str d → ¬ (d ≡ string text)
no_text d text h e = none_is_no_some text (h ∙ ap as_str e)

-- A value's whole number.
num_is : (n : Num) (m : ℕ) → Some m ≡ as_u64 n → number n ≡ number (unsigned m)
num_is (unsigned k) m h = cc
num_is (negative z) m h = absurd (none_is_no_some m (sym h))
num_is (float x) m h = absurd (none_is_no_some m (sym h))

pub number_is : (d : Data) (n : ℕ) → Some n ≡ option_and_then as_u64 (as_number d) → d ≡ number (unsigned n)
number_is null n h = absurd (none_is_no_some n (sym h))
number_is (boolean b) n h = absurd (none_is_no_some n (sym h))
number_is (number x) n h = num_is x n h
number_is (string s) n h = absurd (none_is_no_some n (sym h))
number_is (array ds) n h = absurd (none_is_no_some n (sym h))
number_is (object ms) n h = absurd (none_is_no_some n (sym h))

pub no_number : (d : Data) (n : ℕ) → None ≡ option_and_then as_u64 (as_number d) → ¬ (d ≡ number (unsigned n))
no_number d n h e = none_is_no_some n (h ∙ ap (λ (v : Data). option_and_then as_u64 (as_number v)) e)

pub other_number : (d : Data) (m n : ℕ) → Some m ≡ option_and_then as_u64 (as_number d) → d ≡ number (unsigned n) → m ≡ n
other_number d m n h e = let same : Some m ≡ Some n = h ∙ ap (λ (v : Data). option_and_then as_u64 (as_number v)) e in cc

-- What isn't an object has nothing under a name.
pub no_object : (name : List ℕ) (d : Data) → is_some (as_object d) ≡ false → None ≡ get name d
no_object name null h = refl
no_object name (boolean b) h = refl
no_object name (number n) h = refl
no_object name (string s) h = refl
no_object name (array ds) h = refl
no_object name (object ms) h = absurd (cc h)
