-- What clap found for an option that takes a number.
use Rattle.std.proofs.Common.{ℕ, zero, suc, ◌≡◌, ◌<◌, ◌≤◌, ◌^◌, ◌&&◌, Bool, true, false, not, List, [], ◌∷◌, length, map, Option, Some, None, Result, Ok, Err, refl, sym, ◌∙◌, ap, subst, inl, inr, arith, true≢false, option_map}
use Rattle.std.specs.Prelude.{codes, slice_get, unwrap_or}
use Rattle.std.specs.List.{All, list_all, slice_index_or}
use Rattle.std.specs.Str.{bytes_eq}
use Rattle.std.specs.Str.Parse.{ParsesUnsigned, digits_value, without_leading_plus}
use Rattle.std.specs.Borrow.{Bor}
use Rattle.std.proofs.lemmas.Slice.Eq.{bytes_eq-Decides}
use Rattle.std.proofs.lemmas.List.Elements.{All-get_or}
use Rattle.clap.specs.Words.{App, Rule, Text, IsParsedFrom, IsUnsignedIn, app_of, args_of, first_value, found_of, groups_of, has_subcommand, matched_of, one_text, parser_of, reading_of, rows_of, rule_of, IsParsed, ReadsOne, Accepts, read_as}
use Rattle.clap.specs.Built.{IsAuto}
use Rattle.clap.specs.Facts.{Entry, EntryPasses, HasReading, PassesArg, parser_of_value}
use Rattle.clap.specs.Simple.{shape_of}
use Rattle.clap.specs.declared.builder.arg.Arg.{Arg}
use Rattle.clap.specs.declared.builder.command.Command.{Command}
use Rattle.clap.specs.declared.builder.value_parser.Reading.{Reading}
use Rattle.clap.specs.declared.builder.value_parser.Reading.TheVariants.{AsWritten}
use Rattle.clap.specs.declared.builder.value_parser.ValueParser.{ValueParser}
use Rattle.clap.specs.declared.builder.value_parser.ValueParser.TheVariants as vp
use Rattle.clap.specs.declared.parser.matches.ArgMatches.{ArgMatches}
use Rattle.clap.specs.declared.parser.matches.Found.{Found}
use Rattle.clap.specs.declared.parser.matches.MatchedArg.{MatchedArg}
use Rattle.clap.proofs.CallerLemmas.{entry_by_id, same_rules_by_id}
use Rattle.clap.proofs.SimpleLemmas.{HasPlainFields, all_simple, plain_fields, simple_groups}
use Rattle.clap.proofs.WalkLemmas.{both, first_value-rows}
use Rattle.ov_plan.specs.Command.{IsNumber, command, number_of, number_rule, rules}

-- ---- the rules of a command and its arguments

-- No rule of these has the name.
abbrev none_named : Text → List Rule → Bool
none_named name rs = list_all (λ r. not (bytes_eq r.id name)) rs

-- No rule but the one at this place has the name.
abbrev alone : ℕ → Text → List Rule → Bool
alone k name [] = true
alone zero name (r ∷ rs) = none_named name rs
alone (suc k) name (r ∷ rs) = not (bytes_eq r.id name) && alone k name rs

no_truth : (b : Bool) → not b ≡ true → b ≡ true → ⊥
no_truth true e is = true≢false (sym e)
no_truth false e is = true≢false (sym is)

named_nowhere : (xs : List Arg) (j : ℕ) (e : Arg) (name : Text) → none_named name (map rule_of xs) ≡ true → j < length xs → bytes_eq (slice_index_or xs j e).id.now name ≡ true → ⊥
named_nowhere [] j e name none lt same = absurd (omega arith)
named_nowhere (x ∷ xs) zero e name none lt same = no_truth _ (both _ _ none).0 same
named_nowhere (x ∷ xs) (suc j) e name none lt same = named_nowhere xs j e name (both _ _ none).1 (omega arith) same

named_once : (xs : List Arg) (k j : ℕ) (e : Arg) (name : Text) → alone k name (map rule_of xs) ≡ true → j < length xs → bytes_eq (slice_index_or xs j e).id.now name ≡ true → j ≡ k
named_once [] k j e name one lt same = absurd (omega arith)
named_once (x ∷ xs) zero zero e name one lt same = refl
named_once (x ∷ xs) zero (suc j) e name one lt same = absurd (named_nowhere xs j e name one (omega arith) same)
named_once (x ∷ xs) (suc k) zero e name one lt same = absurd (no_truth _ (both _ _ one).0 same)
named_once (x ∷ xs) (suc k) (suc j) e name one lt same = ap suc (named_once xs k j e name (both _ _ one).1 (omega arith) same)

some_same : {X : Type 0} (x y : X) → Some x ≡ Some y → x ≡ y
some_same x y e = ap (λ o. unwrap_or o x) e

rule_at : (xs : List Arg) (k : ℕ) (d : Arg) (r : Rule) → slice_get (map rule_of xs) k ≡ Some r → (k < length xs) × (rule_of (slice_index_or xs k d) ≡ r)
rule_at [] k d r is = cc
rule_at (x ∷ xs) zero d r is = (omega arith, some_same (rule_of x) r is)
rule_at (x ∷ xs) (suc k) d r is = let rest = rule_at xs k d r is in (omega (arith, rest.0), rest.1)

-- ---- a value that was found

at_head : (P : Bor Text → Type 0) (vs : List (Bor Text)) (t : Text) → All P vs → option_map (λ s. s.now) (slice_get vs 0) ≡ Some t → (v : Bor Text) × (v.now ≡ t) × P v
at_head P [] t all is = cc
at_head P (v ∷ vs) t all is = (v, some_same v.now t is, All-get_or P (v ∷ vs) 0 v (omega arith) all)

none_first : (f : Found) (name : Text) → matched_of f name ≡ None → first_value f name ≡ None
none_first f name e = rw e refl

-- A name that is no other's, and none of those that clap knows by itself.
abbrev pub stands : ℕ → Text → Bool
stands k name = alone k name rules && list_all (λ t. not (bytes_eq name t)) ([] ∷ codes "help" ∷ codes "version" ∷ [])

no_other : (a b : Text) → not (bytes_eq a b) ≡ true → a ≡ b → ⊥
no_other a b e is = no_truth _ e ((bytes_eq-Decides a b).1 is)

text_read : (f : Found) (name : Text) (x : MatchedArg) (t : Text) → matched_of f name ≡ Some x → x.reading ≡ AsWritten → option_map (λ s. s.now) (slice_get x.vals.items 0) ≡ Some t → one_text f name ≡ Some t
text_read f name x t found how first = rw (found, how) first

module _ (old : Command) (m : ArgMatches) (made : app_of old ≡ command) (p : IsParsedFrom old m) where
  rules_are : map rule_of (args_of old) ≡ rules
  unfolding command
  rules_are = ap (λ (a : App). a.top.rules) made

  simple : all_simple (shape_of old).rules ≡ true
  unfolding command
  simple = ap (λ (a : App). all_simple a.top.rules) made

  plain : HasPlainFields old
  unfolding command
  plain = plain_fields old (ap (λ (a : App). a.top.is_plain) made)

  no_groups : groups_of p.built ≡ []
  no_groups = (p.from.same_groups (simple_groups old simple)).1 ∙ plain.groups

  parsed : IsParsed p.built (found_of m) (has_subcommand m)
  parsed = p.parsed (p.from.globals ∙ plain.globals)

  module _ (k : ℕ) (name : Text) (least most : ℕ) (at : slice_get rules k ≡ Some (number_rule name least most)) (own : stands k name ≡ true) where
    here : (d : Arg) → (k < length (args_of old)) × (rule_of (slice_index_or (args_of old) k d) ≡ number_rule name least most)
    here d = rule_at (args_of old) k d _ (ap (λ rs. slice_get rs k) rules_are ∙ at)

    named : (d : Arg) → (slice_index_or (args_of old) k d).id.now ≡ name
    named d = ap (λ (r : Rule). r.id) (here d).1

    reserved : list_all (λ t. not (bytes_eq name t)) ([] ∷ codes "help" ∷ codes "version" ∷ []) ≡ true
    reserved = (both (alone k name rules) _ own).1

    once : (d : Arg) (j : ℕ) (e : Arg) → j < length (args_of old) → bytes_eq (slice_index_or (args_of old) j e).id.now (slice_index_or (args_of old) k d).id.now ≡ true → j ≡ k
    once d j e lt same =
        named_once (args_of old) k j e name (ap (alone k name) rules_are ∙ (both (alone k name rules) _ own).0) lt
        (ap (bytes_eq (slice_index_or (args_of old) j e).id.now) (sym (named d)) ∙ same)

    not_auto : (d : Arg) → IsAuto (slice_index_or (args_of old) k d) → ⊥
    not_auto d (inl is) = no_other name (codes "help") (both _ _ (both (not (bytes_eq name [])) _ reserved).1).0 (sym (named d) ∙ is)
    not_auto d (inr is) = no_other name (codes "version") (both _ _ (both _ _ (both (not (bytes_eq name [])) _ reserved).1).1).0 (sym (named d) ∙ is)

    not_empty : name ≡ [] → ⊥
    not_empty is = no_other name [] (both (not (bytes_eq name [])) _ reserved).0 is

    -- The argument of this name in the built command has the option's parser.
    parser_is : (j : ℕ) (x : Arg) → j < length (args_of p.built) → slice_index_or (args_of p.built) j x ≡ x → bytes_eq x.id.now name ≡ true → parser_of x ≡ vp.Unsigned least most
    parser_is j x lt is same =
        let rules_same = same_rules_by_id old m p k x (here x).0 (once x) (not_auto x) j x lt is (ap (bytes_eq x.id.now) (named x) ∙ same) in
        ap parser_of_value (rules_same.parser (vp.Unsigned least most) (ap (λ (r : Rule). r.parser) (here x).1))

    no_group : (e : Entry) → e.0.now ≡ name → EntryPasses p.built e → e.1.is_group ≡ true → ⊥
    no_group e key pass g = elim (pass.3 g) [
      | inl empty ↦ not_empty (sym key ∙ empty)
      | inr some ↦
          let bad : 0 < 0 = rw no_groups at some in
          absurd (omega arith)
    ]

    of_values : (e : Entry) → e.0.now ≡ name → EntryPasses p.built e → All (λ v. PassesArg p.built e.0.now v.now) e.1.vals.items
    of_values e key pass = elim pass.0 [
      | inl g ↦ absurd (no_group e key pass g)
      | inr vals ↦ vals
    ]

    how_read : (e : Entry) → e.0.now ≡ name → EntryPasses p.built e → HasReading p.built e.0.now e.1.reading
    how_read e key pass = elim pass.4 [
      | inl g ↦ absurd (no_group e key pass g)
      | inr h ↦ h
    ]

    is_written : (w : Text) (how : Reading) → w ≡ name → HasReading p.built w how → how ≡ AsWritten
    is_written w how key h = sym h.4.1 ∙ ap reading_of (parser_is h.0 h.1 h.2 h.3 (ap (bytes_eq h.1.id.now) (sym key) ∙ h.4.0))

    is_accepted : (w t v : Text) → w ≡ name → v ≡ t → PassesArg p.built w v → IsUnsignedIn least most t
    is_accepted w t v key same pass = subst (IsUnsignedIn least most) same
        (subst (λ (q : ValueParser). Accepts pass.1.ignore_case q v) (parser_is pass.0 pass.1 pass.2 pass.3 (ap (bytes_eq pass.1.id.now) (sym key) ∙ pass.4.0)) pass.4.1)

    -- What one entry gives.
    of_entry : (x : MatchedArg) (e : Entry) (t : Text) → matched_of (found_of m) name ≡ Some x → option_map (λ s. s.now) (slice_get x.vals.items 0) ≡ Some t → e.1 ≡ x → e.0.now ≡ name → EntryPasses p.built e
        → (one_text (found_of m) name ≡ Some t) × IsUnsignedIn least most t
    of_entry x e t found first same_x key pass =
        let is : x.reading ≡ AsWritten = ap (λ (y : MatchedArg). y.reading) (sym same_x) ∙ is_written e.0.now e.1.reading key (how_read e key pass) in
        let head = at_head (λ v. PassesArg p.built e.0.now v.now) e.1.vals.items t (of_values e key pass) (ap (λ (y : MatchedArg). option_map (λ s. s.now) (slice_get y.vals.items 0)) same_x ∙ first) in
        (text_read (found_of m) name x t found is first, is_accepted e.0.now t head.0.now key head.1 head.2)

    -- What the option was given is a number in its bounds.
    pub number_found : IsNumber (found_of m) name least most
    number_found t is = go (matched_of (found_of m) name) refl
      where
        go : (o : Option MatchedArg) → matched_of (found_of m) name ≡ o → (one_text (found_of m) name ≡ Some t) × IsUnsignedIn least most t
        go None e = let none : Some t ≡ None = sym is ∙ none_first (found_of m) name e in cc
        go (Some x) e =
            let got = entry_by_id (EntryPasses p.built) (found_of m).entries.items name x parsed.values e in
            of_entry x got.0 t e (rw e at is) got.1 ((bytes_eq-Decides got.0.0.now name).0 got.2) got.3

-- ---- the number of an option

-- A text that is a number in these bounds is read as it.
read_number : (E : Type 0) (G : Text → Result ℕ E → Type 0) (k least most : ℕ) (t : Text) (r : Option ℕ)
    → ReadsOne G t r → ((u : Text) (x : Result ℕ E) → G u x → ParsesUnsigned k 10 u x) → most < 2 ^ k → IsUnsignedIn least most t → r ≡ Some (digits_value 10 (without_leading_plus t))
read_number E G k least most t (Some n) read only fits is = ap Some (only t (Ok n) read).1
read_number E G k least most t None read only fits is = absurd (only t (Err read.0) read.1 (is.0, omega (arith, is.3, fits)))

no_text : (f : Found) (name : Text) → first_value f name ≡ None → one_text f name ≡ None
no_text f name none = go (matched_of f name) refl
  where
    at_none : (how : Reading) (vs : List (Bor Text)) → option_map (λ s. s.now) (slice_get vs 0) ≡ None → option_map (λ s. read_as how s.now) (slice_get vs 0) ≡ None
    at_none how [] e = refl
    at_none how (v ∷ vs) e = cc

    go : (o : Option MatchedArg) → matched_of f name ≡ o → one_text f name ≡ None
    go None e = rw e refl
    go (Some x) e = rw e (at_none x.reading x.vals.items (rw e at none))

-- What is read of an option, or its default, is its number.
pub number_read : (E : Type 0) (G : Text → Result ℕ E → Type 0) (k least most standard : ℕ) (f : Found) (name : Text) (r : Option ℕ) → IsNumber f name least most → most < 2 ^ k
    → ((u : Text) (x : Result ℕ E) → G u x → ParsesUnsigned k 10 u x) → (one_text f name ≡ None → r ≡ None) → ((t : Text) → one_text f name ≡ Some t → ReadsOne G t r)
    → unwrap_or r standard ≡ number_of name standard (rows_of f)
number_read E G k least most standard f name r is fits only none some = go (first_value f name) refl
  where
    go : (o : Option Text) → first_value f name ≡ o → unwrap_or r standard ≡ number_of name standard (rows_of f)
    go None e = rw (none (no_text f name e), sym (first_value-rows f name) ∙ e) refl
    go (Some t) e =
        let found = is t e in
        rw (read_number E G k least most t r (some t found.0) only fits found.1, sym (first_value-rows f name) ∙ e) refl

-- The number of an option lies in its bounds, where its default does.
pub number_between : (f : Found) (name : Text) (least most standard : ℕ) → IsNumber f name least most → least ≤ standard → standard ≤ most
    → (least ≤ number_of name standard (rows_of f)) × (number_of name standard (rows_of f) ≤ most)
number_between f name least most standard is low high = go (first_value f name) refl
  where
    go : (o : Option Text) → first_value f name ≡ o → (least ≤ number_of name standard (rows_of f)) × (number_of name standard (rows_of f) ≤ most)
    go None e = rw (sym (first_value-rows f name) ∙ e) (low, high)
    go (Some t) e = let found = is t e in rw (sym (first_value-rows f name) ∙ e) (found.1.2, found.1.3)

-- A number in narrower bounds lies in wider ones.
pub widened : (f : Found) (name : Text) (least most : ℕ) → IsNumber f name least most → most ≤ 4294967295 → IsNumber f name 0 4294967295
widened f name least most is below t given = let found = is t given in (found.0, (found.1.0, found.1.1, omega arith, omega (arith, found.1.3, below)))
