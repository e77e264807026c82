-- The test whether keys differ tells exactly whether they do.
use Rattle.std.proofs.Common.{◌≡◌, Bool, true, false, ◌&&◌, ◌||◌, List, [], ◌∷◌, refl, sym, ap, ◌∙◌, true≢false}
use Rattle.std.specs.Prelude.{not, ◌↔◌, codes, Some}
use Rattle.std.specs.List.{IsDistinct, AllByRecursion, list_any}
use Rattle.serde_json.specs.Data.{boolean}
use Rattle.ov_model.specs.declared.report.Report.{Report}
use Rattle.ov_model.specs.declared.command.KeyDir.{KeyDir}
use Rattle.ov_model.specs.declared.entry.Entry.{Entry}
use Rattle.ov_model.specs.Keys.{KeysDiffer, same_dir, sealing_in}
use Rattle.ov_report.specs.Summary.{all_differ, keys_differ, summary_data, told}

and_left : (a b : Bool) → (a && b) ≡ true → a ≡ true
and_left true b h = refl
and_left false b h = absurd (true≢false (sym h))

and_right : (a b : Bool) → (a && b) ≡ true → b ≡ true
and_right true b h = h
and_right false b h = absurd (true≢false (sym h))

not_true : (a : Bool) → not a ≡ true → a ≡ false
not_true true h = absurd (true≢false (sym h))
not_true false h = refl

first_false : (a b : Bool) → (a || b) ≡ false → a ≡ false
first_false true b h = absurd (true≢false h)
first_false false b h = refl

second_false : (a b : Bool) → (a || b) ≡ false → b ≡ false
second_false true b h = absurd (true≢false h)
second_false false b h = h

none_like : (d : KeyDir) (ds : List KeyDir) → list_any (same_dir d) ds ≡ false → AllByRecursion (λ e. same_dir d e ≡ false) ds
none_like d [] h = tt
none_like d (e ∷ ds) h = (first_false (same_dir d e) (list_any (same_dir d) ds) h, none_like d ds (second_false (same_dir d e) (list_any (same_dir d) ds) h))

like_none : (d : KeyDir) (ds : List KeyDir) → AllByRecursion (λ e. same_dir d e ≡ false) ds → list_any (same_dir d) ds ≡ false
like_none d [] h = refl
like_none d (e ∷ ds) h = rw (h.0, like_none d ds h.1) refl

test_shows : (ds : List KeyDir) → all_differ ds ≡ true → IsDistinct same_dir ds
unfolding IsDistinct
test_shows [] h = tt
test_shows (d ∷ ds) h = (none_like d ds (not_true (list_any (same_dir d) ds) (and_left (not (list_any (same_dir d) ds)) (all_differ ds) h)), test_shows ds (and_right (not (list_any (same_dir d) ds)) (all_differ ds) h))

test_from : (ds : List KeyDir) → IsDistinct same_dir ds → all_differ ds ≡ true
unfolding IsDistinct
test_from [] h = refl
test_from (d ∷ ds) h = rw (like_none d ds h.0, test_from ds h.1) refl

-- The keys of a journal differ exactly where the test says so.
pub keys_differ-exactly : (journal : List Entry) → (keys_differ journal ≡ true) ↔ KeysDiffer journal
unfolding keys_differ
keys_differ-exactly journal = (test_shows (sealing_in journal), test_from (sealing_in journal))

-- The summary says the answer of the test.
says_test : (r : Report) → told (codes "keys-differ") (summary_data r) ≡ Some (boolean (keys_differ r.journal))
unfolding summary_data
says_test r = refl

-- So what it says is true exactly where the keys differ.
pub told-exactly : (r : Report) → (told (codes "keys-differ") (summary_data r) ≡ Some (boolean true)) ↔ KeysDiffer r.journal
told-exactly r =
    let exactly : (keys_differ r.journal ≡ true) ↔ KeysDiffer r.journal = keys_differ-exactly r.journal in (
      λ h. let same : Some (boolean (keys_differ r.journal)) ≡ Some (boolean true) = sym (says_test r) ∙ h in
          let is : keys_differ r.journal ≡ true = cc in exactly.0 is,
      λ d. says_test r ∙ ap (λ b. Some (boolean b)) (exactly.1 d),
    )
