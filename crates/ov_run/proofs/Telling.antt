-- A text that is written in parts.
use Rattle.std.proofs.Common.{ℕ, ◌+◌, ◌≤◌, ◌≡◌, List, [], ◌∷◌, ◌++◌, length, take, length-append, append_assoc, arith, Option, Result, Ok, Err, subst, sym, ap}
use Rattle.std.proofs.lemmas.List.{take-append-le}
use Rattle.std.proofs.Math.Seq.{take-append-add}
use Rattle.std.proofs.KnownBytes.{Appends-trans}
use Rattle.std.specs.Io.KnownBytes.{Appends}
use Rattle.std.specs.Prelude.{codes, ⊤, OnErr}
use Rattle.ov_base.specs.declared.writing.WriteFault.{WriteFault}
use Rattle.ov_base.specs.Loops.{AppendsPart}
use Rattle.ov_run.specs.Told.{told_line}

-- What holds where a write failed holds of the answer that says so.
pub on_err : (r : Result ⊤ WriteFault) (P : Type 0) → P → OnErr r P
on_err (Ok done) P p = tt
on_err (Err fault) P p = p

-- A part of the first is a part of both.
part_first : (a b : Option (List ℕ)) (x y : List ℕ) → AppendsPart a b x → AppendsPart a b (x ++ y)
part_first a b x y part =
    let P : List ℕ → Type 0 = λ l. Appends a b l in
    let within : part.0 ≤ length x = omega (arith, part.1) in
    (part.0, omega (arith, part.1, length-append x y), subst P (sym (take-append-le part.0 x y within)) part.2)

-- So is all of the first and a part of the second.
part_then : (a b c : Option (List ℕ)) (x y : List ℕ) → Appends a b x → AppendsPart b c y → AppendsPart a c (x ++ y)
part_then a b c x y whole part =
    let P : List ℕ → Type 0 = λ l. Appends a c l in
    (length x + part.0, omega (arith, part.1, length-append x y), subst P (sym (take-append-add x y part.0)) (Appends-trans a b c x (take part.0 y) whole part.2))

-- The line that tells of a line outside the grammar, and its parts.
abbrev bad_line : List ℕ → List ℕ
bad_line digits = told_line (codes "line " ++ digits ++ codes " is not in the grammar")

parts : (digits : List ℕ) → codes "ovpn: line " ++ digits ++ codes " is not in the grammar\n" ≡ bad_line digits
parts digits = sym (ap (λ (l : List ℕ). codes "ovpn: line " ++ l) (append_assoc digits (codes " is not in the grammar") (10 ∷ [])))

-- All parts were written.
pub told_whole : (a b c d : Option (List ℕ)) (text digits : List ℕ) → text ≡ digits → Appends a b (codes "ovpn: line ") → Appends b c text → Appends c d (codes " is not in the grammar\n") → Appends a d (bad_line digits)
told_whole a b c d text digits is first second third =
    let P : List ℕ → Type 0 = λ l. Appends a d l in
    let Q : List ℕ → Type 0 = λ l. Appends a d (codes "ovpn: line " ++ l ++ codes " is not in the grammar\n") in
    subst P (parts digits) (subst Q is (Appends-trans a c d _ _ (Appends-trans a b c _ _ first second) third))

-- The first part, the second or the third was written in part.
pub told_first : (a b : Option (List ℕ)) (digits : List ℕ) → AppendsPart a b (codes "ovpn: line ") → AppendsPart a b (bad_line digits)
told_first a b digits first =
    let P : List ℕ → Type 0 = λ l. AppendsPart a b l in
    subst P (parts digits) (part_first a b (codes "ovpn: line " ++ digits) (codes " is not in the grammar\n") (part_first a b (codes "ovpn: line ") digits first))

pub told_second : (a b c : Option (List ℕ)) (text digits : List ℕ) → text ≡ digits → Appends a b (codes "ovpn: line ") → AppendsPart b c text → AppendsPart a c (bad_line digits)
told_second a b c text digits is first second =
    let P : List ℕ → Type 0 = λ l. AppendsPart a c l in
    let Q : List ℕ → Type 0 = λ l. AppendsPart b c l in
    subst P (parts digits) (part_first a c (codes "ovpn: line " ++ digits) (codes " is not in the grammar\n") (part_then a b c (codes "ovpn: line ") digits first (subst Q is second)))

pub told_third : (a b c d : Option (List ℕ)) (text digits : List ℕ) → text ≡ digits → Appends a b (codes "ovpn: line ") → Appends b c text → AppendsPart c d (codes " is not in the grammar\n") → AppendsPart a d (bad_line digits)
told_third a b c d text digits is first second third =
    let P : List ℕ → Type 0 = λ l. AppendsPart a d l in
    let Q : List ℕ → Type 0 = λ l. Appends b c l in
    subst P (parts digits) (part_then a c d (codes "ovpn: line " ++ digits) (codes " is not in the grammar\n") (Appends-trans a b c _ _ first (subst Q is second)) third)
