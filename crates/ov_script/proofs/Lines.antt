-- Which lines pieces say, and how many of them are wide.
use Rattle.std.proofs.Common.{◌≡◌, ◌∙◌, ℕ, suc, ◌+◌, ◌<◌, ◌==◌, Bool, true, false, List, [], ◌∷◌, ◌++◌, length, refl, sym, ap, arith, codes}
use Rattle.std.specs.Prelude.{if◌then◌else◌, filter}
use Rattle.std.proofs.lemmas.Bool.{eqb-false, eqb-true}
use Rattle.std.proofs.lemmas.List.{length-append}
use Rattle.std.proofs.lemmas.List.Elements.{filter-append}
use Rattle.std.specs.Str.{bytes_eq}
use Rattle.ov_model.specs.declared.line.Line.{Line}
use Rattle.ov_model.specs.declared.line.Deed.{Deed}
use Rattle.ov_model.specs.declared.line.Deed.TheVariants as deed
use Rattle.ov_model.specs.declared.netlink.NlOp.{NlOp}
use Rattle.ov_model.specs.declared.netlink.NlOp.TheVariants as op
use Rattle.ov_model.specs.Sizes.{Fits}
use Rattle.std.specs.List.{AllByRecursion}
use Rattle.ov_line.specs.Grammar.{Says, deed_word, op_word}
use Rattle.ov_line.proofs.Fitting.{says_fits}
use Rattle.ov_line.proofs.Unique.{says_one}
use Rattle.ov_script.specs.Reading.{AreLines, last_line, is_wide, is_wide_deed, is_dump, wide_count}

-- One more piece says one more line.
pub lines_more : (lanes : ℕ) (pieces : List (List ℕ)) (lines : List Line) (piece : List ℕ) (line : Line) → AreLines lanes pieces lines → Says piece lanes line → AreLines lanes (pieces ++ piece ∷ []) (lines ++ line ∷ [])
lines_more lanes [] [] piece line h s = (s, tt)
lines_more lanes [] (l ∷ ls) piece line h s = absurd h
lines_more lanes (p ∷ ps) [] piece line h s = absurd h
lines_more lanes (p ∷ ps) (l ∷ ls) piece line h s = (h.0, lines_more lanes ps ls piece line h.1 s)

-- There are as many lines as pieces.
pub lines_count : (lanes : ℕ) (pieces : List (List ℕ)) (lines : List Line) → AreLines lanes pieces lines → length lines ≡ length pieces
lines_count lanes [] [] h = refl
lines_count lanes [] (l ∷ ls) h = absurd h
lines_count lanes (p ∷ ps) [] h = absurd h
lines_count lanes (p ∷ ps) (l ∷ ls) h = ap suc (lines_count lanes ps ls h.1)

-- All lines of pieces fit.
pub lines_fit : (lanes : ℕ) (pieces : List (List ℕ)) (lines : List Line) → AreLines lanes pieces lines → AllByRecursion (λ line. Fits line.deed) lines
lines_fit lanes [] [] are = tt
lines_fit lanes [] (line ∷ lines) are = absurd are
lines_fit lanes (piece ∷ pieces) [] are = absurd are
lines_fit lanes (piece ∷ pieces) (line ∷ lines) are = (says_fits piece lanes line are.0, lines_fit lanes pieces lines are.1)

-- And each is on one of the lanes.
pub lines_below : (lanes : ℕ) (pieces : List (List ℕ)) (lines : List Line) → AreLines lanes pieces lines → AllByRecursion (λ line. line.lane < lanes) lines
lines_below lanes [] [] are = tt
lines_below lanes [] (line ∷ lines) are = absurd are
lines_below lanes (piece ∷ pieces) [] are = absurd are
lines_below lanes (piece ∷ pieces) (line ∷ lines) are = (are.0.is_line.below, lines_below lanes pieces lines are.1)

-- A rest of some bytes is one line.
pub last_is_one : (rest : List ℕ) → 0 < length rest → last_line rest ≡ rest ∷ []
last_is_one [] h = absurd (omega arith)
last_is_one (b ∷ bs) h = refl

-- Bytes that say two lines say wide ones or others.
pub same_wide : (piece : List ℕ) (lanes : ℕ) (a b : Line) → Says piece lanes a → Says piece lanes b → is_wide a ≡ is_wide b
same_wide piece lanes a b x y = ap is_wide (says_one piece lanes a b x y)

-- A line in front of others counts where it is wide.
count_step : (line : Line) (lines : List Line) (t : Bool) → length (if t then line ∷ filter is_wide lines else filter is_wide lines) ≡ (if t then suc (wide_count lines) else wide_count lines)
count_step line lines true = refl
count_step line lines false = refl

-- So the pieces say how many of their lines are wide.
pub same_count : (lanes : ℕ) (pieces : List (List ℕ)) (a b : List Line) → AreLines lanes pieces a → AreLines lanes pieces b → wide_count a ≡ wide_count b
same_count lanes [] [] [] x y = refl
same_count lanes [] [] (m ∷ ms) x y = absurd y
same_count lanes [] (l ∷ ls) ms x y = absurd x
same_count lanes (p ∷ ps) [] ms x y = absurd x
same_count lanes (p ∷ ps) (l ∷ ls) [] x y = absurd y
same_count lanes (p ∷ ps) (l ∷ ls) (m ∷ ms) x y =
    let first : is_wide l ≡ is_wide m = same_wide p lanes l m x.0 y.0 in
    let others : wide_count ls ≡ wide_count ms = same_count lanes ps ls ms x.1 y.1 in
    count_step l ls (is_wide l) ∙ ap (λ (t : Bool). if t then suc (wide_count ls) else wide_count ls) first ∙ ap (λ (n : ℕ). if is_wide m then suc n else n) others ∙ sym (count_step m ms (is_wide m))

-- One more line counts where it is wide.
counted : (line : Line) (t : Bool) (n : ℕ) → n + length (if t then line ∷ [] else []) ≡ (if t then n + 1 else n)
counted line true n = refl
counted line false n = omega arith

pub count_more : (lines : List Line) (line : Line) → wide_count (lines ++ line ∷ []) ≡ (if is_wide line then wide_count lines + 1 else wide_count lines)
count_more lines line = ap length (filter-append is_wide lines (line ∷ [])) ∙ length-append (filter is_wide lines) (filter is_wide (line ∷ [])) ∙ counted line (is_wide line) (wide_count lines)

-- What the test for emptiness tells.
pub nothing : (rest : List ℕ) (n : ℕ) → n ≡ length rest → true ≡ (n == 0) → rest ≡ []
nothing [] n is h = refl
nothing (b ∷ bs) n is h = let zero : n ≡ 0 = eqb-true n 0 (sym h) in absurd (omega arith)

pub not_empty : (rest : List ℕ) (n : ℕ) → n ≡ length rest → false ≡ (n == 0) → 0 < length rest
not_empty [] n is h = absurd (eqb-false n 0 (sym h) is)
not_empty (b ∷ bs) n is h = omega arith
