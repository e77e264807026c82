-- How many lines of a stream were found good.
use Rattle.std.proofs.Common.{◌≡◌, ◌∙◌, ℕ, ◌≤◌, Bool, true, false, if◌then◌else◌, nat_le, List, [], ◌++◌, length, refl, sym, ap, subst, append_assoc}
use Rattle.std.proofs.lemmas.List.{take_all, append-nil}
use Rattle.std.proofs.lemmas.Bool.{leb-true, le-leb}
use Rattle.ov_model.specs.declared.line.Line.{Line}
use Rattle.ov_script.specs.declared.script.ReadStop.{ReadStop}
use Rattle.ov_script.specs.Reading.{Cut, cut, most_bytes, last_line, ended_lines, whole_lines, counted_lines, AreLines, AreGood}
use Rattle.ov_script.specs.Steps.{Halted}
use Rattle.ov_script.proofs.Cutting.{cut_on}
use Rattle.ov_script.proofs.Lines.{lines_count}

-- A short stream's front is all of it.
pub ended_whole : (bytes : List ℕ) → length bytes ≤ most_bytes → ended_lines bytes ≡ (cut bytes).ended
ended_whole bytes h = ap (λ (b : List ℕ). (cut b).ended) (take_all most_bytes bytes h)

-- Of a short stream all lines count.
pub counted_whole : (bytes : List ℕ) → length bytes ≤ most_bytes → counted_lines bytes ≡ whole_lines bytes
counted_whole bytes h = ap (λ (t : Bool). if t then whole_lines bytes else ended_lines bytes) (le-leb (length bytes) most_bytes h)

-- Good pieces stay good with others behind.
good_longer : (lanes : ℕ) (pieces more : List (List ℕ)) (n : ℕ) → AreGood lanes pieces n → AreGood lanes (pieces ++ more) n
good_longer lanes pieces more n g = record {
  good = g.good;
  others = g.others ++ more;
  pieces_are = ap (λ ps. ps ++ more) g.pieces_are ∙ append_assoc g.good g.others more;
  number = g.number;
  all_good = g.all_good;
}

good_chosen : (lanes : ℕ) (bytes : List ℕ) (n : ℕ) (t : Bool) → nat_le (length bytes) most_bytes ≡ t → AreGood lanes (ended_lines bytes) n → AreGood lanes (if t then whole_lines bytes else ended_lines bytes) n
good_chosen lanes bytes n true e g =
    let P : List (List ℕ) → Type 0 = λ ps. AreGood lanes ps n in
    good_longer lanes (cut bytes).ended (last_line (cut bytes).rest) n (subst P (ended_whole bytes (leb-true _ _ e)) g)
good_chosen lanes bytes n false e g = g

-- What is good of the ended lines is good of those that count.
pub good_counted : (lanes : ℕ) (bytes : List ℕ) (n : ℕ) → AreGood lanes (ended_lines bytes) n → AreGood lanes (counted_lines bytes) n
good_counted lanes bytes n g = good_chosen lanes bytes n (nat_le (length bytes) most_bytes) refl g

-- Where pieces are all good, so many are.
pub all_good : (lanes : ℕ) (pieces : List (List ℕ)) (lines : List Line) → AreLines lanes pieces lines → AreGood lanes pieces (length lines)
all_good lanes pieces lines said = record { good = pieces; others = []; pieces_are = sym (append-nil pieces); number = lines_count lanes pieces lines said; all_good = (lines, said) }

-- The lines of a front of bytes are the first of the bytes.
pub good_halted : (lanes : ℕ) (bytes : List ℕ) (lines : List Line) (s : ReadStop) → Halted lanes bytes lines s → AreGood lanes (cut bytes).ended (length lines)
good_halted lanes bytes lines s h = record {
  good = (cut h.front).ended;
  others = (cut ((cut h.front).rest ++ h.behind)).ended;
  pieces_are = ap (λ (b : List ℕ). (cut b).ended) h.bytes_are ∙ ap (λ (c : Cut). c.ended) (cut_on h.front h.behind);
  number = lines_count lanes (cut h.front).ended lines h.said;
  all_good = (lines, h.said);
}
