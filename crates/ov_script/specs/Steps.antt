-- What the steps of reading keep, and what they stop at.
use Rattle.std.specs.Prelude.{◌≡◌, ◌≢◌, ℕ, ◌+◌, ◌<◌, ◌≤◌, ◌⊎◌, List, [], ◌∷◌, ◌++◌, length, if◌then◌else◌, IsTrue, Option, Result, Ok, Err, ⊤}
use Rattle.std.specs.List.{AllByRecursion}
use Rattle.std.specs.Io.KnownBytes.{Consumes, IsAtEnd}
use Rattle.ov_base.specs.Outside.{Rose}
use Rattle.ov_model.specs.declared.line.Line.{Line}
use Rattle.ov_script.specs.declared.script.Limit.TheVariants.{Lines, LineBytes, Wide}
use Rattle.ov_script.specs.declared.script.ReadStop.{ReadStop}
use Rattle.ov_script.specs.declared.script.ReadStop.TheVariants as stop
use Rattle.ov_line.specs.Grammar.{Says}
use Rattle.ov_script.specs.Reading.{cut, whole_lines, AreLines, AreGood, IsQuiet, EarlyAt, LastAt, bad_line, passed, HasNoStop, counted_lines, is_wide, wide_count, most_bytes, most_piece, most_lines, most_line_bytes, most_wide}

-- ---- one line

-- A line was appended, and counted where it is wide.
pub record Appended (line : Line) (old new : List Line) (old_wide new_wide : ℕ) : Type 0 where
  pub lines_are : new ≡ old ++ line ∷ []
  pub wide_is : new_wide ≡ (if is_wide line then old_wide + 1 else old_wide)
  pub fits : IsTrue (is_wide line) → old_wide < most_wide

-- Why a line wasn't appended: it would be one wide line too many, or for want of memory.
abbrev pub IsTooMuch : Line → ℕ → ReadStop → Type 0
IsTooMuch line wide (stop.Limit Wide) = IsTrue (is_wide line) × (most_wide ≤ wide)
IsTooMuch line wide stop.Memory = ⊤
IsTooMuch line wide _ = ⊥

-- A line that the bytes say was appended.
pub record Added (lanes : ℕ) (bytes : List ℕ) (old new : List Line) (old_wide new_wide : ℕ) : Type 0 where
  pub line : Line
  pub says : Says bytes lanes line
  pub appended : Appended line old new old_wide new_wide

-- Why none was: the bytes say none, or it would be too much.
abbrev pub Refuses : ℕ → List ℕ → List Line → ℕ → ReadStop → Type 0
Refuses lanes bytes lines wide (stop.Bad n) = (n ≡ length lines + 1) × ((line : Line) → ¬ (Says bytes lanes line))
Refuses lanes bytes lines wide (stop.Limit limit) = (line : Line) × Says bytes lanes line × IsTooMuch line wide (stop.Limit limit)
Refuses lanes bytes lines wide stop.Read = ⊥
Refuses lanes bytes lines wide stop.Memory = ⊤

-- ---- pieces

-- What is known behind some bytes: the lines that they ended and how many of these are wide, and what
-- follows their last end. No byte of them gives an event.
pub record Reads (lanes : ℕ) (bytes : List ℕ) (lines : List Line) (wide : ℕ) (rest : List ℕ) : Type 0 where
  pub said : AreLines lanes (cut bytes).ended lines
  pub wide_is : wide ≡ wide_count lines
  pub rest_is : rest ≡ (cut bytes).rest
  pub quiet : IsQuiet lanes bytes
  pub lines_fit : length lines ≤ most_lines
  pub begun_fits : 0 < length rest → length lines < most_lines
  pub rest_fits : length rest ≤ most_line_bytes
  pub wide_fits : wide ≤ most_wide

-- None of the bytes ends a line.
abbrev pub NoEnd : List ℕ → Type 0
NoEnd bytes = AllByRecursion (λ byte. byte ≢ 10) bytes

-- Why bytes without a line end may not follow: they would begin a line too many, or make one too long.
abbrev pub Forbids : List Line → List ℕ → List ℕ → ReadStop → Type 0
Forbids lines rest part (stop.Limit Lines) = (rest ≡ []) × (most_lines ≤ length lines)
Forbids lines rest part (stop.Limit LineBytes) = (rest ≡ [] → length lines < most_lines) × (most_line_bytes < length rest + length part)
Forbids lines rest part _ = ⊥

-- They may.
abbrev pub Allows : List Line → List ℕ → List ℕ → Type 0
Allows lines rest part = (rest ≡ [] → length lines < most_lines) × (length rest + length part ≤ most_line_bytes)

-- What a stop says of the bytes, behind whose front these lines are known.
abbrev pub StopsAt : ℕ → List ℕ → List ℕ → ReadStop → Type 0
StopsAt lanes bytes front (stop.Bad n) = EarlyAt lanes bytes front (bad_line n)
StopsAt lanes bytes front (stop.Limit limit) = EarlyAt lanes bytes front (passed limit)
StopsAt lanes bytes front stop.Read = ⊥
StopsAt lanes bytes front stop.Memory = ⊤

-- Reading ended with these lines at some byte: they are those of the bytes in front of it.
pub record Halted (lanes : ℕ) (bytes : List ℕ) (lines : List Line) (stop : ReadStop) : Type 0 where
  pub front : List ℕ
  pub behind : List ℕ
  pub bytes_are : bytes ≡ front ++ behind
  pub said : AreLines lanes (cut front).ended lines
  pub stops : StopsAt lanes bytes front stop

-- What followed the last end of a stream was read: nothing, or one line.
abbrev pub IsLast : ℕ → List Line → List Line → ℕ → ℕ → List ℕ → Type 0
IsLast lanes old new old_wide new_wide rest = ((rest ≡ []) × (new ≡ old)) ⊎ ((0 < length rest) × Added lanes rest old new old_wide new_wide)

-- ---- the stream

-- What a stop at the stream's last piece says.
abbrev pub LastStops : ℕ → List ℕ → ReadStop → Type 0
LastStops lanes bytes (stop.Bad n) = LastAt lanes bytes (bad_line n)
LastStops lanes bytes (stop.Limit limit) = LastAt lanes bytes (passed limit)
LastStops lanes bytes stop.Read = ⊥
LastStops lanes bytes stop.Memory = ⊤

-- What an answer says of the bytes that a source gave, which has left what `now` tells, and whose count of
-- faults went from one number to another.
abbrev pub Judges : ℕ → Option (List ℕ) → ℕ → ℕ → List ℕ → List Line → Result ⊤ ReadStop → Type 0
Judges lanes now from to bytes lines (Ok done) = IsAtEnd now × (length bytes ≤ most_bytes) × AreLines lanes (whole_lines bytes) lines × HasNoStop bytes lanes
Judges lanes now from to bytes lines (Err stop.Read) = Rose from to × (length bytes ≤ most_bytes) × AreLines lanes (cut bytes).ended lines × IsQuiet lanes bytes
Judges lanes now from to bytes lines (Err why) = Halted lanes bytes lines why ⊎ (IsAtEnd now × (length bytes ≤ most_bytes) × AreLines lanes (cut bytes).ended lines × LastStops lanes bytes why)

-- What was read of a source: the bytes that it gave, of which the last piece alone may pass the limit.
pub record HasRead (lanes : ℕ) (before now : Option (List ℕ)) (from to : ℕ) (lines : List Line) (result : Result ⊤ ReadStop) : Type 0 where
  pub bytes : List ℕ
  pub taken : Consumes before now bytes
  pub most : length bytes ≤ most_bytes + most_piece
  pub judged : Judges lanes now from to bytes lines result
  pub good : AreGood lanes (counted_lines bytes) (length lines)
