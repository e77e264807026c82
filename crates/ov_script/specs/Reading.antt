-- The script of a stream of bytes, or the first event at which the stream stops being one.
use Rattle.std.specs.Prelude.{◌≡◌, ◌≢◌, ℕ, ◌+◌, ◌<◌, ◌≤◌, ◌==◌, ◌⊎◌, Bool, true, false, IsTrue, List, [], ◌∷◌, ◌++◌, length, take, filter, if◌then◌else◌, nat_le, Option, None, Some, Result, Ok, Err, ⊤}
use Rattle.ov_model.specs.declared.line.Line.{Line}
use Rattle.ov_model.specs.declared.line.Deed.{Deed}
use Rattle.ov_model.specs.declared.line.Deed.TheVariants as deed
use Rattle.ov_model.specs.declared.line.Script.{Script}
use Rattle.ov_model.specs.declared.netlink.NlOp.{NlOp}
use Rattle.ov_model.specs.declared.netlink.NlOp.TheVariants as op
use Rattle.ov_script.specs.declared.script.Limit.{Limit}
use Rattle.ov_script.specs.declared.script.Limit.TheVariants.{Bytes, Lines, LineBytes, Wide}
use Rattle.ov_script.specs.declared.script.ReadStop.{ReadStop}
use Rattle.ov_script.specs.declared.script.ReadStop.TheVariants as stop
use Rattle.ov_line.specs.Grammar.{Says}

-- ---- limits

-- The most bytes of a script.
unfoldable pub most_bytes : ℕ
most_bytes = 67108864

-- The most bytes of one piece, which is what one read asks for.
unfoldable pub most_piece : ℕ
most_piece = 65536

-- The most lines of a script.
abbrev pub most_lines : ℕ
most_lines = 262144

-- The most bytes of a line, its end not counted.
abbrev pub most_line_bytes : ℕ
most_line_bytes = 262144

-- The most lines of a script that are answered by all peers.
abbrev pub most_wide : ℕ
most_wide = 1024

-- ---- lines

-- Bytes cut at each line end, the byte 0x0a: the lines that were ended, without their ends, and what
-- follows the last end.
pub record Cut : Type 0 where
  pub ended : List (List ℕ)
  pub rest : List ℕ

-- an ended line in front of the others
abbrev pub line_first : List ℕ → Cut → Cut
line_first line c = record c { ended = line ∷ c.ended }

-- a byte in front, where `ended` are the lines and `rest` what follows
abbrev pub byte_first : ℕ → List (List ℕ) → List ℕ → Cut
byte_first b [] rest = record { ended = []; rest = b ∷ rest }
byte_first b (line ∷ others) rest = record { ended = (b ∷ line) ∷ others; rest = rest }

-- The lines and the rest of a list of bytes.
abbrev pub cut : List ℕ → Cut
cut [] = record { ended = []; rest = [] }
cut (b ∷ bytes) = let others = cut bytes in if b == 10 then line_first [] others else byte_first b others.ended others.rest

-- What follows the last end is a line too where it isn't empty.
abbrev pub last_line : List ℕ → List (List ℕ)
last_line [] = []
last_line (b ∷ bytes) = (b ∷ bytes) ∷ []

-- All lines of a whole stream, in order.
abbrev pub whole_lines : List ℕ → List (List ℕ)
whole_lines bytes = (cut bytes).ended ++ last_line (cut bytes).rest

-- The pieces say these lines, each its own.
abbrev pub AreLines : ℕ → List (List ℕ) → List Line → Type 0
AreLines lanes [] [] = Unit {0}
AreLines lanes (piece ∷ pieces) (line ∷ lines) = Says piece lanes line × AreLines lanes pieces lines
AreLines lanes [] (line ∷ lines) = ⊥
AreLines lanes (piece ∷ pieces) [] = ⊥

-- All of the pieces are in the grammar.
abbrev pub AllGood : ℕ → List (List ℕ) → Type 0
AllGood lanes pieces = (lines : List Line) × AreLines lanes pieces lines

-- Whether an operation is answered by all peers.
abbrev pub is_dump : NlOp → Bool
is_dump op.PeerDump = true
is_dump _ = false

-- What a line asks for is answered by all peers: a dump, a tick, or the end of the device.
abbrev pub is_wide_deed : Deed → Bool
is_wide_deed (deed.Netlink message) = is_dump message.op
is_wide_deed deed.Tick = true
is_wide_deed deed.Down = true
is_wide_deed _ = false

-- Whether a line is one of those that are answered by all peers, which are told apart here as wide.
abbrev pub is_wide : Line → Bool
is_wide line = is_wide_deed line.deed

-- How many of the lines are wide.
abbrev pub wide_count : List Line → ℕ
wide_count lines = length (filter is_wide lines)

-- ---- events

-- What stops a stream from being a script: a line outside the grammar, by its number from 1, or a limit.
pub data Event : Type 0 where
  bad_line : ℕ → Event
  passed : Limit → Event

-- Of events at one byte the one with the lower rank comes first.
abbrev pub rank : Event → ℕ
rank (passed Bytes) = 0
rank (passed Lines) = 1
rank (passed LineBytes) = 2
rank (bad_line n) = 3
rank (passed Wide) = 4

-- What follows the last end of the bytes is, as a line, the 1,025th wide one of them.
pub record IsOneTooWide (lanes : ℕ) (bytes : List ℕ) : Type 0 where
  pub lines : List Line
  pub line : Line
  pub said : AreLines lanes (cut bytes).ended lines
  pub says : Says (cut bytes).rest lanes line
  pub wide : IsTrue (is_wide line)
  pub number : wide_count lines ≡ most_wide

-- The end of the line that the bytes begin last gives an event: the line is outside the grammar, or one
-- wide line too many.
abbrev pub Ends : ℕ → List ℕ → Event → Type 0
Ends lanes bytes (bad_line n) = (n ≡ length (cut bytes).ended + 1) × ((line : Line) → ¬ (Says (cut bytes).rest lanes line))
Ends lanes bytes (passed Wide) = IsOneTooWide lanes bytes
Ends lanes bytes (passed _) = ⊥

-- Behind these bytes one more gives an event: it is byte 67,108,865 of the script, begins line 262,145, is
-- byte 262,145 of its line, the end not counted, or ends a line.
abbrev pub Gives : ℕ → List ℕ → ℕ → Event → Type 0
Gives lanes bytes byte (passed Bytes) = length bytes ≡ most_bytes
Gives lanes bytes byte (passed Lines) = ((cut bytes).rest ≡ []) × (length (cut bytes).ended ≡ most_lines)
Gives lanes bytes byte (passed LineBytes) = (length (cut bytes).rest ≡ most_line_bytes) × (byte ≢ 10)
Gives lanes bytes byte event = (byte ≡ 10) × Ends lanes bytes event

-- No byte gives an event.
abbrev pub IsQuiet : ℕ → List ℕ → Type 0
IsQuiet lanes bytes = (front : List ℕ) (byte : ℕ) (behind : List ℕ) → bytes ≡ front ++ byte ∷ behind → (event : Event) → ¬ (Gives lanes front byte event)

-- An event that the byte behind `front` gives: no byte before it gives one, and of those that it gives this
-- comes first.
pub record EarlyAt (lanes : ℕ) (bytes front : List ℕ) (event : Event) : Type 0 where
  pub byte : ℕ
  pub behind : List ℕ
  pub bytes_are : bytes ≡ front ++ byte ∷ behind
  pub quiet : IsQuiet lanes front
  pub given : Gives lanes front byte event
  pub first : (other : Event) → rank other < rank event → ¬ (Gives lanes front byte other)

-- The first event that the bytes of a stream show while it may still go on.
abbrev pub Early : List ℕ → ℕ → Event → Type 0
Early bytes lanes event = (front : List ℕ) × EarlyAt lanes bytes front event

-- An event that the end of a stream gives, of which no byte gives one: its last piece without an end is a
-- line too.
pub record LastAt (lanes : ℕ) (bytes : List ℕ) (event : Event) : Type 0 where
  pub quiet : IsQuiet lanes bytes
  pub piece : 0 < length (cut bytes).rest
  pub given : Ends lanes bytes event
  pub first : (other : Event) → rank other < rank event → ¬ (Ends lanes bytes other)

-- The first event of a whole stream behind its front: it comes with the byte behind, or with the stream's end.
abbrev pub StopAt : ℕ → List ℕ → List ℕ → Event → Type 0
StopAt lanes bytes front event = EarlyAt lanes bytes front event ⊎ ((front ≡ bytes) × LastAt lanes bytes event)

-- The first event of a whole stream.
abbrev pub Stop : List ℕ → ℕ → Event → Type 0
Stop bytes lanes event = (front : List ℕ) × StopAt lanes bytes front event

-- The stream is a script from its first byte to its last.
abbrev pub HasNoStop : List ℕ → ℕ → Type 0
HasNoStop bytes lanes = (event : Event) → ¬ (Stop bytes lanes event)

-- The script of a whole stream: the lines that its pieces say, in order. No line gives a route.
pub record IsScript (bytes : List ℕ) (lanes : ℕ) (script : Script) : Type 0 where
  pub within : length bytes ≤ most_bytes
  pub lines : AreLines lanes (whole_lines bytes) script.lines
  pub routes : script.routes ≡ []

-- ---- answers

-- The bytes that a source gave, where it tells what it has left before and now.
pub record Gave (before now : Option (List ℕ)) (bytes : List ℕ) : Type 0 where
  pub left : List ℕ
  pub had : before ≡ Some (bytes ++ left)
  pub has : now ≡ Some left

-- A source that tells what it has left tells what it gave: some bytes from the front, and all others are left.
abbrev pub GaveSome : Option (List ℕ) → Option (List ℕ) → Type 0
GaveSome None now = ⊤
GaveSome (Some held) now = (taken : List ℕ) × Gave (Some held) now taken

-- How an event is answered.
abbrev pub stop_of : Event → ReadStop
stop_of (bad_line n) = stop.Bad n
stop_of (passed limit) = stop.Limit limit

-- An event is told: the answer is that event, or want of memory, which is free.
abbrev pub IsTold : Event → Result Script ReadStop → Type 0
IsTold event outcome = (outcome ≡ Err (stop_of event)) ⊎ (outcome ≡ Err stop.Memory)

-- The lines that end within the most bytes.
abbrev pub ended_lines : List ℕ → List (List ℕ)
ended_lines bytes = (cut (take most_bytes bytes)).ended

-- The lines of a stream as far as they count: all of them, or those that end within the most bytes.
abbrev pub counted_lines : List ℕ → List (List ℕ)
counted_lines bytes = if nat_le (length bytes) most_bytes then whole_lines bytes else ended_lines bytes

-- The first n of the pieces are in the grammar.
pub record AreGood (lanes : ℕ) (pieces : List (List ℕ)) (n : ℕ) : Type 0 where
  pub good : List (List ℕ)
  pub others : List (List ℕ)
  pub pieces_are : pieces ≡ good ++ others
  pub number : n ≡ length good
  pub all_good : AllGood lanes good

-- So many lines were ended before a limit was passed.
pub record CountsTo (lanes : ℕ) (bytes : List ℕ) (limit : Limit) (good : ℕ) : Type 0 where
  pub front : List ℕ
  pub stops : StopAt lanes bytes front (passed limit)
  pub number : good ≡ length (cut front).ended

-- How many lines were found good, where reading the bytes was answered so: all before the event that
-- stopped it. Of want of memory nothing more is said.
abbrev pub Counts : ℕ → List ℕ → Result Script ReadStop → ℕ → Type 0
Counts lanes bytes (Ok script) good = good ≡ length script.lines
Counts lanes bytes (Err (stop.Bad n)) good = n ≡ good + 1
Counts lanes bytes (Err (stop.Limit limit)) good = CountsTo lanes bytes limit good
Counts lanes bytes (Err stop.Read) good = good ≡ length (cut bytes).ended
Counts lanes bytes (Err stop.Memory) good = ⊤
