-- Where reading halts: at the first event that the bytes give.
use Rattle.std.proofs.Common.{◌≡◌, ◌∙◌, ℕ, suc, ◌+◌, ◌-◌, ◌<◌, ◌≤◌, List, [], ◌∷◌, ◌++◌, length, refl, sym, ap, subst, append_assoc, arith}
use Rattle.std.specs.Prelude.{IsTrue}
use Rattle.std.proofs.lemmas.List.{length-append}
use Rattle.ov_model.specs.declared.line.Line.{Line}
use Rattle.ov_line.specs.Grammar.{Says}
use Rattle.ov_script.specs.declared.script.Limit.TheVariants.{Bytes, Lines, LineBytes, Wide}
use Rattle.ov_script.specs.declared.script.ReadStop.{ReadStop}
use Rattle.ov_script.specs.declared.script.ReadStop.TheVariants as stop
use Rattle.ov_script.specs.Reading.{Cut, cut, AreLines, is_wide, Event, bad_line, passed, rank, Gives, EarlyAt, IsOneTooWide, most_bytes, most_lines, most_line_bytes, most_wide}
use Rattle.ov_script.specs.Steps.{NoEnd, Reads, Forbids, Refuses, StopsAt, Halted}
use Rattle.ov_script.proofs.Cutting.{cut_held, place_of, no_end_front}
use Rattle.ov_script.proofs.Lines.{lines_count}
use Rattle.ov_script.proofs.Quiet.{gives_none, quiet_held}

-- An event stays the first with more bytes behind.
pub early_longer : (lanes : ℕ) (bytes more front : List ℕ) (event : Event) → EarlyAt lanes bytes front event → EarlyAt lanes (bytes ++ more) front event
early_longer lanes bytes more front event early = record {
  byte = early.byte;
  behind = early.behind ++ more;
  bytes_are = ap (λ (b : List ℕ). b ++ more) early.bytes_are ∙ append_assoc front (early.byte ∷ early.behind) more;
  quiet = early.quiet;
  given = early.given;
  first = early.first;
}

-- Want of memory leaves the lines that were ended.
pub out_of_memory : (lanes : ℕ) (bytes more : List ℕ) (lines : List Line) (wide : ℕ) (rest : List ℕ) → Reads lanes bytes lines wide rest → Halted lanes (bytes ++ more) lines stop.Memory
out_of_memory lanes bytes more lines wide rest reads = record { front = bytes; behind = more; bytes_are = refl; said = reads.said; stops = tt }

module _ (lanes : ℕ) (bytes : List ℕ) (lines : List Line) (wide : ℕ) (rest : List ℕ) (reads : Reads lanes bytes lines wide rest) where
  -- A byte that begins a line too many.
  line_too_many : (left : List ℕ) → 0 < length left → length (bytes ++ left) ≤ most_bytes → rest ≡ [] → most_lines ≤ length lines → EarlyAt lanes (bytes ++ left) bytes (passed Lines)
  line_too_many [] some room empty full = absurd (omega arith)
  line_too_many (b ∷ left) some room empty full =
      let count : length lines ≡ length (cut bytes).ended = lines_count lanes (cut bytes).ended lines reads.said in
      let fits : length lines ≤ most_lines = reads.lines_fit in record {
        byte = b;
        behind = left;
        bytes_are = refl;
        quiet = reads.quiet;
        given = (sym reads.rest_is ∙ empty, omega arith);
        first = gives_none lanes bytes b 1 (omega arith) (λ _. omega (arith, length-append bytes (b ∷ left))) (λ h. absurd (omega (arith, h))) (λ h. absurd (omega (arith, h))) (λ h. absurd (omega (arith, h)));
      }

  -- A byte that makes a line too long.
  line_too_long : (part more : List ℕ) → NoEnd part → length (bytes ++ (part ++ more)) ≤ most_bytes → (rest ≡ [] → length lines < most_lines) → most_line_bytes < length rest + length part → Halted lanes (bytes ++ (part ++ more)) lines (stop.Limit LineBytes)
  line_too_long part more none room begins long =
      let count : length lines ≡ length (cut bytes).ended = lines_count lanes (cut bytes).ended lines reads.said in
      let short : length rest ≤ most_line_bytes = reads.rest_fits in
      let within : most_line_bytes - length rest < length part = omega arith in
      let p = place_of part (most_line_bytes - length rest) within in
      let ends = no_end_front p.front p.byte p.behind (subst NoEnd p.bytes_are none) in
      let held = cut_held bytes p.front ends.0 in
      let ended : (cut (bytes ++ p.front)).ended ≡ (cut bytes).ended = ap (λ (c : Cut). c.ended) held in
      let left : (cut (bytes ++ p.front)).rest ≡ (cut bytes).rest ++ p.front = ap (λ (c : Cut). c.rest) held in
      let full : length (cut (bytes ++ p.front)).rest ≡ most_line_bytes = omega (arith, ap length left ∙ length-append (cut bytes).rest p.front, p.size, ap length reads.rest_is) in
      let size : length part ≡ length p.front + suc (length p.behind) = ap length p.bytes_are ∙ length-append p.front (p.byte ∷ p.behind) in
      let all : length (bytes ++ (part ++ more)) ≡ length bytes + (length part + length more) = length-append bytes (part ++ more) ∙ ap (λ (n : ℕ). length bytes + n) (length-append part more) in
      let whole : bytes ++ (part ++ more) ≡ (bytes ++ p.front) ++ p.byte ∷ (p.behind ++ more) =
      ap (λ (b : List ℕ). bytes ++ (b ++ more)) p.bytes_are ∙ ap (λ (b : List ℕ). bytes ++ b) (append_assoc p.front (p.byte ∷ p.behind) more) ∙ sym (append_assoc bytes p.front (p.byte ∷ (p.behind ++ more))) in record {
        front = bytes ++ p.front;
        behind = p.byte ∷ (p.behind ++ more);
        bytes_are = whole;
        said = subst (λ (ps : List (List ℕ)). AreLines lanes ps lines) (sym ended) reads.said;
        stops = record {
          byte = p.byte;
          behind = p.behind ++ more;
          bytes_are = whole;
          quiet = quiet_held lanes bytes p.front reads.quiet ends.0 (omega (arith, all, size, length-append bytes p.front))
              (λ empty. let h : length lines < most_lines = begins (reads.rest_is ∙ empty) in omega arith)
              (omega (arith, p.size, ap length reads.rest_is));
          given = (full, ends.1);
          first = gives_none lanes (bytes ++ p.front) p.byte 2 (omega arith) (λ _. omega (arith, all, size, length-append bytes p.front))
              (λ _ empty. absurd (omega (arith, full, ap length empty))) (λ h. absurd (omega (arith, h))) (λ h. absurd (omega (arith, h)));
        };
      }

  pub forbidden : (part more : List ℕ) (s : ReadStop) → NoEnd part → Forbids lines rest part s → 0 < length (part ++ more) → length (bytes ++ (part ++ more)) ≤ most_bytes → Halted lanes (bytes ++ (part ++ more)) lines s
  forbidden part more (stop.Limit Lines) none why some room = record {
    front = bytes;
    behind = part ++ more;
    bytes_are = refl;
    said = reads.said;
    stops = line_too_many (part ++ more) some room why.0 why.1;
  }
  forbidden part more (stop.Limit LineBytes) none why some room = line_too_long part more none room why.0 why.1
  forbidden part more (stop.Limit Bytes) none why some room = absurd why
  forbidden part more (stop.Limit Wide) none why some room = absurd why
  forbidden part more (stop.Bad n) none why some room = absurd why
  forbidden part more stop.Read none why some room = absurd why
  forbidden part more stop.Memory none why some room = absurd why

  -- What comes before the events that the end of a line gives.
  ending_first : (behind : List ℕ) (k : ℕ) → k ≤ 4 → length lines < most_lines → length (bytes ++ 10 ∷ behind) ≤ most_bytes → (3 < k → (line : Line) × Says (cut bytes).rest lanes line) → (other : Event) → rank other < k → ¬ (Gives lanes bytes 10 other)
  ending_first behind k small some room says =
      let count : length lines ≡ length (cut bytes).ended = lines_count lanes (cut bytes).ended lines reads.said in
      gives_none lanes bytes 10 k small (λ _. omega (arith, length-append bytes (10 ∷ behind))) (λ _ _. omega arith) (λ _ no_end. absurd (no_end refl)) (λ h _. says h)

  -- The end of a line that is outside the grammar.
  bad_ending : (behind : List ℕ) (n : ℕ) → length lines < most_lines → length (bytes ++ 10 ∷ behind) ≤ most_bytes → n ≡ length lines + 1 → ((line : Line) → ¬ (Says rest lanes line)) → EarlyAt lanes (bytes ++ 10 ∷ behind) bytes (bad_line n)
  bad_ending behind n some room number none = record {
    byte = 10;
    behind = behind;
    bytes_are = refl;
    quiet = reads.quiet;
    given = (refl, (number ∙ ap (λ (k : ℕ). k + 1) (lines_count lanes (cut bytes).ended lines reads.said), subst (λ (r : List ℕ). (line : Line) → ¬ (Says r lanes line)) reads.rest_is none));
    first = ending_first behind 3 (omega arith) some room (λ h. absurd (omega (arith, h)));
  }

  -- The line that the bytes begin last is one wide line too many.
  pub one_too_wide : (line : Line) → Says rest lanes line → IsTrue (is_wide line) → most_wide ≤ wide → IsOneTooWide lanes bytes
  one_too_wide line says is full =
      let fits : wide ≤ most_wide = reads.wide_fits in record {
        lines = lines;
        line = line;
        said = reads.said;
        says = subst (λ (r : List ℕ). Says r lanes line) reads.rest_is says;
        wide = is;
        number = omega (arith, reads.wide_is);
      }

  wide_ending : (behind : List ℕ) (line : Line) → length lines < most_lines → length (bytes ++ 10 ∷ behind) ≤ most_bytes → Says rest lanes line → IsTrue (is_wide line) → most_wide ≤ wide → EarlyAt lanes (bytes ++ 10 ∷ behind) bytes (passed Wide)
  wide_ending behind line some room says is full = record {
    byte = 10;
    behind = behind;
    bytes_are = refl;
    quiet = reads.quiet;
    given = (refl, one_too_wide line says is full);
    first = ending_first behind 4 (omega arith) some room (λ _. (line, subst (λ (r : List ℕ). Says r lanes line) reads.rest_is says));
  }

  stopped_ending : (behind : List ℕ) (s : ReadStop) → length lines < most_lines → length (bytes ++ 10 ∷ behind) ≤ most_bytes → Refuses lanes rest lines wide s → StopsAt lanes (bytes ++ 10 ∷ behind) bytes s
  stopped_ending behind (stop.Bad n) some room why = bad_ending behind n some room why.0 why.1
  stopped_ending behind (stop.Limit Wide) some room why = wide_ending behind why.0 some room why.1 why.2.0 why.2.1
  stopped_ending behind (stop.Limit Bytes) some room why = absurd why.2
  stopped_ending behind (stop.Limit Lines) some room why = absurd why.2
  stopped_ending behind (stop.Limit LineBytes) some room why = absurd why.2
  stopped_ending behind stop.Read some room why = absurd why
  stopped_ending behind stop.Memory some room why = tt

  pub refused : (behind : List ℕ) (s : ReadStop) → length lines < most_lines → length (bytes ++ 10 ∷ behind) ≤ most_bytes → Refuses lanes rest lines wide s → Halted lanes (bytes ++ 10 ∷ behind) lines s
  refused behind s some room why = record {
    front = bytes;
    behind = 10 ∷ behind;
    bytes_are = refl;
    said = reads.said;
    stops = stopped_ending behind s some room why;
  }

  -- One byte more than a script may have.
  pub byte_too_many : (left : List ℕ) → 0 < length left → length bytes ≡ most_bytes → EarlyAt lanes (bytes ++ left) bytes (passed Bytes)
  byte_too_many [] some full = absurd (omega arith)
  byte_too_many (b ∷ left) some full = record {
    byte = b;
    behind = left;
    bytes_are = refl;
    quiet = reads.quiet;
    given = full;
    first = λ other low given. absurd (omega (arith, low));
  }
