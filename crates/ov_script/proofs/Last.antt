-- What the end of a stream gives.
use Rattle.std.proofs.Common.{◌≡◌, ◌∙◌, ℕ, ◌+◌, ◌<◌, inl, inr, List, [], ◌∷◌, ◌++◌, length, sym, ap, subst, arith}
use Rattle.std.specs.Prelude.{IsTrue}
use Rattle.std.proofs.lemmas.List.{append-nil}
use Rattle.ov_model.specs.declared.line.Line.{Line}
use Rattle.ov_line.specs.Grammar.{Says}
use Rattle.ov_script.specs.declared.script.Limit.TheVariants.{Bytes, Lines, LineBytes, Wide}
use Rattle.ov_script.specs.declared.script.ReadStop.{ReadStop}
use Rattle.ov_script.specs.declared.script.ReadStop.TheVariants as stop
use Rattle.ov_script.specs.Reading.{cut, last_line, whole_lines, AreLines, is_wide, wide_count, Event, bad_line, passed, rank, Ends, IsQuiet, HasNoStop, most_wide}
use Rattle.ov_script.specs.Steps.{Reads, Added, Refuses, IsLast, LastStops}
use Rattle.ov_script.proofs.Lines.{lines_more, lines_count, last_is_one}
use Rattle.ov_script.proofs.Quiet.{not_too_wide}
use Rattle.ov_script.proofs.Halting.{one_too_wide}

-- A stream that is quiet and whose end gives no event has no stop.
pub no_stop : (lanes : ℕ) (bytes : List ℕ) → IsQuiet lanes bytes → ((event : Event) → 0 < length (cut bytes).rest → ¬ (Ends lanes bytes event)) → HasNoStop bytes lanes
no_stop lanes bytes quiet none = λ event first. elim first.1 as (λ _. ⊥) [
  | inl early ↦ quiet first.0 early.byte early.behind early.bytes_are event early.given
  | inr last ↦ none event last.1.piece last.1.given
]

-- A line in the grammar gives no event at the end, where it isn't one wide line too many.
none_ends : (lanes : ℕ) (bytes : List ℕ) (lines : List Line) (line : Line) → AreLines lanes (cut bytes).ended lines → Says (cut bytes).rest lanes line → (IsTrue (is_wide line) → wide_count lines < most_wide)
    → (event : Event) → ¬ (Ends lanes bytes event)
none_ends lanes bytes lines line said says few (bad_line n) given = given.1 line says
none_ends lanes bytes lines line said says few (passed Wide) given = not_too_wide lanes bytes lines line said says few given
none_ends lanes bytes lines line said says few (passed Bytes) given = given
none_ends lanes bytes lines line said says few (passed Lines) given = given
none_ends lanes bytes lines line said says few (passed LineBytes) given = given

module _ (lanes : ℕ) (bytes : List ℕ) (lines : List Line) (wide : ℕ) (rest : List ℕ) (reads : Reads lanes bytes lines wide rest) where
  -- The whole stream was read.
  pub last_read : (new : List Line) (new_wide : ℕ) → IsLast lanes lines new wide new_wide rest → AreLines lanes (whole_lines bytes) new × HasNoStop bytes lanes
  last_read new new_wide (inl nothing) =
      let empty : (cut bytes).rest ≡ [] = sym reads.rest_is ∙ nothing.0 in
      let whole : whole_lines bytes ≡ (cut bytes).ended = ap (λ (r : List ℕ). (cut bytes).ended ++ last_line r) empty ∙ append-nil (cut bytes).ended in (
        subst (λ (ls : List Line). AreLines lanes (whole_lines bytes) ls) (sym nothing.1) (subst (λ (ps : List (List ℕ)). AreLines lanes ps lines) (sym whole) reads.said),
        no_stop lanes bytes reads.quiet (λ event some given. absurd (omega (arith, some, ap length empty))),
      )
  last_read new new_wide (inr one) =
      let added : Added lanes rest lines new wide new_wide = one.1 in
      let says : Says (cut bytes).rest lanes added.line = subst (λ (r : List ℕ). Says r lanes added.line) reads.rest_is added.says in
      let some : 0 < length (cut bytes).rest = omega (arith, one.0, ap length reads.rest_is) in
      let whole : whole_lines bytes ≡ (cut bytes).ended ++ (cut bytes).rest ∷ [] = ap (λ (ps : List (List ℕ)). (cut bytes).ended ++ ps) (last_is_one (cut bytes).rest some) in (
        subst (λ (ls : List Line). AreLines lanes (whole_lines bytes) ls) (sym added.appended.lines_are)
            (subst (λ (ps : List (List ℕ)). AreLines lanes ps (lines ++ added.line ∷ [])) (sym whole) (lines_more lanes (cut bytes).ended lines (cut bytes).rest added.line reads.said says)),
        no_stop lanes bytes reads.quiet (λ event piece. none_ends lanes bytes lines added.line reads.said says (λ t. let few : wide < most_wide = added.appended.fits t in omega (arith, reads.wide_is)) event),
      )

  -- The last line wasn't.
  bad_first : (other : Event) → rank other < 3 → ¬ (Ends lanes bytes other)
  bad_first (passed Bytes) low given = given
  bad_first (passed Lines) low given = given
  bad_first (passed LineBytes) low given = given
  bad_first (bad_line n) low given = absurd (omega (arith, low))
  bad_first (passed Wide) low given = absurd (omega (arith, low))

  wide_first : (line : Line) → Says (cut bytes).rest lanes line → (other : Event) → rank other < 4 → ¬ (Ends lanes bytes other)
  wide_first line says (passed Bytes) low given = given
  wide_first line says (passed Lines) low given = given
  wide_first line says (passed LineBytes) low given = given
  wide_first line says (bad_line n) low given = given.1 line says
  wide_first line says (passed Wide) low given = absurd (omega (arith, low))

  pub last_refused : (s : ReadStop) → 0 < length rest → Refuses lanes rest lines wide s → LastStops lanes bytes s
  last_refused (stop.Bad n) some why = record {
    quiet = reads.quiet;
    piece = omega (arith, some, ap length reads.rest_is);
    given = (why.0 ∙ ap (λ (k : ℕ). k + 1) (lines_count lanes (cut bytes).ended lines reads.said), subst (λ (r : List ℕ). (line : Line) → ¬ (Says r lanes line)) reads.rest_is why.1);
    first = bad_first;
  }
  last_refused (stop.Limit Wide) some why = record {
    quiet = reads.quiet;
    piece = omega (arith, some, ap length reads.rest_is);
    given = one_too_wide lanes bytes lines wide rest reads why.0 why.1 why.2.0 why.2.1;
    first = wide_first why.0 (subst (λ (r : List ℕ). Says r lanes why.0) reads.rest_is why.1);
  }
  last_refused (stop.Limit Bytes) some why = absurd why.2
  last_refused (stop.Limit Lines) some why = absurd why.2
  last_refused (stop.Limit LineBytes) some why = absurd why.2
  last_refused stop.Read some why = absurd why
  last_refused stop.Memory some why = tt
