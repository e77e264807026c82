-- Bytes of which none gives an event, and what gives none behind them.
use Rattle.std.proofs.Common.{◌≡◌, ◌≢◌, ◌∙◌, ℕ, suc, ◌+◌, ◌<◌, ◌≤◌, inl, inr, Bool, true, false, List, [], ◌∷◌, ◌++◌, length, refl, sym, ap, subst, append_assoc, arith}
use Rattle.std.specs.Prelude.{IsTrue, if◌then◌else◌}
use Rattle.std.proofs.lemmas.List.{append-nil, length-append}
use Rattle.ov_model.specs.declared.line.Line.{Line}
use Rattle.ov_line.specs.Grammar.{Says}
use Rattle.ov_script.specs.declared.script.Limit.TheVariants.{Bytes, Lines, LineBytes, Wide}
use Rattle.ov_script.specs.Reading.{Cut, cut, AreLines, is_wide, wide_count, Event, bad_line, passed, rank, Gives, IsQuiet, IsOneTooWide, most_bytes, most_lines, most_line_bytes, most_wide}
use Rattle.ov_script.specs.Steps.{NoEnd, Reads, Allows, Added}
use Rattle.ov_script.proofs.Cutting.{cut_held, cut_end, placed, none_placed, one_placed, no_end_front}
use Rattle.ov_script.proofs.Lines.{lines_more, lines_count, same_wide, same_count, count_more}

pub quiet_none : (lanes : ℕ) → IsQuiet lanes []
quiet_none lanes = λ front byte behind is event given. none_placed front byte behind is

-- Bytes are quiet with others behind them where none of the others gives an event.
pub quiet_on : (lanes : ℕ) (bytes part : List ℕ) → IsQuiet lanes bytes
    → ((front : List ℕ) (byte : ℕ) (behind : List ℕ) → part ≡ front ++ byte ∷ behind → (event : Event) → ¬ (Gives lanes (bytes ++ front) byte event))
    → IsQuiet lanes (bytes ++ part)
quiet_on lanes bytes part quiet here = λ front byte behind is event given.
    elim (placed bytes part front byte behind is) as (λ _. ⊥) [
      | inl p ↦ quiet front byte p.0 p.1 event given
      | inr p ↦ here p.0 byte behind p.2 event (subst (λ (f : List ℕ). Gives lanes f byte event) p.1 given)
    ]

pub quiet_more : (lanes : ℕ) (bytes : List ℕ) (byte : ℕ) → IsQuiet lanes bytes → ((event : Event) → ¬ (Gives lanes bytes byte event)) → IsQuiet lanes (bytes ++ byte ∷ [])
quiet_more lanes bytes byte quiet here = quiet_on lanes bytes (byte ∷ []) quiet (λ front c behind is event given.
    let one = one_placed byte front c behind is in
    let at : Gives lanes bytes c event = subst (λ (f : List ℕ). Gives lanes f c event) (ap (λ (f : List ℕ). bytes ++ f) one.0 ∙ append-nil bytes) given in
    here event (subst (λ (b : ℕ). Gives lanes bytes b event) one.1 at))

-- The front of quiet bytes is quiet.
pub quiet_front : (lanes : ℕ) (bytes more : List ℕ) → IsQuiet lanes (bytes ++ more) → IsQuiet lanes bytes
quiet_front lanes bytes more quiet = λ front byte behind is event. quiet front byte (behind ++ more) (ap (λ (b : List ℕ). b ++ more) is ∙ append_assoc front (byte ∷ behind) more) event

-- What a byte behind bytes doesn't give: no event up to some rank, where the limits up to it aren't reached.
pub gives_none : (lanes : ℕ) (bytes : List ℕ) (byte k : ℕ) → k ≤ 4
    → (0 < k → length bytes < most_bytes)
    → (1 < k → (cut bytes).rest ≡ [] → length (cut bytes).ended < most_lines)
    → (2 < k → byte ≢ 10 → length (cut bytes).rest < most_line_bytes)
    → (3 < k → byte ≡ 10 → (line : Line) × Says (cut bytes).rest lanes line)
    → (event : Event) → rank event < k → ¬ (Gives lanes bytes byte event)
gives_none lanes bytes byte k small room begins fits says (passed Bytes) low given = let h : length bytes < most_bytes = room (omega arith) in absurd (omega arith)
gives_none lanes bytes byte k small room begins fits says (passed Lines) low given =
    let h : length (cut bytes).ended < most_lines = begins (omega arith) given.0 in absurd (omega (arith, given.1))
gives_none lanes bytes byte k small room begins fits says (passed LineBytes) low given =
    let h : length (cut bytes).rest < most_line_bytes = fits (omega arith) given.1 in absurd (omega (arith, given.0))
gives_none lanes bytes byte k small room begins fits says (bad_line n) low given =
    let found = says (omega arith) given.0 in given.1.1 found.0 found.1
gives_none lanes bytes byte k small room begins fits says (passed Wide) low given = absurd (omega arith)

-- Nothing follows only where nothing was left and nothing came.
both_empty : (a b : List ℕ) → a ++ b ≡ [] → a ≡ []
both_empty [] b h = refl
both_empty (x ∷ a) b h = cc

-- A byte that ends no line gives no event but a limit.
within_line : (lanes : ℕ) (bytes : List ℕ) (byte : ℕ) → byte ≢ 10
    → length bytes < most_bytes → ((cut bytes).rest ≡ [] → length (cut bytes).ended < most_lines) → length (cut bytes).rest < most_line_bytes
    → (event : Event) → ¬ (Gives lanes bytes byte event)
within_line lanes bytes byte no_end room begins fits (passed Bytes) given = absurd (omega arith)
within_line lanes bytes byte no_end room begins fits (passed Lines) given = let h : length (cut bytes).ended < most_lines = begins given.0 in absurd (omega (arith, given.1))
within_line lanes bytes byte no_end room begins fits (passed LineBytes) given = absurd (omega (arith, given.0))
within_line lanes bytes byte no_end room begins fits (bad_line n) given = no_end given.0
within_line lanes bytes byte no_end room begins fits (passed Wide) given = no_end given.0

-- Bytes without a line end behind quiet ones, which begin no line too many and make none too long.
pub quiet_held : (lanes : ℕ) (bytes part : List ℕ) → IsQuiet lanes bytes → NoEnd part → length (bytes ++ part) ≤ most_bytes
    → ((cut bytes).rest ≡ [] → length (cut bytes).ended < most_lines) → length (cut bytes).rest + length part ≤ most_line_bytes → IsQuiet lanes (bytes ++ part)
quiet_held lanes bytes part quiet none room begins fits = quiet_on lanes bytes part quiet (λ front byte behind is event.
    let ends = no_end_front front byte behind (subst NoEnd is none) in
    let held = cut_held bytes front ends.0 in
    let rest : (cut (bytes ++ front)).rest ≡ (cut bytes).rest ++ front = ap (λ (c : Cut). c.rest) held in
    let ended : (cut (bytes ++ front)).ended ≡ (cut bytes).ended = ap (λ (c : Cut). c.ended) held in
    let size : length part ≡ length front + suc (length behind) = ap length is ∙ length-append front (byte ∷ behind) in
    within_line lanes (bytes ++ front) byte ends.1
    (omega (arith, size, length-append bytes part, length-append bytes front))
    (λ empty. rw ended (begins (both_empty (cut bytes).rest front (sym rest ∙ empty))))
    (omega (arith, size, fits, ap length rest ∙ length-append (cut bytes).rest front)) event)

-- The end of a line gives no event where the line is in the grammar and not one wide line too many.
pub line_ends : (lanes : ℕ) (bytes : List ℕ) (line : Line) → length bytes < most_bytes → length (cut bytes).ended < most_lines → Says (cut bytes).rest lanes line
    → ¬ (IsOneTooWide lanes bytes) → (event : Event) → ¬ (Gives lanes bytes 10 event)
line_ends lanes bytes line room begins says fits (passed Bytes) given = absurd (omega arith)
line_ends lanes bytes line room begins says fits (passed Lines) given = absurd (omega (arith, given.1))
line_ends lanes bytes line room begins says fits (passed LineBytes) given = given.1 refl
line_ends lanes bytes line room begins says fits (bad_line n) given = given.1.1 line says
line_ends lanes bytes line room begins says fits (passed Wide) given = fits given.1

-- A line isn't one wide line too many where it isn't wide, or there are fewer of them.
pub not_too_wide : (lanes : ℕ) (bytes : List ℕ) (lines : List Line) (line : Line) → AreLines lanes (cut bytes).ended lines → Says (cut bytes).rest lanes line
    → (IsTrue (is_wide line) → wide_count lines < most_wide) → ¬ (IsOneTooWide lanes bytes)
not_too_wide lanes bytes lines line said says fits one =
    let wide : is_wide one.line ≡ is_wide line = same_wide (cut bytes).rest lanes one.line line one.says says in
    let count : wide_count one.lines ≡ wide_count lines = same_count lanes (cut bytes).ended one.lines lines one.said said in
    let few : wide_count lines < most_wide = fits (subst IsTrue wide one.wide) in
    absurd (omega (arith, one.number))

-- What is known between two bytes stays known with bytes behind that end no line.
one_more_line : (lines : List Line) (rest : List ℕ) → (0 < length rest → length lines < most_lines) → (rest ≡ [] → length lines < most_lines) → length lines < most_lines
one_more_line lines [] some none = none refl
one_more_line lines (b ∷ rest) some none = some (omega arith)

pub has_room : (lanes : ℕ) (bytes : List ℕ) (lines : List Line) (wide : ℕ) (rest part : List ℕ) → Reads lanes bytes lines wide rest → Allows lines rest part → length lines < most_lines
has_room lanes bytes lines wide rest part reads allowed = one_more_line lines rest reads.begun_fits allowed.0

pub reads_held : (lanes : ℕ) (bytes : List ℕ) (lines : List Line) (wide : ℕ) (rest part : List ℕ) → Reads lanes bytes lines wide rest → NoEnd part → Allows lines rest part
    → length (bytes ++ part) ≤ most_bytes → Reads lanes (bytes ++ part) lines wide (rest ++ part)
reads_held lanes bytes lines wide rest part reads none allowed room =
    let held = cut_held bytes part none in
    let some = has_room lanes bytes lines wide rest part reads allowed in
    let count = lines_count lanes (cut bytes).ended lines reads.said in record {
      said = subst (λ (ps : List (List ℕ)). AreLines lanes ps lines) (sym (ap (λ (c : Cut). c.ended) held)) reads.said;
      wide_is = reads.wide_is;
      rest_is = ap (λ (r : List ℕ). r ++ part) reads.rest_is ∙ sym (ap (λ (c : Cut). c.rest) held);
      quiet = quiet_held lanes bytes part reads.quiet none room (λ empty. omega (arith, count, some)) (omega (arith, allowed.1, ap length reads.rest_is));
      lines_fit = reads.lines_fit;
      begun_fits = λ _. some;
      rest_fits = omega (arith, allowed.1, length-append rest part);
      wide_fits = reads.wide_fits;
    }

-- And with the end of the line that the bytes begin last.
wide_more : (t : Bool) (wide new count : ℕ) → new ≡ (if t then wide + 1 else wide) → wide ≡ count → new ≡ (if t then count + 1 else count)
wide_more t wide new count is same = is ∙ ap (λ (n : ℕ). if t then n + 1 else n) same

wide_within : (t : Bool) (wide new : ℕ) → new ≡ (if t then wide + 1 else wide) → wide ≤ most_wide → (IsTrue t → wide < most_wide) → new ≤ most_wide
wide_within true wide new is fits few = let h : wide < most_wide = few refl in omega (arith, is)
wide_within false wide new is fits few = omega (arith, is)

pub reads_ended : (lanes : ℕ) (bytes : List ℕ) (lines : List Line) (wide : ℕ) (rest : List ℕ) (new : List Line) (new_wide : ℕ) → Reads lanes bytes lines wide rest → length lines < most_lines
    → Added lanes rest lines new wide new_wide → length bytes < most_bytes → Reads lanes (bytes ++ 10 ∷ []) new new_wide []
reads_ended lanes bytes lines wide rest new new_wide reads some added room =
    let ends = cut_end bytes in
    let count : length lines ≡ length (cut bytes).ended = lines_count lanes (cut bytes).ended lines reads.said in
    let says : Says (cut bytes).rest lanes added.line = subst (λ (r : List ℕ). Says r lanes added.line) reads.rest_is added.says in
    let few : IsTrue (is_wide added.line) → wide_count lines < most_wide = λ t. let h : wide < most_wide = added.appended.fits t in omega (arith, reads.wide_is) in record {
      said = subst (λ (ls : List Line). AreLines lanes (cut (bytes ++ 10 ∷ [])).ended ls) (sym added.appended.lines_are)
          (subst (λ (ps : List (List ℕ)). AreLines lanes ps (lines ++ added.line ∷ [])) (sym (ap (λ (c : Cut). c.ended) ends)) (lines_more lanes (cut bytes).ended lines (cut bytes).rest added.line reads.said says));
      wide_is = wide_more (is_wide added.line) wide new_wide (wide_count lines) added.appended.wide_is reads.wide_is ∙ sym (count_more lines added.line) ∙ ap wide_count (sym added.appended.lines_are);
      rest_is = sym (ap (λ (c : Cut). c.rest) ends);
      quiet = quiet_more lanes bytes 10 reads.quiet (line_ends lanes bytes added.line room (omega arith) says (not_too_wide lanes bytes lines added.line reads.said says few));
      lines_fit = omega (arith, ap length added.appended.lines_are ∙ length-append lines (added.line ∷ []));
      begun_fits = λ h. absurd (omega (arith, h));
      rest_fits = omega arith;
      wide_fits = wide_within (is_wide added.line) wide new_wide added.appended.wide_is reads.wide_fits added.appended.fits;
    }
