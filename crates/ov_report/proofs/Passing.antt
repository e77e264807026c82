-- How texts that follow one another pass through a page.
use Rattle.std.proofs.Common.{ℕ, ◌≡◌, ◌+◌, ◌<◌, ◌≤◌, ◌⊎◌, inl, inr, List, [], ◌∷◌, ◌++◌, length, take, drop, refl, sym, ap, ◌∙◌, subst, append_assoc, append-nil, take-append-drop, length-append, length-drop, arith}
use Rattle.std.specs.Prelude.{Option, Some, None, ⊤, Result, Err, IsErr, IsErrAnd, IfErr}
use Rattle.std.proofs.lemmas.Result.{err_from_is_err_and}
use Rattle.std.specs.Io.KnownBytes.{Appends, Keeps}
use Rattle.std.proofs.KnownBytes.{Appends-nil, Appends-trans}
use Rattle.std.proofs.Math.Seq.{take-append_seam, take-append-add}
use Rattle.ov_base.specs.Outside.{Rose}
use Rattle.ov_base.specs.Loops.{AppendsPart}
use Rattle.serde_json.specs.Data.{Data}
use Rattle.serde_json.specs.Written.{compact_text}
use Rattle.ov_text.specs.Pieces.{line_text}
use Rattle.ov_report.specs.Printing.{Passed, Stopped, full_page}
use Rattle.ov_report.specs.declared.page.PrintStop.{PrintStop}
use Rattle.ov_report.specs.declared.page.PrintStop.TheVariants as stop

-- What holds of a cause holds of the answer that hands it on.
pub handed_on : (r : Result ⊤ PrintStop) (why : PrintStop) (P : PrintStop → Type 0) → IsErr r × IsErrAnd r (λ s. s ≡ why) → P why → IfErr r P
handed_on r why P h p =
    let given : (s : PrintStop) × (r ≡ Err s) × (s ≡ why) = err_from_is_err_and r h.1 in
    subst (λ o. IfErr o P) (sym given.1) (subst P (sym given.2) p)

-- A text that the page holds.
pub held_back : (old : Option (List ℕ)) (held text : List ℕ) → Passed old old held text (held ++ text)
held_back old held text = record { sent = []; taken = Appends-nil old; split = refl; early = inl refl }

-- Where nothing was sent of a text and of what follows it, nothing was sent of both.
early_then : (held first left second sent more : List ℕ) → held ++ first ≡ sent ++ left → (sent ≡ []) ⊎ (full_page ≤ length (held ++ first)) → (more ≡ []) ⊎ (full_page ≤ length (left ++ second)) → (sent ++ more ≡ []) ⊎ (full_page ≤ length (held ++ (first ++ second)))
early_then held first left second sent more split (inl none) (inl nothing) = inl (ap (λ s. s ++ more) none ∙ nothing)
early_then held first left second sent more split (inl none) (inr full) =
    inr (omega (arith, full, ap length split, length-append held first, length-append sent left, length-append left second, length-append held (first ++ second), length-append first second))
early_then held first left second sent more split (inr full) next =
    inr (omega (arith, full, length-append held first, length-append held (first ++ second), length-append first second))

-- A longer text.
early_in : (held text more sent : List ℕ) → (sent ≡ []) ⊎ (full_page ≤ length (held ++ text)) → (sent ≡ []) ⊎ (full_page ≤ length (held ++ (text ++ more)))
early_in held text more sent (inl none) = inl none
early_in held text more sent (inr full) = inr (omega (arith, full, length-append held text, length-append held (text ++ more), length-append text more))

-- A text that was sent with what the page held, for the page was full.
pub all_sent : (old new : Option (List ℕ)) (held text page : List ℕ) → page ≡ held ++ text → full_page ≤ length page → Appends old new page → Passed old new held text []
all_sent old new held text page is full taken = record { sent = page; taken = taken; split = sym is ∙ sym (append-nil page); early = inr (omega (arith, full, ap length is)) }

-- A text after another one.
pub passed_then : (old mid new : Option (List ℕ)) (held first left second rest : List ℕ) → Passed old mid held first left → Passed mid new left second rest → Passed old new held (first ++ second) rest
passed_then old mid new held first left second rest a b = record {
  sent = a.sent ++ b.sent;
  taken = Appends-trans old mid new a.sent b.sent a.taken b.taken;
  split = sym (append_assoc held first second) ∙ ap (λ t. t ++ second) a.split ∙ append_assoc a.sent left second ∙ ap (λ t. a.sent ++ t) b.split ∙ sym (append_assoc a.sent b.sent rest);
  early = early_then held first left second a.sent b.sent a.split a.early b.early;
}

-- A text that didn't pass, of a longer one.
pub stopped_in : (why : PrintStop) (old new : Option (List ℕ)) (before now : ℕ) (held text more : List ℕ) → Stopped why old new before now held text → Stopped why old new before now held (text ++ more)
stopped_in why old new before now held text more s = record {
  rest = s.rest ++ more;
  passed = record {
    sent = s.passed.sent;
    taken = s.passed.taken;
    split = sym (append_assoc held text more) ∙ ap (λ t. t ++ more) s.passed.split ∙ append_assoc s.passed.sent s.rest more;
    early = early_in held text more s.passed.sent s.passed.early;
  };
  some = omega (arith, s.some, length-append s.rest more);
  rose = s.rose;
}

-- A text that didn't pass, after one that did.
pub stopped_then : (why : PrintStop) (old mid new : Option (List ℕ)) (first_faults mid_faults now : ℕ) (held first left second : List ℕ) → Passed old mid held first left → first_faults ≤ mid_faults → Stopped why mid new mid_faults now left second → Stopped why old new first_faults now held (first ++ second)
stopped_then why old mid new first_faults mid_faults now held first left second a later s = record {
  rest = s.rest;
  passed = passed_then old mid new held first left second s.rest a s.passed;
  some = s.some;
  rose = λ is. let r : Rose mid_faults now = s.rose is in omega (arith, later, r);
}

-- The two causes differ.
abbrev NoWrite : PrintStop → Type 0
NoWrite stop.Write = ⊥
NoWrite stop.Memory = ⊤

no_write : stop.Memory ≡ stop.Write → ⊥
no_write is = subst NoWrite is tt

-- A text for which there was no memory.
pub no_memory : (old : Option (List ℕ)) (before now : ℕ) (held text : List ℕ) → 0 < length text → Stopped stop.Memory old old before now held text
no_memory old before now held text some = record {
  rest = held ++ text;
  passed = held_back old held text;
  some = omega (arith, some, length-append held text);
  rose = λ is. absurd (no_write is);
}

-- A write failed while the page, which was full, was written.
pub part_sent : (old new : Option (List ℕ)) (before now : ℕ) (held text : List ℕ) → full_page ≤ length (held ++ text) → AppendsPart old new (held ++ text) → Rose before now → Stopped stop.Write old new before now held text
part_sent old new before now held text full part rose = record {
  rest = drop part.0 (held ++ text);
  passed = record { sent = take part.0 (held ++ text); taken = part.2; split = sym (take-append-drop part.0 (held ++ text)); early = inr full };
  some = omega (arith, length-drop part.0 (held ++ text), part.1);
  rose = λ is. rose;
}

-- What was sent of a text that didn't pass is a part of it, and not all.
pub part_of : (why : PrintStop) (old new : Option (List ℕ)) (before now : ℕ) (text : List ℕ) → Stopped why old new before now [] text → AppendsPart old new text
part_of why old new before now text s =
    let split : text ≡ s.passed.sent ++ s.rest = s.passed.split in
    let front : take (length s.passed.sent) text ≡ s.passed.sent = ap (take (length s.passed.sent)) split ∙ take-append_seam s.passed.sent s.rest in
    (length s.passed.sent, omega (arith, ap length split, length-append s.passed.sent s.rest, s.some), subst (Appends old new) (sym front) s.passed.taken)

-- Of a text that fills no page nothing was sent.
kept : (old new : Option (List ℕ)) (sent : List ℕ) → Appends old new sent → sent ≡ [] → Keeps old new
kept None new sent taken none = tt
kept (Some x) None sent taken none = absurd taken
kept (Some x) (Some y) sent taken none = taken ∙ ap (λ s. x ++ s) none ∙ append-nil x

short_of : (old new : Option (List ℕ)) (text sent : List ℕ) → Appends old new sent → (sent ≡ []) ⊎ (full_page ≤ length text) → length text < full_page → Keeps old new
short_of old new text sent taken (inl none) short = kept old new sent taken none
short_of old new text sent taken (inr full) short = absurd (omega (arith, full, short))

pub none_of : (why : PrintStop) (old new : Option (List ℕ)) (before now : ℕ) (text : List ℕ) → Stopped why old new before now [] text → length text < full_page → Keeps old new
none_of why old new before now text s short = short_of old new text s.passed.sent s.passed.taken s.passed.early short

-- Nor does all of a text come to the sink whose last page was written in part.
pub part_at_end : (old mid new : Option (List ℕ)) (text rest : List ℕ) → Passed old mid [] text rest → AppendsPart mid new rest → AppendsPart old new text
part_at_end old mid new text rest a part =
    let front : take (length a.sent + part.0) text ≡ a.sent ++ take part.0 rest = ap (take (length a.sent + part.0)) a.split ∙ take-append-add a.sent rest part.0 in (
      length a.sent + part.0,
      omega (arith, ap length a.split, length-append a.sent rest, part.1),
      subst (Appends old new) (sym front) (Appends-trans old mid new a.sent (take part.0 rest) a.taken part.2),
    )

-- A line isn't empty: it has its end.
pub line_some : (d : Data) → 0 < length (line_text d)
line_some d = omega (arith, length-append (compact_text d) (10 ∷ []))

-- A page that a text was put on, and that was then passed on: so the text passed.
pub refilled : (old new : Option (List ℕ)) (page held text rest : List ℕ) → page ≡ held ++ text → Passed old new [] page rest → Passed old new held text rest
refilled old new page held text rest is p =
    let q : Passed old new [] (held ++ text) rest = subst (λ t. Passed old new [] t rest) is p in
    record { sent = q.sent; taken = q.taken; split = q.split; early = q.early }

pub refilled_stop : (why : PrintStop) (old new : Option (List ℕ)) (before now : ℕ) (page held text : List ℕ) → page ≡ held ++ text → Stopped why old new before now [] page → Stopped why old new before now held text
refilled_stop why old new before now page held text is s = record {
  rest = s.rest;
  passed = refilled old new page held text s.rest is s.passed;
  some = s.some;
  rose = s.rose;
}
