-- What is known while the lines that a piece ends are read.
use Rattle.std.proofs.Common.{◌≡◌, ◌∙◌, ℕ, ◌+◌, ◌<◌, ◌≤◌, ◌⊎◌, inl, inr, List, [], ◌∷◌, ◌++◌, length, refl, sym, ap, subst, append_assoc, arith}
use Rattle.std.proofs.lemmas.List.{append-nil, length-append}
use Rattle.ov_model.specs.declared.line.Line.{Line}
use Rattle.ov_script.specs.declared.script.ReadStop.{ReadStop}
use Rattle.ov_script.specs.declared.script.ReadStop.TheVariants as stop
use Rattle.ov_script.specs.Reading.{most_bytes, most_lines}
use Rattle.ov_script.specs.Steps.{NoEnd, Reads, Forbids, Allows, Added, Refuses, Halted}
use Rattle.ov_script.proofs.Quiet.{has_room, reads_held, reads_ended}
use Rattle.ov_script.proofs.Halting.{forbidden, refused, out_of_memory}

-- The front of the piece that was read, and what is known behind it.
pub record Onward (lanes : ℕ) (piece left : List ℕ) (old : List Line) (old_wide : ℕ) (old_rest : List ℕ) (lines : List Line) (wide : ℕ) (rest : List ℕ) : Type 0 where
  pub done : List ℕ
  pub piece_is : piece ≡ done ++ left
  pub reads : (before : List ℕ) → Reads lanes before old old_wide old_rest → length (before ++ piece) ≤ most_bytes → Reads lanes (before ++ done) lines wide rest

pub onward_start : (lanes : ℕ) (piece : List ℕ) (lines : List Line) (wide : ℕ) (rest : List ℕ) → Onward lanes piece piece lines wide rest lines wide rest
onward_start lanes piece lines wide rest = record { done = []; piece_is = refl; reads = λ before r room. rw (append-nil before) r }

module _ (lanes : ℕ) (piece left : List ℕ) (old : List Line) (old_wide : ℕ) (old_rest : List ℕ) (lines : List Line) (wide : ℕ) (rest : List ℕ) (on : Onward lanes piece left old old_wide old_rest lines wide rest) where
  -- The bytes of the stream so far, in two ways.
  whole_is : (before : List ℕ) → before ++ piece ≡ (before ++ on.done) ++ left
  whole_is before = ap (λ (p : List ℕ). before ++ p) on.piece_is ∙ sym (append_assoc before on.done left)

  -- What halts reading halts it in the whole.
  halted_in : (before : List ℕ) (new : List Line) (s : ReadStop) → Halted lanes ((before ++ on.done) ++ left) new s → Halted lanes (before ++ piece) new s
  halted_in before new s h = subst (λ (b : List ℕ). Halted lanes b new s) (sym (whole_is before)) h

  fits_in : (before : List ℕ) → length (before ++ piece) ≤ most_bytes → length ((before ++ on.done) ++ left) ≤ most_bytes
  fits_in before room = omega (arith, ap length (whole_is before))

  -- Bytes that may not follow.
  pub part_forbidden : (part behind : List ℕ) (s : ReadStop) → NoEnd part → left ≡ part ++ 10 ∷ behind → Forbids lines rest part s
      → (before : List ℕ) → Reads lanes before old old_wide old_rest → length (before ++ piece) ≤ most_bytes → Halted lanes (before ++ piece) lines s
  part_forbidden part behind s none is why before r room =
      let all : length ((before ++ on.done) ++ (part ++ 10 ∷ behind)) ≤ most_bytes = subst (λ (l : List ℕ). length ((before ++ on.done) ++ l) ≤ most_bytes) is (fits_in before room) in
      halted_in before lines s (subst (λ (l : List ℕ). Halted lanes ((before ++ on.done) ++ l) lines s) (sym is)
      (forbidden lanes (before ++ on.done) lines wide rest (on.reads before r room) part (10 ∷ behind) s none why (omega (arith, length-append part (10 ∷ behind))) all))

  -- A line that wasn't read.
  pub line_refused : (part behind : List ℕ) (new : List Line) (s : ReadStop) → NoEnd part → left ≡ part ++ 10 ∷ behind → Allows lines rest part → new ≡ lines → Refuses lanes (rest ++ part) lines wide s
      → (before : List ℕ) → Reads lanes before old old_wide old_rest → length (before ++ piece) ≤ most_bytes → Halted lanes (before ++ piece) new s
  line_refused part behind new s none is allowed same why before r room =
      let base : List ℕ = before ++ on.done in
      let whole : base ++ left ≡ (base ++ part) ++ 10 ∷ behind = ap (λ (l : List ℕ). base ++ l) is ∙ sym (append_assoc base part (10 ∷ behind)) in
      let all : length ((base ++ part) ++ 10 ∷ behind) ≤ most_bytes = subst (λ (b : List ℕ). length b ≤ most_bytes) whole (fits_in before room) in
      let some : length lines < most_lines = has_room lanes base lines wide rest part (on.reads before r room) allowed in
      let held = reads_held lanes base lines wide rest part (on.reads before r room) none allowed (omega (arith, all, length-append (base ++ part) (10 ∷ behind))) in
      subst (λ (ls : List Line). Halted lanes (before ++ piece) ls s) (sym same)
      (halted_in before lines s (subst (λ (b : List ℕ). Halted lanes b lines s) (sym whole) (refused lanes (base ++ part) lines wide (rest ++ part) held behind s some all why)))

  -- A line that was.
  pub onward_more : (part behind : List ℕ) (new : List Line) (new_wide : ℕ) → NoEnd part → left ≡ part ++ 10 ∷ behind → Allows lines rest part → Added lanes (rest ++ part) lines new wide new_wide → Onward lanes piece behind old old_wide old_rest new new_wide []
  onward_more part behind new new_wide none is allowed added = record {
    done = on.done ++ (part ++ 10 ∷ []);
    piece_is = on.piece_is ∙ ap (λ (l : List ℕ). on.done ++ l) (is ∙ sym (append_assoc part (10 ∷ []) behind)) ∙ sym (append_assoc on.done (part ++ 10 ∷ []) behind);
    reads = λ before r room.
        let base : List ℕ = before ++ on.done in
        let whole : base ++ left ≡ (base ++ part) ++ 10 ∷ behind = ap (λ (l : List ℕ). base ++ l) is ∙ sym (append_assoc base part (10 ∷ behind)) in
        let all : length ((base ++ part) ++ 10 ∷ behind) ≤ most_bytes = subst (λ (b : List ℕ). length b ≤ most_bytes) whole (fits_in before room) in
        let size : length ((base ++ part) ++ 10 ∷ behind) ≡ length (base ++ part) + (1 + length behind) = length-append (base ++ part) (10 ∷ behind) ∙ ap (λ (n : ℕ). length (base ++ part) + n) (omega arith) in
        let some : length lines < most_lines = has_room lanes base lines wide rest part (on.reads before r room) allowed in
        let held = reads_held lanes base lines wide rest part (on.reads before r room) none allowed (omega (arith, all, size)) in
        let ended : Reads lanes ((base ++ part) ++ 10 ∷ []) new new_wide [] = reads_ended lanes (base ++ part) lines wide (rest ++ part) new new_wide held some added (omega (arith, all, size)) in
        subst (λ (b : List ℕ). Reads lanes b new new_wide []) (append_assoc base part (10 ∷ []) ∙ append_assoc before on.done (part ++ 10 ∷ [])) ended;
  }

  -- What ends no line is kept.
  kept : (l : List ℕ) → NoEnd l → (0 < length l → Allows lines rest l) → (base : List ℕ) → Reads lanes base lines wide rest → length (base ++ l) ≤ most_bytes → Reads lanes (base ++ l) lines wide (rest ++ l)
  kept [] none allowed base r room = rw (append-nil base, append-nil rest) r
  kept (b ∷ l) none allowed base r room = reads_held lanes base lines wide rest (b ∷ l) r none (allowed (omega arith)) room

  pub left_kept : (new_rest : List ℕ) → NoEnd left → (0 < length left → Allows lines rest left) → new_rest ≡ rest ++ left
      → (before : List ℕ) → Reads lanes before old old_wide old_rest → length (before ++ piece) ≤ most_bytes → Reads lanes (before ++ piece) lines wide new_rest
  left_kept new_rest none allowed is before r room =
      subst (λ (b : List ℕ). Reads lanes b lines wide new_rest) (sym (whole_is before))
      (subst (λ (t : List ℕ). Reads lanes ((before ++ on.done) ++ left) lines wide t) (sym is) (kept left none allowed (before ++ on.done) (on.reads before r room) (fits_in before room)))

  -- Or may not follow, or there is no room for it.
  pub left_refused : (s : ReadStop) → NoEnd left → (s ≡ stop.Memory) ⊎ ((0 < length left) × Forbids lines rest left s)
      → (before : List ℕ) → Reads lanes before old old_wide old_rest → length (before ++ piece) ≤ most_bytes → Halted lanes (before ++ piece) lines s
  left_refused s none (inl memory) before r room =
      halted_in before lines s (subst (λ (t : ReadStop). Halted lanes ((before ++ on.done) ++ left) lines t) (sym memory) (out_of_memory lanes (before ++ on.done) left lines wide rest (on.reads before r room)))
  left_refused s none (inr why) before r room =
      let all : left ++ [] ≡ left = append-nil left in
      halted_in before lines s (subst (λ (l : List ℕ). Halted lanes ((before ++ on.done) ++ l) lines s) all
      (forbidden lanes (before ++ on.done) lines wide rest (on.reads before r room) left [] s none why.1 (omega (arith, why.0, ap length all))
      (subst (λ (l : List ℕ). length ((before ++ on.done) ++ l) ≤ most_bytes) (sym all) (fits_in before room))))
