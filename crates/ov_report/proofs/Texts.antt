-- The texts of a report's lists, as the texts of their members.
use Rattle.std.proofs.Common.{ℕ, ◌≡◌, ◌+◌, ◌<◌, ◌≤◌, List, [], ◌∷◌, ◌++◌, length, refl, sym, ◌∙◌, ap, subst, append_assoc, append-nil, add-zero, take, drop, take-append-drop, get_or, arith, false}
use Rattle.std.proofs.lemmas.List.{take_more, length-take}
use Rattle.std.specs.Prelude.{Option}
use Rattle.ov_model.specs.declared.entry.Entry.{Entry}
use Rattle.ov_model.specs.declared.answer.Answer.{Answer}
use Rattle.ov_model.specs.declared.note.Note.{Note}
use Rattle.ov_model.specs.declared.replay.ReplayEntry.{ReplayEntry}
use Rattle.ov_model.specs.declared.report.LaneLog.{LaneLog}
use Rattle.ov_model.specs.declared.report.Report.{Report}
use Rattle.serde_json.specs.Written.{has_float}
use Rattle.ov_report.specs.Print.{entry_text, replay_text, answer_text, note_text}
use Rattle.ov_report.specs.Summary.{entries_text, replays_text, shards_text, answers_text, lanes_text, notes_text, summary_data, summary_text, report_text}
use Rattle.ov_report.specs.Printing.{Passed, Stopped, texts}
use Rattle.ov_report.specs.declared.page.PrintStop.{PrintStop}
use Rattle.ov_report.proofs.Passing.{passed_then, stopped_then, stopped_in}

module _ {X : Type 0} (line : ℕ → X → List ℕ) where
  -- The lines of two lists, one after the other.
  pub texts-append : (n : ℕ) (xs ys : List X) → texts line n (xs ++ ys) ≡ texts line n xs ++ texts line (n + length xs) ys
  texts-append n [] ys = rw add-zero refl
  texts-append n (x ∷ xs) ys =
      let next : n + 1 + length xs ≡ n + length (x ∷ xs) = omega arith in
      ap (λ rest. line n x ++ rest) (texts-append (n + 1) xs ys ∙ ap (λ k. texts line (n + 1) xs ++ texts line k ys) next)
      ∙ sym (append_assoc (line n x) (texts line (n + 1) xs) (texts line (n + length (x ∷ xs)) ys))

  -- The lines of one member more.
  pub texts_more : (xs : List X) (i : ℕ) (d : X) → i < length xs → texts line 0 (take (i + 1) xs) ≡ texts line 0 (take i xs) ++ line i (get_or xs i d)
  texts_more xs i d below =
      let e : X = get_or xs i d in
      let at : 0 + length (take i xs) ≡ i = omega (arith, length-take i xs) in
      ap (texts line 0) (take_more xs i d below) ∙ texts-append 0 (take i xs) (e ∷ [])
      ∙ ap (λ t. texts line 0 (take i xs) ++ t) (ap (λ k. texts line k (e ∷ [])) at ∙ append-nil (line i e))

  -- A line more has passed.
  pub passed_more : (old mid new : Option (List ℕ)) (held left rest text : List ℕ) (xs : List X) (i : ℕ) (d : X) → i < length xs → text ≡ line i (get_or xs i d)
      → Passed old mid held (texts line 0 (take i xs)) left → Passed mid new left text rest → Passed old new held (texts line 0 (take (i + 1) xs)) rest
  passed_more old mid new held left rest text xs i d below is a b =
      subst (λ t. Passed old new held t rest) (ap (λ t. texts line 0 (take i xs) ++ t) is ∙ sym (texts_more xs i d below))
      (passed_then old mid new held (texts line 0 (take i xs)) left text rest a b)

  -- A line of a list that didn't pass, after those before it.
  pub stopped_at : (why : PrintStop) (old mid new : Option (List ℕ)) (first_faults mid_faults now : ℕ) (held left text : List ℕ) (xs : List X) (i : ℕ) (d : X) → i < length xs → text ≡ line i (get_or xs i d)
      → Passed old mid held (texts line 0 (take i xs)) left → first_faults ≤ mid_faults → Stopped why mid new mid_faults now left text → Stopped why old new first_faults now held (texts line 0 xs)
  stopped_at why old mid new first_faults mid_faults now held left text xs i d below is a later s =
      let ys : List X = take (i + 1) xs in
      let whole : texts line 0 xs ≡ texts line 0 ys ++ texts line (0 + length ys) (drop (i + 1) xs) = ap (texts line 0) (sym (take-append-drop (i + 1) xs)) ∙ texts-append 0 ys (drop (i + 1) xs) in
      let first : texts line 0 (take i xs) ++ text ≡ texts line 0 ys = ap (λ t. texts line 0 (take i xs) ++ t) is ∙ sym (texts_more xs i d below) in
      subst (λ t. Stopped why old new first_faults now held t) (sym whole)
      (stopped_in why old new first_faults now held (texts line 0 ys) (texts line (0 + length ys) (drop (i + 1) xs))
      (subst (λ t. Stopped why old new first_faults now held t) first (stopped_then why old mid new first_faults mid_faults now held (texts line 0 (take i xs)) left text a later s)))

-- The lists of a report.
pub entries_are : (n : ℕ) (es : List Entry) → texts entry_text n es ≡ entries_text n es
entries_are n [] = refl
entries_are n (e ∷ es) = ap (λ t. entry_text n e ++ t) (entries_are (n + 1) es)

pub answers_are : (lane n : ℕ) (es : List Answer) → texts (answer_text lane) n es ≡ answers_text lane n es
answers_are lane n [] = refl
answers_are lane n (e ∷ es) = ap (λ t. answer_text lane n e ++ t) (answers_are lane (n + 1) es)

pub notes_are : (n : ℕ) (es : List Note) → texts (λ k note. note_text note) n es ≡ notes_text es
notes_are n [] = refl
notes_are n (e ∷ es) = ap (λ t. note_text e ++ t) (notes_are (n + 1) es)

pub replays_are : (shard n : ℕ) (es : List ReplayEntry) → texts (λ k step. replay_text shard step) n es ≡ replays_text shard es
replays_are shard n [] = refl
replays_are shard n (e ∷ es) = ap (λ t. replay_text shard e ++ t) (replays_are shard (n + 1) es)

pub shards_are : (n : ℕ) (es : List (List ReplayEntry)) → texts replays_text n es ≡ shards_text n es
shards_are n [] = refl
shards_are n (e ∷ es) = ap (λ t. replays_text n e ++ t) (shards_are (n + 1) es)

-- The answers of a lane's lines.
abbrev pub log_text : ℕ → LaneLog → List ℕ
log_text lane log = answers_text lane 0 log.answers

pub logs_are : (n : ℕ) (logs : List LaneLog) → texts log_text n logs ≡ lanes_text n logs
logs_are n [] = refl
logs_are n (log ∷ logs) = ap (λ t. log_text n log ++ t) (logs_are (n + 1) logs)

pub summary_no_float : (r : Report) → has_float (summary_data r) ≡ false
unfolding summary_data
summary_no_float r = refl

-- The five parts of a report's text.
pub report_parts : (r : Report)
    → report_text r ≡ texts entry_text 0 r.journal ++ (shards_text 0 r.shards ++ (lanes_text 0 r.lanes ++ (texts (λ k note. note_text note) 0 r.notes ++ summary_text r)))
unfolding report_text
report_parts r = rw (entries_are 0 r.journal, notes_are 0 r.notes) refl
