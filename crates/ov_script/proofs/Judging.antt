-- From the lines that were read to what the whole stream shows.
use Rattle.std.proofs.Common.{◌≡◌, ◌∙◌, ℕ, zero, suc, ◌+◌, ◌<◌, ◌≤◌, ◌⊎◌, inl, inr, List, [], ◌∷◌, ◌++◌, length, refl, sym, ap, subst, arith, Ok, Err, Result, Option, None, Some}
use Rattle.std.proofs.lemmas.List.{append-nil, append_cancel_right}
use Rattle.std.proofs.lemmas.Bool.{cases_lt}
use Rattle.std.specs.Prelude.{⊤}
use Rattle.std.specs.Io.KnownBytes.{Consumes, IsAtEnd}
use Rattle.ov_base.specs.Outside.{Rose}
use Rattle.ov_model.specs.declared.line.Line.{Line}
use Rattle.ov_script.specs.declared.script.ReadStop.{ReadStop}
use Rattle.ov_script.specs.declared.script.ReadStop.TheVariants as stop
use Rattle.ov_script.specs.declared.script.Limit.TheVariants.{Bytes, Lines, LineBytes, Wide}
use Rattle.ov_script.specs.Reading.{most_bytes, most_piece, cut, whole_lines, counted_lines, AreLines, AreGood, Event, bad_line, passed, rank, Gives, Ends, IsQuiet, EarlyAt, LastAt, StopAt, Early, Stop, HasNoStop, Gave, GaveSome, stop_of, IsTold, Counts}
use Rattle.ov_script.specs.Steps.{Halted, Judges, HasRead}
use Rattle.ov_script.proofs.Cutting.{placed}
use Rattle.ov_script.proofs.Lines.{lines_count}
use Rattle.ov_script.proofs.Last.{no_stop}
use Rattle.ov_script.proofs.Quiet.{quiet_none}

-- ---- one first event

-- An event by its rank, and the number of a bad line.
event_of : ℕ → ℕ → Event
event_of zero n = passed Bytes
event_of (suc zero) n = passed Lines
event_of (suc (suc zero)) n = passed LineBytes
event_of (suc (suc (suc zero))) n = bad_line n
event_of (suc (suc (suc (suc k)))) n = passed Wide

named : (lanes : ℕ) (bytes : List ℕ) (byte : ℕ) (event : Event) → Gives lanes bytes byte event → event ≡ event_of (rank event) (length (cut bytes).ended + 1)
unfolding event_of
named lanes bytes byte (passed Bytes) given = refl
named lanes bytes byte (passed Lines) given = refl
named lanes bytes byte (passed LineBytes) given = refl
named lanes bytes byte (bad_line n) given = ap bad_line given.1.0
named lanes bytes byte (passed Wide) given = refl

ended_named : (lanes : ℕ) (bytes : List ℕ) (event : Event) → Ends lanes bytes event → event ≡ event_of (rank event) (length (cut bytes).ended + 1)
unfolding event_of
ended_named lanes bytes (passed Bytes) given = refl
ended_named lanes bytes (passed Lines) given = refl
ended_named lanes bytes (passed LineBytes) given = refl
ended_named lanes bytes (bad_line n) given = ap bad_line given.0
ended_named lanes bytes (passed Wide) given = refl

-- Of two events neither of which comes before the other the ranks are one.
one_rank : (a b : Event) → ¬ (rank a < rank b) → ¬ (rank b < rank a) → rank a ≡ rank b
one_rank a b x y = elim (cases_lt (rank a) (rank b)) as (λ _. rank a ≡ rank b) [
  | inl less ↦ absurd (x less)
  | inr more ↦ elim (cases_lt (rank b) (rank a)) as (λ _. rank a ≡ rank b) [ inl less ↦ absurd (y less) | inr same ↦ omega (arith, more, same) ]
]

one_name : (a b : Event) (k : ℕ) → a ≡ event_of (rank a) k → b ≡ event_of (rank b) k → rank a ≡ rank b → a ≡ b
one_name a b k x y same = x ∙ ap (λ (r : ℕ). event_of r k) same ∙ sym y

module _ (lanes : ℕ) (bytes : List ℕ) (p q : List ℕ) (a b : Event) where
  -- At one byte.
  one_here : (x : EarlyAt lanes bytes p a) (y : EarlyAt lanes bytes q b) → q ≡ p → y.byte ≡ x.byte → a ≡ b
  one_here x y front byte =
      let other : Gives lanes p x.byte b = subst (λ (c : ℕ). Gives lanes p c b) byte (subst (λ (f : List ℕ). Gives lanes f y.byte b) front y.given) in
      let own : Gives lanes q y.byte a = subst (λ (f : List ℕ). Gives lanes f y.byte a) (sym front) (subst (λ (c : ℕ). Gives lanes p c a) (sym byte) x.given) in
      one_name a b (length (cut p).ended + 1) (named lanes p x.byte a x.given) (named lanes p x.byte b other) (one_rank a b (λ less. y.first a less own) (λ less. x.first b less other))

  -- At a byte behind the first, which then isn't quiet.
  one_later : (x : EarlyAt lanes bytes p a) (y : EarlyAt lanes bytes q b) (part : List ℕ) → q ≡ p ++ part → x.byte ∷ x.behind ≡ part ++ y.byte ∷ y.behind → a ≡ b
  one_later x y [] front rest = let byte : y.byte ≡ x.byte = cc in one_here x y (front ∙ append-nil p) byte
  one_later x y (c ∷ part) front rest =
      let first : c ≡ x.byte = cc in
      absurd (y.quiet p x.byte part (front ∙ ap (λ (d : ℕ). p ++ d ∷ part) first) a x.given)

  one_early : EarlyAt lanes bytes p a → EarlyAt lanes bytes q b → a ≡ b
  one_early x y = elim (placed p (x.byte ∷ x.behind) q y.byte y.behind (sym x.bytes_are ∙ y.bytes_are)) as (λ _. a ≡ b) [
    | inl before ↦ absurd (x.quiet q y.byte before.0 before.1 b y.given)
    | inr later ↦ one_later x y later.0 later.1 later.2
  ]

  one_last : LastAt lanes bytes a → LastAt lanes bytes b → a ≡ b
  one_last x y = one_name a b (length (cut bytes).ended + 1) (ended_named lanes bytes a x.given) (ended_named lanes bytes b y.given) (one_rank a b (λ less. y.first a less x.given) (λ less. x.first b less y.given))

  -- A stream has one first event.
  one_event : StopAt lanes bytes p a → StopAt lanes bytes q b → a ≡ b
  one_event (inl x) (inl y) = one_early x y
  one_event (inl x) (inr y) = absurd (y.1.quiet p x.byte x.behind x.bytes_are a x.given)
  one_event (inr x) (inl y) = absurd (x.1.quiet q y.byte y.behind y.bytes_are b y.given)
  one_event (inr x) (inr y) = one_last x.1 y.1

-- The number of a bad line is the next.
stop_number : (lanes : ℕ) (bytes front : List ℕ) (n : ℕ) → StopAt lanes bytes front (bad_line n) → n ≡ length (cut front).ended + 1
stop_number lanes bytes front n (inl early) = early.given.1.0
stop_number lanes bytes front n (inr last) = last.1.given.0 ∙ ap (λ (b : List ℕ). length (cut b).ended + 1) (sym last.0)

-- What the bytes show early is the first event of the whole stream.
pub early_stops : (lanes : ℕ) (bytes : List ℕ) (event : Event) → Early bytes lanes event → Stop bytes lanes event
early_stops lanes bytes event early = (early.0, inl early.1)

-- ---- what an answer says

-- The bytes that were read are those that the source tells it gave.
pub gave_these : (before now : Option (List ℕ)) (read taken : List ℕ) → Consumes before now read → Gave before now taken → read ≡ taken
gave_these before now read taken consumed g =
    let P : Option (List ℕ) → Type 0 = λ b. Consumes b now read in
    let Q : Option (List ℕ) → Type 0 = λ n. Consumes (Some (taken ++ g.left)) n read in
    let same : taken ++ g.left ≡ read ++ g.left = subst Q g.has (subst P g.had consumed) in
    append_cancel_right read taken g.left (sym same)

-- A source that tells what it has left tells what it gave.
pub gave_some : (before now : Option (List ℕ)) (bytes : List ℕ) → Consumes before now bytes → GaveSome before now
gave_some None now bytes consumed = tt
gave_some (Some held) None bytes consumed = absurd consumed
gave_some (Some held) (Some left) bytes consumed = (bytes, record { left = left; had = ap Some consumed; has = refl })

-- A source that tells what it has left and is at its end has nothing left.
pub at_end : (before now : Option (List ℕ)) (taken : List ℕ) → IsAtEnd now → Gave before now taken → now ≡ Some []
at_end before now taken ended g =
    let P : Option (List ℕ) → Type 0 = IsAtEnd in
    g.has ∙ ap Some (subst P g.has ended)

-- An answer that names an event: it is the first, and the lines are those in front of it.
record Came (lanes : ℕ) (now : Option (List ℕ)) (bytes : List ℕ) (lines : List Line) (event : Event) : Type 0 where
  pub front : List ℕ
  pub stops : StopAt lanes bytes front event
  pub early : EarlyAt lanes bytes front event ⊎ IsAtEnd now
  pub number : length lines ≡ length (cut front).ended

came : (lanes : ℕ) (now : Option (List ℕ)) (from to : ℕ) (bytes : List ℕ) (lines : List Line) (s : ReadStop) (event : Event) → Judges lanes now from to bytes lines (Err s) → s ≡ stop_of event → Came lanes now bytes lines event
came lanes now from to bytes lines s (bad_line n) judged is =
    let J : ReadStop → Type 0 = λ r. Judges lanes now from to bytes lines (Err r) in
    let named : Halted lanes bytes lines (stop.Bad n) ⊎ (IsAtEnd now × (length bytes ≤ most_bytes) × AreLines lanes (cut bytes).ended lines × LastAt lanes bytes (bad_line n)) = subst J is judged in
    elim named as (λ _. Came lanes now bytes lines (bad_line n)) [
      | inl h ↦ record { front = h.front; stops = inl h.stops; early = inl h.stops; number = lines_count lanes (cut h.front).ended lines h.said }
      | inr l ↦ record { front = bytes; stops = inr (refl, l.3); early = inr l.0; number = lines_count lanes (cut bytes).ended lines l.2 }
    ]
came lanes now from to bytes lines s (passed limit) judged is =
    let J : ReadStop → Type 0 = λ r. Judges lanes now from to bytes lines (Err r) in
    let named : Halted lanes bytes lines (stop.Limit limit) ⊎ (IsAtEnd now × (length bytes ≤ most_bytes) × AreLines lanes (cut bytes).ended lines × LastAt lanes bytes (passed limit)) = subst J is judged in
    elim named as (λ _. Came lanes now bytes lines (passed limit)) [
      | inl h ↦ record { front = h.front; stops = inl h.stops; early = inl h.stops; number = lines_count lanes (cut h.front).ended lines h.said }
      | inr l ↦ record { front = bytes; stops = inr (refl, l.3); early = inr l.0; number = lines_count lanes (cut bytes).ended lines l.2 }
    ]

-- The count of the lines read, by the answer.
counts_stop : (lanes : ℕ) (now : Option (List ℕ)) (from to : ℕ) (bytes : List ℕ) (lines : List Line) (s : ReadStop) → Judges lanes now from to bytes lines (Err s) → Counts lanes bytes (Err s) (length lines)
counts_stop lanes now from to bytes lines (stop.Bad n) j =
    let c = came lanes now from to bytes lines (stop.Bad n) (bad_line n) j refl in
    stop_number lanes bytes c.front n c.stops ∙ ap (λ (k : ℕ). k + 1) (sym c.number)
counts_stop lanes now from to bytes lines (stop.Limit limit) j =
    let c = came lanes now from to bytes lines (stop.Limit limit) (passed limit) j refl in record { front = c.front; stops = c.stops; number = c.number }
counts_stop lanes now from to bytes lines stop.Read j = lines_count lanes (cut bytes).ended lines j.2
counts_stop lanes now from to bytes lines stop.Memory j = tt

module _ (lanes : ℕ) (before now : Option (List ℕ)) (from to : ℕ) (lines : List Line) where
  -- What is known of the bytes that were read, of those that the source tells it gave.
  pub stops_known : (s : ReadStop) → HasRead lanes before now from to lines (Err s) → (event : Event) → s ≡ stop_of event → (taken : List ℕ) → Gave before now taken → Early taken lanes event ⊎ ((now ≡ Some []) × Stop taken lanes event)
  stops_known s k event is taken g =
      let c = came lanes now from to k.bytes lines s event k.judged is in
      subst (λ (b : List ℕ). Early b lanes event ⊎ ((now ≡ Some []) × Stop b lanes event)) (gave_these before now k.bytes taken k.taken g)
      (elim c.early as (λ _. Early k.bytes lanes event ⊎ ((now ≡ Some []) × Stop k.bytes lanes event)) [
        | inl early ↦ inl (c.front, early)
        | inr ended ↦ inr (at_end before now taken ended g, (c.front, c.stops))
      ])

  -- A failed read is answered only where the count of faults rose, and where no byte gave an event.
  failed_known : (s : ReadStop) (k : HasRead lanes before now from to lines (Err s)) → s ≡ stop.Read → Rose from to × (length k.bytes ≤ most_bytes) × AreLines lanes (cut k.bytes).ended lines × IsQuiet lanes k.bytes
  failed_known s k is = let J : ReadStop → Type 0 = λ r. Judges lanes now from to k.bytes lines (Err r) in subst J is k.judged

  pub rose_known : (s : ReadStop) → HasRead lanes before now from to lines (Err s) → s ≡ stop.Read → Rose from to
  rose_known s k is = (failed_known s k is).0

  pub not_early_known : (s : ReadStop) → HasRead lanes before now from to lines (Err s) → s ≡ stop.Read → (taken : List ℕ) → Gave before now taken → (event : Event) → ¬ (Early taken lanes event)
  not_early_known s k is taken g event early =
      let quiet : IsQuiet lanes taken = subst (IsQuiet lanes) (gave_these before now k.bytes taken k.taken g) (failed_known s k is).3 in
      quiet early.0 early.1.byte early.1.behind early.1.bytes_are event early.1.given

  pub counts_known : (s : ReadStop) (n : ℕ) → HasRead lanes before now from to lines (Err s) → n ≡ length lines → (taken : List ℕ) → Gave before now taken → Counts lanes taken (Err s) n
  counts_known s n k count taken g =
      let P : List ℕ → Type 0 = λ b. Counts lanes b (Err s) n in
      let Q : ℕ → Type 0 = λ m. Counts lanes k.bytes (Err s) m in
      subst P (gave_these before now k.bytes taken k.taken g) (subst Q (sym count) (counts_stop lanes now from to k.bytes lines s k.judged))

  pub good_known : (r : Result ⊤ ReadStop) (n : ℕ) → HasRead lanes before now from to lines r → n ≡ length lines → (taken : List ℕ) → Gave before now taken → AreGood lanes (counted_lines taken) n
  good_known r n k count taken g =
      let P : List ℕ → Type 0 = λ b. AreGood lanes (counted_lines b) n in
      let Q : ℕ → Type 0 = λ c. AreGood lanes (counted_lines k.bytes) c in
      subst P (gave_these before now k.bytes taken k.taken g) (subst Q (sym count) k.good)

  pub most_known : (r : Result ⊤ ReadStop) → HasRead lanes before now from to lines r → (taken : List ℕ) → Gave before now taken → length taken ≤ most_bytes + most_piece
  most_known r k taken g = subst (λ (b : List ℕ). length b ≤ most_bytes + most_piece) (gave_these before now k.bytes taken k.taken g) k.most

  -- Where the source was read whole.
  pub whole_known : (u : ⊤) → HasRead lanes before now from to lines (Ok u) → (taken : List ℕ) → Gave before now taken → (now ≡ Some []) × (length taken ≤ most_bytes) × AreLines lanes (whole_lines taken) lines × HasNoStop taken lanes
  whole_known u k taken g =
      let P : List ℕ → Type 0 = λ b. (now ≡ Some []) × (length b ≤ most_bytes) × AreLines lanes (whole_lines b) lines × HasNoStop b lanes in
      subst P (gave_these before now k.bytes taken k.taken g) (at_end before now taken k.judged.0 g, k.judged.1, k.judged.2, k.judged.3)

  pub no_stop_known : (u : ⊤) → HasRead lanes before now from to lines (Ok u) → (taken : List ℕ) → Gave before now taken → HasNoStop taken lanes
  no_stop_known u k taken g = (whole_known u k taken g).3

  -- Where the bytes have a stop, an answer that isn't a script tells it, if it isn't a failed read.
  own_stop : (event : Event) (taken : List ℕ) → Early taken lanes event ⊎ ((now ≡ Some []) × Stop taken lanes event) → Stop taken lanes event
  own_stop event taken (inl early) = early_stops lanes taken event early
  own_stop event taken (inr late) = late.1

  same_stop : (s : ReadStop) (own event : Event) (taken : List ℕ) → s ≡ stop_of own → Stop taken lanes own → Stop taken lanes event → IsTold event (Err s)
  same_stop s own event taken is x y = inl (ap (λ (r : ReadStop). Err r) (is ∙ ap stop_of (one_event lanes taken x.0 y.0 own event x.1 y.1)))

  told_known : (s : ReadStop) → HasRead lanes before now from to lines (Err s) → ¬ (s ≡ stop.Read) → (event : Event) (taken : List ℕ) → Gave before now taken → Stop taken lanes event → IsTold event (Err s)
  told_known (stop.Bad n) k not_read event taken gave first = same_stop (stop.Bad n) (bad_line n) event taken refl (own_stop (bad_line n) taken (stops_known (stop.Bad n) k (bad_line n) refl taken gave)) first
  told_known (stop.Limit l) k not_read event taken gave first = same_stop (stop.Limit l) (passed l) event taken refl (own_stop (passed l) taken (stops_known (stop.Limit l) k (passed l) refl taken gave)) first
  told_known stop.Read k not_read event taken gave first = absurd (not_read refl)
  told_known stop.Memory k not_read event taken gave first = inr refl

  -- An early event is told in any case: a failed read is answered only where there is none.
  pub told_early : (s : ReadStop) → HasRead lanes before now from to lines (Err s) → (event : Event) (taken : List ℕ) → Gave before now taken → Early taken lanes event → IsTold event (Err s)
  told_early s k event taken gave early = told_known s k (λ is. not_early_known s k is taken gave event early) event taken gave (early_stops lanes taken event early)

  -- So any event is told where the count didn't rise.
  pub told_stop : (s : ReadStop) → HasRead lanes before now from to lines (Err s) → ¬ (Rose from to) → (event : Event) (taken : List ℕ) → Gave before now taken → Stop taken lanes event → IsTold event (Err s)
  told_stop s k calm event taken gave first = told_known s k (λ is. calm (rose_known s k is)) event taken gave first

some_same : (a b : List ℕ) → Some a ≡ Some b → a ≡ b
some_same a b h = cc

-- Where a source has what it had, it gave nothing, and that has no stop.
pub none_given : (lanes : ℕ) (left : Option (List ℕ)) (taken : List ℕ) → Gave left left taken → HasNoStop taken lanes
none_given lanes left taken gave =
    let P : List ℕ → Type 0 = λ b. HasNoStop b lanes in
    let same : taken ++ gave.left ≡ gave.left = some_same _ _ (sym gave.had ∙ gave.has) in
    let nothing : taken ≡ [] = append_cancel_right taken [] gave.left same in
    subst P (sym nothing) (no_stop lanes [] (quiet_none lanes) (λ event some. absurd (omega (arith, some))))
