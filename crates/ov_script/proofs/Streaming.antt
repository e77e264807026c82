-- A stream whose lines are read piece by piece.
use Rattle.std.proofs.Common.{◌≡◌, ◌∙◌, ℕ, ◌+◌, ◌-◌, ◌<◌, ◌≤◌, inl, inr, min, List, [], ◌++◌, length, take, drop, refl, sym, ap, subst, append_assoc, length-append, arith, Option, Ok, Err}
use Rattle.std.specs.Prelude.{⊤, Result, OnOk, OnErr, IfErr}
use Rattle.std.specs.Io.KnownBytes.{Consumes, Keeps, IsAtEnd}
use Rattle.std.proofs.KnownBytes.{Consumes-trans, Consumes-kept}
use Rattle.std.proofs.lemmas.List.{length-take-le, length-take, length-drop, take-take, take_all, take-append-drop}
use Rattle.std.proofs.lemmas.Bool.{cases_lt}
use Rattle.std.proofs.Math.Nat.{min-eq_left, min-eq_right, min-le_left}
use Rattle.std.proofs.Math.Seq.{take-append-add}
use Rattle.ov_base.specs.Outside.{Rose}
use Rattle.ov_model.specs.declared.line.Line.{Line}
use Rattle.ov_script.specs.Reading.{cut, most_bytes, most_piece, ended_lines, whole_lines, AreLines, AreGood, bad_line, passed}
use Rattle.ov_script.specs.Steps.{Reads, Refuses, IsLast, Halted, StopsAt, LastStops, Judges, HasRead}
use Rattle.ov_script.specs.declared.script.ReadStop.{ReadStop}
use Rattle.ov_script.specs.declared.script.ReadStop.TheVariants as stop
use Rattle.ov_script.specs.declared.script.Limit.TheVariants.{Bytes}
use Rattle.ov_script.proofs.Goods.{ended_whole, counted_whole, good_counted, all_good, good_halted}
use Rattle.ov_script.proofs.Halting.{early_longer, byte_too_many}
use Rattle.ov_script.proofs.Last.{last_read, last_refused}

-- What is known between two pieces: the source gave these bytes so far, and so many may still come.
pub record Seen (lanes : ℕ) (before now : Option (List ℕ)) (room : ℕ) (lines : List Line) (wide : ℕ) (rest : List ℕ) : Type 0 where
  pub bytes : List ℕ
  pub taken : Consumes before now bytes
  pub fits : length bytes + room ≡ most_bytes
  pub reads : Reads lanes bytes lines wide rest

-- The front of a read's bytes that may still count.
fronts : (room count : ℕ) (buffer : List ℕ) → take room (take count buffer) ≡ take (min count room) buffer
fronts room count buffer = elim (cases_lt room count) as (λ _. take room (take count buffer) ≡ take (min count room) buffer) [
  | inl less ↦ let le : room ≤ count = omega (arith, less) in take-take room count buffer le ∙ ap (λ (n : ℕ). take n buffer) (sym (min-eq_right le))
  | inr more ↦
      let short : length (take count buffer) ≤ room = omega (arith, more, length-take count buffer, min-le_left count (length buffer)) in
      take_all room (take count buffer) short ∙ ap (λ (n : ℕ). take n buffer) (sym (min-eq_left more))
]

-- The read's bytes are that front and those behind it.
whole_read : (room count : ℕ) (buffer front : List ℕ) → front ≡ take (min count room) buffer → take count buffer ≡ front ++ drop room (take count buffer)
whole_read room count buffer front is = sym (take-append-drop room (take count buffer)) ∙ ap (λ (f : List ℕ). f ++ drop room (take count buffer)) (fronts room count buffer ∙ sym is)

-- So the lines that end within the limit are those of what came before and of that front.
front_ended : (room : ℕ) (bytes : List ℕ) → length bytes + room ≡ most_bytes → (count : ℕ) (buffer front : List ℕ) → front ≡ take (min count room) buffer → ended_lines (bytes ++ take count buffer) ≡ (cut (bytes ++ front)).ended
front_ended room bytes fits count buffer front is =
    let within : take room (take count buffer) ≡ front = fronts room count buffer ∙ sym is in
    ap (λ (b : List ℕ). (cut b).ended) (ap (λ (n : ℕ). take n (bytes ++ take count buffer)) (sym fits) ∙ take-append-add bytes (take count buffer) room ∙ ap (λ (b : List ℕ). bytes ++ b) within)

front_short : (room count : ℕ) (buffer front : List ℕ) → front ≡ take (min count room) buffer → length front ≤ room
front_short room count buffer front is =
    omega (arith, ap length (is ∙ sym (fronts room count buffer)) ∙ length-take room (take count buffer), min-le_left room (length (take count buffer)))

-- What halts reading halts it with more bytes behind.
stops_longer : (lanes : ℕ) (bytes more front : List ℕ) (s : ReadStop) → StopsAt lanes bytes front s → StopsAt lanes (bytes ++ more) front s
stops_longer lanes bytes more front (stop.Bad n) h = early_longer lanes bytes more front (bad_line n) h
stops_longer lanes bytes more front (stop.Limit limit) h = early_longer lanes bytes more front (passed limit) h
stops_longer lanes bytes more front stop.Read h = h
stops_longer lanes bytes more front stop.Memory h = tt

halted_longer : (lanes : ℕ) (bytes more : List ℕ) (lines : List Line) (s : ReadStop) → Halted lanes bytes lines s → Halted lanes (bytes ++ more) lines s
halted_longer lanes bytes more lines s h = record {
  front = h.front;
  behind = h.behind ++ more;
  bytes_are = ap (λ (b : List ℕ). b ++ more) h.bytes_are ∙ append_assoc h.front h.behind more;
  said = h.said;
  stops = stops_longer lanes bytes more h.front s h.stops;
}

judged_halted : (lanes : ℕ) (now : Option (List ℕ)) (from to : ℕ) (bytes : List ℕ) (lines : List Line) (s : ReadStop) → Halted lanes bytes lines s → Judges lanes now from to bytes lines (Err s)
judged_halted lanes now from to bytes lines (stop.Bad n) h = inl h
judged_halted lanes now from to bytes lines (stop.Limit limit) h = inl h
judged_halted lanes now from to bytes lines stop.Read h = absurd h.stops
judged_halted lanes now from to bytes lines stop.Memory h = inl h

judged_last : (lanes : ℕ) (now : Option (List ℕ)) (from to : ℕ) (bytes : List ℕ) (lines : List Line) (s : ReadStop) → IsAtEnd now → length bytes ≤ most_bytes → AreLines lanes (cut bytes).ended lines → LastStops lanes bytes s → Judges lanes now from to bytes lines (Err s)
judged_last lanes now from to bytes lines (stop.Bad n) ended short said h = inr (ended, short, said, h)
judged_last lanes now from to bytes lines (stop.Limit limit) ended short said h = inr (ended, short, said, h)
judged_last lanes now from to bytes lines stop.Read ended short said h = absurd h
judged_last lanes now from to bytes lines stop.Memory ended short said h = inr (ended, short, said, h)

-- Before anything was read.
pub nothing_read : (lanes : ℕ) (left : Option (List ℕ)) (faults : ℕ) (lines : List Line) (wide : ℕ) (rest : List ℕ) → Consumes left left [] → Reads lanes [] lines wide rest → HasRead lanes left left faults faults lines (Err stop.Memory)
nothing_read lanes left faults lines wide rest none reads = record {
  bytes = [];
  taken = none;
  most = omega arith;
  judged = inl (record { front = []; behind = []; bytes_are = refl; said = reads.said; stops = tt });
  good = good_counted lanes [] (length lines) (subst (λ (ps : List (List ℕ)). AreGood lanes ps (length lines)) (sym (ended_whole [] (omega arith))) (all_good lanes [] lines reads.said));
}

module _ (lanes : ℕ) (before mid now : Option (List ℕ)) (from to room : ℕ) (lines : List Line) (wide : ℕ) (rest : List ℕ) (seen : Seen lanes before mid room lines wide rest) where
  -- What came with a read: the bytes so far, with the front that may still count, and those behind it.
  came_whole : (count : ℕ) (buffer front : List ℕ) → front ≡ take (min count room) buffer → seen.bytes ++ take count buffer ≡ (seen.bytes ++ front) ++ drop room (take count buffer)
  came_whole count buffer front is = ap (λ (b : List ℕ). seen.bytes ++ b) (whole_read room count buffer front is) ∙ sym (append_assoc seen.bytes front (drop room (take count buffer)))

  front_fits : (count : ℕ) (buffer front : List ℕ) → front ≡ take (min count room) buffer → length (seen.bytes ++ front) ≤ most_bytes
  front_fits count buffer front is = omega (arith, length-append seen.bytes front, front_short room count buffer front is, seen.fits)

  came_most : (count : ℕ) (buffer : List ℕ) → count ≤ length buffer → length buffer ≤ most_piece → length (seen.bytes ++ take count buffer) ≤ most_bytes + most_piece
  came_most count buffer within piece = omega (arith, length-append seen.bytes (take count buffer), length-take-le count buffer within, seen.fits)

  -- Reading halted at an event in the piece.
  pub piece_halted : (count : ℕ) (buffer front : List ℕ) (new : List Line) (s : ReadStop) → Consumes mid now (take count buffer) → front ≡ take (min count room) buffer → count ≤ length buffer → length buffer ≤ most_piece
      → ((b : List ℕ) → Reads lanes b lines wide rest → length (b ++ front) ≤ most_bytes → Halted lanes (b ++ front) new s) → HasRead lanes before now from to new (Err s)
  piece_halted count buffer front new s came is within piece halts =
      let halted : Halted lanes (seen.bytes ++ front) new s = halts seen.bytes seen.reads (front_fits count buffer front is) in record {
        bytes = seen.bytes ++ take count buffer;
        taken = Consumes-trans before mid now seen.bytes (take count buffer) seen.taken came;
        most = came_most count buffer within piece;
        judged = judged_halted lanes now from to (seen.bytes ++ take count buffer) new s
            (subst (λ (b : List ℕ). Halted lanes b new s) (sym (came_whole count buffer front is)) (halted_longer lanes (seen.bytes ++ front) (drop room (take count buffer)) new s halted));
        good = good_counted lanes (seen.bytes ++ take count buffer) (length new)
            (subst (λ (ps : List (List ℕ)). AreGood lanes ps (length new)) (sym (front_ended room seen.bytes seen.fits count buffer front is)) (good_halted lanes (seen.bytes ++ front) new s halted));
      }

  -- More came than may.
  pub piece_past : (count : ℕ) (buffer front : List ℕ) (new : List Line) (new_wide : ℕ) (new_rest : List ℕ) → Consumes mid now (take count buffer) → front ≡ take (min count room) buffer → count ≤ length buffer → length buffer ≤ most_piece → room < count
      → ((b : List ℕ) → Reads lanes b lines wide rest → length (b ++ front) ≤ most_bytes → Reads lanes (b ++ front) new new_wide new_rest) → HasRead lanes before now from to new (Err (stop.Limit Bytes))
  piece_past count buffer front new new_wide new_rest came is within piece past reads =
      let known : Reads lanes (seen.bytes ++ front) new new_wide new_rest = reads seen.bytes seen.reads (front_fits count buffer front is) in
      let size : length (take count buffer) ≡ count = length-take-le count buffer within in
      let full : length front ≡ room = ap length (is ∙ sym (fronts room count buffer)) ∙ length-take-le room (take count buffer) (omega (arith, size, past)) in
      let all : length (seen.bytes ++ front) ≡ most_bytes = length-append seen.bytes front ∙ ap (λ (n : ℕ). length seen.bytes + n) full ∙ seen.fits in
      let some : 0 < length (drop room (take count buffer)) = omega (arith, length-drop room (take count buffer), size, past) in
      let halted : Halted lanes ((seen.bytes ++ front) ++ drop room (take count buffer)) new (stop.Limit Bytes) = record {
        front = seen.bytes ++ front;
        behind = drop room (take count buffer);
        bytes_are = refl;
        said = known.said;
        stops = byte_too_many lanes (seen.bytes ++ front) new new_wide new_rest known (drop room (take count buffer)) some all;
      } in record {
        bytes = seen.bytes ++ take count buffer;
        taken = Consumes-trans before mid now seen.bytes (take count buffer) seen.taken came;
        most = came_most count buffer within piece;
        judged = inl (subst (λ (b : List ℕ). Halted lanes b new (stop.Limit Bytes)) (sym (came_whole count buffer front is)) halted);
        good = good_counted lanes (seen.bytes ++ take count buffer) (length new)
            (subst (λ (ps : List (List ℕ)). AreGood lanes ps (length new)) (sym (front_ended room seen.bytes seen.fits count buffer front is)) (all_good lanes (cut (seen.bytes ++ front)).ended new known.said));
      }

  -- More may still come.
  pub piece_read : (count : ℕ) (buffer front : List ℕ) (new : List Line) (new_wide : ℕ) (new_rest : List ℕ) → Consumes mid now (take count buffer) → front ≡ take (min count room) buffer → count ≤ length buffer → count ≤ room
      → ((b : List ℕ) → Reads lanes b lines wide rest → length (b ++ front) ≤ most_bytes → Reads lanes (b ++ front) new new_wide new_rest) → Seen lanes before now (room - count) new new_wide new_rest
  piece_read count buffer front new new_wide new_rest came is within enough reads =
      let same : front ≡ take count buffer = is ∙ ap (λ (n : ℕ). take n buffer) (min-eq_left enough) in record {
        bytes = seen.bytes ++ take count buffer;
        taken = Consumes-trans before mid now seen.bytes (take count buffer) seen.taken came;
        fits = omega (arith, length-append seen.bytes (take count buffer), length-take-le count buffer within, seen.fits, enough);
        reads = subst (λ (f : List ℕ). Reads lanes (seen.bytes ++ f) new new_wide new_rest) same (reads seen.bytes seen.reads (front_fits count buffer front is));
      }

  -- Nothing more came: the bytes so far are all, and short.
  all_short : length seen.bytes ≤ most_bytes
  all_short = omega (arith, seen.fits)

  good_ended : AreGood lanes (ended_lines seen.bytes) (length lines)
  good_ended = subst (λ (ps : List (List ℕ)). AreGood lanes ps (length lines)) (sym (ended_whole seen.bytes all_short)) (all_good lanes (cut seen.bytes).ended lines seen.reads.said)

  -- For the read failed.
  pub read_failed : Keeps mid now → Rose from to → HasRead lanes before now from to lines (Err stop.Read)
  read_failed keeps rose = record {
    bytes = seen.bytes;
    taken = Consumes-kept before mid now seen.bytes seen.taken keeps;
    most = omega (arith, all_short);
    judged = (rose, all_short, seen.reads.said, seen.reads.quiet);
    good = good_counted lanes seen.bytes (length lines) good_ended;
  }

  -- For the source is at its end.
  pub read_whole : (new : List Line) (new_wide : ℕ) (u : ⊤) → Keeps mid now → IsAtEnd now → IsLast lanes lines new wide new_wide rest → HasRead lanes before now from to new (Ok u)
  read_whole new new_wide u keeps ended last =
      let known = last_read lanes seen.bytes lines wide rest seen.reads new new_wide last in record {
        bytes = seen.bytes;
        taken = Consumes-kept before mid now seen.bytes seen.taken keeps;
        most = omega (arith, all_short);
        judged = (ended, all_short, known.0, known.1);
        good = subst (λ (ps : List (List ℕ)). AreGood lanes ps (length new)) (sym (counted_whole seen.bytes all_short)) (all_good lanes (whole_lines seen.bytes) new known.0);
      }

  last_halted : (new : List Line) (s : ReadStop) → Keeps mid now → IsAtEnd now → new ≡ lines → 0 < length rest → Refuses lanes rest lines wide s → HasRead lanes before now from to new (Err s)
  last_halted new s keeps ended same some why = record {
    bytes = seen.bytes;
    taken = Consumes-kept before mid now seen.bytes seen.taken keeps;
    most = omega (arith, all_short);
    judged = judged_last lanes now from to seen.bytes new s ended all_short (subst (λ (ls : List Line). AreLines lanes (cut seen.bytes).ended ls) (sym same) seen.reads.said) (last_refused lanes seen.bytes lines wide rest seen.reads s some why);
    good = good_counted lanes seen.bytes (length new) (subst (λ (ls : List Line). AreGood lanes (ended_lines seen.bytes) (length ls)) (sym same) good_ended);
  }

  pub finished : (new : List Line) (new_wide : ℕ) (r : Result ⊤ ReadStop) → Keeps mid now → IsAtEnd now → OnOk r (IsLast lanes lines new wide new_wide rest) → OnErr r (new ≡ lines) → IfErr r (λ s. (0 < length rest) × Refuses lanes rest lines wide s) → HasRead lanes before now from to new r
  finished new new_wide (Ok u) keeps ended last same refused = read_whole new new_wide u keeps ended last
  finished new new_wide (Err s) keeps ended last same refused = last_halted new s keeps ended same refused.0 refused.1
