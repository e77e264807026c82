-- Each removed peer and each killed key of a run is told of by its note.
use Rattle.std.proofs.Common.{ℕ, ◌≡◌, ◌≢◌, ◌+◌, ◌<◌, ◌≤◌, zero, suc, List, [], ◌∷◌, ◌++◌, refl, ap, ◌∙◌, length, Bool, arith, append-nil, if◌then◌else◌, ◌==◌}
use Rattle.std.specs.Prelude.{map, filter, Option, Some, slice_get}
use Rattle.std.specs.Option.{option_or}
use Rattle.std.specs.List.{AllByRecursion}
use Rattle.std.proofs.lemmas.Bool.{eq-eqb, ne_eqb}
use Rattle.std.proofs.lemmas.List.{map-append}
use Rattle.std.proofs.lemmas.List.Elements.{filter-append}
use Rattle.ov_model.specs.declared.ident.PeerId.{PeerId}
use Rattle.ov_model.specs.declared.command.Reason.{Reason}
use Rattle.ov_model.specs.declared.entry.Entry.{Entry}
use Rattle.ov_model.specs.declared.note.Note.{Note}
use Rattle.ov_model.specs.declared.note.NoteBody.{NoteBody}
use Rattle.ov_model.specs.declared.reply.Reply.{Reply}
use Rattle.ov_model.specs.Tables.{Table, empty_table}
use Rattle.ov_model.specs.Step.{step}
use Rattle.ov_model.specs.Runs.{Follows, IsRun, numbered, notes_after, notes_of}
use Rattle.ov_model.specs.Path.{removed}
use Rattle.ov_model.specs.Removals.{id_by, id_in, reason_of, removed_in, killed_by, is_peer_del, is_key_swap, noted, peer_dels, key_swaps, del_note, RemovalsNoted}
use Rattle.ov_model.proofs.Lanes.{all_append}
use Rattle.ov_model.proofs.Shapes.{Name, names, Known, Tells, step_tells}
use Rattle.ov_model.proofs.Times.{distinct_times}
use Rattle.ov_model.proofs.KeysTaken.{removed_times}
use Rattle.ov_model.proofs.Kills.{killed_once}

-- ---- the notes

noted-append : (is_such : NoteBody → Bool) (xs ys : List Note) (n : ℕ) → noted is_such (xs ++ ys) n ≡ noted is_such xs n ++ noted is_such ys n
noted-append is_such xs ys n =
    rw (filter-append (λ (x : Note). x.entry == n) xs ys, map-append (λ (x : Note). x.body) (filter (λ x. x.entry == n) xs) (filter (λ x. x.entry == n) ys))
    (filter-append is_such (map (λ (x : Note). x.body) (filter (λ x. x.entry == n) xs)) (map (λ (x : Note). x.body) (filter (λ x. x.entry == n) ys)))

numbered_elsewhere : (is_such : NoteBody → Bool) (m n : ℕ) (bodies : List NoteBody) → m ≢ n → noted is_such (numbered m bodies) n ≡ []
numbered_elsewhere is_such m n [] other = refl
numbered_elsewhere is_such m n (b ∷ bodies) other = rw (ne_eqb m n other) (numbered_elsewhere is_such m n bodies other)

-- No note has a number before the first.
none_before : (is_such : NoteBody → Bool) (n m : ℕ) (t : Table) (es : List Entry) → n < m → noted is_such (notes_after m t es) n ≡ []
none_before is_such n m t [] before = refl
none_before is_such n m t (e ∷ es) before =
    noted-append is_such (numbered m (step t e.call).notes) (notes_after (m + 1) (step t e.call).after es) n
    ∙ rw (numbered_elsewhere is_such m n (step t e.call).notes (λ s. omega arith), none_before is_such n (m + 1) (step t e.call).after es (omega arith)) refl

-- The notes of the first entry, and of a later one.
first_notes : (is_such : NoteBody → Bool) (n : ℕ) (t : Table) (e : Entry) (es : List Entry) → noted is_such (notes_after n t (e ∷ es)) n ≡ noted is_such (numbered n (step t e.call).notes) n
first_notes is_such n t e es =
    noted-append is_such (numbered n (step t e.call).notes) (notes_after (n + 1) (step t e.call).after es) n
    ∙ rw (none_before is_such n (n + 1) (step t e.call).after es (omega arith)) (append-nil _)

later_notes : (is_such : NoteBody → Bool) (m n : ℕ) (t : Table) (e : Entry) (es : List Entry) → n < m → noted is_such (notes_after n t (e ∷ es)) m ≡ noted is_such (notes_after (n + 1) (step t e.call).after es) m
later_notes is_such m n t e es later =
    noted-append is_such (numbered n (step t e.call).notes) (notes_after (n + 1) (step t e.call).after es) m
    ∙ rw (numbered_elsewhere is_such n m (step t e.call).notes (λ s. omega arith)) refl

-- The notes that tell of an entry's removals, by the ids of the serials.
abbrev told : (ℕ → Option PeerId) → Entry → List (Option NoteBody)
told ids e = map (λ serial. del_note (ids serial) (reason_of e.call.act)) (removed e.reply)

-- An entry's own notes, whichever number it has.
own_notes : (is_such : NoteBody → Bool) (n : ℕ) (bodies : List NoteBody) → noted is_such (numbered n bodies) n ≡ filter is_such bodies
own_notes is_such n [] = refl
own_notes is_such n (b ∷ bodies) = rw (eq-eqb n n refl) (ap (λ rest. if is_such b then b ∷ rest else rest) (own_notes is_such n bodies))

told_gone : (ids : ℕ → Option PeerId) (reason : Option Reason) (gone : List Name) → Known ids gone → map (λ (n : Name). del_note (Some n.id) reason) gone ≡ map (λ serial. del_note (ids serial) reason) (map (λ (n : Name). n.serial) gone)
told_gone ids reason [] known = refl
told_gone ids reason (n ∷ gone) known = rw (known.0, told_gone ids reason gone known.1) refl

first_noted : (ids : ℕ → Option PeerId) (n : ℕ) (t : Table) (e : Entry) → (step t e.call).reply ≡ e.reply → Known ids (names t.live) → map (λ b. Some b) (peer_dels (numbered n (step t e.call).notes) n) ≡ told ids e
first_noted ids n t e same known =
    let s : Tells t e.call.act (step t e.call) = step_tells t e.call in
    let own : peer_dels (numbered n (step t e.call).notes) n ≡ filter is_peer_del (step t e.call).notes = own_notes is_peer_del n (step t e.call).notes in
    rw (own, ← same, s.removed_are, s.dels) (told_gone ids (reason_of e.call.act) s.gone (s.were ids known))

-- The ids of the live peers and of the serials that are still to be made, after a step.
record Knows (ids : ℕ → Option PeerId) (t : Table) (es : List Entry) : Type 0 where
  live : Known ids (names t.live)
  ahead : (s : ℕ) → t.made ≤ s → ids s ≡ id_in es s

knows_next : (ids : ℕ → Option PeerId) (t : Table) (e : Entry) (es : List Entry) → (step t e.call).reply ≡ e.reply → Knows ids t (e ∷ es) → Knows ids (step t e.call).after es
knows_next ids t e es same knows =
    let r : Reply = (step t e.call).reply in
    let tells : Tells t e.call.act (step t e.call) = step_tells t e.call in
    let ahead : (s : ℕ) → t.made ≤ s → ids s ≡ option_or (id_by r e.call.act s) (id_in es s) = λ s from. rw same (knows.ahead s from) in
    record {
      live = tells.live ids knows.live (λ id given. ahead t.made (omega arith) ∙ rw given refl);
      ahead = λ s from. let grows : t.made ≤ (step t e.call).after.made = tells.grows in ahead s (omega arith) ∙ rw (tells.unmade s from) refl;
    }

each_noted : (ids : ℕ → Option PeerId) (m n i : ℕ) (t : Table) (es : List Entry) (e : Entry) → m ≡ n + i → Follows t es → Knows ids t es → slice_get es i ≡ Some e → map (λ b. Some b) (peer_dels (notes_after n t es) m) ≡ told ids e
each_noted ids m n i t [] e is follows knows at = cc
each_noted ids m n zero t (x ∷ es) e is follows knows at =
    let here : m ≡ n = omega arith in
    let its : x ≡ e = cc in
    let first : map (λ b. Some b) (peer_dels (notes_after n t (x ∷ es)) n) ≡ told ids x = rw (first_notes is_peer_del n t x es) (first_noted ids n t x follows.1 knows.live) in
    rw (here, ← its) first
each_noted ids m n (suc i) t (x ∷ es) e is follows knows at =
    rw (later_notes is_peer_del m n t x es (omega arith))
    (each_noted ids m (n + 1) i (step t x.call).after es e (omega arith) follows.2 (knows_next ids t x es follows.1 knows) at)

-- ---- notes of killed keys

-- An entry's key-swap notes are as many as the keys that it killed.
each_swapped : (m n i : ℕ) (t : Table) (es : List Entry) (e : Entry) → m ≡ n + i → Follows t es → slice_get es i ≡ Some e → length (key_swaps (notes_after n t es) m) ≡ length (killed_by e.reply e.call.act)
each_swapped m n i t [] e is follows at = cc
each_swapped m n zero t (x ∷ es) e is follows at =
    let here : m ≡ n = omega arith in
    let its : x ≡ e = cc in
    let own : key_swaps (numbered n (step t x.call).notes) n ≡ filter is_key_swap (step t x.call).notes = own_notes is_key_swap n (step t x.call).notes in
    let first : length (key_swaps (notes_after n t (x ∷ es)) n) ≡ length (killed_by x.reply x.call.act) = rw (first_notes is_key_swap n t x es, own, ← follows.1) (step_tells t x.call).swaps in
    rw (here, ← its) first
each_swapped m n (suc i) t (x ∷ es) e is follows at =
    rw (later_notes is_key_swap m n t x es (omega arith)) (each_swapped m (n + 1) i (step t x.call).after es e (omega arith) follows.2 at)

-- Each note has the number of an entry.
numbered_within : (n last : ℕ) (bodies : List NoteBody) → n < last → AllByRecursion (λ (x : Note). x.entry < last) (numbered n bodies)
numbered_within n last [] below = tt
numbered_within n last (b ∷ bodies) below = (below, numbered_within n last bodies below)

notes_within : (n last : ℕ) (t : Table) (es : List Entry) → n + length es ≤ last → AllByRecursion (λ (x : Note). x.entry < last) (notes_after n t es)
notes_within n last t [] long = tt
notes_within n last t (e ∷ es) long =
    all_append (λ (x : Note). x.entry < last) (numbered n (step t e.call).notes) (notes_after (n + 1) (step t e.call).after es)
    (numbered_within n last (step t e.call).notes (omega arith))
    (notes_within (n + 1) last (step t e.call).after es (omega arith))

-- A journal that is a run, and its notes.
pub removals_noted : (journal : List Entry) → IsRun journal → RemovalsNoted journal (notes_of journal)
removals_noted journal run = record {
  each = λ n e at. each_noted (id_in journal) n 0 n empty_table journal e (omega arith) run (record { live = tt; ahead = λ s from. refl }) at;
  once = distinct_times (removed_in journal) (λ x. removed_times x journal run);
  swaps = λ n e at. each_swapped n 0 n empty_table journal e (omega arith) run at;
  killed_once = λ i j key a b at other kills again. killed_once journal run i j key a b at other kills again;
  within = notes_within 0 (length journal) empty_table journal (omega arith);
}
