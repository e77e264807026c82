-- One event more: where it leaves the line, which due peers are left, its columns, and what is owed.
use Rattle.std.proofs.Common.{ℕ, ◌≡◌, ◌+◌, zero, suc, List, [], ◌∷◌, ◌++◌, refl, sym, ◌∙◌, ap, arith, append_assoc, append-nil}
use Rattle.std.specs.Prelude.{Option, Some, None, unwrap_or, drop}
use Rattle.ov_model.specs.declared.place.Place.{Place}
use Rattle.ov_model.specs.declared.hold.Owed.{Owed}
use Rattle.ov_model.specs.declared.hold.Owed.TheVariants as owed
use Rattle.ov_model.specs.declared.stand.Stand.{Stand}
use Rattle.ov_model.specs.declared.stand.Stand.TheVariants as stand
use Rattle.ov_model.specs.Events.{Event, Stepped, Judged, Drew, GaveKey, GavePeer, steps_in, judgements_in, release_of, releases}
use Rattle.ov_model.specs.Next.{see, see_all, stand_of, left_see, left_all, left_of}
use Rattle.ov_path.specs.Desks.{Holding, View, Leaves, IsPause, first_owed, after_first, first_of}
use Rattle.ov_path.specs.Walks.{released}

-- ---- events

pub see_all-append : (s : Stand) (es : List Event) (e : Event) → see_all s (es ++ e ∷ []) ≡ see (see_all s es) e
see_all-append s [] e = refl
see_all-append s (x ∷ es) e = see_all-append (see s x) es e

pub seen : (s : Stand) (es : List Event) (e : Event) → stand_of es ≡ s → stand_of (es ++ e ∷ []) ≡ see s e
seen s es e is = see_all-append stand.Fresh es e ∙ ap (λ x. see x e) is

pub left_all-append : (left : List ℕ) (es : List Event) (e : Event) → left_all left (es ++ e ∷ []) ≡ left_see (left_all left es) e
left_all-append left [] e = refl
left_all-append left (x ∷ es) e = left_all-append (left_see left x) es e

pub left_seen : (left : List ℕ) (es : List Event) (e : Event) → left_of es ≡ left → left_of (es ++ e ∷ []) ≡ left_see left e
left_seen left es e is = left_all-append [] es e ∙ ap (λ x. left_see x e) is

pub same_head : {A : Type 0} (x : A) (xs ys : List A) → xs ≡ ys → x ∷ xs ≡ x ∷ ys
same_head x xs ys e = ap (λ zs. x ∷ zs) e

pub released-append : (place : Place) (at : ℕ) (done : List Owed) (o : Owed) → released place at (done ++ o ∷ []) ≡ released place at done ++ Stepped (release_of place at o) ∷ []
released-append place at [] o = refl
released-append place at (x ∷ done) o = same_head (Stepped (release_of place at x)) (released place at (done ++ o ∷ [])) (released place at done ++ Stepped (release_of place at o) ∷ []) (released-append place at done o)

pub steps_in-append : (es fs : List Event) → steps_in (es ++ fs) ≡ steps_in es ++ steps_in fs
steps_in-append [] fs = refl
steps_in-append (Stepped s ∷ es) fs = ap (λ ss. s ∷ ss) (steps_in-append es fs)
steps_in-append (Judged j ∷ es) fs = steps_in-append es fs
steps_in-append (Drew key d ∷ es) fs = steps_in-append es fs
steps_in-append (GaveKey key g ∷ es) fs = steps_in-append es fs
steps_in-append (GavePeer peer g ∷ es) fs = steps_in-append es fs

pub judgements_in-append : (es fs : List Event) → judgements_in (es ++ fs) ≡ judgements_in es ++ judgements_in fs
judgements_in-append [] fs = refl
judgements_in-append (Stepped s ∷ es) fs = judgements_in-append es fs
judgements_in-append (Judged j ∷ es) fs = ap (λ js. j ∷ js) (judgements_in-append es fs)
judgements_in-append (Drew key d ∷ es) fs = judgements_in-append es fs
judgements_in-append (GaveKey key g ∷ es) fs = judgements_in-append es fs
judgements_in-append (GavePeer peer g ∷ es) fs = judgements_in-append es fs

pub releases-append : (place : Place) (at : ℕ) (done : List Owed) (o : Owed) → releases place at (done ++ o ∷ []) ≡ releases place at done ++ release_of place at o ∷ []
releases-append place at [] o = refl
releases-append place at (x ∷ done) o = same_head (release_of place at x) (releases place at (done ++ o ∷ [])) (releases place at done ++ release_of place at o ∷ []) (releases-append place at done o)

-- Where an event leaves the line.
pub stood : {w v : View} {e : Event} {hold : Holding} {owing : List Owed} {s : Stand} → stand_of w.events ≡ s → Leaves w e hold owing v → stand_of v.events ≡ see s e
stood {w = w} {e = e} {s = s} at l = rw l.events (seen s w.events e at)

-- Which due peers it leaves.
pub lefts : {w v : View} {e : Event} {hold : Holding} {owing : List Owed} {left : List ℕ} → left_of w.events ≡ left → Leaves w e hold owing v → left_of v.events ≡ left_see left e
lefts {w = w} {e = e} {left = left} at l = rw l.events (left_seen left w.events e at)

-- ---- releases

-- A release leaves a line where it stood, which holds nothing, and the due peers that are left.
pub see_released : (place : Place) (at : ℕ) (o : Owed) (s : Stand) → IsPause s → see s (Stepped (release_of place at o)) ≡ s
see_released place at (owed.Peer p) stand.Replied pause = refl
see_released place at (owed.Key p) stand.Replied pause = refl
see_released place at (owed.Peer p) stand.Missed pause = refl
see_released place at (owed.Key p) stand.Missed pause = refl
see_released place at (owed.Peer p) (stand.PeerGiven h u) pause = refl
see_released place at (owed.Key p) (stand.PeerGiven h u) pause = refl
see_released place at o _ pause = absurd pause

pub left_released : (place : Place) (at : ℕ) (o : Owed) (left : List ℕ) → left_see left (Stepped (release_of place at o)) ≡ left
left_released place at (owed.Peer p) left = refl
left_released place at (owed.Key k) left = refl

-- ---- what is owed

-- The first owed release and the others.
pub first_is : (o : Owed) (os : List Owed) → first_owed os ≡ Some o → os ≡ o ∷ after_first os
first_is o [] e = absurd (let same : ◌≡◌ {A = Option Owed} None (Some o) = e in cc)
first_is o (x ∷ os) e = let same : x ≡ o = ap (λ q. unwrap_or q o) e in ap (λ y. y ∷ os) same

pub all_done : (done os all : List Owed) → done ++ os ≡ all → os ≡ [] → done ≡ all
all_done done os all are none = let e : done ++ [] ≡ all = rw (← none) are in sym (append-nil done) ∙ e

-- What was released and what is still owed stay what there was to release.
pub owes_on : (done os all : List Owed) (o : Owed) → done ++ os ≡ all → first_owed os ≡ Some o → (done ++ o ∷ []) ++ after_first os ≡ all
owes_on done os all o are e = let split : os ≡ o ∷ after_first os = first_is o os e in rw append_assoc (let whole : done ++ (o ∷ after_first os) ≡ all = rw (← split) are in whole)

pub no_first : {A : Type 0} (o : Owed) (os : List Owed) → os ≡ [] → first_owed os ≡ Some o → A
no_first o [] none e = absurd (let same : ◌≡◌ {A = Option Owed} None (Some o) = e in cc)
no_first o (x ∷ os) none e = absurd (let same : ◌≡◌ {A = List Owed} (x ∷ os) [] = none in cc)

-- ---- who is due

-- The first of the due peers that are left, and the others.
pub next_left : (n : ℕ) (xs : List ℕ) (x : ℕ) → first_of (drop n xs) ≡ Some x → drop n xs ≡ x ∷ drop (n + 1) xs
next_left zero [] x is = absurd (let same : ◌≡◌ {A = Option ℕ} None (Some x) = is in cc)
next_left zero (y ∷ xs) x is = let same : y ≡ x = ap (λ q. unwrap_or q x) is in ap (λ z. z ∷ xs) same
next_left (suc n) [] x is = absurd (let same : ◌≡◌ {A = Option ℕ} None (Some x) = is in cc)
next_left (suc n) (y ∷ xs) x is =
    let more : suc n + 1 ≡ suc (n + 1) = omega arith in
    let step : drop (suc n + 1) (y ∷ xs) ≡ drop (n + 1) xs = ap (λ k. drop k (y ∷ xs)) more in
    next_left n xs x is ∙ ap (λ ys. x ∷ ys) (sym step)
