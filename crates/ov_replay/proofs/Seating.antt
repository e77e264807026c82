-- What contracts see of a desk and of its seats, from the locks and their seats side by side.
use Rattle.std.proofs.Common.{◌≡◌, ◌≢◌, ℕ, ◌%◌, ◌<◌, List, length, sym, ap, ◌∙◌, subst, inl, inr, Some, Result, Ok, Err}
use Rattle.std.specs.List.{AllByRecursion, slice_get}
use Rattle.std.specs.Prelude.{get_or, slice_set, map, Option, None, IfOk, OnErr}
use Rattle.std.proofs.lemmas.Bool.{cases_eq}
use Rattle.ov_turn.specs.declared.kept.Kept.{Ghosts}
use Rattle.ov_turn.specs.declared.lock.LockSeat.{LockSeat}
use Rattle.ov_turn.specs.declared.lock.TicketLock.{TicketLock}
use Rattle.ov_turn.specs.Seats.{Name, name_of}
use Rattle.ov_model.specs.declared.place.Place.{Place}
use Rattle.ov_model.specs.declared.replay.ReplayEntry.{ReplayEntry}
use Rattle.ov_model.specs.declared.replay.Verdict.{Verdict}
use Rattle.ov_replay.specs.Desk.{Part, part_at, part_in, name_at, IsDeskSeat, IsOfShard, IsCut, IsJoined, IsStepped, HasLooked, HasStepped, HasNotStepped, IsClosed, IsShardOf}
use Rattle.ov_replay.proofs.Places.{put_here, put_other, seen_part, seen_name, shard_of}

-- A step, or none, leaves a part its shard.
kept_name : {E : Type 0} (old new : Part) (place : Place) (key id at : ℕ) (r : Result Verdict E) → IfOk r (λ v. IsStepped old new place key id at v) → OnErr r (HasLooked old new) → new.name ≡ old.name
kept_name old new place key id at (Ok v) ok err = ap (λ (p : Part). p.name) ok.new_is
kept_name old new place key id at (Err e) ok err = ap (λ (p : Part). p.name) err.same

module _ {S : Type 0} {K : Ghosts S ReplayEntry} where
  pub part_seen : (parts : List (Option (LockSeat S ReplayEntry K))) (seat : List Part) → map part_in parts ≡ seat → (s : ℕ) → part_at seat s ≡ part_in (get_or parts s None)
  part_seen parts seat is s = ap (λ (l : List Part). part_at l s) (sym is) ∙ seen_part parts s

  -- The seats are those of the locks where the seat is the desk's.
  pub names_here : (locks : List (TicketLock S ReplayEntry)) (desk : List Name) (parts : List (Option (LockSeat S ReplayEntry K))) (seat : List Part) → map name_of locks ≡ desk → map part_in parts ≡ seat → IsDeskSeat desk seat
      → (s : ℕ) → s < 8 → (part_in (get_or parts s None)).name ≡ name_at (slice_get locks s)
  names_here locks desk parts seat is are of s below =
      ap (λ (p : Part). p.name) (sym (part_seen parts seat are s)) ∙ of s below ∙ ap (λ (l : List Name). slice_get l s) (sym is) ∙ seen_name locks s

  pub is_seat : (locks : List (TicketLock S ReplayEntry)) (desk : List Name) (parts : List (Option (LockSeat S ReplayEntry K))) → map name_of locks ≡ desk → ((s : ℕ) → s < 8 → (part_in (get_or parts s None)).name ≡ name_at (slice_get locks s))
      → IsDeskSeat desk (map part_in parts)
  is_seat locks desk parts is of s below = ap (λ (p : Part). p.name) (seen_part parts s) ∙ of s below ∙ sym (seen_name locks s) ∙ ap (λ (l : List Name). slice_get l s) is

  -- A share of each was cut off.
  pub cut_seen : (parts lefts rights : List (Option (LockSeat S ReplayEntry K))) (seat : List Part) → map part_in parts ≡ seat → (s : ℕ) → IsCut (part_in (get_or parts s None)) (part_in (get_or lefts s None)) (part_in (get_or rights s None))
      → IsCut (part_at seat s) (part_at (map part_in lefts) s) (part_at (map part_in rights) s)
  cut_seen parts lefts rights seat are s cut =
      subst (λ (p : Part). IsCut p (part_at (map part_in lefts) s) (part_at (map part_in rights) s)) (sym (part_seen parts seat are s))
      (subst (λ (p : Part). IsCut (part_in (get_or parts s None)) p (part_at (map part_in rights) s)) (sym (seen_part lefts s))
      (subst (λ (p : Part). IsCut (part_in (get_or parts s None)) (part_in (get_or lefts s None)) p) (sym (seen_part rights s)) cut))

  -- The seats of each were put together.
  pub joined_seen : (parts others wholes : List (Option (LockSeat S ReplayEntry K))) (left right : List Part) → map part_in parts ≡ left → map part_in others ≡ right → (s : ℕ) → IsJoined (part_in (get_or parts s None)) (part_in (get_or others s None)) (part_in (get_or wholes s None))
      → IsJoined (part_at left s) (part_at right s) (part_at (map part_in wholes) s)
  joined_seen parts others wholes left right are also s joined =
      subst (λ (p : Part). IsJoined p (part_at right s) (part_at (map part_in wholes) s)) (sym (part_seen parts left are s))
      (subst (λ (p : Part). IsJoined (part_in (get_or parts s None)) p (part_at (map part_in wholes) s)) (sym (part_seen others right also s))
      (subst (λ (p : Part). IsJoined (part_in (get_or parts s None)) (part_in (get_or others s None)) p) (sym (seen_part wholes s)) joined))

  fit_keys : (s : ℕ) (p : Option (LockSeat S ReplayEntry K)) → IsOfShard s p → AllByRecursion (λ e. e.1.key % 8 ≡ s) (part_in p).own
  fit_keys s None fit = tt
  fit_keys s (Some seat) fit = fit.2

  -- A shard's whole history.
  pub closed_seen : (parts : List (Option (LockSeat S ReplayEntry K))) (seat : List Part) (es : List ReplayEntry) → map part_in parts ≡ seat → (s : ℕ) → IsOfShard s (get_or parts s None) → IsClosed (part_in (get_or parts s None)) es → IsShardOf s (part_at seat s) es
  closed_seen parts seat es are s fit closed =
      subst (λ (p : Part). IsShardOf s p es) (sym (part_seen parts seat are s)) (shard_of s (part_in (get_or parts s None)) es (fit_keys s (get_or parts s None) fit) closed)

  -- One place of a seat, after a step or none.
  here_now : (parts : List (Option (LockSeat S ReplayEntry K))) (n : ℕ) (gap back : Option (LockSeat S ReplayEntry K)) → n < length parts → part_at (map part_in (slice_set (slice_set parts n gap) n back)) n ≡ part_in back
  here_now parts n gap back inside = seen_part (slice_set (slice_set parts n gap) n back) n ∙ ap part_in (put_here parts n gap back None inside)

  here_was : (parts : List (Option (LockSeat S ReplayEntry K))) (seat : List Part) (n : ℕ) (part : Option (LockSeat S ReplayEntry K)) → map part_in parts ≡ seat → part ≡ get_or parts n None → part_at seat n ≡ part_in part
  here_was parts seat n part are is = part_seen parts seat are n ∙ ap part_in (sym is)

  other_now : (parts : List (Option (LockSeat S ReplayEntry K))) (seat : List Part) (n s : ℕ) (gap back : Option (LockSeat S ReplayEntry K)) → map part_in parts ≡ seat → s ≢ n → part_at (map part_in (slice_set (slice_set parts n gap) n back)) s ≡ part_at seat s
  other_now parts seat n s gap back are apart = seen_part (slice_set (slice_set parts n gap) n back) s ∙ ap part_in (put_other parts n s gap back None apart) ∙ sym (part_seen parts seat are s)

  pub step_seen : {E : Type 0} (parts : List (Option (LockSeat S ReplayEntry K))) (seat : List Part) (part gap back : Option (LockSeat S ReplayEntry K)) (place : Place) (key id at : ℕ) (r : Result Verdict E) → map part_in parts ≡ seat → key % 8 < length parts → part ≡ get_or parts (key % 8) None
      → IfOk r (λ v. IsStepped (part_in part) (part_in back) place key id at v) → IfOk r (λ v. HasStepped seat (map part_in (slice_set (slice_set parts (key % 8) gap) (key % 8) back)) place key id at v)
  step_seen parts seat part gap back place key id at (Err e) are inside is ok = tt
  step_seen parts seat part gap back place key id at (Ok v) are inside is ok =
      let n : ℕ = key % 8 in
      record {
        here = subst (λ (p : Part). IsStepped p (part_at (map part_in (slice_set (slice_set parts n gap) n back)) n) place key id at v) (sym (here_was parts seat n part are is))
            (subst (λ (p : Part). IsStepped (part_in part) p place key id at v) (sym (here_now parts n gap back inside)) ok);
        others = λ s apart. other_now parts seat n s gap back are apart;
      }

  pub look_seen : {V E : Type 0} (parts : List (Option (LockSeat S ReplayEntry K))) (seat : List Part) (part gap back : Option (LockSeat S ReplayEntry K)) (key : ℕ) (r : Result V E) → map part_in parts ≡ seat → key % 8 < length parts → part ≡ get_or parts (key % 8) None
      → OnErr r (HasLooked (part_in part) (part_in back)) → OnErr r (HasNotStepped seat (map part_in (slice_set (slice_set parts (key % 8) gap) (key % 8) back)) key)
  look_seen parts seat part gap back key (Ok v) are inside is err = tt
  look_seen parts seat part gap back key (Err e) are inside is err =
      let n : ℕ = key % 8 in
      record {
        here = subst (λ (p : Part). HasLooked p (part_at (map part_in (slice_set (slice_set parts n gap) n back)) n)) (sym (here_was parts seat n part are is))
            (subst (λ (p : Part). HasLooked (part_in part) p) (sym (here_now parts n gap back inside)) err);
        others = λ s apart. other_now parts seat n s gap back are apart;
      }

  -- After it the seat is still the desk's.
  pub still_of : {E : Type 0} (locks : List (TicketLock S ReplayEntry)) (desk : List Name) (parts : List (Option (LockSeat S ReplayEntry K))) (seat : List Part) (part gap back : Option (LockSeat S ReplayEntry K)) (place : Place) (key id at : ℕ) (r : Result Verdict E)
      → map name_of locks ≡ desk → map part_in parts ≡ seat → IsDeskSeat desk seat → key % 8 < length parts → part ≡ get_or parts (key % 8) None
      → IfOk r (λ v. IsStepped (part_in part) (part_in back) place key id at v) → OnErr r (HasLooked (part_in part) (part_in back))
      → IsDeskSeat desk (map part_in (slice_set (slice_set parts (key % 8) gap) (key % 8) back))
  still_of locks desk parts seat part gap back place key id at r dis are of inside is ok err s below =
      let n : ℕ = key % 8 in
      let now = map part_in (slice_set (slice_set parts n gap) n back) in
      elim (cases_eq s n) [
        | inl same ↦
            let here : (part_at now n).name ≡ (part_at seat n).name =
            ap (λ (p : Part). p.name) (here_now parts n gap back inside) ∙ kept_name (part_in part) (part_in back) place key id at r ok err ∙ ap (λ (p : Part). p.name) (sym (here_was parts seat n part are is)) in
            subst (λ (k : ℕ). (part_at now k).name ≡ (part_at seat k).name) (sym same) here ∙ of s below
        | inr apart ↦ ap (λ (p : Part). p.name) (other_now parts seat n s gap back are apart) ∙ of s below
      ]
