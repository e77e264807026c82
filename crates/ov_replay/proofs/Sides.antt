-- The seats of shards side by side, one shard further: cut, put together, locked and closed.
use Rattle.std.proofs.Common.{◌≡◌, ◌≢◌, ℕ, ◌+◌, ◌%◌, ◌<◌, ◌≤◌, List, [], ◌∷◌, ◌++◌, length, length-append, refl, sym, ap, ◌∙◌, subst, inl, inr, Some, Result, Ok, Err, arith}
use Rattle.std.specs.List.{AllByRecursion, slice_get}
use Rattle.std.specs.Prelude.{get_or, slice_set, Option, None, IfOk, OnErr}
use Rattle.std.proofs.lemmas.Bool.{cases_lt}
use Rattle.std.proofs.lemmas.List.{get_or-set_same, get_or-set_other}
use Rattle.ov_turn.specs.declared.kept.Kept.{Ghosts}
use Rattle.ov_turn.specs.declared.lock.LockSeat.{LockSeat}
use Rattle.ov_turn.specs.declared.lock.TicketLock.{TicketLock}
use Rattle.ov_turn.specs.declared.inside.Inside.{Inside}
use Rattle.ov_turn.specs.Insides.{seen_in, own_in}
use Rattle.ov_turn.specs.Seats.{Name, IsSeatOf, IsNew, name_of, name_of_seat, share_of, seen_of, own_of}
use Rattle.ov_model.specs.Replay.{judged}
use Rattle.ov_model.specs.declared.place.Place.{Place}
use Rattle.ov_model.specs.declared.replay.ReplayEntry.{ReplayEntry}
use Rattle.ov_model.specs.declared.replay.Verdict.{Verdict}
use Rattle.ov_replay.specs.Desk.{Part, part_in, name_at, is_new, IsOfShard, IsCut, IsJoined, IsClosed, IsResting, IsJudgedIn, IsUnjudged}
use Rattle.ov_replay.proofs.Places.{put_here, put_other, get_front, get_last, all_more}

-- A part that has the whole share and nothing else.
part_is : (name name' : Name) (share : ℕ) (seen : List ReplayEntry) (own : List (ℕ × ReplayEntry)) → name ≡ name' → share ≡ 4294967296 → seen ≡ [] → own ≡ []
    → ◌≡◌ {A = Part} (record { name = Some name; share = share; seen = seen; own = own }) (is_new (Some name'))
part_is name name' share seen own of whole unseen none = rw (of, whole, unseen, none) refl

-- The entry of a step is of the step's key.
of_key : (s : ℕ) (before : List ReplayEntry) (place : Place) (key id at : ℕ) → key % 8 ≡ s → (judged before place key id at).key % 8 ≡ s
unfolding judged
of_key s before place key id at belongs = belongs

module _ {S : Type 0} {K : Ghosts S ReplayEntry} where
  -- Up to a shard each seat was cut.
  pub record CutTo (n : ℕ) (olds parts others : List (Option (LockSeat S ReplayEntry K))) : Type 0 where
    pub done : (s : ℕ) → s < n → IsCut (part_in (get_or olds s None)) (part_in (get_or parts s None)) (part_in (get_or others s None))
    pub fit : (s : ℕ) → s < n → IsOfShard s (get_or parts s None) × IsOfShard s (get_or others s None)
    pub rest : (s : ℕ) → n ≤ s → get_or parts s None ≡ get_or olds s None

  pub cut_more : (n : ℕ) (olds parts others : List (Option (LockSeat S ReplayEntry K))) (part gap left right : Option (LockSeat S ReplayEntry K)) → n < length parts → n < length others → part ≡ get_or parts n None → IsOfShard n (get_or olds n None)
      → IsCut (part_in part) (part_in left) (part_in right) → ((s : ℕ) → IsOfShard s part → IsOfShard s left × IsOfShard s right)
      → CutTo n olds parts others → CutTo (n + 1) olds (slice_set (slice_set parts n gap) n left) (slice_set others n right)
  cut_more n olds parts others part gap left right inside beside is fit cut fits was =
      let same : part ≡ get_or olds n None = is ∙ was.rest n (omega arith) in
      let here : get_or (slice_set (slice_set parts n gap) n left) n None ≡ left = put_here parts n gap left None inside in
      let there : get_or (slice_set others n right) n None ≡ right = get_or-set_same others n right None beside in
      let now = slice_set (slice_set parts n gap) n left in
      let then = slice_set others n right in
      let both = fits n (subst (IsOfShard n) (sym same) fit) in
      record {
        done = λ s below. elim (cases_lt s n) [
          | inl lt ↦
              let apart : s ≢ n = λ e. omega arith in
              subst (λ (p : Option (LockSeat S ReplayEntry K)). IsCut (part_in (get_or olds s None)) (part_in (get_or now s None)) (part_in p)) (sym (get_or-set_other others n s right None apart))
              (subst (λ (p : Option (LockSeat S ReplayEntry K)). IsCut (part_in (get_or olds s None)) (part_in p) (part_in (get_or others s None))) (sym (put_other parts n s gap left None apart)) (was.done s lt))
          | inr ge ↦
              let e : s ≡ n = omega arith in
              subst (λ (k : ℕ). IsCut (part_in (get_or olds k None)) (part_in (get_or now k None)) (part_in (get_or then k None))) (sym e)
              (subst (λ (p : Option (LockSeat S ReplayEntry K)). IsCut (part_in p) (part_in (get_or now n None)) (part_in (get_or then n None))) same
              (subst (λ (p : Option (LockSeat S ReplayEntry K)). IsCut (part_in part) (part_in p) (part_in (get_or then n None))) (sym here)
              (subst (λ (p : Option (LockSeat S ReplayEntry K)). IsCut (part_in part) (part_in left) (part_in p)) (sym there) cut)))
        ];
        fit = λ s below. elim (cases_lt s n) [
          | inl lt ↦
              let apart : s ≢ n = λ e. omega arith in
              let old = was.fit s lt in
              (subst (IsOfShard s) (sym (put_other parts n s gap left None apart)) old.0, subst (IsOfShard s) (sym (get_or-set_other others n s right None apart)) old.1)
          | inr ge ↦
              let e : s ≡ n = omega arith in
              subst (λ (k : ℕ). IsOfShard k (get_or now k None) × IsOfShard k (get_or then k None)) (sym e) (subst (IsOfShard n) (sym here) both.0, subst (IsOfShard n) (sym there) both.1)
        ];
        rest = λ s above. let apart : s ≢ n = λ e. omega arith in put_other parts n s gap left None apart ∙ was.rest s (omega arith);
      }

  -- Up to a shard the seats were put together.
  pub record JoinedTo (n : ℕ) (olds also parts others : List (Option (LockSeat S ReplayEntry K))) : Type 0 where
    pub done : (s : ℕ) → s < n → IsJoined (part_in (get_or olds s None)) (part_in (get_or also s None)) (part_in (get_or parts s None))
    pub fit : (s : ℕ) → s < n → IsOfShard s (get_or parts s None)
    pub rest : (s : ℕ) → n ≤ s → get_or parts s None ≡ get_or olds s None
    pub rest_others : (s : ℕ) → n ≤ s → get_or others s None ≡ get_or also s None

  pub join_more : (n : ℕ) (olds also parts others : List (Option (LockSeat S ReplayEntry K))) (left right gap hole whole : Option (LockSeat S ReplayEntry K)) → n < length parts → left ≡ get_or parts n None → right ≡ get_or others n None → IsOfShard n (get_or olds n None) × IsOfShard n (get_or also n None)
      → IsJoined (part_in left) (part_in right) (part_in whole) → ((s : ℕ) → IsOfShard s left → IsOfShard s right → IsOfShard s whole)
      → JoinedTo n olds also parts others → JoinedTo (n + 1) olds also (slice_set (slice_set parts n gap) n whole) (slice_set others n hole)
  join_more n olds also parts others left right gap hole whole inside is is_right fit joined fits was =
      let same : left ≡ get_or olds n None = is ∙ was.rest n (omega arith) in
      let same_right : right ≡ get_or also n None = is_right ∙ was.rest_others n (omega arith) in
      let now = slice_set (slice_set parts n gap) n whole in
      let here : get_or now n None ≡ whole = put_here parts n gap whole None inside in
      let well = fits n (subst (IsOfShard n) (sym same) fit.0) (subst (IsOfShard n) (sym same_right) fit.1) in
      record {
        done = λ s below. elim (cases_lt s n) [
          | inl lt ↦
              let apart : s ≢ n = λ e. omega arith in
              subst (λ (p : Option (LockSeat S ReplayEntry K)). IsJoined (part_in (get_or olds s None)) (part_in (get_or also s None)) (part_in p)) (sym (put_other parts n s gap whole None apart)) (was.done s lt)
          | inr ge ↦
              let e : s ≡ n = omega arith in
              subst (λ (k : ℕ). IsJoined (part_in (get_or olds k None)) (part_in (get_or also k None)) (part_in (get_or now k None))) (sym e)
              (subst (λ (p : Option (LockSeat S ReplayEntry K)). IsJoined (part_in p) (part_in (get_or also n None)) (part_in (get_or now n None))) same
              (subst (λ (p : Option (LockSeat S ReplayEntry K)). IsJoined (part_in left) (part_in p) (part_in (get_or now n None))) same_right
              (subst (λ (p : Option (LockSeat S ReplayEntry K)). IsJoined (part_in left) (part_in right) (part_in p)) (sym here) joined)))
        ];
        fit = λ s below. elim (cases_lt s n) [
          | inl lt ↦ let apart : s ≢ n = λ e. omega arith in subst (IsOfShard s) (sym (put_other parts n s gap whole None apart)) (was.fit s lt)
          | inr ge ↦ let e : s ≡ n = omega arith in subst (λ (k : ℕ). IsOfShard k (get_or now k None)) (sym e) (subst (IsOfShard n) (sym here) well)
        ];
        rest = λ s above. let apart : s ≢ n = λ e. omega arith in put_other parts n s gap whole None apart ∙ was.rest s (omega arith);
        rest_others = λ s above. let apart : s ≢ n = λ e. omega arith in get_or-set_other others n s hole None apart ∙ was.rest_others s (omega arith);
      }

  -- A lock's first seat.
  new_part : (lock : TicketLock S ReplayEntry) (seat : LockSeat S ReplayEntry K) → IsSeatOf lock seat → IsNew seat → part_in {S = S} {K = K} (Some seat) ≡ is_new (name_at (Some lock))
  new_part lock seat of new = part_is (name_of_seat seat) (name_of lock) (share_of seat) (seen_of seat) (own_of seat) of new.0 new.1 new.2

  new_fit : (s : ℕ) (seat : LockSeat S ReplayEntry K) → IsNew seat → IsOfShard {S = S} {K = K} s (Some seat)
  new_fit s seat new = (new.3, new.4, subst (AllByRecursion (λ (e : ℕ × ReplayEntry). e.1.key % 8 ≡ s)) (sym new.2) tt)

  -- Up to a shard each has its lock and its first seat.
  pub record LockedTo (n : ℕ) (locks : List (TicketLock S ReplayEntry)) (parts : List (Option (LockSeat S ReplayEntry K))) : Type 0 where
    pub new : (s : ℕ) → s < n → part_in (get_or parts s None) ≡ is_new (name_at (slice_get locks s))
    pub fit : (s : ℕ) → IsOfShard s (get_or parts s None)

  pub lock_more : (locks : List (TicketLock S ReplayEntry)) (parts : List (Option (LockSeat S ReplayEntry K))) (lock : TicketLock S ReplayEntry) (seat : LockSeat S ReplayEntry K) (n : ℕ) → length locks ≡ n → n < length parts → IsSeatOf lock seat → IsNew seat
      → LockedTo n locks parts → LockedTo (n + 1) (locks ++ lock ∷ []) (slice_set parts n (Some seat))
  lock_more locks parts lock seat n long inside of new was =
      let now = slice_set parts n (Some seat) in
      let here : get_or now n None ≡ Some seat = get_or-set_same parts n (Some seat) None inside in
      let last : slice_get (locks ++ lock ∷ []) n ≡ Some lock = subst (λ (k : ℕ). slice_get (locks ++ lock ∷ []) k ≡ Some lock) long (get_last locks lock) in
      record {
        new = λ s below. elim (cases_lt s n) [
          | inl lt ↦
              let apart : s ≢ n = λ e. omega arith in
              ap part_in (get_or-set_other parts n s (Some seat) None apart) ∙ was.new s lt ∙ ap (λ (o : Option (TicketLock S ReplayEntry)). is_new (name_at o)) (sym (get_front locks lock s (omega arith)))
          | inr ge ↦
              let e : s ≡ n = omega arith in
              subst (λ (k : ℕ). part_in (get_or now k None) ≡ is_new (name_at (slice_get (locks ++ lock ∷ []) k))) (sym e)
              (ap part_in here ∙ new_part lock seat of new ∙ ap (λ (o : Option (TicketLock S ReplayEntry)). is_new (name_at o)) (sym last))
        ];
        fit = λ s. elim (cases_lt s n) [
          | inl lt ↦ let apart : s ≢ n = λ e. omega arith in subst (IsOfShard s) (sym (get_or-set_other parts n s (Some seat) None apart)) (was.fit s)
          | inr ge ↦ elim (cases_lt n s) [
            | inl above ↦ let apart : s ≢ n = λ e. omega arith in subst (IsOfShard s) (sym (get_or-set_other parts n s (Some seat) None apart)) (was.fit s)
            | inr le ↦ let e : s ≡ n = omega arith in subst (λ (k : ℕ). IsOfShard k (get_or now k None)) (sym e) (subst (IsOfShard n) (sym here) (new_fit n seat new))
          ]
        ];
      }

  -- Down to a shard each was closed.
  pub record ClosedTo (count : ℕ) (all locks : List (TicketLock S ReplayEntry)) (olds parts : List (Option (LockSeat S ReplayEntry K))) (shards : List (List ReplayEntry)) : Type 0 where
    pub names : (s : ℕ) → s < length locks → name_at (slice_get locks s) ≡ name_at (slice_get all s)
    pub rest : (s : ℕ) → s < length locks → get_or parts s None ≡ get_or olds s None
    pub done : (s : ℕ) → length locks ≤ s → s < count → IsClosed (part_in (get_or olds s None)) (get_or shards s [])

  pub close_more : (count n : ℕ) (all locks : List (TicketLock S ReplayEntry)) (lock : TicketLock S ReplayEntry) (olds parts : List (Option (LockSeat S ReplayEntry K))) (shards : List (List ReplayEntry)) (part gap : Option (LockSeat S ReplayEntry K)) (es : List ReplayEntry) → n ≡ length locks → n < length shards → part ≡ get_or parts n None
      → IsClosed (part_in part) es → ClosedTo count all (locks ++ lock ∷ []) olds parts shards → ClosedTo count all locks olds (slice_set parts n gap) (slice_set shards n es)
  close_more count n all locks lock olds parts shards part gap es long inside is closed was =
      let longer = length-append locks (lock ∷ []) in
      let same : part ≡ get_or olds n None = is ∙ was.rest n (omega arith) in
      let here : get_or (slice_set shards n es) n [] ≡ es = get_or-set_same shards n es [] inside in
      record {
        names = λ s below. ap name_at (sym (get_front locks lock s below)) ∙ was.names s (omega arith);
        rest = λ s below. let apart : s ≢ n = λ e. omega arith in get_or-set_other parts n s gap None apart ∙ was.rest s (omega arith);
        done = λ s from below. elim (cases_lt n s) [
          | inl above ↦
              let apart : s ≢ n = λ e. omega arith in
              subst (λ (l : List ReplayEntry). IsClosed (part_in (get_or olds s None)) l) (sym (get_or-set_other shards n s es [] apart)) (was.done s (omega arith) below)
          | inr le ↦
              let e : s ≡ n = omega arith in
              subst (λ (k : ℕ). IsClosed (part_in (get_or olds k None)) (get_or (slice_set shards n es) k [])) (sym e)
              (subst (λ (l : List ReplayEntry). IsClosed (part_in (get_or olds n None)) l) (sym here) (subst (λ (p : Option (LockSeat S ReplayEntry K)). IsClosed (part_in p) es) same closed))
        ];
      }

-- Inside a shard's lock, after a step or none: nothing is held or owed.
pub rests : {E : Type 0} (old new : Inside (List ReplayEntry) ReplayEntry) (place : Place) (key id at : ℕ) (r : Result Verdict E) → IfOk r (λ v. IsJudgedIn old new place key id at v) → OnErr r (IsUnjudged old new) → IsResting new
rests old new place key id at (Ok v) ok err = ok.resting
rests old new place key id at (Err e) ok err = err.resting

-- The seat's own entries are still those of the shard's keys.
pub own_fits : {E : Type 0} (s : ℕ) (own later : List (ℕ × ReplayEntry)) (old new : Inside (List ReplayEntry) ReplayEntry) (place : Place) (key id at : ℕ) (r : Result Verdict E) → key % 8 ≡ s → IfOk r (λ v. IsJudgedIn old new place key id at v) → OnErr r (IsUnjudged old new)
    → own_in old ≡ own → later ≡ own_in new → AllByRecursion (λ e. e.1.key % 8 ≡ s) own → AllByRecursion (λ e. e.1.key % 8 ≡ s) later
own_fits s own later old new place key id at (Ok v) belongs ok err was now all =
    let grown : later ≡ own ++ (length (seen_in old), judged (seen_in old) place key id at) ∷ [] = now ∙ ok.own ∙ ap (λ (l : List (ℕ × ReplayEntry)). l ++ (length (seen_in old), judged (seen_in old) place key id at) ∷ []) was in
    subst (AllByRecursion (λ (e : ℕ × ReplayEntry). e.1.key % 8 ≡ s)) (sym grown) (all_more (λ (e : ℕ × ReplayEntry). e.1.key % 8 ≡ s) own (length (seen_in old), judged (seen_in old) place key id at) all (of_key s (seen_in old) place key id at belongs))
own_fits s own later old new place key id at (Err e) belongs ok err was now all = subst (AllByRecursion (λ (e : ℕ × ReplayEntry). e.1.key % 8 ≡ s)) (sym (now ∙ err.own ∙ was)) all
