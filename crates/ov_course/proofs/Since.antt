-- What a lane's desk has made of its share since a line began, and what is left where the line ends.
use Rattle.std.proofs.Common.{ℕ, ◌≡◌, List, [], ◌∷◌, ◌++◌, length, refl, sym, ◌∙◌, ap, subst, append-nil, append_assoc}
use Rattle.ov_base.specs.declared.address.Addr.{Addr}
use Rattle.ov_model.specs.declared.answer.Answer.{Answer}
use Rattle.ov_model.specs.declared.line.Line.{Line}
use Rattle.ov_model.specs.declared.place.Place.{Place}
use Rattle.ov_model.specs.Events.{Event}
use Rattle.ov_model.specs.Via.{via_of}
use Rattle.ov_path.specs.Desks.{NoHold, IsNew}
use Rattle.ov_path.specs.Walks.{IsOwn, Over}
use Rattle.ov_share.specs.Shares.{IsFree}
use Rattle.ov_share.specs.Keepings.{LaneKept}
use Rattle.ov_desk.specs.Sittings.{Sitting, shown_of, Happened, JudgesFirst, Stayed, at_rest, HasGivenUp}
use Rattle.ov_course.specs.Runs.{Ran, LineDone, LineStopped}
use Rattle.ov_course.specs.Courses.{RestsAgain, LineAnswered}
use Rattle.ov_course.proofs.Keeping.{kept_event, kept_done}
use Rattle.ov_course.proofs.Moving.{in_order, order_free, Moved, moved_itself, moved_on, moved_event, moved_all, moved_saw}

-- ---- from event to event

-- Since a line began its events were these.
pub record Since (place : Place) (es : List Event) (old new : Sitting) : Type 0 where
  pub common : new.common ≡ old.common
  pub routes : new.routes ≡ old.routes
  pub moved : Moved place old.share new.share
  pub kept : {via : Addr → Addr} (lines : List Line) (answers : List Answer) → place.line ≡ length answers → LaneKept via place.lane lines answers [] old.share → LaneKept via place.lane lines answers es new.share

since_none : (place : Place) (d : Sitting) → Since place [] d d
since_none place d = record { common = refl; routes = refl; moved = moved_itself place d.share; kept = λ lines answers at kept. kept }

since_event : (place : Place) (at : ℕ) (es : List Event) (e : Event) (old mid new : Sitting) → Since place es old mid → mid.events ≡ es → Happened mid e new → IsOwn place at e → Since place (es ++ e ∷ []) old new
since_event place at es e old mid new since shows did own = record {
  common = did.common ∙ since.common;
  routes = did.routes ∙ since.routes;
  moved = moved_on place old.share mid.share new.share since.moved (moved_event place at mid.share new.share e did.makes own);
  kept = λ lines answers line kept.
      let here : place ≡ record { lane = place.lane; line = length answers } = ap (λ n. record { lane = place.lane; line = n }) line in
      kept_event es e at mid.share new.share (since.kept lines answers line kept) did.makes (subst (λ p. IsOwn p at e) here own) (subst (λ xs. JudgesFirst xs e) shows did.first);
}

since_ran : (place : Place) (at : ℕ) (done es : List Event) (old mid new : Sitting) → Since place done old mid → mid.events ≡ done → Ran shown_of Happened place at es mid new → Since place (done ++ es) old new
since_ran place at done [] old mid new since shows ran = subst (λ xs. Since place xs old new) (sym (append-nil done)) (subst (Since place done old) (sym ran) since)
since_ran place at done (e ∷ es) old mid new since shows ran =
    let next : Since place (done ++ e ∷ []) old ran.0 = since_event place at done e old mid ran.0 since shows ran.1 ran.2 in
    subst (λ xs. Since place xs old new) (append_assoc done (e ∷ []) es) (since_ran place at (done ++ e ∷ []) es old ran.0 new next (ran.3 ∙ ap (λ xs. xs ++ e ∷ []) shows) ran.4)

-- ---- a line's end

-- A desk at rest shows nothing.
pub rest_new : (d : Sitting) → d ≡ at_rest d.common d.routes d.share → IsNew (shown_of d)
rest_new d rests = record { events = ap (λ (x : Sitting). x.events) rests; hold = ap (λ (x : Sitting). x.hold) rests; owing = ap (λ (x : Sitting). x.owing) rests }

since_rest : (place : Place) (at : ℕ) (es : List Event) (old new : Sitting) → old ≡ at_rest old.common old.routes old.share → Ran shown_of Happened place at es old new → Since place es old new
since_rest place at es old new rests ran = since_ran place at [] es old old new (since_none place old) (ap (λ (x : Sitting). x.events) rests) ran

rests_again : (place : Place) (old new : Sitting) → new ≡ at_rest old.common old.routes new.share → IsFree new.share → Moved place old.share new.share → RestsAgain place.lane (λ p. p ≡ place) old new
rests_again place old new rests free moved = record {
  rests = rests;
  free = free;
  shares = moved.shares;
  orderly = λ orderly. order_free place.lane new.share (moved.order (in_order place.lane old.share orderly)) free;
  added = moved.added;
}

-- The line is answered, and its events are forgotten.
pub done_rests : (place : Place) (line : Line) (old mid new : Sitting) (a : Answer) → old ≡ at_rest old.common old.routes old.share → LineDone shown_of Happened (via_of old.routes) place line old mid a → new ≡ record mid { events = [] } → IsFree new.share → RestsAgain place.lane (λ p. p ≡ place) old new
done_rests place line old mid new a rests done forgot free =
    let since : Since place mid.events old mid = since_rest place line.at mid.events old mid rests done.ran in
    let share : new.share ≡ mid.share = ap (λ (x : Sitting). x.share) forgot in
    let shows : new ≡ at_rest mid.common mid.routes mid.share = forgot ∙ ap (λ h. record mid { events = []; hold = h }) done.over.hold ∙ ap (λ os. record mid { events = []; hold = NoHold; owing = os }) done.over.owes in
    let same : at_rest mid.common mid.routes mid.share ≡ at_rest old.common old.routes new.share = ap (λ c. at_rest c mid.routes mid.share) since.common ∙ ap (λ r. at_rest old.common r mid.share) since.routes ∙ ap (at_rest old.common old.routes) (sym share) in
    rests_again place old new (shows ∙ same) free (subst (Moved place old.share) (sym share) since.moved)

pub done_answered : (place : Place) (line : Line) (old mid new : Sitting) (a : Answer) → old ≡ at_rest old.common old.routes old.share → LineDone shown_of Happened (via_of old.routes) place line old mid a → new ≡ record mid { events = [] } → LineAnswered place line old new a
done_answered place line old mid new a rests done forgot = λ lines answers at line_is kept.
    let since : Since place mid.events old mid = since_rest place line.at mid.events old mid rests done.ran in
    let share : new.share ≡ mid.share = ap (λ (x : Sitting). x.share) forgot in
    let here : place ≡ record { lane = place.lane; line = length answers } = ap (λ n. record { lane = place.lane; line = n }) at in
    let over : Over (via_of old.routes) (record { lane = place.lane; line = length answers }) line (shown_of mid) a = subst (λ p. Over (via_of old.routes) p line (shown_of mid) a) here done.over in
    subst (LaneKept (via_of old.routes) place.lane lines (answers ++ a ∷ []) []) (sym share) (kept_done mid.events mid.share line a (since.kept lines answers at kept) line_is over.path over.drawn)

-- The line was stopped, and is given up.
pub stopped_rests : (place : Place) (line : Line) (old mid new : Sitting) → old ≡ at_rest old.common old.routes old.share → LineStopped shown_of Happened Stayed place line old mid → HasGivenUp place line.at mid new → RestsAgain place.lane (λ p. p ≡ place) old new
stopped_rests place line old mid new rests stopped up =
    let between : Sitting = stopped.between in
    let since : Since place between.events old between = since_rest place line.at between.events old between rests stopped.ran in
    let saw : Moved place between.share mid.share = moved_saw place between.share mid.share stopped.kept.saw in
    let ended : Moved place mid.share new.share = moved_all place line.at mid.share new.share up.ended.events up.ended.makes up.ended.own in
    let moved : Moved place old.share new.share = moved_on place old.share mid.share new.share (moved_on place old.share between.share mid.share since.moved saw) ended in
    let common : mid.common ≡ old.common = ap (λ (x : Sitting). x.common) stopped.kept.same ∙ since.common in
    let routes : mid.routes ≡ old.routes = ap (λ (x : Sitting). x.routes) stopped.kept.same ∙ since.routes in
    rests_again place old new (up.rests ∙ ap (λ c. at_rest c mid.routes new.share) common ∙ ap (λ r. at_rest old.common r new.share) routes) up.free moved
