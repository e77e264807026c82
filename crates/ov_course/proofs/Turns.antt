-- The turns of a line, one after the other.
use Rattle.std.proofs.Common.{ℕ, ◌≡◌, List, [], ◌∷◌, ◌++◌, refl, sym, ◌∙◌, subst}
use Rattle.std.specs.Prelude.{Result, Ok, Err, OnErr}
use Rattle.ov_base.specs.declared.address.Addr.{Addr}
use Rattle.ov_base.specs.declared.memory.Memory.{Memory}
use Rattle.ov_model.specs.declared.answer.Answer.{Answer}
use Rattle.ov_model.specs.declared.line.Line.{Line}
use Rattle.ov_model.specs.declared.place.Place.{Place}
use Rattle.ov_model.specs.Events.{Event}
use Rattle.ov_path.specs.declared.walk.Progress.{Progress}
use Rattle.ov_path.specs.declared.walk.Progress.TheVariants.{More, Answered}
use Rattle.ov_path.specs.declared.walk.Walk.{Walk}
use Rattle.ov_path.specs.Desks.{View, SameLine}
use Rattle.ov_path.specs.Walks.{IsOwn, GoesOn, Over, Turned, Made, MadeOrNone, MadeBy, made, nothing}
use Rattle.ov_course.specs.Runs.{Ran, LineDone, LineStopped}

module _ {D : Type 0} (view : D → View) (does : D → Event → D → Type 0) where
  -- One event more.
  pub ran_more : (place : Place) (at : ℕ) (es : List Event) (e : Event) (a b c : D) → Ran view does place at es a b → does b e c → IsOwn place at e → (view c).events ≡ (view b).events ++ e ∷ [] → Ran view does place at (es ++ e ∷ []) a c
  ran_more place at [] e a b c ran did own one = (c, subst (λ d. does d e c) ran did, own, subst (λ d. (view c).events ≡ (view d).events ++ e ∷ []) ran one, refl)
  ran_more place at (f ∷ es) e a b c ran did own one = (ran.0, ran.1, ran.2, ran.3, ran_more place at es e ran.0 b c ran.4 did own one)

  -- The line goes on at a desk, where it began at `old`.
  pub record Going (via : Addr → Addr) (place : Place) (line : Line) (old new : D) (walk : Walk) : Type 0 where
    pub stood : walk.place ≡ place
    pub goes : GoesOn via place line (view new) walk.stage
    pub hops : (view new).via ≡ via
    pub ran : Ran view does place line.at (view new).events old new

  -- It begins.
  pub going_first : (via : Addr → Addr) (line : Line) (d : D) (walk : Walk) → (view d).events ≡ [] → GoesOn via walk.place line (view d) walk.stage → (view d).via ≡ via → Going via walk.place line d d walk
  going_first via line d walk none goes hops = record { stood = refl; goes = goes; hops = hops; ran = subst (λ es. Ran view does walk.place line.at es d d) (sym none) refl }

  -- It stands ready for its next turn.
  pub going_ready : (via : Addr → Addr) (place : Place) (line : Line) (a b : D) (walk : Walk) → Going via place line a b walk → GoesOn via walk.place line (view b) walk.stage
  going_ready via place line a b walk going = subst (λ p. GoesOn via p line (view b) walk.stage) (sym going.stood) going.goes

  -- A turn made an event, and the line goes on.
  pub going_more : (via : Addr → Addr) (place : Place) (line : Line) (a b c : D) (walk next : Walk) (p : Progress) → p ≡ More → ((x y : D) (e : Event) → does x e y → (view y).via ≡ (view x).via) → Going via place line a b walk → next.place ≡ walk.place → Turned via line (view c) next p → MadeBy view does via walk.place line p b c → Going via place line a c next
  going_more via place line a b c walk next p more hops going same then did =
      let made_so : Made view does via walk.place line b c = subst (λ q. MadeBy view does via walk.place line q b c) more did in
      let goes : GoesOn via next.place line (view c) next.stage = subst (λ q. Turned via line (view c) next q) more then in
      let event : Made view does via place line b c = subst (λ x. Made view does via x line b c) going.stood made_so in
      record {
        stood = same ∙ going.stood;
        goes = subst (λ p. GoesOn via p line (view c) next.stage) (same ∙ going.stood) goes;
        hops = hops b c event.event event.done ∙ going.hops;
        ran = subst (λ es. Ran view does place line.at es a c) (sym event.one) (ran_more place line.at (view b).events event.event a b c going.ran event.done event.own event.one);
      }

  -- A turn answered the line.
  pub going_done : (via : Addr → Addr) (place : Place) (line : Line) (a b c : D) (walk next : Walk) (p : Progress) (r : Answer) → p ≡ Answered r → Going via place line a b walk → next.place ≡ walk.place → Turned via line (view c) next p → MadeBy view does via walk.place line p b c → LineDone view does via place line a c r
  going_done via place line a b c walk next p r answered going same then did = record {
    over = subst (λ x. Over via x line (view c) r) (same ∙ going.stood) (subst (λ q. Turned via line (view c) next q) answered then);
    ran = happened (subst (λ x. MadeOrNone view does via x line b c) going.stood (subst (λ q. MadeBy view does via walk.place line q b c) answered did));
  }
    where
      happened : MadeOrNone view does via place line b c → Ran view does place line.at (view c).events a c
      happened (made event) = subst (λ es. Ran view does place line.at es a c) (sym event.one) (ran_more place line.at (view b).events event.event a b c going.ran event.done event.own event.one)
      happened (nothing asks none) = subst (λ d. Ran view does place line.at (view d).events a d) (sym none) going.ran

  -- There was no memory for a turn.
  pub going_stopped : (keeps : D → D → Type 0) (via : Addr → Addr) (place : Place) (line : Line) (a b c : D) (walk : Walk) (r : Result Answer Memory) → Going via place line a b walk → SameLine (view b) (view c) → keeps b c → OnErr r (LineStopped view does keeps place line a c)
  going_stopped keeps via place line a b c walk (Ok answer) going same kept = tt
  going_stopped keeps via place line a b c walk (Err memory) going same kept = record { between = b; ran = going.ran; same = same; kept = kept }
