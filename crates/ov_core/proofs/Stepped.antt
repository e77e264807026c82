-- What a turn of a walk in the world makes of its course.
use Rattle.std.proofs.Common.{ℕ, arith, true, nat_lt, get_or, ◌≡◌, List, [], ◌∷◌, ◌++◌, length, refl, sym, ◌∙◌, ap, subst}
use Rattle.std.specs.Prelude.{Some, slice_get, slice_set}
use Rattle.std.proofs.lemmas.Bool.Decides.{nat_tests}
use Rattle.std.proofs.lemmas.Option.{slice_get-get_or}
use Rattle.ov_model.specs.declared.answer.Answer.{Answer}
use Rattle.ov_model.specs.declared.line.Line.{Line}
use Rattle.ov_model.specs.declared.place.Place.{Place}
use Rattle.ov_model.specs.Via.{via_of}
use Rattle.ov_path.specs.declared.stage.Stage.TheVariants as stage
use Rattle.ov_path.specs.declared.walk.Walk.{Walk}
use Rattle.ov_path.specs.declared.walk.Progress.{Progress}
use Rattle.ov_path.specs.declared.walk.Progress.TheVariants.{More, Answered}
use Rattle.ov_path.specs.Walks.{GoesOn, Over, Made, MadeOrNone, made, nothing, MadeBy, Progressed}
use Rattle.ov_core.specs.Sessions.{Goes, Answers}
use Rattle.ov_core.specs.Ready.{Running}
use Rattle.ov_base.specs.declared.address.Addr.{Addr}
use Rattle.ov_core.specs.Worlds.{seen_from}
use Rattle.ov_core.specs.Seats.{Seated, Kept, Happened, via_in, world_of, shown_of, after_line}
use Rattle.ov_core.specs.Courses.{Coursed, IsCourse, Standing, OnCourse, lane_of, session_at, Went, WasAnswered}
use Rattle.ov_core.proofs.Leaving.{seen_at}
use Rattle.ov_core.proofs.Bridging.{own_seat, turn_more, turn_over}
use Rattle.ov_core.proofs.Seats.{set_here}

-- Whose turn it is changes nothing for a course.
on_at : (d : Seated) (n : ℕ) (all : Standing) (c : Coursed) → OnCourse d all c → OnCourse (record d { turn = n }) all c
on_at d n all c on = record { running = on.running; hops = on.hops; lane_is = on.lane_is; stage_is = on.stage_is }

-- The line under way goes on.
pub goes_at : (d : Seated) (all : Standing) (c : Coursed) (line : Line) → Kept d → d.turn ≡ c.lane → IsCourse c → OnCourse d all c → slice_get c.lines (length c.answers) ≡ Some line → GoesOn (via_in d) c.walk.place line (shown_of d) c.walk.stage
goes_at d all c line kept turn is on line_is =
    let seat_is : slice_get (world_of d).seats c.lane ≡ Some (own_seat d) = subst (λ n. slice_get (world_of d).seats n ≡ Some (own_seat d)) turn (seen_at d kept) in
    subst (λ (via : Addr → Addr). GoesOn via c.walk.place line (seen_from via (world_of d) (own_seat d)) c.walk.stage) on.hops
    (subst (λ (p : Place). GoesOn all.via p line (seen_from all.via (world_of d) (own_seat d)) c.walk.stage) (sym is.placed) ((on.running.ready c.lane (lane_of c) (own_seat d) c.walk.stage on.lane_is seat_is on.stage_is).goes line line_is))

-- A turn after which it goes on.
pub went_at : (d e : Seated) (all : Standing) (c : Coursed) (walk : Walk) (line : Line) → Kept d → Kept e → d.turn ≡ c.lane → IsCourse c → OnCourse d all c → slice_get c.lines (length c.answers) ≡ Some line → Made shown_of Happened (via_in d) c.walk.place line d e → GoesOn (via_in d) c.walk.place line (shown_of e) walk.stage
    → Went d e all c (record c { walk = walk })
went_at d e all c walk line kept kept_e turn is on line_is m goes =
    let both = turn_more all.via d e all.lanes all.stages (lane_of c) line c.walk.stage walk.stage kept kept_e on.running
    (subst (λ n. slice_get all.lanes n ≡ Some (lane_of c)) (sym turn) on.lane_is) line_is (subst (λ n. slice_get all.stages n ≡ Some c.walk.stage) (sym turn) on.stage_is)
    on.hops
    (subst (λ (p : Place). Made shown_of Happened all.via p line d e) (is.placed ∙ ap (λ n. record { lane = n; line = length c.answers }) (sym turn)) (subst (λ (via : Addr → Addr). Made shown_of Happened via c.walk.place line d e) (sym on.hops) m))
    (subst (λ (p : Place). GoesOn all.via p line (shown_of e) walk.stage) (is.placed ∙ ap (λ n. record { lane = n; line = length c.answers }) (sym turn)) (subst (λ (via : Addr → Addr). GoesOn via c.walk.place line (shown_of e) walk.stage) (sym on.hops) goes)) in
    record {
      goes = subst (λ n. Goes all.via n (session_at d all.lanes) (session_at e all.lanes)) turn both.0;
      course = refl;
      on = record {
        running = subst (λ n. Running all.via (session_at e all.lanes) (slice_set all.stages n walk.stage)) turn both.1;
        hops = on.hops ∙ sym (ap (λ rs. via_of rs) m.done.routes);
        lane_is = on.lane_is;
        stage_is = set_here all.stages c.lane walk.stage c.walk.stage on.stage_is;
      };
    }

-- A turn leaves the routes as they are, whether it made an event or none.
none_or_made : (d e : Seated) (via : Addr → Addr) (place : Place) (line : Line) → MadeOrNone shown_of Happened via place line d e → via_in e ≡ via_in d
none_or_made d e via place line (made m) = ap (λ rs. via_of rs) m.done.routes
none_or_made d e via place line (nothing asks same) = ap via_in same

-- A turn that answers it.
pub answered_at : (d e : Seated) (all : Standing) (c : Coursed) (a : Answer) (line : Line) → Kept d → Kept e → d.turn ≡ c.lane → IsCourse c → OnCourse d all c → slice_get c.lines (length c.answers) ≡ Some line → MadeOrNone shown_of Happened (via_in d) c.walk.place line d e → Over (via_in d) c.walk.place line (shown_of e) a
    → WasAnswered d (after_line e) all c (record { lane = c.lane; lines = c.lines; answers = c.answers ++ a ∷ []; walk = record { place = record { lane = c.lane; line = length (c.answers ++ a ∷ []) }; stage = stage.Fresh } })
answered_at d e all c a line kept kept_e turn is on line_is m over =
    let x : Coursed = record { lane = c.lane; lines = c.lines; answers = c.answers ++ a ∷ []; walk = record { place = record { lane = c.lane; line = length (c.answers ++ a ∷ []) }; stage = stage.Fresh } } in
    let both = turn_over all.via d e all.lanes all.stages (lane_of c) line c.walk.stage a kept kept_e on.running
    (subst (λ n. slice_get all.lanes n ≡ Some (lane_of c)) (sym turn) on.lane_is) line_is (subst (λ n. slice_get all.stages n ≡ Some c.walk.stage) (sym turn) on.stage_is)
    on.hops
    (subst (λ (p : Place). MadeOrNone shown_of Happened all.via p line d e) (is.placed ∙ ap (λ n. record { lane = n; line = length c.answers }) (sym turn)) (subst (λ (via : Addr → Addr). MadeOrNone shown_of Happened via c.walk.place line d e) (sym on.hops) m))
    (subst (λ (p : Place). Over all.via p line (shown_of e) a) (is.placed ∙ ap (λ n. record { lane = n; line = length c.answers }) (sym turn)) (subst (λ (via : Addr → Addr). Over via c.walk.place line (shown_of e) a) (sym on.hops) over)) in
    record {
      answer = a;
      answers = subst (λ n. Answers all.via n (session_at d all.lanes) (session_at (after_line e) (slice_set all.lanes n (lane_of x)))) turn both.0;
      course = refl;
      on = record {
        running = subst (λ n. Running all.via (session_at (after_line e) (slice_set all.lanes n (lane_of x))) (slice_set all.stages n stage.Fresh)) turn both.1;
        hops = on.hops ∙ sym (none_or_made d e (via_in d) c.walk.place line m);
        lane_is = set_here all.lanes c.lane (lane_of x) (lane_of c) on.lane_is;
        stage_is = set_here all.stages c.lane stage.Fresh c.walk.stage on.stage_is;
      };
    }

-- ---- as the code has them

-- The world as it is once the lane has its turn.
pub on_turn : (d e : Seated) (n : ℕ) (all : Standing) (c x : Coursed) → e ≡ record d { turn = n } → c ≡ x → OnCourse d all c → OnCourse e all x
on_turn d e n all c x given is on = subst (λ (y : Coursed). OnCourse e all y) is (subst (λ (f : Seated). OnCourse f all c) (sym given) (on_at d n all c on))

went_from : (d : Seated) (n : ℕ) (e : Seated) (all : Standing) (c x : Coursed) → Went (record d { turn = n }) e all c x → Went d e all c x
went_from d n e all c x went = record { goes = went.goes; course = went.course; on = went.on }

answered_from : (d : Seated) (n : ℕ) (e : Seated) (all : Standing) (c x : Coursed) → WasAnswered (record d { turn = n }) e all c x → WasAnswered d e all c x
answered_from d n e all c x a = record { answer = a.answer; answers = a.answers; course = a.course; on = a.on }

pub went_by : (d f e : Seated) (n : ℕ) (all : Standing) (c y : Coursed) (walk : Walk) (line : Line) → f ≡ record d { turn = n } → c ≡ y → Kept f → Kept e → IsCourse y → n ≡ y.lane → OnCourse d all c → slice_get y.lines (length y.answers) ≡ Some line
    → Made shown_of Happened (via_in f) y.walk.place line f e → GoesOn (via_in f) y.walk.place line (shown_of e) walk.stage → Went d e all c (record y { walk = walk })
went_by d f e n all c y walk line given is kept kept_e course lane on line_is m goes =
    let turn : f.turn ≡ y.lane = ap (λ (x : Seated). x.turn) given ∙ lane in
    let went : Went f e all y (record y { walk = walk }) = went_at f e all y walk line kept kept_e turn course (on_turn d f n all c y given is on) line_is m goes in
    let back : Went (record d { turn = n }) e all y (record y { walk = walk }) = subst (λ (g : Seated). Went g e all y (record y { walk = walk })) given went in
    subst (λ (z : Coursed). Went d e all z (record y { walk = walk })) (sym is) (went_from d n e all y (record y { walk = walk }) back)

pub answered_by : (d f e : Seated) (n : ℕ) (all : Standing) (c y : Coursed) (a : Answer) (line : Line) → f ≡ record d { turn = n } → c ≡ y → Kept f → Kept e → IsCourse y → n ≡ y.lane → OnCourse d all c → slice_get y.lines (length y.answers) ≡ Some line
    → MadeOrNone shown_of Happened (via_in f) y.walk.place line f e → Over (via_in f) y.walk.place line (shown_of e) a
    → WasAnswered d (after_line e) all c (record { lane = y.lane; lines = y.lines; answers = y.answers ++ a ∷ []; walk = record { place = record { lane = y.lane; line = length (y.answers ++ a ∷ []) }; stage = stage.Fresh } })
answered_by d f e n all c y a line given is kept kept_e course lane on line_is m over =
    let x : Coursed = record { lane = y.lane; lines = y.lines; answers = y.answers ++ a ∷ []; walk = record { place = record { lane = y.lane; line = length (y.answers ++ a ∷ []) }; stage = stage.Fresh } } in
    let turn : f.turn ≡ y.lane = ap (λ (z : Seated). z.turn) given ∙ lane in
    let done : WasAnswered f (after_line e) all y x = answered_at f e all y a line kept kept_e turn course (on_turn d f n all c y given is on) line_is m over in
    let back : WasAnswered (record d { turn = n }) (after_line e) all y x = subst (λ (g : Seated). WasAnswered g (after_line e) all y x) given done in
    subst (λ (z : Coursed). WasAnswered d (after_line e) all z x) (sym is) (answered_from d n (after_line e) all y x back)

-- What was read at a place that a list has.
pub line_got : (lines seen : List Line) (n at : ℕ) (line : Line) → seen ≡ lines → at ≡ n → (true ≡ nat_lt at (length seen)) × (line ≡ get_or seen at line) → slice_get lines n ≡ Some line
line_got lines seen n at line same place read =
    let inside : true ≡ nat_lt at (length seen) = read.0 in
    let got : slice_get seen at ≡ Some line = slice_get-get_or seen at line (grind (arith, nat_tests)) ∙ ap (λ x. Some x) (sym read.1) in
    rw (← same, ← place) got

-- The same, by what the turn of the walk answered.
pub more_by : (d f e : Seated) (n : ℕ) (all : Standing) (c y : Coursed) (walk : Walk) (line : Line) (p : Progress) → p ≡ More → f ≡ record d { turn = n } → c ≡ y → Kept f → Kept e → IsCourse y → n ≡ y.lane → OnCourse d all c → slice_get y.lines (length y.answers) ≡ Some line
    → MadeBy shown_of Happened (via_in f) y.walk.place line p f e → Progressed (via_in f) y.walk.place line (shown_of e) walk.stage p → Went d e all c (record y { walk = walk })
more_by d f e n all c y walk line p more given is kept kept_e course lane on line_is m goes =
    went_by d f e n all c y walk line given is kept kept_e course lane on line_is
    (subst (λ (q : Progress). MadeBy shown_of Happened (via_in f) y.walk.place line q f e) more m)
    (subst (λ (q : Progress). Progressed (via_in f) y.walk.place line (shown_of e) walk.stage q) more goes)

pub over_by : (d f e g : Seated) (n : ℕ) (all : Standing) (c y : Coursed) (walk next : Walk) (a : Answer) (answers : List Answer) (line : Line) (p : Progress) → p ≡ Answered a → g ≡ after_line e → answers ≡ y.answers ++ a ∷ [] → next ≡ record { place = record { lane = y.lane; line = length answers }; stage = stage.Fresh }
    → f ≡ record d { turn = n } → c ≡ y → Kept f → Kept e → IsCourse y → n ≡ y.lane → OnCourse d all c → slice_get y.lines (length y.answers) ≡ Some line
    → MadeBy shown_of Happened (via_in f) y.walk.place line p f e → Progressed (via_in f) y.walk.place line (shown_of e) walk.stage p → WasAnswered d g all c (record { lane = y.lane; lines = y.lines; answers = answers; walk = next })
over_by d f e g n all c y walk next a answers line p over after more its given is kept kept_e course lane on line_is m goes =
    let done = answered_by d f e n all c y a line given is kept kept_e course lane on line_is
    (subst (λ (q : Progress). MadeBy shown_of Happened (via_in f) y.walk.place line q f e) over m)
    (subst (λ (q : Progress). Progressed (via_in f) y.walk.place line (shown_of e) walk.stage q) over goes) in
    let walked : WasAnswered d (after_line e) all c (record { lane = y.lane; lines = y.lines; answers = answers; walk = record { place = record { lane = y.lane; line = length answers }; stage = stage.Fresh } }) =
    subst (λ (xs : List Answer). WasAnswered d (after_line e) all c (record { lane = y.lane; lines = y.lines; answers = xs; walk = record { place = record { lane = y.lane; line = length xs }; stage = stage.Fresh } })) (sym more) done in
    subst (λ (h : Seated). WasAnswered d h all c (record { lane = y.lane; lines = y.lines; answers = answers; walk = next })) (sym after)
    (subst (λ (w : Walk). WasAnswered d (after_line e) all c (record { lane = y.lane; lines = y.lines; answers = answers; walk = w })) (sym its) walked)
