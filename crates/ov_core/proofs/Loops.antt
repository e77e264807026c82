-- What the loops over all lanes cite.
use Rattle.std.proofs.Common.{ℕ, ◌≡◌, ◌+◌, ◌≤◌, ◌<◌, zero, suc, List, [], ◌∷◌, ◌++◌, length, sym, ◌∙◌, ap, subst, arith, get_or, take, drop, take_all}
use Rattle.std.specs.Prelude.{map, Some, Result, Ok, Err, IfOk, slice_get, slice_set}
use Rattle.std.specs.List.{AllByRecursion}
use Rattle.std.proofs.lemmas.List.Elements.{All-from_recursion, All-get_or}
use Rattle.std.proofs.lemmas.List.{length-map}
use Rattle.ov_model.specs.declared.line.Line.{Line}
use Rattle.ov_core.specs.declared.course.Turn.{Turn as Did}
use Rattle.ov_core.specs.declared.course.Turn.TheVariants as did
use Rattle.ov_core.specs.Worlds.{lane_count}
use Rattle.ov_model.specs.declared.line.Script.{Script}
use Rattle.ov_core.specs.Seats.{Seated, via_in, new_seated}
use Rattle.ov_core.specs.Courses.{Coursed, Standing, SomeCourse}
use Rattle.ov_core.specs.Scripts.{standing_of, AreCourses, RanLine, RanLineIn, LineRan, RanLines, TookTurns, RanOut, course_of, dealt}
use Rattle.ov_core.proofs.Beginning.{get_numbered}
use Rattle.ov_core.proofs.Running.{member_at}
use Rattle.ov_core.proofs.Dealing.{dealt_more, dealt_are}
use Rattle.ov_core.proofs.Coursing.{on_course}
use Rattle.ov_core.proofs.Scheduling.{RanBy, ran_by}
use Rattle.ov_core.proofs.Serially.{lines_none, lines_more, line_left, RanSerially, ran_serially}

-- Each course may take a turn.
pub turn_may : (d : Seated) (courses : List Coursed) (i : ℕ) (c : Coursed) → AreCourses d courses → slice_get courses i ≡ Some c → SomeCourse d c
turn_may d courses i c are at = record { all = standing_of (via_in d) courses; on = on_course d courses i c are at }

-- One line more was dealt.
pub dealt_push : (lines : List Line) (line : Line) (courses : List Coursed) (c x : Coursed) → courses ≡ dealt lines → line.lane < lane_count → slice_get courses line.lane ≡ Some c → x ≡ record c { lines = c.lines ++ line ∷ [] } → slice_set courses line.lane x ≡ dealt (lines ++ line ∷ [])
dealt_push lines line courses c x are below at pushed =
    let zeroth : 0 + line.lane ≡ line.lane = omega arith in
    let its : c ≡ course_of lines line.lane = get_numbered (course_of lines) 0 lane_count line.lane c (subst (λ cs. slice_get cs line.lane ≡ Some c) are at) ∙ ap (course_of lines) zeroth in
    let new : x ≡ record (course_of lines line.lane) { lines = (course_of lines line.lane).lines ++ line ∷ [] } = pushed ∙ ap (λ (y : Coursed). record y { lines = y.lines ++ line ∷ [] }) its in
    ap (λ cs. slice_set cs line.lane x) are ∙ ap (slice_set (dealt lines) line.lane) new ∙ sym (dealt_more lines line below)

-- ---- lines at a place of the script

take_next : (lines : List Line) (k : ℕ) (line : Line) → slice_get lines k ≡ Some line → take (suc k) lines ≡ take k lines ++ line ∷ []
take_next [] k line at = cc
take_next (l ∷ lines) zero line at = let its : l ≡ line = cc in ap (λ x. x ∷ []) its
take_next (l ∷ lines) (suc k) line at = ap (λ ls. l ∷ ls) (take_next lines k line at)

split_at : (lines : List Line) (k : ℕ) (line : Line) → slice_get lines k ≡ Some line → lines ≡ take k lines ++ line ∷ drop (suc k) lines
split_at [] k line at = cc
split_at (l ∷ lines) zero line at = let its : l ≡ line = cc in ap (λ x. x ∷ lines) its
split_at (l ∷ lines) (suc k) line at = ap (λ ls. l ∷ ls) (split_at lines k line at)

lane_at : (lines : List Line) (k : ℕ) (line : Line) → slice_get lines k ≡ Some line → get_or (map (λ l. l.lane) lines) k 0 ≡ line.lane
lane_at [] k line at = cc
lane_at (l ∷ lines) zero line at = let its : l ≡ line = cc in ap (λ (x : Line). x.lane) its
lane_at (l ∷ lines) (suc k) line at = lane_at lines k line at

below_line : (lines : List Line) (k : ℕ) (line : Line) → AllByRecursion (λ l. l.lane < 64) lines → slice_get lines k ≡ Some line → line.lane < 64
below_line [] k line all at = cc
below_line (l ∷ lines) zero line all at = let its : l ≡ line = cc in subst (λ (x : Line). x.lane < 64) its all.0
below_line (l ∷ lines) (suc k) line all at = below_line lines k line all.1 at

-- A line that was to come ran to its end.
ran_to_end : (e f : Seated) (c x : Coursed) (r : Did) → length c.answers < length c.lines → (all : Standing) → RanLine e f all c x r → LineRan e f all c x
ran_to_end e f c x did.Passed left all ran = absurd (let none : length c.lines ≤ length c.answers = ran.none in omega arith)
ran_to_end e f c x did.Going left all ran = absurd ran
ran_to_end e f c x did.Answered left all ran = ran

-- The next line of the script ran to its end.
pub serial_step : (all : List Line) (order : List ℕ) (k : ℕ) (d e f : Seated) (before mid : List Coursed) (c x : Coursed) (r : Did) → order ≡ map (λ l. l.lane) all → k < length order → RanLines all d e before mid (take k all) → slice_get mid (get_or order k 0) ≡ Some c → RanLineIn e f c x r → RanLines all d f before (slice_set mid (get_or order k 0) x) (take (k + 1) all)
serial_step all order k d e f before mid c x r order_is below ran at ran_so =
    let long : length order ≡ length all = ap length order_is ∙ length-map all (λ l. l.lane) in
    let next = member_at all k (omega arith) in
    let line : Line = next.0 in
    let lane : get_or order k 0 ≡ line.lane = ap (λ ns. get_or ns k 0) order_is ∙ lane_at all k line next.1 in
    let at_lane : slice_get mid line.lane ≡ Some c = subst (λ n. slice_get mid n ≡ Some c) lane at in
    let left : length c.answers < length c.lines = line_left all d e before mid (take k all) (drop (suc k) all) line c (split_at all k line next.1) ran at_lane in
    let more = lines_more all d e f before mid (take k all) line c x ran at_lane (λ standing on. ran_to_end e f c x r left standing (ran_so standing on)) in
    let one_more : suc k ≡ k + 1 = omega arith in
    let taken : take k all ++ line ∷ [] ≡ take (k + 1) all = sym (take_next all k line next.1) ∙ ap (λ n. take n all) one_more in
    subst (λ ls. RanLines all d f before (slice_set mid (get_or order k 0) x) ls) taken (subst (λ n. RanLines all d f before (slice_set mid n x) (take k all ++ line ∷ [])) (sym lane) more)

-- ---- the runs of a script

-- What follows from what is said of an answer that is Ok.
pub if_ok : {A E : Type 0} {P Q : A → Type 0} (r : Result A E) → IfOk r P → ((x : A) → P x → Q x) → IfOk r Q
if_ok (Ok x) has then = then x has
if_ok (Err e) has then = tt

-- The courses once all lines are dealt, in a new world.
pub start_are : (script : Script) (first : ℕ) (d : Seated) (courses : List Coursed) → d ≡ new_seated first script.routes → courses ≡ dealt script.lines → first ≤ 4294967296 → AreCourses d courses
start_are script first d courses new_is dealt_so most = rw (new_is, dealt_so) (dealt_are script first most)

-- A run by a schedule.
pub scheduled_at : (script : Script) (first : ℕ) (schedule : List ℕ) (d e f : Seated) (start mid after : List Coursed) → d ≡ new_seated first script.routes → start ≡ dealt script.lines → TookTurns d e start mid schedule → RanOut e f mid after 64 → RanBy script first schedule f after
scheduled_at script first schedule d e f start mid after new_is dealt_so took out =
    let from_new : TookTurns (new_seated first script.routes) e start mid schedule = subst (λ x. TookTurns x e start mid schedule) new_is took in
    ran_by script first schedule e f mid after (subst (λ cs. TookTurns (new_seated first script.routes) e cs mid schedule) dealt_so from_new) out

-- A run of one line after the other.
pub serial_start : (script : Script) (first : ℕ) (d : Seated) (courses : List Coursed) → d ≡ new_seated first script.routes → courses ≡ dealt script.lines → first ≤ 4294967296 → RanLines script.lines (new_seated first script.routes) d (dealt script.lines) courses []
serial_start script first d courses new_is dealt_so most =
    subst (λ x. RanLines script.lines (new_seated first script.routes) x (dealt script.lines) courses []) (sym new_is) (subst (λ cs. RanLines script.lines (new_seated first script.routes) (new_seated first script.routes) (dealt script.lines) cs []) (sym dealt_so) (lines_none script first most))

pub serial_at : (script : Script) (first : ℕ) (order : List ℕ) (k : ℕ) (e : Seated) (after : List Coursed) → order ≡ map (λ l. l.lane) script.lines → length order ≤ k → RanLines script.lines (new_seated first script.routes) e (dealt script.lines) after (take k script.lines) → RanSerially script first e after
serial_at script first order k e after order_is past ran =
    let long : length order ≡ length script.lines = ap length order_is ∙ length-map script.lines (λ l. l.lane) in
    let whole : take k script.lines ≡ script.lines = take_all k script.lines (omega arith) in
    ran_serially script first e after (subst (λ ls. RanLines script.lines (new_seated first script.routes) e (dealt script.lines) after ls) whole ran)

-- What holds of all holds at a place.
pub all_at : {X : Type 0} (P : X → Type 0) (xs : List X) (k : ℕ) (d : X) → AllByRecursion P xs → k < length xs → P (get_or xs k d)
all_at P xs k d all below = All-get_or P xs k d below (All-from_recursion P xs all)

-- The lanes of lines are those of the lanes' numbers.
pub order_below : (lines : List Line) (order : List ℕ) (k : ℕ) → order ≡ map (λ l. l.lane) lines → AllByRecursion (λ line. line.lane < 64) lines → k < length order → get_or order k 0 < 64
order_below lines order k order_is all below =
    let long : length order ≡ length lines = ap length order_is ∙ length-map lines (λ l. l.lane) in
    let line = member_at lines k (omega arith) in
    let lane : get_or order k 0 ≡ line.0.lane = ap (λ ns. get_or ns k 0) order_is ∙ lane_at lines k line.0 line.1 in
    rw lane (below_line lines k line.0 all line.1)

-- What holds of all lines holds of the one at a place.
pub line_now : (P : Line → Type 0) (lines : List Line) (k : ℕ) (line : Line) → AllByRecursion P lines → (k < length lines) × (line ≡ get_or lines k line) → P line
line_now P lines k line all at = subst P (sym at.1) (all_at P lines k line all at.0)
