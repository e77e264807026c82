-- Lanes meet, the head's lines run, and then all others.
use Rattle.std.proofs.Common.{ℕ, zero, suc, ◌≡◌, ◌+◌, ◌-◌, ◌<◌, ◌≤◌, List, [], ◌∷◌, ◌++◌, length, set, option_map, refl, sym, ◌∙◌, ap, subst, false, arith, inl, inr}
use Rattle.std.specs.Prelude.{slice_get, slice_set, take, Some}
use Rattle.std.specs.List.{AllByRecursion}
use Rattle.std.proofs.lemmas.Bool.{cases_eq}
use Rattle.std.proofs.lemmas.List.{length-set, set-append_left, set-append_right}
use Rattle.std.proofs.lemmas.Option.{none-some, same_Some, slice_get-map, slice_get_within}
use Rattle.ov_model.specs.declared.entry.Entry.{Entry}
use Rattle.ov_model.specs.declared.line.Line.{Line}
use Rattle.ov_model.specs.Legal.{lane_lines}
use Rattle.ov_turn.specs.Seats.{Sight}
use Rattle.ov_turn.proofs.Fronts.{prefix_self}
use Rattle.ov_share.specs.Passings.{Passing}
use Rattle.ov_share.proofs.Adding.{front_length}
use Rattle.ov_lane.specs.Passes.{Shared}
use Rattle.ov_core.proofs.Ending.{At, get_below}
use Rattle.ov_core.proofs.Seats.{set_case, all_at}
use Rattle.ov_lanes.specs.Heads.{InHead, HeadRuns}
use Rattle.ov_lanes.specs.Jobs.{Lane, IsReady, Stands, LaneSaw, AllSaw, HaveMet, AreAtWork, AreAtHead, AreBehindHead, are_on, passes_of}
use Rattle.ov_lanes.proofs.Keeping.{keeps_saw, stands_saw, work_kept, all_from, all_mapped}

-- ---- two lanes met

-- One element of each of two parts of a list is another.
pub set_parts : {X : Type 0} (xs front back : List X) (low high : ℕ) (u v : X) → xs ≡ front ++ back → length front ≡ high → low < high → set front low u ++ set back 0 v ≡ set (set xs low u) high v
set_parts xs front back low high u v parts long below =
    let none : high - high ≡ 0 = omega arith in
    let same : length (set front low u) ≡ high = length-set front low u ∙ long in
    sym (ap (λ l. set (set l low u) high v) parts ∙ ap (λ l. set l high v) (set-append_left front back low u (omega arith)) ∙ set-append_right (set front low u) back high high v same (omega arith) ∙ ap (λ k. set front low u ++ set back k v) none)

-- A lane saw what it had seen.
pub saw_itself : (lane : Lane) → LaneSaw lane lane
saw_itself lane = record {
  saw = record {
    seen = record {
      seen = record { front = prefix_self lane.pass.share.sight.seen; same = refl };
      same = refl;
    };
    same = refl;
  };
  same = refl;
}

-- Where two of them saw more, all did.
pub two_saw : (old new : List Lane) (low high : ℕ) (a b c d : Lane) → slice_get old low ≡ Some a → slice_get old high ≡ Some b → (low ≡ high → ⊥) → new ≡ slice_set (slice_set old low c) high d → LaneSaw a c → LaneSaw b d → AllSaw old new
two_saw old new low high a b c d at_low at_high other new_is saw_low saw_high = subst (AllSaw old) (sym new_is) (record {
  count = length-set (slice_set old low c) high d ∙ length-set old low c;
  each = λ i x y at is. elim (set_case (slice_set old low c) high i d y is) [
    | inl here ↦
        let was : b ≡ x = same_Some b x (sym at_high ∙ ap (slice_get old) (sym here.0) ∙ at) in
        subst (λ l. LaneSaw l y) was (subst (LaneSaw b) (sym here.1) saw_high)
    | inr rest ↦ elim (set_case old low i c y rest.1) [
      | inl here ↦
          let was : a ≡ x = same_Some a x (sym at_low ∙ ap (slice_get old) (sym here.0) ∙ at) in
          subst (λ l. LaneSaw l y) was (subst (LaneSaw a) (sym here.1) saw_low)
      | inr others ↦ subst (LaneSaw x) (same_Some x y (sym at ∙ others.1)) (saw_itself x)
    ]
  ];
})

-- The two have seen the same.
pub two_met : (old new : List Lane) (low high : ℕ) (c d : Lane) → (low ≡ high → ⊥) → new ≡ slice_set (slice_set old low c) high d → c.pass.share.sight.seen ≡ d.pass.share.sight.seen → HaveMet low high new
two_met old new low high c d other new_is same = subst (HaveMet low high) (sym new_is) (λ x y at is.
    let first : x ≡ c = elim (set_case (slice_set old low c) high low d x at) [
      | inl here ↦ absurd (other here.0)
      | inr rest ↦ elim (set_case old low low c x rest.1) [
        | inl here ↦ here.1
        | inr others ↦ absurd (others.0 refl)
      ]
    ] in
    let second : y ≡ d = elim (set_case (slice_set old low c) high high d y is) [
      | inl here ↦ here.1
      | inr rest ↦ absurd (rest.0 refl)
    ] in
    ap (λ (l : Lane). l.pass.share.sight.seen) first ∙ same ∙ ap (λ (l : Lane). l.pass.share.sight.seen) (sym second))

-- Whichever of them is named first.
pub met_either : (one other : ℕ) (lanes : List Lane) → HaveMet one other lanes → HaveMet other one lanes
met_either one other lanes met = λ a b at is. sym (met b a is at)

-- ---- where all saw more

-- The lane at a place before.
lane_before : (old new : List Lane) (i : ℕ) (lane : Lane) → AllSaw old new → slice_get new i ≡ Some lane → At old i
lane_before old new i lane saw at = get_below old i (let below = slice_get_within new i lane at in let count = saw.count in omega arith)

pub sees_more : (low : ℕ) (old new : Lane) → LaneSaw old new → low ≤ length old.pass.share.sight.seen → low ≤ length new.pass.share.sight.seen
sees_more low old new saw seen =
    let wider : length old.pass.share.sight.seen ≤ length new.pass.share.sight.seen = front_length old.pass.share.sight.seen new.pass.share.sight.seen saw.saw.seen.seen.front in
    omega arith

-- They are at work as before.
pub work_saw : (o : Shared) (lines : List Line) (old new : List Lane) → AreAtWork o lines old → AllSaw old new → AreAtWork o lines new
work_saw o lines old new work saw = work_kept o lines old new work saw.count (λ i a b at is.
    let one : LaneSaw a b = saw.each i a b at is in
    let stopped : b.stopped ≡ a.stopped = ap (λ (l : Lane). l.stopped) one.same in
    (keeps_saw a b one (all_at IsReady old i a work.ready at), λ on. stands_saw a b one (all_at (λ (l : Lane). l.stopped ≡ false → Stands l) old i a work.stands at (sym stopped ∙ on))))

-- None was stopped.
pub on_saw : (old new : List Lane) → are_on old → AllSaw old new → are_on new
on_saw old new on saw = all_from (λ (l : Lane). l.stopped ≡ false) new (λ i b is.
    let was = lane_before old new i b saw is in
    ap (λ (l : Lane). l.stopped) (saw.each i was.x b was.is is).same ∙ all_at (λ (l : Lane). l.stopped ≡ false) old i was.x on was.is)

-- The pass of the lane at a place.
pub pass_at : (lanes : List Lane) (i : ℕ) (lane : Lane) → slice_get lanes i ≡ Some lane → slice_get (passes_of lanes) i ≡ Some lane.pass
pass_at lanes i lane at = slice_get-map (λ (l : Lane). l.pass) lanes i ∙ ap (option_map (λ (l : Lane). l.pass)) at

-- A lane that has a pass, at its place.
pub record HasPass (lanes : List Lane) (i : ℕ) (p : Passing) : Type 0 where
  pub lane : Lane
  pub at : slice_get lanes i ≡ Some lane
  pub is : lane.pass ≡ p

pub lane_of : (lanes : List Lane) (i : ℕ) (p : Passing) → slice_get (passes_of lanes) i ≡ Some p → HasPass lanes i p
lane_of [] i p at = absurd (none-some p at)
lane_of (l ∷ lanes) zero p at = record { lane = l; at = refl; is = same_Some l.pass p at }
lane_of (l ∷ lanes) (suc i) p at = let later = lane_of lanes i p at in record { lane = later.lane; at = later.at; is = later.is }

-- Their passes made nothing, and answered no line.
pub runs_saw : (lines : List Line) (n low : ℕ) (old new : List Lane) → HeadRuns lines n low (passes_of old) → AllSaw old new → HeadRuns lines n low (passes_of new)
runs_saw lines n low old new runs saw =
    let Own : Passing → Type 0 = λ p. AllByRecursion (InHead lines runs.ends) p.share.sight.own in
    record {
      ends = runs.ends;
      count = runs.count;
      most = runs.most;
      turns = all_mapped Own (λ (l : Lane). l.pass) new (λ i b is.
          let was = lane_before old new i b saw is in
          let own : b.pass.share.sight.own ≡ was.x.pass.share.sight.own = ap (λ (s : Sight Entry). s.own) (saw.each i was.x b was.is is).saw.seen.seen.same in
          subst (λ es. AllByRecursion (InHead lines runs.ends) es) (sym own) (all_at Own (passes_of old) i was.x.pass runs.turns (pass_at old i was.x was.is)));
      run = record {
        each = λ i p at.
            let its = lane_of new i p at in
            let was = lane_before old new i its.lane saw its.at in
            let one : LaneSaw was.x its.lane = saw.each i was.x its.lane was.is its.at in
            let had = runs.run.each i was.x.pass (pass_at old i was.x was.is) in
            subst (λ (q : Passing). (q.number ≡ i) × (q.lines ≡ length (lane_lines (take n lines) i))) its.is (ap (λ (q : Passing). q.number) one.saw.same ∙ had.0, ap (λ (q : Passing). q.lines) one.saw.same ∙ had.1);
      };
    }

-- ---- a lane meets another, and each other

-- Where the last one met another, that one has seen all of the head too.
met_sees : (low last other : ℕ) (old new : List Lane) → ((lane : Lane) → slice_get old last ≡ Some lane → low ≤ length lane.pass.share.sight.seen) → last < length old → AllSaw old new → HaveMet last other new → (lane : Lane) → slice_get new other ≡ Some lane → low ≤ length lane.pass.share.sight.seen
met_sees low last other old new sees within saw met lane at =
    let was = get_below old last within in
    let is = get_below new last (let count = saw.count in omega arith) in
    subst (λ (es : List Entry). low ≤ length es) (met is.x lane is.is at) (sees_more low was.x is.x (saw.each last was.x is.x was.is is.is) (sees was.x was.is))

pub head_met : (o : Shared) (lines : List Line) (n last other : ℕ) (old new : List Lane) → AreAtHead o lines n last old → last < length old → AllSaw old new → HaveMet last other new → AreAtHead o lines n other new
head_met o lines n last other old new head within saw met = record {
  work = work_saw o lines old new head.work saw;
  on = on_saw old new head.on saw;
  low = head.low;
  runs = runs_saw lines n head.low old new head.runs saw;
  saw = met_sees head.low last other old new head.saw within saw met;
}

-- The head is over, and the last one's lane met those before some place.
pub record AreMeeting (o : Shared) (lines : List Line) (n last below : ℕ) (lanes : List Lane) : Type 0 where
  pub work : AreAtWork o lines lanes
  pub on : are_on lanes
  pub low : ℕ
  pub runs : HeadRuns lines n low (passes_of lanes)
  pub saw : (lane : Lane) → slice_get lanes last ≡ Some lane → low ≤ length lane.pass.share.sight.seen
  pub met : (i : ℕ) (lane : Lane) → i < below → slice_get lanes i ≡ Some lane → low ≤ length lane.pass.share.sight.seen

-- Before it met any.
pub none_met : (o : Shared) (lines : List Line) (n last : ℕ) (lanes : List Lane) → AreAtHead o lines n last lanes → AreMeeting o lines n last 0 lanes
none_met o lines n last lanes head = record { work = head.work; on = head.on; low = head.low; runs = head.runs; saw = head.saw; met = λ i lane below at. absurd (omega arith) }

-- It met one more.
pub one_met : (o : Shared) (lines : List Line) (n last other : ℕ) (old new : List Lane) → AreMeeting o lines n last other old → last < length old → AllSaw old new → HaveMet last other new → AreMeeting o lines n last (other + 1) new
one_met o lines n last other old new so within saw met = record {
  work = work_saw o lines old new so.work saw;
  on = on_saw old new so.on saw;
  low = so.low;
  runs = runs_saw lines n so.low old new so.runs saw;
  saw = λ lane at.
      let was = get_below old last within in
      sees_more so.low was.x lane (saw.each last was.x lane was.is at) (so.saw was.x was.is);
  met = λ i lane below at. elim (cases_eq i other) [
    | inl here ↦ met_sees so.low last other old new so.saw within saw met lane (subst (λ k. slice_get new k ≡ Some lane) here at)
    | inr others ↦
        let was = lane_before old new i lane saw at in
        sees_more so.low was.x lane (saw.each i was.x lane was.is at) (so.met i was.x (omega arith) was.is)
  ];
}

-- It met all.
pub all_met : (o : Shared) (lines : List Line) (n last count : ℕ) (lanes : List Lane) → AreMeeting o lines n last count lanes → length lanes ≤ count → AreBehindHead o lines n lanes
all_met o lines n last count lanes so all = record {
  work = so.work;
  on = so.on;
  low = so.low;
  runs = so.runs;
  saw = all_from (λ (l : Lane). so.low ≤ length l.pass.share.sight.seen) lanes (λ i lane at. so.met i lane (let below = slice_get_within lanes i lane at in omega arith) at);
}
