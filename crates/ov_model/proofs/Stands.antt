-- A lane that stands by its own steps: other lanes' steps change nothing, one more step or replay step of its own, the line's answer, and its end.
use Rattle.std.proofs.Common.{ℕ, ◌≡◌, ◌+◌, ◌≤◌, ◌<◌, List, [], ◌∷◌, ◌++◌, length, zero, suc, refl, sym, ◌∙◌, ap, Bool, length-append, arith, ◌==◌}
use Rattle.std.specs.Prelude.{Some, slice_get}
use Rattle.std.specs.List.{AllByRecursion}
use Rattle.std.proofs.lemmas.List.{map-append}
use mathlib.Core.Option.{some}
use lib.ListN.{get_elem?}
use Rattle.ov_base.specs.declared.address.Addr.{Addr}
use Rattle.ov_model.specs.declared.place.Place.{Place}
use Rattle.ov_model.specs.declared.entry.Entry.{Entry}
use Rattle.ov_model.specs.declared.line.Line.{Line}
use Rattle.ov_model.specs.declared.answer.Answer.{Answer}
use Rattle.ov_model.specs.declared.replay.ReplayEntry.{ReplayEntry}
use Rattle.ov_model.specs.Tables.{Table, empty_table}
use Rattle.ov_model.specs.Step.{step}
use Rattle.ov_model.specs.Runs.{table_after}
use Rattle.ov_model.specs.Events.{Step, Judgement, judgement_of, steps_after, steps_of}
use Rattle.ov_model.specs.Path.{Path}
use Rattle.ov_model.specs.Keys.{key_of}
use Rattle.ov_model.specs.Legal.{LaneMeets}
use Rattle.ov_model.specs.Lanes.{judged_in}
use Rattle.ov_model.specs.Own.{mine, mine_shards, if_any, picked, positions, AreAll, own_by, RiseFrom, steps_at, LaneStands}
use Rattle.ov_model.proofs.Going.{steps_after-append}
use Rattle.ov_model.proofs.Lanes.{AtPlace, Knows, all_append, all_weaker, own_steps, own_judged, line_done, lane_knows, lane_done}
use Rattle.ov_model.proofs.Mine.{lane_whole}
use Rattle.ov_model.proofs.Picked.{at_passes, elem_within, picked_front, picked-append, picked_along}

-- ---- the steps of a history at some positions

pub length-steps_after : (t : Table) (es : List Entry) → length (steps_after t es) ≡ length es
length-steps_after t [] = refl
length-steps_after t (e ∷ es) = ap suc (length-steps_after (step t e.call).after es)

-- A longer history has the same steps there.
pub own_stays : (seen rest : List Entry) (own : List (ℕ × Entry)) → AllByRecursion (λ e. e.0 < length seen) own → steps_at (seen ++ rest) own ≡ steps_at seen own
own_stays seen rest own below =
    let long : length (steps_of seen) ≡ length seen = length-steps_after empty_table seen in
    rw (steps_after-append empty_table seen rest) (picked_front (steps_of seen) (steps_after (table_after empty_table seen) rest) (positions own) (rw long (all_positions (λ p. p < length seen) own below)))
  where
    all_positions : (P : ℕ → Type 0) (own : List (ℕ × Entry)) → AllByRecursion (λ e. P e.0) own → AllByRecursion P (positions own)
    all_positions P [] all = tt
    all_positions P (e ∷ own) all = (all.0, all_positions P own all.1)

-- More positions, behind what was seen.
rise_lower : (b c : ℕ) (ps : List ℕ) → b ≤ c → RiseFrom c ps → RiseFrom b ps
rise_lower b c [] least rise = tt
rise_lower b c (p ∷ ps) least rise = (let above : c ≤ p = rise.0 in omega arith, rise.1)

rise_append : (b c : ℕ) (own new : List (ℕ × Entry)) → RiseFrom b (positions own) → AllByRecursion (λ e. e.0 < c) own → b ≤ c → RiseFrom c (positions new) → RiseFrom b (positions (own ++ new))
rise_append b c [] new rise below least more = rise_lower b c (positions new) least more
rise_append b c (e ∷ own) new rise below least more = (rise.0, rise_append (suc e.0) c own new rise.1 below.1 below.0 more)

pub steps_at-append : (seen : List Entry) (own new : List (ℕ × Entry)) → steps_at seen (own ++ new) ≡ steps_at seen own ++ steps_at seen new
steps_at-append seen own new = ap (picked (steps_of seen)) (map-append (λ (e : ℕ × Entry). e.0) own new) ∙ picked-append (steps_of seen) (positions own) (positions new)

-- ---- a lane that stands

-- Other lanes' steps behind what it has seen change nothing for it.
pub stands_grows : {via : Addr → Addr} {lane : ℕ} {own : List (ℕ × Entry)} {shards : List (List ReplayEntry)} {lines : List Line} {answers : List Answer} {now : List Step} {judged : List Judgement} (seen rest : List Entry) → Knows (key_of seen) (key_of (seen ++ rest))
    → LaneStands via lane seen own shards lines answers now judged → LaneStands via lane (seen ++ rest) own shards lines answers now judged
stands_grows {via} {lane} {own} {shards} {lines} {answers} {now} {judged} seen rest knows stands = record {
  rise = stands.rise;
  below = all_weaker (λ e. e.0 < length seen) (λ e. e.0 < length (seen ++ rest)) (λ e below. let long : length (seen ++ rest) ≡ length seen + length rest = length-append seen rest in let before : e.0 < length seen = below in omega arith) own stands.below;
  placed = stands.placed;
  runs = rw (own_stays seen rest own stands.below) (lane_knows (key_of seen) (key_of (seen ++ rest)) via (steps_at seen own) shards lane lines answers now judged knows stands.runs);
}

-- More steps of its line under way, behind what it had seen.
pub stands_steps : {via : Addr → Addr} {lane : ℕ} {own : List (ℕ × Entry)} {shards : List (List ReplayEntry)} {lines : List Line} {answers : List Answer} {now : List Step} {judged : List Judgement} (seen rest : List Entry) (new : List (ℕ × Entry)) (ss : List Step) → Knows (key_of seen) (key_of (seen ++ rest))
    → LaneStands via lane seen own shards lines answers now judged → RiseFrom (length seen) (positions new) → AllByRecursion (λ e. e.0 < length (seen ++ rest)) new → AllByRecursion (λ e. e.1.place.lane ≡ lane) new → steps_at (seen ++ rest) new ≡ ss → AllByRecursion (AtPlace lane (length answers)) ss
    → LaneStands via lane (seen ++ rest) (own ++ new) shards lines answers (now ++ ss) judged
stands_steps {via} {lane} {own} {shards} {lines} {answers} {now} {judged} seen rest new ss knows stands late below lanes are places =
    let more = stands_grows seen rest knows stands in
    record {
      rise = rise_append 0 (length seen) own new stands.rise stands.below (omega arith) late;
      below = all_append (λ e. e.0 < length (seen ++ rest)) own new more.below below;
      placed = all_append (λ e. e.1.place.lane ≡ lane) own new stands.placed lanes;
      runs = rw (steps_at-append (seen ++ rest) own new, are) (own_steps (steps_at (seen ++ rest) own) ss shards lane lines answers now judged more.runs places);
    }

-- One more.
pub stands_step : {via : Addr → Addr} {lane : ℕ} {own : List (ℕ × Entry)} {shards : List (List ReplayEntry)} {lines : List Line} {answers : List Answer} {now : List Step} {judged : List Judgement} (seen rest : List Entry) (at : ℕ) (s : Step) → Knows (key_of seen) (key_of (seen ++ rest))
    → LaneStands via lane seen own shards lines answers now judged → length seen ≤ at → get_elem? (steps_of (seen ++ rest)) at ≡ some s → s.entry.place ≡ record { lane = lane; line = length answers }
    → LaneStands via lane (seen ++ rest) (own ++ (at, s.entry) ∷ []) shards lines answers (now ++ s ∷ []) judged
stands_step {lane = lane} seen rest at s knows stands late is place =
    let within : at < length (steps_of (seen ++ rest)) = elem_within (steps_of (seen ++ rest)) at s is in
    let long : length (steps_of (seen ++ rest)) ≡ length (seen ++ rest) = length-steps_after empty_table (seen ++ rest) in
    stands_steps seen rest ((at, s.entry) ∷ []) (s ∷ []) knows stands (late, tt) (omega arith, tt) (ap (λ (p : Place). p.lane) place, tt) (ap (λ o. if_any o ++ []) is) (place, tt)

-- Its replay step.
pub stands_judged : {via : Addr → Addr} {lane : ℕ} {seen : List Entry} {own : List (ℕ × Entry)} {shards : List (List ReplayEntry)} {lines : List Line} {answers : List Answer} {now : List Step} (k : ℕ) (r : ReplayEntry)
    → LaneStands via lane seen own shards lines answers now [] → k < length shards → r.place ≡ record { lane = lane; line = length answers } → LaneStands via lane seen own (judged_in shards k r) lines answers now (judgement_of r ∷ [])
stands_judged {via} {lane} {seen} {own} {shards} {lines} {answers} {now} k r stands below place = record { rise = stands.rise; below = stands.below; placed = stands.placed; runs = own_judged (steps_at seen own) shards k r lane lines answers now stands.runs below place }

-- Its line is answered, and what the line made has a path.
pub stands_done : {via : Addr → Addr} {lane : ℕ} {seen : List Entry} {own : List (ℕ × Entry)} {shards : List (List ReplayEntry)} {lines : List Line} {answers : List Answer} {now : List Step} {judged : List Judgement} (line : Line) (a : Answer)
    → LaneStands via lane seen own shards lines answers now judged → slice_get lines (length answers) ≡ Some line → Path (key_of seen) via (record { lane = lane; line = length answers }) line now judged a → LaneStands via lane seen own shards lines (answers ++ a ∷ []) [] []
stands_done {via} {lane} {seen} {own} {shards} {lines} {answers} {now} {judged} line a stands line_is path = record { rise = stands.rise; below = stands.below; placed = stands.placed; runs = line_done (steps_at seen own) shards lane lines line answers a now judged stands.runs line_is path }

-- ---- at the end of a run

-- A step passes a test of entries as its entry does.
passes_along : (test : Entry → Bool) (t : Table) (es : List Entry) (p : ℕ) → at_passes test (get_elem? es p) ≡ at_passes (λ (s : Step). test s.entry) (get_elem? (steps_after t es) p)
passes_along test t [] p = refl
passes_along test t (e ∷ es) zero = refl
passes_along test t (e ∷ es) (suc p) = passes_along test (step t e.call).after es p

-- Of a whole history a lane's entries pick the lane's steps.
pub mine_whole : (lane : ℕ) (journal : List Entry) (all : List (ℕ × Entry)) → AreAll journal all → RiseFrom 0 (positions (own_by lane all)) → steps_at journal (own_by lane all) ≡ mine lane (steps_of journal)
mine_whole lane journal all whole rise =
    picked_along (λ (e : Entry). e.place.lane == lane) (λ (s : Step). s.entry.place.lane == lane) journal (steps_of journal) all (passes_along (λ e. e.place.lane == lane) empty_table journal) whole rise

-- A lane that stands with nothing under way, and whose entries are all that the history has of it, is done.
pub stands_whole : {via : Addr → Addr} {lane : ℕ} {journal : List Entry} {own : List (ℕ × Entry)} {lines : List Line} {answers : List Answer} (shards : List (List ReplayEntry)) (all : List (ℕ × Entry))
    → LaneStands via lane journal own (mine_shards lane shards) lines answers [] [] → AreAll journal all → own_by lane all ≡ own → LaneMeets (key_of journal) via (steps_of journal) shards lane lines answers
stands_whole {via} {lane} {journal} {own} {lines} {answers} shards all stands whole is =
    let rise : RiseFrom 0 (positions (own_by lane all)) = rw is stands.rise in
    let steps : steps_at journal own ≡ mine lane (steps_of journal) = ap (steps_at journal) (sym is) ∙ mine_whole lane journal all whole rise in
    lane_whole (steps_of journal) shards lane lines answers (lane_done (mine lane (steps_of journal)) (mine_shards lane shards) lane lines answers (rw (← steps) stands.runs))
