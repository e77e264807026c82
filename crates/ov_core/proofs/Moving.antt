-- What a lane's own steps say of it after an event: another lane's step changes nothing but that more keys may
-- be known, and its own step, replay step or answer is one more.
use Rattle.std.proofs.Common.{ℕ, ◌≡◌, ◌≢◌, ◌<◌, List, [], ◌∷◌, ◌++◌, length, refl, sym, ◌∙◌, ap, append-nil, arith}
use Rattle.std.specs.Prelude.{Option, Some, None, slice_get}
use Rattle.std.specs.Option.{option_or}
use Rattle.std.proofs.lemmas.List.{length-map}
use Rattle.ov_base.specs.declared.address.Addr.{Addr}
use Rattle.ov_model.specs.declared.place.Place.{Place}
use Rattle.ov_model.specs.declared.act.Call.{Call}
use Rattle.ov_model.specs.declared.entry.Entry.{Entry}
use Rattle.ov_model.specs.declared.line.Line.{Line}
use Rattle.ov_model.specs.declared.answer.Answer.{Answer}
use Rattle.ov_model.specs.declared.replay.ReplayEntry.{ReplayEntry}
use Rattle.ov_model.specs.Tables.{Material, empty_table}
use Rattle.ov_model.specs.Step.{step}
use Rattle.ov_model.specs.Runs.{last_table}
use Rattle.ov_model.specs.Events.{Event, Stepped, Judged, Step, judgement_of, steps_of, steps_in, judgements_in}
use Rattle.ov_model.specs.Keys.{key_of, key_by}
use Rattle.ov_model.specs.Lanes.{LaneRuns, judged_in}
use Rattle.ov_model.specs.Own.{mine, mine_judged, mine_shards}
use Rattle.ov_model.specs.Path.{Path}
use Rattle.ov_model.proofs.Going.{steps_after-append}
use Rattle.ov_model.proofs.Lanes.{Knows, own_steps, own_judged, line_done, lane_knows, rise_judged}
use Rattle.ov_model.proofs.Mine.{mine_own, mine_other, shards_own, shards_other}
use Rattle.ov_table.specs.Recorded.{Recorded, stepped, entry_of}
use Rattle.ov_path.proofs.Seeing.{steps_in-append, judgements_in-append}
use Rattle.ov_core.specs.Worlds.{Seat}
use Rattle.ov_core.specs.Sessions.{Lane, place_of}
use Rattle.ov_core.specs.Sounds.{LaneSound}

-- ---- journals that go on

either_key : (o p q : Option Material) → option_or (option_or o p) q ≡ option_or o (option_or p q)
either_key None p q = refl
either_key (Some m) p q = refl

pub key_of-append : (es fs : List Entry) (key : ℕ) → key_of (es ++ fs) key ≡ option_or (key_of es key) (key_of fs key)
key_of-append [] fs key = refl
key_of-append (e ∷ es) fs key = rw (key_of-append es fs key) (sym (either_key (key_by e.call.act e.reply key) (key_of es key) (key_of fs key)))

-- What a journal knows of the keys stays known.
pub key_of_more : (es fs : List Entry) → Knows (key_of es) (key_of (es ++ fs))
key_of_more es fs key m known = key_of-append es fs key ∙ rw known refl

-- The step of a call at a recorded table.
abbrev pub step_made : Recorded → Place → Call → Step
step_made r place call = record { entry = entry_of r.now place call; taken = (step r.now call).taken }

-- The steps of a journal with one more.
pub steps_more : (r : Recorded) (place : Place) (call : Call) → last_table r.journal ≡ r.now → steps_of (stepped r place call).journal ≡ steps_of r.journal ++ step_made r place call ∷ []
steps_more r place call last = steps_after-append empty_table r.journal (entry_of r.now place call ∷ []) ∙ rw last refl

-- ---- a lane that runs, with one event more

module _ {material : ℕ → Option Material} {via : Addr → Addr} {steps : List Step} {shards : List (List ReplayEntry)} {i : ℕ} {lines : List Line} {answers : List Answer} where
  pub runs_step : (es : List Event) (s : Step) → s.entry.place ≡ record { lane = i; line = length answers } → LaneRuns material via steps shards i lines answers (steps_in es) (judgements_in es)
      → LaneRuns material via (steps ++ s ∷ []) shards i lines answers (steps_in (es ++ Stepped s ∷ [])) (judgements_in (es ++ Stepped s ∷ []))
  runs_step es s at runs =
      rw (steps_in-append es (Stepped s ∷ []), judgements_in-append es (Stepped s ∷ []), append-nil (judgements_in es))
      (own_steps steps (s ∷ []) shards i lines answers (steps_in es) (judgements_in es) runs (at, tt))

  pub runs_judged : (es : List Event) (k : ℕ) (r : ReplayEntry) → r.place ≡ record { lane = i; line = length answers } → k < length shards → judgements_in es ≡ [] → LaneRuns material via steps shards i lines answers (steps_in es) (judgements_in es)
      → LaneRuns material via steps (judged_in shards k r) i lines answers (steps_in (es ++ Judged (judgement_of r) ∷ [])) (judgements_in (es ++ Judged (judgement_of r) ∷ []))
  runs_judged es k r at below none runs =
      let none_yet : LaneRuns material via steps shards i lines answers (steps_in es) [] = rw (← none) runs in
      rw (steps_in-append es (Judged (judgement_of r) ∷ []), judgements_in-append es (Judged (judgement_of r) ∷ []), none, append-nil (steps_in es))
      (own_judged steps shards k r i lines answers (steps_in es) none_yet below at)

  -- An event that is no step and no replay step.
  pub runs_quiet : (es : List Event) (e : Event) → steps_in (e ∷ []) ≡ [] → judgements_in (e ∷ []) ≡ [] → LaneRuns material via steps shards i lines answers (steps_in es) (judgements_in es)
      → LaneRuns material via steps shards i lines answers (steps_in (es ++ e ∷ [])) (judgements_in (es ++ e ∷ []))
  runs_quiet es e no_step not_judged runs =
      rw (steps_in-append es (e ∷ []), judgements_in-append es (e ∷ []), no_step, not_judged, append-nil (steps_in es), append-nil (judgements_in es)) runs

-- ---- all lanes after an event of one

-- What holds of a lane by a journal and the shards.
abbrev pub Runs : (Addr → Addr) → List Entry → List (List ReplayEntry) → ℕ → Lane → List Event → Type 0
Runs via journal shards i lane es = LaneRuns (key_of journal) via (mine i (steps_of journal)) (mine_shards i shards) i lane.lines lane.answers (steps_in es) (judgements_in es)

-- Another lane made a step.
pub other_step : (via : Addr → Addr) (r : Recorded) (shards : List (List ReplayEntry)) (place : Place) (call : Call) (k : ℕ) (lane : Lane) (es : List Event) → last_table r.journal ≡ r.now → place.lane ≢ k → Runs via r.journal shards k lane es → Runs via (stepped r place call).journal shards k lane es
other_step via r shards place call k lane es last other runs =
    let same : mine k (steps_of (stepped r place call).journal) ≡ mine k (steps_of r.journal) = ap (mine k) (steps_more r place call last) ∙ mine_other k (steps_of r.journal) (step_made r place call) other in
    rw same (lane_knows (key_of r.journal) (key_of (stepped r place call).journal) via (mine k (steps_of r.journal)) (mine_shards k shards) k lane.lines lane.answers (steps_in es) (judgements_in es) (key_of_more r.journal (entry_of r.now place call ∷ [])) runs)

-- The lane itself did.
pub own_step : (via : Addr → Addr) (r : Recorded) (shards : List (List ReplayEntry)) (place : Place) (call : Call) (i : ℕ) (lane : Lane) (es : List Event) → last_table r.journal ≡ r.now → place ≡ place_of i lane → Runs via r.journal shards i lane es
    → Runs via (stepped r place call).journal shards i lane (es ++ Stepped (step_made r place call) ∷ [])
own_step via r shards place call i lane es last at runs =
    let s : Step = step_made r place call in
    let more : mine i (steps_of (stepped r place call).journal) ≡ mine i (steps_of r.journal) ++ s ∷ [] = ap (mine i) (steps_more r place call last) ∙ mine_own i (steps_of r.journal) s (ap (λ (p : Place). p.lane) at) in
    let known : LaneRuns (key_of (stepped r place call).journal) via (mine i (steps_of r.journal)) (mine_shards i shards) i lane.lines lane.answers (steps_in es) (judgements_in es) =
    lane_knows (key_of r.journal) (key_of (stepped r place call).journal) via (mine i (steps_of r.journal)) (mine_shards i shards) i lane.lines lane.answers (steps_in es) (judgements_in es) (key_of_more r.journal (entry_of r.now place call ∷ [])) runs in
    rw more (runs_step es s at known)

-- Another lane made a replay step.
pub other_judged : (via : Addr → Addr) (journal : List Entry) (shards : List (List ReplayEntry)) (shard : ℕ) (r : ReplayEntry) (k : ℕ) (lane : Lane) (s : Seat) → r.place.lane ≢ k → LaneSound via journal shards k lane s → LaneSound via journal (judged_in shards shard r) k lane s
other_judged via journal shards shard r k lane s other sound =
    let same : mine_shards k (judged_in shards shard r) ≡ mine_shards k shards = shards_other k shards shard r other in
    record { runs = rw same sound.runs; rise = rw same sound.rise }

-- The lane itself did: its first of the line under way.
pub own_judged_step : (via : Addr → Addr) (journal : List Entry) (shards : List (List ReplayEntry)) (shard : ℕ) (r : ReplayEntry) (i : ℕ) (lane : Lane) (s : Seat) → r.place ≡ place_of i lane → shard < length shards → judgements_in s.events ≡ [] → LaneSound via journal shards i lane s
    → LaneSound via journal (judged_in shards shard r) i lane (record s { events = s.events ++ Judged (judgement_of r) ∷ [] })
own_judged_step via journal shards shard r i lane s at below none sound =
    let more : mine_shards i (judged_in shards shard r) ≡ judged_in (mine_shards i shards) shard r = shards_own i shards shard r (ap (λ (p : Place). p.lane) at) in
    let long : length (mine_shards i shards) ≡ length shards = length-map shards (mine_judged i) in
    let within : shard < length (mine_shards i shards) = omega arith in
    record {
      runs = rw more (runs_judged s.events shard r at within none sound.runs);
      rise = rw more (rise_judged (mine_shards i shards) shard r i (length lane.answers) sound.rise sound.runs.judged_within (sound.runs.judging ∙ none) (ap (λ (p : Place). p.line) at));
    }

-- The line under way was answered.
pub own_answered : (via : Addr → Addr) (journal : List Entry) (shards : List (List ReplayEntry)) (i : ℕ) (lane : Lane) (s t : Seat) (line : Line) (a : Answer) → slice_get lane.lines (length lane.answers) ≡ Some line → Path (key_of journal) via (place_of i lane) line (steps_in s.events) (judgements_in s.events) a → t.events ≡ [] → LaneSound via journal shards i lane s
    → LaneSound via journal shards i (record lane { answers = lane.answers ++ a ∷ [] }) t
own_answered via journal shards i lane s t line a line_is path none sound = record {
  runs = rw none (line_done (mine i (steps_of journal)) (mine_shards i shards) i lane.lines line lane.answers a (steps_in s.events) (judgements_in s.events) sound.runs line_is path);
  rise = sound.rise;
}
