-- What each event of a lane's line keeps true of the lane's own steps, and the line's answer.
use Rattle.std.proofs.Common.{ℕ, ◌≡◌, ◌≢◌, ◌+◌, ◌%◌, ◌<◌, zero, suc, List, [], ◌∷◌, ◌++◌, length, refl, sym, ◌∙◌, ap, subst, arith, append-nil, append_assoc, inl, inr}
use Rattle.std.specs.Prelude.{Some, slice_get, map, get_or}
use Rattle.std.specs.List.{AllByRecursion, AllPairs, range_with_len}
use Rattle.std.proofs.lemmas.Bool.{cases_eq, eq-eqb, ne_eqb}
use Rattle.std.proofs.lemmas.List.{map-append}
use Rattle.std.proofs.lemmas.List.Elements.{Contains-append_left}
use Rattle.std.proofs.lemmas.List.Quantifiers.{all_pairs_push}
use mathlib.Core.Option.{some}
use lib.ListN.{get_elem?}
use Rattle.ov_base.specs.declared.address.Addr.{Addr}
use Rattle.ov_draw.specs.Drawer.{Drawer, IsAbove}
use Rattle.ov_model.specs.declared.act.Act.{Act}
use Rattle.ov_model.specs.declared.act.Act.TheVariants as act
use Rattle.ov_model.specs.declared.answer.Answer.{Answer}
use Rattle.ov_model.specs.declared.draw.Drawn.{Drawn}
use Rattle.ov_model.specs.declared.draw.Drawn.TheVariants as drawn
use Rattle.ov_model.specs.declared.entry.Entry.{Entry}
use Rattle.ov_model.specs.declared.line.Line.{Line}
use Rattle.ov_model.specs.declared.place.Place.{Place}
use Rattle.ov_model.specs.declared.replay.ReplayEntry.{ReplayEntry}
use Rattle.ov_model.specs.declared.replay.Verdict.{Verdict}
use Rattle.ov_model.specs.Events.{Event, Stepped, Judged, Drew, GaveKey, GavePeer, Step, Judgement, DrawnId, judgement_of, steps_of, steps_in, judgements_in, draws_in}
use Rattle.ov_model.specs.Keys.{key_of, sealed_in, sealed_ids, ids_under}
use Rattle.ov_model.specs.Lanes.{judged_in}
use Rattle.ov_model.specs.Legal.{LinesRise}
use Rattle.ov_model.specs.Limits.{shard_count}
use Rattle.ov_model.specs.Own.{LaneStands}
use Rattle.ov_model.specs.Path.{Path}
use Rattle.ov_model.specs.Replay.{judged}
use Rattle.ov_model.proofs.Counting.{draws_in-append, ids_under-append}
use Rattle.ov_model.proofs.Lanes.{Knows, all_append, all_weaker, all_judged, rise_judged}
use Rattle.ov_model.proofs.Stands.{stands_grows, stands_step, stands_judged, stands_done}
use Rattle.ov_path.specs.Walks.{IsOwn}
use Rattle.ov_path.proofs.Seeing.{steps_in-append, judgements_in-append}
use Rattle.ov_replay.specs.Desk.{Part, part_at}
use Rattle.ov_share.specs.Shares.{Sharing, HasDrawn}
use Rattle.ov_share.specs.Makings.{SpendKnown, HasMade, HasJudged, HasGiven, Makes, SawMore}
use Rattle.ov_share.specs.Keepings.{replays_of, drawn_as, LaneKept}
use Rattle.ov_table.proofs.Installed.{key_of-append}
use Rattle.ov_desk.specs.Sittings.{JudgesFirst}

-- ---- lists

module _ {X : Type 0} where
  map_same : (f g : ℕ → X) → ((i : ℕ) → f i ≡ g i) → (ns : List ℕ) → map f ns ≡ map g ns
  map_same f g same [] = refl
  map_same f g same (n ∷ ns) = ap (λ x. x ∷ map f ns) (same n) ∙ ap (λ xs. g n ∷ xs) (map_same f g same ns)

-- Numbered lists before and after one of them has a member more.
map_before : (f g : ℕ → List ReplayEntry) (first count k : ℕ) → ((i : ℕ) → i ≢ k → g i ≡ f i) → k < first → map g (range_with_len first count) ≡ map f (range_with_len first count)
map_before f g first zero k others before = refl
map_before f g first (suc count) k others before =
    ap (λ x. x ∷ map g (range_with_len (first + 1) count)) (others first (λ same. absurd (omega arith))) ∙ ap (λ xs. f first ∷ xs) (map_before f g (first + 1) count k others (omega arith))

map_judged : (f g : ℕ → List ReplayEntry) (r : ReplayEntry) (first count k : ℕ) → ((i : ℕ) → i ≢ first + k → g i ≡ f i) → g (first + k) ≡ f (first + k) ++ r ∷ [] → k < count → map g (range_with_len first count) ≡ judged_in (map f (range_with_len first count)) k r
map_judged f g r first zero k others here below = absurd (omega arith)
map_judged f g r first (suc count) zero others here below =
    let start : first + 0 ≡ first = omega arith in
    ap (λ x. x ∷ map g (range_with_len (first + 1) count)) (subst (λ i. g i ≡ f i ++ r ∷ []) start here) ∙ ap (λ xs. (f first ++ r ∷ []) ∷ xs) (map_before f g (first + 1) count (first + 0) others (omega arith))
map_judged f g r first (suc count) (suc k) others here below =
    let at : first + suc k ≡ first + 1 + k = omega arith in
    ap (λ x. x ∷ map g (range_with_len (first + 1) count)) (others first (λ same. absurd (omega arith))) ∙ ap (λ xs. f first ∷ xs) (map_judged f g r (first + 1) count k (subst (λ n. (i : ℕ) → i ≢ n → g i ≡ f i) at others) (subst (λ n. g n ≡ f n ++ r ∷ []) at here) (omega arith))

below_at : (bound : ℕ) (xs : List ℕ) → AllByRecursion (λ n. n < bound) xs → (k d : ℕ) → k < length xs → get_or xs k d < bound
below_at bound [] all k d short = absurd (omega arith)
below_at bound (x ∷ xs) all zero d short = all.0
below_at bound (x ∷ xs) all (suc k) d short = below_at bound xs all.1 k d (omega arith)

-- ---- histories, draws and spent keys

-- What is known of the keys stays known.
pub knows_more : (es fs : List Entry) → Knows (key_of es) (key_of (es ++ fs))
knows_more es fs key m known = key_of-append es fs key ∙ rw known refl

-- A key that was found spent is so later.
spend_known : (spent more : List ℕ) (a : Act) → SpendKnown spent a → SpendKnown (spent ++ more) a
spend_known spent more (act.Do c) known = tt
spend_known spent more (act.TxLook a) known = tt
spend_known spent more (act.RxLook id key_id from) known = tt
spend_known spent more (act.Sent peer inner outer ping) known = tt
spend_known spent more (act.Settle peer from kind inner outer) known = tt
spend_known spent more (act.Spend peer key) known = Contains-append_left spent more key known
spend_known spent more (act.KeepLook peer) known = tt
spend_known spent more (act.Released peer) known = tt
spend_known spent more (act.KeyReleased key) known = tt

-- An id that is above those that were drawn of its key.
ids_below : (key n : ℕ) (ds : List DrawnId) → IsAbove key n (map drawn_as ds) → AllByRecursion (λ m. m < n) (ids_under key ds)
ids_below key n [] above = tt
ids_below key n (d ∷ ds) above =
    let later : AllByRecursion (λ m. m < n) (ids_under key ds) = ids_below key n ds (λ m some. above m (omega (arith, some))) in
    elim (cases_eq d.key key) [
      | inl same ↦ rw (eq-eqb d.key key same) (above d.id (rw (eq-eqb d.key key same, eq-eqb d.id d.id refl) (omega arith)), later)
      | inr other ↦ rw (ne_eqb d.key key other) later
    ]

-- The ids of each key rise, with one more above them.
rises_more : (key n : ℕ) (ds : List DrawnId) → IsAbove key n (map drawn_as ds) → ((k : ℕ) → AllPairs (λ a b. a < b) (ids_under k ds)) → (k : ℕ) → AllPairs (λ a b. a < b) (ids_under k (ds ++ record { key = key; id = n } ∷ []))
rises_more key n ds above rises k =
    let d : DrawnId = record { key = key; id = n } in
    let parts : ids_under k (ds ++ d ∷ []) ≡ ids_under k ds ++ ids_under k (d ∷ []) = ids_under-append k ds (d ∷ []) in
    subst (λ ns. AllPairs (λ a b. a < b) ns) (sym parts) (elim (cases_eq key k) [
      | inl same ↦
          let own : ids_under k (d ∷ []) ≡ n ∷ [] = rw (eq-eqb key k same) refl in
          let below : AllByRecursion (λ m. m < n) (ids_under k ds) = subst (λ x. AllByRecursion (λ m. m < n) (ids_under x ds)) same (ids_below key n ds above) in
          subst (λ ns. AllPairs (λ a b. a < b) (ids_under k ds ++ ns)) (sym own) (all_pairs_push (λ a b. a < b) (ids_under k ds) n (rises k) (below_at n (ids_under k ds) below))
      | inr other ↦
          let none : ids_under k (d ∷ []) ≡ [] = rw (ne_eqb key k other) refl in
          subst (λ ns. AllPairs (λ a b. a < b) ns) (sym (ap (λ ns. ids_under k ds ++ ns) none ∙ append-nil (ids_under k ds))) (rises k)
    ])

quiet_draws : (es : List Event) (e : Event) → draws_in (e ∷ []) ≡ [] → draws_in (es ++ e ∷ []) ≡ draws_in es
quiet_draws es e none = draws_in-append es (e ∷ []) ∙ ap (λ ds. draws_in es ++ ds) none ∙ append-nil (draws_in es)

quiet_steps : (es : List Event) (e : Event) → steps_in (e ∷ []) ≡ [] → steps_in (es ++ e ∷ []) ≡ steps_in es
quiet_steps es e none = steps_in-append es (e ∷ []) ∙ ap (λ ss. steps_in es ++ ss) none ∙ append-nil (steps_in es)

quiet_judgements : (es : List Event) (e : Event) → judgements_in (e ∷ []) ≡ [] → judgements_in (es ++ e ∷ []) ≡ judgements_in es
quiet_judgements es e none = judgements_in-append es (e ∷ []) ∙ ap (λ js. judgements_in es ++ js) none ∙ append-nil (judgements_in es)

-- ---- a lane's own steps, part by part

replays_same : (s t : Sharing) → t.parts ≡ s.parts → replays_of t ≡ replays_of s
replays_same s t same = ap (λ ps. map (λ i. map (λ e. e.1) (part_at ps i).own) (range_with_len 0 shard_count)) same

module _ {via : Addr → Addr} {lane : ℕ} {lines : List Line} {answers : List Answer} where
  standing_as : (seen seen' : List Entry) (own own' : List (ℕ × Entry)) (shards shards' : List (List ReplayEntry)) (now now' : List Step) (js js' : List Judgement) → seen' ≡ seen → own' ≡ own → shards' ≡ shards → now' ≡ now → js' ≡ js
      → LaneStands via lane seen own shards lines answers now js → LaneStands via lane seen' own' shards' lines answers now' js'
  standing_as seen seen' own own' shards shards' now now' js js' a b c d e stands = rw (a, b, c, d, e) stands

  -- An event that draws nothing.
  kept_quiet : (es : List Event) (e : Event) (s t : Sharing) → LaneKept via lane lines answers es s → draws_in (e ∷ []) ≡ [] → t.drawer ≡ s.drawer
      → LaneStands via lane t.sight.seen t.sight.own (replays_of t) lines answers (steps_in (es ++ e ∷ [])) (judgements_in (es ++ e ∷ [])) → AllByRecursion (LinesRise lane) (replays_of t) → AllByRecursion (AllByRecursion (λ r. r.place.lane ≡ lane)) (replays_of t)
      → AllByRecursion (λ e. SpendKnown s.drawer.spent e.1.call.act) t.sight.own → LaneKept via lane lines answers (es ++ e ∷ []) t
  kept_quiet es e s t kept none drawer stands replays placed spent =
      let quiet : draws_in (es ++ e ∷ []) ≡ draws_in es = quiet_draws es e none in
      record {
        stands = stands;
        replays = replays;
        judged_placed = placed;
        drawn = ap (λ (d : Drawer). d.drawn) drawer ∙ kept.drawn ∙ ap (λ ds. map drawn_as (sealed_in answers ++ ds)) (sym quiet);
        rises = λ key. subst (λ ds. AllPairs (λ m n. m < n) (ids_under key (sealed_in answers ++ ds))) (sym quiet) (kept.rises key);
        spent = subst (λ (d : Drawer). AllByRecursion (λ e. SpendKnown d.spent e.1.call.act) t.sight.own) (sym drawer) spent;
      }

  -- A step of the table.
  pub kept_made : (es : List Event) (s t : Sharing) (st : Step) → LaneKept via lane lines answers es s → HasMade s t st → st.entry.place ≡ record { lane = lane; line = length answers } → LaneKept via lane lines answers (es ++ Stepped st ∷ []) t
  kept_made es s t st kept made place =
      let rest : List Entry = made.front.0 in
      let replays : replays_of t ≡ replays_of s = replays_same s t (ap (λ (x : Sharing). x.parts) made.same) in
      let now : steps_in (es ++ Stepped st ∷ []) ≡ steps_in es ++ st ∷ [] = steps_in-append es (Stepped st ∷ []) in
      let is : get_elem? (steps_of (s.sight.seen ++ rest)) made.at ≡ some st = subst (λ seen. get_elem? (steps_of seen) made.at ≡ some st) (sym made.front.1) made.is in
      let stands : LaneStands via lane (s.sight.seen ++ rest) (s.sight.own ++ (made.at, st.entry) ∷ []) (replays_of s) lines answers (steps_in es ++ st ∷ []) (judgements_in es) =
      stands_step s.sight.seen rest made.at st (knows_more s.sight.seen rest) kept.stands made.late is place in
      kept_quiet es (Stepped st) s t kept refl (ap (λ (x : Sharing). x.drawer) made.same)
      (standing_as _ t.sight.seen _ t.sight.own _ (replays_of t) _ (steps_in (es ++ Stepped st ∷ [])) _ (judgements_in (es ++ Stepped st ∷ [])) (sym made.front.1) made.own replays now (quiet_judgements es (Stepped st) refl) stands)
      (subst (AllByRecursion (LinesRise lane)) (sym replays) kept.replays)
      (subst (AllByRecursion (AllByRecursion (λ r. r.place.lane ≡ lane))) (sym replays) kept.judged_placed)
      (subst (AllByRecursion (λ e. SpendKnown s.drawer.spent e.1.call.act)) (sym made.own) (all_append (λ e. SpendKnown s.drawer.spent e.1.call.act) s.sight.own ((made.at, st.entry) ∷ []) kept.spent (made.spent, tt)))

  -- A give-back.
  pub kept_given : (es : List Event) (e : Event) (s t : Sharing) → steps_in (e ∷ []) ≡ [] → judgements_in (e ∷ []) ≡ [] → draws_in (e ∷ []) ≡ [] → LaneKept via lane lines answers es s → HasGiven s t → LaneKept via lane lines answers (es ++ e ∷ []) t
  kept_given es e s t no_step no_judgement no_draw kept given =
      let replays : replays_of t ≡ replays_of s = replays_same s t (ap (λ (x : Sharing). x.parts) given.same) in
      kept_quiet es e s t kept no_draw (ap (λ (x : Sharing). x.drawer) given.same)
      (standing_as _ t.sight.seen _ t.sight.own _ (replays_of t) _ (steps_in (es ++ e ∷ [])) _ (judgements_in (es ++ e ∷ [])) given.seen given.own replays (quiet_steps es e no_step) (quiet_judgements es e no_judgement) kept.stands)
      (subst (AllByRecursion (LinesRise lane)) (sym replays) kept.replays)
      (subst (AllByRecursion (AllByRecursion (λ r. r.place.lane ≡ lane))) (sym replays) kept.judged_placed)
      (subst (AllByRecursion (λ e. SpendKnown s.drawer.spent e.1.call.act)) (sym given.own) kept.spent)

  -- A replay step, the line's first.
  pub kept_judged : (es : List Event) (s t : Sharing) (j : Judgement) → LaneKept via lane lines answers es s → HasJudged s t j.place j.key j.id j.at j.verdict → judgements_in es ≡ [] → j.place ≡ record { lane = lane; line = length answers } → LaneKept via lane lines answers (es ++ Judged j ∷ []) t
  unfolding judged
  kept_judged es s t j kept made none place =
      let k : ℕ = j.key % shard_count in
      let here = made.stepped.here in
      let r : ReplayEntry = judged here.before j.place j.key j.id j.at in
      let f : ℕ → List ReplayEntry = λ i. map (λ e. e.1) (part_at s.parts i).own in
      let g : ℕ → List ReplayEntry = λ i. map (λ e. e.1) (part_at t.parts i).own in
      let more : g k ≡ f k ++ r ∷ [] = ap (λ (p : Part). map (λ e. e.1) p.own) here.new_is ∙ map-append (λ (e : ℕ × ReplayEntry). e.1) (part_at s.parts k).own ((length here.before, r) ∷ []) in
      let below : k < 8 = omega arith in
      let start : 0 + k ≡ k = omega arith in
      let replays : replays_of t ≡ judged_in (replays_of s) k r = map_judged f g r 0 shard_count k (λ i other. ap (λ (p : Part). map (λ e. e.1) p.own) (made.stepped.others i (λ same. other (same ∙ sym start)))) (subst (λ n. g n ≡ f n ++ r ∷ []) (sym start) more) below in
      let seen : t.sight.seen ≡ s.sight.seen = ap (λ (x : Sharing). x.sight.seen) made.same in
      let own : t.sight.own ≡ s.sight.own = ap (λ (x : Sharing). x.sight.own) made.same in
      let its : judgement_of r ≡ j = ap (λ (v : Verdict). record { place = j.place; key = j.key; id = j.id; at = j.at; verdict = v }) (sym here.verdict_is) in
      let judgements : judgements_in (es ++ Judged j ∷ []) ≡ judgement_of r ∷ [] = judgements_in-append es (Judged j ∷ []) ∙ ap (λ js. js ++ j ∷ []) none ∙ ap (λ x. x ∷ []) (sym its) in
      let stood : LaneStands via lane s.sight.seen s.sight.own (replays_of s) lines answers (steps_in es) [] = subst (λ js. LaneStands via lane s.sight.seen s.sight.own (replays_of s) lines answers (steps_in es) js) none kept.stands in
      let stands : LaneStands via lane s.sight.seen s.sight.own (judged_in (replays_of s) k r) lines answers (steps_in es) (judgement_of r ∷ []) = stands_judged k r stood below place in
      kept_quiet es (Judged j) s t kept refl (ap (λ (x : Sharing). x.drawer) made.same)
      (standing_as _ t.sight.seen _ t.sight.own _ (replays_of t) _ (steps_in (es ++ Judged j ∷ [])) _ (judgements_in (es ++ Judged j ∷ [])) seen own replays (quiet_steps es (Judged j) refl) judgements stands)
      (subst (AllByRecursion (LinesRise lane)) (sym replays) (rise_judged (replays_of s) k r lane (length answers) kept.replays stood.runs.judged_within stood.runs.judging (ap (λ (p : Place). p.line) place)))
      (subst (AllByRecursion (AllByRecursion (λ x. x.place.lane ≡ lane))) (sym replays) (all_judged (λ x. x.place.lane ≡ lane) (replays_of s) k r kept.judged_placed (ap (λ (p : Place). p.lane) place)))
      (subst (AllByRecursion (λ e. SpendKnown s.drawer.spent e.1.call.act)) (sym own) kept.spent)

  -- A draw.
  pub kept_drew : (es : List Event) (s t : Sharing) (key : ℕ) (d : Drawn) → LaneKept via lane lines answers es s → HasDrawn s t key d → LaneKept via lane lines answers (es ++ Drew key d ∷ []) t
  kept_drew es s t key (drawn.Id n) kept made =
      let one : DrawnId = record { key = key; id = n } in
      let e : Event = Drew key (drawn.Id n) in
      let draws : sealed_in answers ++ draws_in (es ++ e ∷ []) ≡ (sealed_in answers ++ draws_in es) ++ one ∷ [] = ap (λ ds. sealed_in answers ++ ds) (draws_in-append es (e ∷ [])) ∙ sym (append_assoc (sealed_in answers) (draws_in es) (one ∷ [])) in
      let sight : t.sight ≡ s.sight = ap (λ (x : Sharing). x.sight) made.0 in
      let replays : replays_of t ≡ replays_of s = replays_same s t (ap (λ (x : Sharing). x.parts) made.0) in
      let spent : t.drawer.spent ≡ s.drawer.spent = ap (λ (x : Sharing). x.drawer.spent) made.0 in
      record {
        stands = standing_as _ t.sight.seen _ t.sight.own _ (replays_of t) _ (steps_in (es ++ e ∷ [])) _ (judgements_in (es ++ e ∷ [])) (ap (λ x. x.seen) sight) (ap (λ x. x.own) sight) replays (quiet_steps es e refl) (quiet_judgements es e refl) kept.stands;
        replays = subst (AllByRecursion (LinesRise lane)) (sym replays) kept.replays;
        judged_placed = subst (AllByRecursion (AllByRecursion (λ r. r.place.lane ≡ lane))) (sym replays) kept.judged_placed;
        drawn = ap (λ (x : Sharing). x.drawer.drawn) made.0 ∙ ap (λ ds. ds ++ (key, n) ∷ []) kept.drawn ∙ sym (map-append drawn_as (sealed_in answers ++ draws_in es) (one ∷ [])) ∙ ap (map drawn_as) (sym draws);
        rises = λ k. subst (λ ds. AllPairs (λ a b. a < b) (ids_under k ds)) (sym draws) (rises_more key n (sealed_in answers ++ draws_in es) (subst (IsAbove key n) kept.drawn made.2) kept.rises k);
        spent = subst (λ own. AllByRecursion (λ e. SpendKnown t.drawer.spent e.1.call.act) own) (sym (ap (λ x. x.own) sight)) (subst (λ sp. AllByRecursion (λ e. SpendKnown sp e.1.call.act) s.sight.own) (sym spent) kept.spent);
      }
  kept_drew es s t key drawn.Spent kept made =
      let e : Event = Drew key drawn.Spent in
      let quiet : draws_in (es ++ e ∷ []) ≡ draws_in es = quiet_draws es e refl in
      let sight : t.sight ≡ s.sight = ap (λ (x : Sharing). x.sight) made in
      let replays : replays_of t ≡ replays_of s = replays_same s t (ap (λ (x : Sharing). x.parts) made) in
      let spent : t.drawer.spent ≡ s.drawer.spent ++ key ∷ [] = ap (λ (x : Sharing). x.drawer.spent) made in
      record {
        stands = standing_as _ t.sight.seen _ t.sight.own _ (replays_of t) _ (steps_in (es ++ e ∷ [])) _ (judgements_in (es ++ e ∷ [])) (ap (λ x. x.seen) sight) (ap (λ x. x.own) sight) replays (quiet_steps es e refl) (quiet_judgements es e refl) kept.stands;
        replays = subst (AllByRecursion (LinesRise lane)) (sym replays) kept.replays;
        judged_placed = subst (AllByRecursion (AllByRecursion (λ r. r.place.lane ≡ lane))) (sym replays) kept.judged_placed;
        drawn = ap (λ (x : Sharing). x.drawer.drawn) made ∙ kept.drawn ∙ ap (λ ds. map drawn_as (sealed_in answers ++ ds)) (sym quiet);
        rises = λ k. subst (λ ds. AllPairs (λ a b. a < b) (ids_under k (sealed_in answers ++ ds))) (sym quiet) (kept.rises k);
        spent = subst (λ own. AllByRecursion (λ e. SpendKnown t.drawer.spent e.1.call.act) own) (sym (ap (λ x. x.own) sight)) (subst (λ sp. AllByRecursion (λ e. SpendKnown sp e.1.call.act) s.sight.own) (sym spent) (all_weaker (λ e. SpendKnown s.drawer.spent e.1.call.act) (λ e. SpendKnown (s.drawer.spent ++ key ∷ []) e.1.call.act) (λ e known. spend_known s.drawer.spent (key ∷ []) e.1.call.act known) s.sight.own kept.spent));
      }

  -- Whatever the event is.
  pub kept_event : (es : List Event) (e : Event) (at : ℕ) (s t : Sharing) → LaneKept via lane lines answers es s → Makes s e t → IsOwn (record { lane = lane; line = length answers }) at e → JudgesFirst es e → LaneKept via lane lines answers (es ++ e ∷ []) t
  kept_event es (Stepped st) at s t kept made own first = kept_made es s t st kept made own.0
  kept_event es (Judged j) at s t kept made own first = kept_judged es s t j kept made first own.0
  kept_event es (Drew key d) at s t kept made own first = kept_drew es s t key d kept made
  kept_event es (GaveKey key g) at s t kept made own first = kept_given es (GaveKey key g) s t refl refl refl kept made
  kept_event es (GavePeer peer g) at s t kept made own first = kept_given es (GavePeer peer g) s t refl refl refl kept made

  -- More was seen.
  pub kept_saw : (es : List Event) (s t : Sharing) → LaneKept via lane lines answers es s → SawMore s t → LaneKept via lane lines answers es t
  kept_saw es s t kept saw =
      let rest : List Entry = saw.table.front.0 in
      let own : t.sight.own ≡ s.sight.own = ap (λ x. x.own) saw.table.same in
      let replays : replays_of t ≡ replays_of s = map_same (λ i. map (λ e. e.1) (part_at t.parts i).own) (λ i. map (λ e. e.1) (part_at s.parts i).own) (λ i. ap (λ (p : Part). map (λ e. e.1) p.own) (saw.shards i).same) (range_with_len 0 shard_count) in
      record {
        stands = standing_as _ t.sight.seen _ t.sight.own _ (replays_of t) _ (steps_in es) _ (judgements_in es) (sym saw.table.front.1) own replays refl refl (stands_grows s.sight.seen rest (knows_more s.sight.seen rest) kept.stands);
        replays = subst (AllByRecursion (LinesRise lane)) (sym replays) kept.replays;
        judged_placed = subst (AllByRecursion (AllByRecursion (λ r. r.place.lane ≡ lane))) (sym replays) kept.judged_placed;
        drawn = ap (λ (d : Drawer). d.drawn) saw.drawer ∙ kept.drawn;
        rises = kept.rises;
        spent = subst (λ own. AllByRecursion (λ e. SpendKnown t.drawer.spent e.1.call.act) own) (sym own) (subst (λ (d : Drawer). AllByRecursion (λ e. SpendKnown d.spent e.1.call.act) s.sight.own) (sym saw.drawer) kept.spent);
      }

-- ---- the line's answer

sealed_more : (answers : List Answer) (a : Answer) → sealed_in (answers ++ a ∷ []) ≡ sealed_in answers ++ sealed_ids a
sealed_more [] a = append-nil (sealed_ids a)
sealed_more (b ∷ answers) a = ap (λ ds. sealed_ids b ++ ds) (sealed_more answers a) ∙ sym (append_assoc (sealed_ids b) (sealed_in answers) (sealed_ids a))

-- The line under way is answered: its steps have a path, and it sealed what it drew.
pub kept_done : {via : Addr → Addr} {lane : ℕ} {lines : List Line} {answers : List Answer} (es : List Event) (s : Sharing) (line : Line) (a : Answer) → LaneKept via lane lines answers es s → slice_get lines (length answers) ≡ Some line → Path (key_of s.sight.seen) via (record { lane = lane; line = length answers }) line (steps_in es) (judgements_in es) a → draws_in es ≡ sealed_ids a
    → LaneKept via lane lines (answers ++ a ∷ []) [] s
kept_done {via} {lane} {lines} {answers} es s line a kept line_is path drew =
    let draws : sealed_in answers ++ draws_in es ≡ sealed_in (answers ++ a ∷ []) ++ draws_in [] = ap (λ ds. sealed_in answers ++ ds) drew ∙ sym (append-nil (sealed_in (answers ++ a ∷ [])) ∙ sealed_more answers a) in
    record {
      stands = stands_done line a kept.stands line_is path;
      replays = kept.replays;
      judged_placed = kept.judged_placed;
      drawn = kept.drawn ∙ ap (map drawn_as) draws;
      rises = λ key. subst (λ ds. AllPairs (λ m n. m < n) (ids_under key ds)) draws (kept.rises key);
      spent = kept.spent;
    }
