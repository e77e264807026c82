-- Lanes that are done, each by a pass of its own, make together a legal report.
use Rattle.std.proofs.Common.{ℕ, zero, suc, ◌≡◌, ◌+◌, ◌<◌, ◌≤◌, min, List, [], ◌∷◌, ◌++◌, length, refl, sym, ◌∙◌, ap, subst, Bool, true, false, arith, append-nil, inl, inr, Contains, ◌==◌, ◌&&◌, ◌||◌, if◌then◌else◌}
use Rattle.std.specs.Prelude.{filter, map, get_or, slice_get, Some}
use Rattle.std.specs.List.{AllByRecursion, AllPairs, list_any}
use Rattle.std.proofs.lemmas.Bool.{cases_eq, cases_lt, ne_eqb, eqb-true}
use Rattle.std.proofs.lemmas.List.{length-map, get_or-map}
use Rattle.std.proofs.lemmas.List.FromFn.{fill_by_all}
use Rattle.std.proofs.lemmas.Option.{slice_get_within}
use Rattle.ov_base.specs.Sums.{total, between, count_of}
use Rattle.ov_base.proofs.Sums.{between_out}
use Rattle.ov_model.specs.declared.act.Act.{Act}
use Rattle.ov_model.specs.declared.act.Act.TheVariants as act
use Rattle.ov_model.specs.declared.entry.Entry.{Entry}
use Rattle.ov_model.specs.declared.line.Script.{Script}
use Rattle.ov_model.specs.declared.report.LaneLog.{LaneLog}
use Rattle.ov_model.specs.declared.report.Report.{Report}
use Rattle.ov_model.specs.Events.{DrawnId, steps_after, steps_of}
use Rattle.ov_model.specs.Keys.{ids_under, ids_of, ids_in, sealed_in, spends, spends_key}
use Rattle.ov_model.specs.Legal.{Legal}
use Rattle.ov_model.specs.Limits.{shard_count}
use Rattle.ov_model.specs.Own.{mine, mine_judged, mine_shards, steps_at, LaneStands}
use Rattle.ov_model.specs.Removals.{times}
use Rattle.ov_model.specs.Step.{step}
use Rattle.ov_model.specs.Tables.{Table, empty_table}
use Rattle.ov_model.specs.Via.{via_of}
use Rattle.ov_model.proofs.Lanes.{all_weaker, lane_done}
use Rattle.ov_model.proofs.Mine.{all_own}
use Rattle.ov_model.proofs.Stands.{stands_grows}
use Rattle.ov_replay.specs.Desk.{part_at}
use Rattle.ov_draw.specs.Drawer as draws
use Rattle.ov_draw.proofs.Intervals.{length-interval}
use Rattle.ov_share.specs.Keepings.{replays_of, drawn_as}
use Rattle.ov_share.specs.Makings.{SpendKnown}
use Rattle.ov_share.specs.Passings.{Passing, IsPart, DrawnOnce}
use Rattle.ov_core.proofs.Ending.{LaneParts, KeyParts, Parts, At, get_below, times_in, length_in, legal}
use Rattle.ov_core.proofs.Moving.{key_of_more}
use Rattle.ov_core.proofs.Seats.{all_at}
use Rattle.ov_lanes.specs.Threads.{LaneDone, LanesDone}

-- ---- lists

-- Two sums whose members agree place by place.
total_along : {X Y : Type 0} (f : X → ℕ) (g : Y → ℕ) (xs : List X) (ys : List Y) → length xs ≡ length ys → ((i : ℕ) (x : X) (y : Y) → slice_get xs i ≡ Some x → slice_get ys i ≡ Some y → f x ≡ g y) → total f xs ≡ total g ys
total_along f g [] [] long same = refl
total_along f g [] (y ∷ ys) long same = absurd (omega arith)
total_along f g (x ∷ xs) [] long same = absurd (omega arith)
total_along f g (x ∷ xs) (y ∷ ys) long same = omega (arith, same zero x y refl refl, total_along f g xs ys (omega arith) (λ i a b at there. same (suc i) a b at there))

-- What holds of the mapped members.
all_mapped : {X Y : Type 0} (P : Y → Type 0) (f : X → Y) (xs : List X) → AllByRecursion (λ x. P (f x)) xs → AllByRecursion P (map f xs)
all_mapped P f [] all = tt
all_mapped P f (x ∷ xs) all = (all.0, all_mapped P f xs all.1)

-- A member that passes a test.
record Passes {X : Type 0} (test : X → Bool) (xs : List X) : Type 0 where
  i : ℕ
  x : X
  at : slice_get xs i ≡ Some x
  passes : test x ≡ true

any_passes : {X : Type 0} (test : X → Bool) (xs : List X) → list_any test xs ≡ true → Passes test xs
any_passes test [] any = absurd (cc)
any_passes test (x ∷ xs) any =
    elim (test x) as (λ b. test x ≡ b → (b || list_any test xs) ≡ true → Passes test (x ∷ xs)) [
      | true ↦ λ here _. record { i = 0; x = x; at = refl; passes = here }
      | false ↦ λ _ rest. let later = any_passes test xs rest in record { i = suc later.i; x = later.x; at = later.at; passes = later.passes }
    ] refl any

-- What holds of a journal's entries holds of their steps.
steps_all : (P : Entry → Type 0) (t : Table) (es : List Entry) → AllByRecursion P es → AllByRecursion (λ s. P s.entry) (steps_after t es)
steps_all P t [] each = tt
steps_all P t (e ∷ es) each = (each.0, steps_all P (step t e.call).after es each.1)

-- ---- packet ids

-- How often an id of a key was drawn, and how often it stands among the ids that were sealed under the key.
draw_counted : (key n : ℕ) (ds : List DrawnId) → draws.times key n (map drawn_as ds) ≡ count_of n (ids_under key ds)
draw_counted key n [] = refl
draw_counted key n (d ∷ ds) =
    let later = draw_counted key n ds in
    let rest : List DrawnId = filter (λ e. e.key == key) ds in
    elim (d.key == key) as (λ b. (if b && (d.id == n) then 1 else 0) + draws.times key n (map drawn_as ds) ≡ count_of n (map (λ e. e.id) (if b then d ∷ rest else rest))) [
      | true ↦ ap (λ m. (if d.id == n then 1 else 0) + m) later
      | false ↦ omega (arith, later)
    ]

-- How often a number stands in a list, by sum and by filter.
count-times : (n : ℕ) (xs : List ℕ) → count_of n xs ≡ times n xs
count-times n [] = refl
count-times n (x ∷ xs) =
    let later = count-times n xs in
    elim (x == n) as (λ b. (if b then 1 else 0) + count_of n xs ≡ length (if b then x ∷ filter (λ y. y == n) xs else filter (λ y. y == n) xs)) [
      | true ↦ omega (arith, later)
      | false ↦ omega (arith, later)
    ]

-- The act that says that a key is spent.
spent_known : (key : ℕ) (spent : List ℕ) (a : Act) → spends_key key a ≡ true → SpendKnown spent a → Contains spent key
spent_known key spent (act.Spend peer k) is known = subst (Contains spent) (eqb-true k key is) known
spent_known key spent (act.Do c) is known = absurd (cc)
spent_known key spent (act.TxLook a) is known = absurd (cc)
spent_known key spent (act.RxLook id k from) is known = absurd (cc)
spent_known key spent (act.Sent peer inner outer ping) is known = absurd (cc)
spent_known key spent (act.Settle peer from kind inner outer) is known = absurd (cc)
spent_known key spent (act.KeepLook peer) is known = absurd (cc)
spent_known key spent (act.Released peer) is known = absurd (cc)
spent_known key spent (act.KeyReleased k) is known = absurd (cc)

-- ---- the passes of a history

-- The pass whose number is one of theirs.
pub record PassOf (n : ℕ) (passes : List Passing) : Type 0 where
  pub i : ℕ
  pub pass : Passing
  pub at : slice_get passes i ≡ Some pass
  pub number : pass.number ≡ n

pub pass_of : (n : ℕ) (passes : List Passing) → 0 < count_of n (map (λ p. p.number) passes) → PassOf n passes
pass_of n [] some_of = absurd (omega arith)
pass_of n (p ∷ passes) some_of = elim (cases_eq p.number n) [
  | inl same ↦ record { i = 0; pass = p; at = refl; number = same }
  | inr other ↦ let none : ◌≡◌ {A = ℕ} (if p.number == n then 1 else 0) 0 = rw (ne_eqb p.number n other) refl in
      let later = pass_of n passes (omega arith) in record { i = suc later.i; pass = later.pass; at = later.at; number = later.number }
]

module _ {script : Script} {first : ℕ} {report : Report} {passes : List Passing} (all : LanesDone script first report passes) where
  -- A pass and its lane.
  pub record Done (i : ℕ) (p : Passing) : Type 0 where
    pub log : LaneLog
    pub log_is : slice_get report.lanes i ≡ Some log
    pub done : LaneDone script report p i log

  pub lane_at : (i : ℕ) (p : Passing) → slice_get passes i ≡ Some p → Done i p
  lane_at i p at =
      let log = get_below report.lanes i (let below = slice_get_within passes i p at in let count = all.count in omega arith) in
      record { log = log.x; log_is = log.is; done = all.each i p log.x at log.is }

  pass_at : (i : ℕ) (log : LaneLog) → slice_get report.lanes i ≡ Some log → At passes i
  pass_at i log at = get_below passes i (let below = slice_get_within report.lanes i log at in let count = all.count in omega arith)

  pub part_of : (i : ℕ) (p : Passing) → slice_get passes i ≡ Some p → IsPart report.journal report.shards p
  part_of i p at = all_at (IsPart report.journal report.shards) passes i p all.history.each at

  -- The number of a pass is below the number of lanes.
  within_lanes : (n : ℕ) → 0 < count_of n (map (λ p. p.number) passes) → n < length report.lanes
  within_lanes n some_of =
      let it = pass_of n passes some_of in
      let its = lane_at it.i it.pass it.at in
      let below = slice_get_within report.lanes it.i its.log its.log_is in
      let number = its.done.number in
      let is = it.number in omega arith

  -- ---- a lane

  -- The replay steps that a pass made are those of its lane.
  replays_are : (i : ℕ) (p : Passing) → p.number ≡ i → IsPart report.journal report.shards p → mine_shards i report.shards ≡ replays_of p.share
  replays_are i p number part =
      let eight = all.history.eight in
      fill_by_all (λ k. map (λ e. e.1) (part_at p.share.parts k).own) (mine_shards i report.shards) shard_count [] (length-map report.shards (mine_judged i) ∙ eight) (λ k below.
      get_or-map (mine_judged i) report.shards k [] [] (omega arith) ∙ ap (λ n. mine_judged n (get_or report.shards k [])) (sym number) ∙ part.judged k below)

  lane_parts : (i : ℕ) (log : LaneLog) → slice_get report.lanes i ≡ Some log → LaneParts script report i log
  lane_parts i log at =
      let it = pass_at i log at in
      let p : Passing = it.x in
      let done : LaneDone script report p i log = all.each i p log it.is at in
      let part : IsPart report.journal report.shards p = part_of i p it.is in
      let replays : mine_shards i report.shards ≡ replays_of p.share = replays_are i p done.number part in
      let steps : steps_at report.journal p.share.sight.own ≡ mine i (steps_of report.journal) = part.steps ∙ ap (λ n. mine n (steps_of report.journal)) done.number in
      let Stands : List Entry → Type 0 = λ journal. LaneStands (via_of script.routes) i journal p.share.sight.own (replays_of p.share) log.lines log.answers [] [] in
      let grown : Stands (p.share.sight.seen ++ part.seen.0) = stands_grows p.share.sight.seen part.seen.0 (key_of_more p.share.sight.seen part.seen.0) done.kept.stands in
      let stands : Stands report.journal = subst Stands part.seen.1 grown in
      record {
        lines = done.lines;
        answered = done.answered;
        recorded = done.recorded;
        meets = lane_done (mine i (steps_of report.journal)) (mine_shards i report.shards) i log.lines log.answers (rw (← steps, replays) stands.runs);
        rise = rw replays done.kept.replays;
      }

  -- ---- a key

  -- What a lane's pass drew of a key is what its answers sealed.
  drawn_sealed : (key n i : ℕ) (p : Passing) (log : LaneLog) → LaneDone script report p i log → draws.times key n p.share.drawer.drawn ≡ times n (ids_of log.answers key)
  drawn_sealed key n i p log done =
      ap (draws.times key n) (done.kept.drawn ∙ ap (map drawn_as) (append-nil (sealed_in log.answers))) ∙ draw_counted key n (sealed_in log.answers) ∙ count-times n (ids_of log.answers key)

  -- A key's counter at the end, which isn't below the first id.
  record Counter (key : ℕ) : Type 0 where
    next : ℕ
    from : first ≤ next
    most : next ≤ 4294967296
    once : (n : ℕ) → total (λ p. draws.times key n p.share.drawer.drawn) passes ≡ between first next n
    spent : AllByRecursion (λ p. Contains p.share.drawer.spent key → next ≡ 4294967296) passes

  counter_of : (key : ℕ) → Counter key
  counter_of key =
      let drawn : DrawnOnce first passes key = all.history.drawn key in
      let begin = all.begin in
      elim (cases_lt drawn.end first) [
        | inl early ↦ record {
          next = first;
          from = omega arith;
          most = omega arith;
          once = λ n. drawn.once n ∙ between_out first drawn.end n (λ from. omega arith) ∙ sym (between_out first first n (λ from. from));
          spent = all_weaker (λ p. Contains p.share.drawer.spent key → drawn.end ≡ 4294967296) (λ p. Contains p.share.drawer.spent key → first ≡ 4294967296) (λ p was has. let end : drawn.end ≡ 4294967296 = was has in absurd (omega arith)) passes drawn.spent;
        }
        | inr late ↦ record { next = drawn.end; from = late; most = drawn.most; once = drawn.once; spent = drawn.spent }
      ]

  -- An entry of a pass that says that a key is spent: the pass found it so.
  pass_known : (i : ℕ) (p : Passing) → slice_get passes i ≡ Some p → AllByRecursion (λ e. e.place.lane ≡ p.number → SpendKnown p.share.drawer.spent e.call.act) report.journal
  pass_known i p at =
      let its = lane_at i p at in
      let part : IsPart report.journal report.shards p = part_of i p at in
      let Known : Entry → Type 0 = λ e. SpendKnown p.share.drawer.spent e.call.act in
      let own : AllByRecursion Known (map (λ e. e.1) p.share.sight.own) = all_mapped Known (λ e. e.1) p.share.sight.own its.done.kept.spent in
      all_own (λ e. e.place.lane) p.number Known report.journal (rw part.own (all_weaker Known (λ e. e.place.lane ≡ p.number → Known e) (λ e known _. known) (map (λ e. e.1) p.share.sight.own) own))

  key_dry : (key : ℕ) (c : Counter key) → list_any (spends key) report.journal ≡ true → c.next ≡ 4294967296
  key_dry key c any =
      let it = any_passes (spends key) report.journal any in
      let some_of : 0 < count_of it.x.place.lane (map (λ p. p.number) passes) = all_at (λ (e : Entry). 0 < count_of e.place.lane (map (λ p. p.number) passes)) report.journal it.i it.x all.history.within it.at in
      let its = pass_of it.x.place.lane passes some_of in
      let known : it.x.place.lane ≡ its.pass.number → SpendKnown its.pass.share.drawer.spent it.x.call.act = all_at (λ (e : Entry). e.place.lane ≡ its.pass.number → SpendKnown its.pass.share.drawer.spent e.call.act) report.journal it.i it.x (pass_known its.i its.pass its.at) it.at in
      all_at (λ (p : Passing). Contains p.share.drawer.spent key → c.next ≡ 4294967296) passes its.i its.pass c.spent its.at (spent_known key its.pass.share.drawer.spent it.x.call.act it.passes (known (sym its.number)))

  key_parts : (key : ℕ) → KeyParts first report key
  key_parts key =
      let c : Counter key = counter_of key in
      let from = c.from in
      let once : (n : ℕ) → total (λ log. times n (ids_of log.answers key)) report.lanes ≡ between first c.next n = λ n.
      (sym (total_along (λ (p : Passing). draws.times key n p.share.drawer.drawn) (λ (log : LaneLog). times n (ids_of log.answers key)) passes report.lanes all.count
      (λ i p log at there. drawn_sealed key n i p log (all.each i p log at there))) ∙ c.once n) in
      let long : length (ids_in report.lanes key) + min first c.next ≡ c.next = length-interval (ids_in report.lanes key) first c.next (λ n. count-times n (ids_in report.lanes key) ∙ times_in n key report.lanes ∙ once n) in
      let sum : length (ids_in report.lanes key) ≡ total (λ log. length (ids_of log.answers key)) report.lanes = length_in key report.lanes in
      record {
        next = c.next;
        once = once;
        count = omega arith;
        most = c.most;
        dry = key_dry key c;
        rise = λ i log at. (let it = pass_at i log at in
            let done : LaneDone script report it.x i log = all.each i it.x log it.is at in
            subst (λ ds. AllPairs (λ m n. m < n) (ids_under key ds)) (append-nil (sealed_in log.answers)) (done.kept.rises key));
      }

  -- ---- the report

  parts_together : Parts script first report
  parts_together = record {
    runs = all.history.run;
    notes = all.history.notes_are;
    named = all.named;
    within = steps_all (λ e. e.place.lane < length report.lanes) empty_table report.journal
        (all_weaker (λ e. 0 < count_of e.place.lane (map (λ p. p.number) passes)) (λ e. e.place.lane < length report.lanes) (λ e some_of. within_lanes e.place.lane some_of) report.journal all.history.within);
    lanes = lane_parts;
    eight = all.history.eight;
    judges = all.history.judges;
    judged_within = all_weaker (AllByRecursion (λ r. 0 < count_of r.place.lane (map (λ p. p.number) passes))) (AllByRecursion (λ r. r.place.lane < length report.lanes))
        (λ rs each. all_weaker (λ r. 0 < count_of r.place.lane (map (λ p. p.number) passes)) (λ r. r.place.lane < length report.lanes) (λ r some_of. within_lanes r.place.lane some_of) rs each) report.shards all.history.judged_within;
    keys = key_parts;
    released = all.released;
  }

-- Lanes that are done make together a legal report.
pub lanes_legal : (script : Script) (first : ℕ) (report : Report) (passes : List Passing) → LanesDone script first report passes → Legal script first report
lanes_legal script first report passes all = legal script first report (parts_together all)
