-- A lane goes on: more steps of the line under way, and the line's answer.
use Rattle.std.proofs.Common.{ℕ, ◌≡◌, ◌≢◌, ◌+◌, ◌≤◌, ◌<◌, List, [], ◌∷◌, ◌++◌, length, refl, sym, ◌∙◌, ap, subst, Bool, true, false, arith, append-nil, length-append, zero, suc, inl, inr, ◌⊎◌}
use Rattle.std.specs.Prelude.{filter, map, Option, Some, slice_get, if◌then◌else◌}
use Rattle.std.specs.List.{AllByRecursion}
use Rattle.std.proofs.lemmas.List.{map-append}
use Rattle.std.proofs.lemmas.List.Elements.{filter-append}
use Rattle.std.proofs.lemmas.Bool.{cases_lt}
use Rattle.std.proofs.lemmas.Bool.Decides.{nat_tests}
use Rattle.ov_base.specs.declared.address.Addr.{Addr}
use Rattle.ov_model.specs.declared.place.Place.{Place}
use Rattle.ov_model.specs.declared.line.Line.{Line}
use Rattle.ov_model.specs.declared.answer.Answer.{Answer}
use Rattle.ov_model.specs.declared.replay.ReplayEntry.{ReplayEntry}
use Rattle.ov_model.specs.Events.{Step, Judgement, judgement_of, is_at, of, shown, shown_in}
use Rattle.ov_model.specs.Tables.{Material}
use Rattle.ov_model.specs.Path.{Ping, skipped, pinged, PingFits, PingsFit, Path, by_at_once, by_command, by_miss, by_round, by_tick}
use Rattle.ov_model.specs.Legal.{Meets, NeverFall, LaneMeets, LinesRise}
use Rattle.ov_model.specs.Lanes.{LaneRuns, judged_in}

pub all_append : {X : Type 0} (P : X → Type 0) (xs ys : List X) → AllByRecursion P xs → AllByRecursion P ys → AllByRecursion P (xs ++ ys)
all_append P [] ys a b = b
all_append P (x ∷ xs) ys a b = (a.0, all_append P xs ys a.1 b)

pub all_weaker : {X : Type 0} (P Q : X → Type 0) → ((x : X) → P x → Q x) → (xs : List X) → AllByRecursion P xs → AllByRecursion Q xs
all_weaker P Q weaker [] a = a
all_weaker P Q weaker (x ∷ xs) a = (weaker x a.0, all_weaker P Q weaker xs a.1)

pub filter_none : {X : Type 0} (p : X → Bool) (xs : List X) → AllByRecursion (λ x. p x ≡ false) xs → filter p xs ≡ []
filter_none p [] a = refl
filter_none p (x ∷ xs) a = rw a.0 (filter_none p xs a.1)

pub filter_all : {X : Type 0} (p : X → Bool) (xs : List X) → AllByRecursion (λ x. p x ≡ true) xs → filter p xs ≡ xs
filter_all p [] a = refl
filter_all p (x ∷ xs) a = rw (a.0, filter_all p xs a.1) refl

-- A place of another line of the lane, or of another lane, isn't the line's.
pub elsewhere : (lane line : ℕ) (p : Place) → (p.lane ≡ lane → p.line ≢ line) → is_at lane line p ≡ false
elsewhere lane line p other = grind (arith, nat_tests)

pub here : (lane line : ℕ) (p : Place) → p ≡ record { lane = lane; line = line } → is_at lane line p ≡ true
here lane line p same = rw same (grind (arith, nat_tests))

-- Whether a step is of a lane's line.
abbrev pub AtPlace : ℕ → ℕ → Step → Type 0
AtPlace lane line s = s.entry.place ≡ record { lane = lane; line = line }

pub of_none : (lane line : ℕ) (ss : List Step) → AllByRecursion (λ s. s.entry.place.lane ≡ lane → s.entry.place.line ≢ line) ss → of ss lane line ≡ []
of_none lane line ss other = filter_none (λ s. is_at lane line s.entry.place) ss
    (all_weaker (λ s. s.entry.place.lane ≡ lane → s.entry.place.line ≢ line) (λ s. is_at lane line s.entry.place ≡ false) (λ s o. elsewhere lane line s.entry.place o) ss other)

pub of_all : (lane line : ℕ) (ss : List Step) → AllByRecursion (AtPlace lane line) ss → of ss lane line ≡ ss
of_all lane line ss at = filter_all (λ s. is_at lane line s.entry.place) ss
    (all_weaker (AtPlace lane line) (λ s. is_at lane line s.entry.place ≡ true) (λ s a. here lane line s.entry.place a) ss at)

pub of-append : (ss more : List Step) (lane line : ℕ) → of (ss ++ more) lane line ≡ of ss lane line ++ of more lane line
of-append ss more lane line = filter-append (λ s. is_at lane line s.entry.place) ss more

shown_none : (lane line : ℕ) (rs : List ReplayEntry) → AllByRecursion (λ r. r.place.lane ≡ lane → r.place.line ≢ line) rs → shown rs lane line ≡ []
shown_none lane line rs other = rw (filter_none (λ r. is_at lane line r.place) rs
    (all_weaker (λ r. r.place.lane ≡ lane → r.place.line ≢ line) (λ r. is_at lane line r.place ≡ false) (λ r o. elsewhere lane line r.place o) rs other)) refl

pub shown_in_none : (lane line : ℕ) (shards : List (List ReplayEntry)) → AllByRecursion (λ shard. AllByRecursion (λ r. r.place.lane ≡ lane → r.place.line ≢ line) shard) shards → shown_in shards lane line ≡ []
shown_in_none lane line [] other = refl
shown_in_none lane line (shard ∷ shards) other = rw (shown_none lane line shard other.0, shown_in_none lane line shards other.1) refl

-- Steps of one line don't fall, and neither do they behind steps of no later line.
never_fall_alike : (lane line : ℕ) (ss : List Step) → AllByRecursion (AtPlace lane line) ss → NeverFall lane ss
never_fall_alike lane line [] at = tt
never_fall_alike lane line (s ∷ ss) at = (
  λ _. all_weaker (AtPlace lane line) (λ later. later.entry.place.lane ≡ lane → s.entry.place.line ≤ later.entry.place.line)
      (λ later a _. let first : s.entry.place.line ≡ line = ap (λ p. p.line) at.0 in let second : later.entry.place.line ≡ line = ap (λ p. p.line) a in omega arith) ss at.1,
  never_fall_alike lane line ss at.1,
)

pub never_fall_more : (lane line : ℕ) (ss more : List Step) → NeverFall lane ss → AllByRecursion (λ s. s.entry.place.lane ≡ lane → s.entry.place.line ≤ line) ss → AllByRecursion (AtPlace lane line) more → NeverFall lane (ss ++ more)
never_fall_more lane line [] more falls within at = never_fall_alike lane line more at
never_fall_more lane line (s ∷ ss) more falls within at = (
  λ own. all_append (λ later. later.entry.place.lane ≡ lane → s.entry.place.line ≤ later.entry.place.line) ss more (falls.0 own)
      (all_weaker (AtPlace lane line) (λ later. later.entry.place.lane ≡ lane → s.entry.place.line ≤ later.entry.place.line)
      (λ later a _. let second : later.entry.place.line ≡ line = ap (λ p. p.line) a in let first : s.entry.place.line ≤ line = within.0 own in omega arith) more at),
  never_fall_more lane line ss more falls.1 within.1 at,
)

-- More steps of the line under way.
pub own_steps : {m : ℕ → Option Material} {via : Addr → Addr} (ss more : List Step) (shards : List (List ReplayEntry)) (lane : ℕ) (lines : List Line) (answers : List Answer) (now : List Step) (judged : List Judgement) → LaneRuns m via ss shards lane lines answers now judged → AllByRecursion (AtPlace lane (length answers)) more → LaneRuns m via (ss ++ more) shards lane lines answers (now ++ more) judged
own_steps {m} {via} ss more shards lane lines answers now judged meets at = record {
  within = all_append (λ s. s.entry.place.lane ≡ lane → s.entry.place.line ≤ length answers) ss more meets.within
      (all_weaker (AtPlace lane (length answers)) (λ s. s.entry.place.lane ≡ lane → s.entry.place.line ≤ length answers)
      (λ s a _. let line : s.entry.place.line ≡ length answers = ap (λ p. p.line) a in omega arith) more at);
  judged_within = meets.judged_within;
  falls = never_fall_more lane (length answers) ss more meets.falls meets.within at;
  each = λ i below. let old : Meets m via ss shards lane lines answers i = meets.each i below in
      let others : of more lane i ≡ [] = of_none lane i more
      (all_weaker (AtPlace lane (length answers)) (λ s. s.entry.place.lane ≡ lane → s.entry.place.line ≢ i)
      (λ s a _ e. let line : s.entry.place.line ≡ length answers = ap (λ p. p.line) a in absurd (omega arith)) more at) in
      let same : of (ss ++ more) lane i ≡ of ss lane i = of-append ss more lane i ∙ rw others (append-nil (of ss lane i)) in
      record { line = old.line; answer = old.answer; line_is = old.line_is; answer_is = old.answer_is; path = rw same old.path };
  under_way = of-append ss more lane (length answers) ∙ rw (meets.under_way, of_all lane (length answers) more at) refl;
  judging = meets.judging;
}

slice_get_front : {X : Type 0} (xs ys : List X) (i : ℕ) → i < length xs → slice_get (xs ++ ys) i ≡ slice_get xs i
slice_get_front [] ys i below = absurd (omega arith)
slice_get_front (x ∷ xs) ys zero below = refl
slice_get_front (x ∷ xs) ys (suc i) below = slice_get_front xs ys i (omega arith)

pub slice_get_last : {X : Type 0} (xs : List X) (x : X) → slice_get (xs ++ x ∷ []) (length xs) ≡ Some x
slice_get_last [] x = refl
slice_get_last (y ∷ xs) x = slice_get_last xs x

split_below : (i n : ℕ) → i < n + 1 → (i < n) ⊎ (i ≡ n)
split_below i n below = elim (cases_lt i n) [ inl before ↦ inl before | inr not_before ↦ inr (omega arith) ]

-- The line under way is answered, and its steps have a path.
pub line_done : {m : ℕ → Option Material} {via : Addr → Addr} (ss : List Step) (shards : List (List ReplayEntry)) (lane : ℕ) (lines : List Line) (line : Line) (answers : List Answer) (a : Answer) (now : List Step) (judged : List Judgement) → LaneRuns m via ss shards lane lines answers now judged → slice_get lines (length answers) ≡ Some line → Path m via (record { lane = lane; line = length answers }) line now judged a → LaneRuns m via ss shards lane lines (answers ++ a ∷ []) [] []
line_done {m} {via} ss shards lane lines line answers a now judged meets line_is path = let long : length (answers ++ a ∷ []) ≡ length answers + 1 = length-append answers (a ∷ []) in record {
  within = all_weaker (λ s. s.entry.place.lane ≡ lane → s.entry.place.line ≤ length answers) (λ s. s.entry.place.lane ≡ lane → s.entry.place.line ≤ length (answers ++ a ∷ []))
      (λ s w own. let old : s.entry.place.line ≤ length answers = w own in omega arith) ss meets.within;
  judged_within = all_weaker (λ shard. AllByRecursion (λ r. r.place.lane ≡ lane → r.place.line ≤ length answers) shard) (λ shard. AllByRecursion (λ r. r.place.lane ≡ lane → r.place.line ≤ length (answers ++ a ∷ [])) shard)
      (λ shard each. all_weaker (λ r. r.place.lane ≡ lane → r.place.line ≤ length answers) (λ r. r.place.lane ≡ lane → r.place.line ≤ length (answers ++ a ∷ []))
      (λ r w own. let old : r.place.line ≤ length answers = w own in omega arith) shard each) shards meets.judged_within;
  falls = meets.falls;
  each = λ i below. elim (split_below i (length answers) (omega arith)) [
    | inl before ↦ let old : Meets m via ss shards lane lines answers i = meets.each i before in
        record { line = old.line; answer = old.answer; line_is = old.line_is; answer_is = slice_get_front answers (a ∷ []) i before ∙ old.answer_is; path = old.path }
    | inr last ↦ let P : ℕ → Type 0 = λ k. Meets m via ss shards lane lines (answers ++ a ∷ []) k in
        let its : P (length answers) = record { line = line; answer = a; line_is = line_is; answer_is = slice_get_last answers a; path = rw (meets.under_way, meets.judging) path } in
        subst P (sym last) its
  ];
  under_way = of_none lane (length (answers ++ a ∷ [])) ss
      (all_weaker (λ s. s.entry.place.lane ≡ lane → s.entry.place.line ≤ length answers) (λ s. s.entry.place.lane ≡ lane → s.entry.place.line ≢ length (answers ++ a ∷ []))
      (λ s w own e. let old : s.entry.place.line ≤ length answers = w own in absurd (omega arith)) ss meets.within);
  judging = shown_in_none lane (length (answers ++ a ∷ [])) shards
      (all_weaker (λ shard. AllByRecursion (λ r. r.place.lane ≡ lane → r.place.line ≤ length answers) shard) (λ shard. AllByRecursion (λ r. r.place.lane ≡ lane → r.place.line ≢ length (answers ++ a ∷ [])) shard)
      (λ shard each. all_weaker (λ r. r.place.lane ≡ lane → r.place.line ≤ length answers) (λ r. r.place.lane ≡ lane → r.place.line ≢ length (answers ++ a ∷ []))
      (λ r w own e. let old : r.place.line ≤ length answers = w own in absurd (omega arith)) shard each) shards meets.judged_within);
}

-- ---- keys that are made later

-- What is known of the keys may become more.
abbrev pub Knows : (old new : ℕ → Option Material) → Type 0
Knows old new = (key : ℕ) (x : Material) → old key ≡ Some x → new key ≡ Some x

ping_knows : (old new : ℕ → Option Material) (peer : ℕ) (p : Ping) → Knows old new → PingFits old peer p → PingFits new peer p
ping_knows old new peer skipped knows fits = tt
ping_knows old new peer (pinged r) knows fits = (fits.0, (knows r.hold.key r.material fits.1.0, fits.1.1))

pings_know : (old new : ℕ → Option Material) (due : List ℕ) (ps : List Ping) → Knows old new → PingsFit old due ps → PingsFit new due ps
pings_know old new [] [] knows fits = tt
pings_know old new (peer ∷ due) (p ∷ ps) knows fits = (ping_knows old new peer p knows fits.0, pings_know old new due ps knows fits.1)
pings_know old new [] (p ∷ ps) knows fits = absurd fits
pings_know old new (peer ∷ due) [] knows fits = absurd fits

pub path_knows : (old new : ℕ → Option Material) (via : Addr → Addr) (place : Place) (line : Line) (ss : List Step) (js : List Judgement) (a : Answer) → Knows old new → Path old via place line ss js a → Path new via place line ss js a
path_knows old new via place line ss js a knows (by_at_once r) = by_at_once r
path_knows old new via place line ss js a knows (by_command r) = by_command r
path_knows old new via place line ss js a knows (by_miss r) = by_miss r
path_knows old new via place line ss js a knows (by_round r) = by_round (record {
  round = r.round;
  begins_so = r.begins_so;
  looks = r.looks;
  fits = (knows r.round.hold.key r.round.material r.fits.0, r.fits.1);
  steps_are = r.steps_are;
  judgements_are = r.judgements_are;
  answer_is = r.answer_is;
})
path_knows old new via place line ss js a knows (by_tick r) = by_tick (record {
  expired = r.expired;
  due = r.due;
  taken = r.taken;
  os = r.os;
  pings = r.pings;
  is_tick = r.is_tick;
  some = r.some;
  fits = pings_know old new r.due r.pings knows r.fits;
  steps_are = r.steps_are;
  judgements_are = r.judgements_are;
  answer_is = r.answer_is;
})

pub lane_knows : (old new : ℕ → Option Material) (via : Addr → Addr) (ss : List Step) (shards : List (List ReplayEntry)) (lane : ℕ) (lines : List Line) (answers : List Answer) (now : List Step) (judged : List Judgement) → Knows old new → LaneRuns old via ss shards lane lines answers now judged → LaneRuns new via ss shards lane lines answers now judged
lane_knows old new via ss shards lane lines answers now judged knows meets = record {
  within = meets.within;
  judged_within = meets.judged_within;
  falls = meets.falls;
  each = λ i below. let was : Meets old via ss shards lane lines answers i = meets.each i below in record {
    line = was.line;
    answer = was.answer;
    line_is = was.line_is;
    answer_is = was.answer_is;
    path = path_knows old new via _ was.line _ _ was.answer knows was.path;
  };
  under_way = meets.under_way;
  judging = meets.judging;
}

-- ---- a replay step of the line under way

shown-append : (rs more : List ReplayEntry) (lane line : ℕ) → shown (rs ++ more) lane line ≡ shown rs lane line ++ shown more lane line
shown-append rs more lane line = rw (filter-append (λ (r : ReplayEntry). is_at lane line r.place) rs more) (map-append judgement_of (filter (λ r. is_at lane line r.place) rs) (filter (λ r. is_at lane line r.place) more))

-- Another line's steps stay.
judged_elsewhere : (shards : List (List ReplayEntry)) (k : ℕ) (r : ReplayEntry) (lane line : ℕ) → is_at lane line r.place ≡ false → shown_in (judged_in shards k r) lane line ≡ shown_in shards lane line
judged_elsewhere [] k r lane line other = refl
judged_elsewhere (rs ∷ shards) zero r lane line other =
    let none : shown (r ∷ []) lane line ≡ [] = rw other refl in
    ap (λ s. s ++ shown_in shards lane line) (shown-append rs (r ∷ []) lane line ∙ rw none (append-nil (shown rs lane line)))
judged_elsewhere (rs ∷ shards) (suc k) r lane line other = ap (λ s. shown rs lane line ++ s) (judged_elsewhere shards k r lane line other)

-- Two lists that are empty together are empty.
both_empty : {X : Type 0} (xs ys : List X) → xs ++ ys ≡ [] → (xs ≡ []) × (ys ≡ [])
both_empty [] ys none = (refl, none)
both_empty (x ∷ xs) ys none = absurd (cc)

-- The line's own first replay step is shown, wherever its shard stands.
judged_here : (shards : List (List ReplayEntry)) (k : ℕ) (r : ReplayEntry) (lane line : ℕ) → k < length shards → is_at lane line r.place ≡ true → shown_in shards lane line ≡ [] → shown_in (judged_in shards k r) lane line ≡ judgement_of r ∷ []
judged_here [] k r lane line below at none = absurd (omega arith)
judged_here (rs ∷ shards) zero r lane line below at none =
    let empty = both_empty (shown rs lane line) (shown_in shards lane line) none in
    let one : shown (r ∷ []) lane line ≡ judgement_of r ∷ [] = rw at refl in
    rw (shown-append rs (r ∷ []) lane line, empty.0, empty.1, one) refl
judged_here (rs ∷ shards) (suc k) r lane line below at none =
    let empty = both_empty (shown rs lane line) (shown_in shards lane line) none in
    rw (empty.0) (judged_here shards k r lane line (omega arith) at empty.1)

pub all_judged : (P : ReplayEntry → Type 0) (shards : List (List ReplayEntry)) (k : ℕ) (r : ReplayEntry) → AllByRecursion (AllByRecursion P) shards → P r → AllByRecursion (AllByRecursion P) (judged_in shards k r)
all_judged P [] k r all one = tt
all_judged P (rs ∷ shards) zero r all one = (all_append P rs (r ∷ []) all.0 (one, tt), all.1)
all_judged P (rs ∷ shards) (suc k) r all one = (all.0, all_judged P shards k r all.1 one)

pub own_judged : {m : ℕ → Option Material} {via : Addr → Addr} (ss : List Step) (shards : List (List ReplayEntry)) (k : ℕ) (r : ReplayEntry) (lane : ℕ) (lines : List Line) (answers : List Answer) (now : List Step) → LaneRuns m via ss shards lane lines answers now [] → k < length shards → r.place ≡ record { lane = lane; line = length answers } → LaneRuns m via ss (judged_in shards k r) lane lines answers now (judgement_of r ∷ [])
own_judged {m} {via} ss shards k r lane lines answers now meets below at =
    let line : r.place.line ≡ length answers = ap (λ p. p.line) at in record {
      within = meets.within;
      judged_within = all_judged (λ s. s.place.lane ≡ lane → s.place.line ≤ length answers) shards k r meets.judged_within (λ _. omega arith);
      falls = meets.falls;
      each = λ i before. let was : Meets m via ss shards lane lines answers i = meets.each i before in
          let same : shown_in (judged_in shards k r) lane i ≡ shown_in shards lane i = judged_elsewhere shards k r lane i (elsewhere lane i r.place (λ _ e. absurd (omega arith))) in
          record { line = was.line; answer = was.answer; line_is = was.line_is; answer_is = was.answer_is; path = rw same was.path };
      under_way = meets.under_way;
      judging = judged_here shards k r lane (length answers) below (here lane (length answers) r.place at) meets.judging;
    }

-- ---- along a shard the lines rise

rise_more : (lane : ℕ) (rs : List ReplayEntry) (r : ReplayEntry) → LinesRise lane rs → AllByRecursion (λ s. s.place.lane ≡ lane → r.place.lane ≡ lane → s.place.line < r.place.line) rs → LinesRise lane (rs ++ r ∷ [])
rise_more lane [] r rises below = (λ _. tt, tt)
rise_more lane (s ∷ rs) r rises below = (
  λ own. all_append (λ later. later.place.lane ≡ lane → s.place.line < later.place.line) rs (r ∷ []) (rises.0 own) (λ other. below.0 own other, tt),
  rise_more lane rs r rises.1 below.1,
)

-- No step of the line under way was made yet, so that all of the lane's are of earlier lines.
not_at : (lane line : ℕ) (p : Place) → is_at lane line p ≡ false → p.lane ≡ lane → p.line ≤ line → p.line < line
not_at lane line p other own within = grind (arith, nat_tests)

-- What isn't of the line under way is of an earlier line, whichever kind of step it is.
before : {X : Type 0} (place : X → Place) (lane line : ℕ) (xs : List X) → filter (λ x. is_at lane line (place x)) xs ≡ [] → AllByRecursion (λ x. (place x).lane ≡ lane → (place x).line ≤ line) xs → AllByRecursion (λ x. (place x).lane ≡ lane → (place x).line < line) xs
before place lane line [] none within = tt
before place lane line (x ∷ xs) none within =
    let P : Bool → Type 0 = λ b. (if b then x ∷ filter (λ y. is_at lane line (place y)) xs else filter (λ y. is_at lane line (place y)) xs) ≡ [] in
    elim (is_at lane line (place x)) as (λ b. is_at lane line (place x) ≡ b → P b → AllByRecursion (λ y. (place y).lane ≡ lane → (place y).line < line) (x ∷ xs)) [
      | true ↦ λ at no. absurd (cc)
      | false ↦ λ at no. (λ own. not_at lane line (place x) at own (within.0 own), before place lane line xs no within.1)
    ] refl none

none_shown : (rs : List ReplayEntry) → map judgement_of rs ≡ [] → rs ≡ []
none_shown [] none = refl
none_shown (r ∷ rs) none = absurd (cc)

shown_before : (lane line : ℕ) (rs : List ReplayEntry) → shown rs lane line ≡ [] → AllByRecursion (λ r. r.place.lane ≡ lane → r.place.line ≤ line) rs → AllByRecursion (λ r. r.place.lane ≡ lane → r.place.line < line) rs
shown_before lane line rs none within = before (λ (r : ReplayEntry). r.place) lane line rs (none_shown (filter (λ r. is_at lane line r.place) rs) none) within

shown_in_before : (lane line : ℕ) (shards : List (List ReplayEntry)) → shown_in shards lane line ≡ [] → AllByRecursion (AllByRecursion (λ r. r.place.lane ≡ lane → r.place.line ≤ line)) shards → AllByRecursion (AllByRecursion (λ r. r.place.lane ≡ lane → r.place.line < line)) shards
shown_in_before lane line [] none within = tt
shown_in_before lane line (rs ∷ shards) none within =
    let empty = both_empty (shown rs lane line) (shown_in shards lane line) none in
    (shown_before lane line rs empty.0 within.0, shown_in_before lane line shards empty.1 within.1)

-- A lane with nothing under way is a lane that is done.
pub lane_done : {m : ℕ → Option Material} {via : Addr → Addr} (ss : List Step) (shards : List (List ReplayEntry)) (lane : ℕ) (lines : List Line) (answers : List Answer) → LaneRuns m via ss shards lane lines answers [] [] → LaneMeets m via ss shards lane lines answers
lane_done ss shards lane lines answers runs = record {
  within = before (λ (s : Step). s.entry.place) lane (length answers) ss runs.under_way runs.within;
  judged_within = shown_in_before lane (length answers) shards runs.judging runs.judged_within;
  falls = runs.falls;
  each = runs.each;
}

pub rise_judged : (shards : List (List ReplayEntry)) (k : ℕ) (r : ReplayEntry) (lane line : ℕ) → AllByRecursion (LinesRise lane) shards → AllByRecursion (AllByRecursion (λ s. s.place.lane ≡ lane → s.place.line ≤ line)) shards → shown_in shards lane line ≡ [] → r.place.line ≡ line → AllByRecursion (LinesRise lane) (judged_in shards k r)
rise_judged [] k r lane line rises within none at = tt
rise_judged (rs ∷ shards) zero r lane line rises within none at =
    let empty = both_empty (shown rs lane line) (shown_in shards lane line) none in (
      rise_more lane rs r rises.0 (all_weaker (λ s. s.place.lane ≡ lane → s.place.line < line) (λ s. s.place.lane ≡ lane → r.place.lane ≡ lane → s.place.line < r.place.line)
          (λ s before own _. let b : s.place.line < line = before own in omega arith) rs (shown_before lane line rs empty.0 within.0)),
      rises.1,
    )
rise_judged (rs ∷ shards) (suc k) r lane line rises within none at =
    let empty = both_empty (shown rs lane line) (shown_in shards lane line) none in
    (rises.0, rise_judged shards k r lane line rises.1 within.1 empty.1 at)
