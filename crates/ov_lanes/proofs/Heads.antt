-- The entries of the head's lines come first, where each stands in its turn.
use Rattle.std.proofs.Common.{ℕ, zero, suc, ◌≡◌, ◌-◌, ◌<◌, ◌≤◌, List, [], ◌∷◌, ◌++◌, length, min, set, refl, sym, ◌∙◌, ap, subst, Bool, true, false, arith, inl, inr, ◌==◌, if◌then◌else◌, nat_le}
use Rattle.std.specs.Prelude.{filter, map, take, get_or, slice_get, Some}
use Rattle.std.specs.List.{AllByRecursion}
use Rattle.std.proofs.lemmas.Bool.{cases_eq, cases_lt, eq-eqb}
use Rattle.std.proofs.lemmas.Bool.Decides.{nat_tests}
use Rattle.std.proofs.lemmas.List.{length-map}
use Rattle.std.proofs.lemmas.List.Elements.{All-from_recursion, recursion_from_All, All-set}
use Rattle.std.proofs.lemmas.Option.{none-some, same_Some, slice_get-get_or, slice_get_within}
use mathlib.Core.Option.{some, some-injective, some-ne-none}
use lib.ListN.{get_elem?, length-append}
use Rattle.ov_base.specs.Sums.{count_of}
use Rattle.ov_base.proofs.Sums.{total_snoc}
use Rattle.ov_model.specs.declared.entry.Entry.{Entry}
use Rattle.ov_model.specs.declared.line.Line.{Line}
use Rattle.ov_model.specs.declared.line.Script.{Script}
use Rattle.ov_model.specs.declared.place.Place.{Place}
use Rattle.ov_model.specs.declared.report.Report.{Report}
use Rattle.ov_model.specs.Legal.{lane_lines}
use Rattle.ov_model.specs.Own.{positions, RiseFrom}
use Rattle.ov_model.proofs.Lanes.{all_append, all_weaker}
use Rattle.ov_share.specs.Passings.{Passing, IsPart}
use Rattle.ov_core.proofs.Seats.{all_at}
use Rattle.ov_lanes.specs.Threads.{LanesDone, IsPlaceOf, HeadFirst}
use Rattle.ov_lanes.specs.Heads.{over_at, InTurn, AllInTurn, InHead, AllInHead, IsNext, IsBehind}
use Rattle.ov_lanes.proofs.Together.{pass_of, lane_at, part_of}

-- ---- the place of a line

-- Before a line stand fewer lines of its lane than before any later line.
earlier_fewer : (lane : ℕ) (lines : List Line) (m n : ℕ) (line : Line) → slice_get lines m ≡ Some line → line.lane ≡ lane → m < n → length (lane_lines (take m lines) lane) < length (lane_lines (take n lines) lane)
earlier_fewer lane [] m n line at same below = absurd (none-some line at)
earlier_fewer lane (x ∷ lines) m zero line at same below = absurd (omega arith)
earlier_fewer lane (x ∷ lines) zero (suc n) line at same below =
    let its : x.lane ≡ lane = ap (λ (l : Line). l.lane) (same_Some x line at) ∙ same in
    rw (eq-eqb x.lane lane its) (omega arith)
earlier_fewer lane (x ∷ lines) (suc m) (suc n) line at same below =
    let later = earlier_fewer lane lines m n line at same (omega arith) in
    elim (x.lane == lane) as (λ b. length (if b then x ∷ lane_lines (take m lines) lane else lane_lines (take m lines) lane) < length (if b then x ∷ lane_lines (take n lines) lane else lane_lines (take n lines) lane)) [
      | true ↦ omega (arith, later)
      | false ↦ later
    ]

-- How many lines of its lane stand before a place.
earlier_of : {lines : List Line} {n : ℕ} {place : Place} → IsPlaceOf lines n place → place.line ≡ length (lane_lines (take n lines) place.lane)
earlier_of {lines} {n} is = is.earlier ∙ ap (λ lane. length (lane_lines (take n lines) lane)) (sym is.lane)

-- A place before a number of lines has fewer lines of its lane before it.
place_before : {lines : List Line} {m : ℕ} {place : Place} (n : ℕ) → IsPlaceOf lines m place → m < n → place.line < length (lane_lines (take n lines) place.lane)
place_before {lines} {m} {place} n is below =
    let fewer = earlier_fewer place.lane lines m n is.line is.line_is (sym is.lane) below in
    let its = earlier_of is in omega arith

-- A place is that of one line.
same_line : {lines : List Line} {m n : ℕ} {place : Place} → IsPlaceOf lines m place → IsPlaceOf lines n place → m ≡ n
same_line {lines} {m} {n} a b = elim (cases_lt m n) [
  | inl below ↦ absurd (let fewer = place_before n a below in let its = earlier_of b in omega arith)
  | inr not_below ↦ elim (cases_lt n m) [
    | inl above ↦ absurd (let fewer = place_before m b above in let its = earlier_of a in omega arith)
    | inr not_above ↦ omega arith
  ]
]

-- ---- the lines that were over at a position

over_one : (end p q : ℕ) → p ≤ q → (if nat_le end p then 1 else 0) ≤ (if nat_le end q then 1 else 0)
over_one end p q later = grind (arith, nat_tests)

over_rises : (ends : List ℕ) (p q : ℕ) → p ≤ q → over_at ends p ≤ over_at ends q
over_rises [] p q later = omega arith
over_rises (end ∷ ends) p q later = omega (arith, over_one end p q later, over_rises ends p q later)

over_here : (end p : ℕ) → end ≤ p → ◌≡◌ {A = ℕ} (if nat_le end p then 1 else 0) 1
over_here end p over = grind (arith, nat_tests)

over_not : (end p : ℕ) → p < end → ◌≡◌ {A = ℕ} (if nat_le end p then 1 else 0) 0
over_not end p before = grind (arith, nat_tests)

over_all : (ends : List ℕ) (p : ℕ) → AllByRecursion (λ end. end ≤ p) ends → over_at ends p ≡ length ends
over_all [] p all = refl
over_all (end ∷ ends) p all = omega (arith, over_here end p all.0, over_all ends p all.1)

-- ---- all members of a test that a list names, by their positions

module _ {X : Type 0} (test : X → Bool) where
  -- What a list has at a position that is counted from b.
  abbrev Names : List X → ℕ → ℕ × X → Type 0
  Names xs b e = get_elem? xs (e.0 - b) ≡ some e.1

  -- One member fewer, and one position more.
  at_next : (x : X) (xs : List X) (b p : ℕ) (y : X) → suc b ≤ p → get_elem? (x ∷ xs) (p - b) ≡ some y → get_elem? xs (p - suc b) ≡ some y
  at_next x xs b p y above at = let next : suc (p - suc b) ≡ p - b = omega arith in ap (get_elem? (x ∷ xs)) next ∙ at

  names_next : (x : X) (xs : List X) (b c : ℕ) (own : List (ℕ × X)) → suc b ≤ c → RiseFrom c (positions own) → AllByRecursion (Names (x ∷ xs) b) own → AllByRecursion (Names xs (suc b)) own
  names_next x xs b c [] above rise names = tt
  names_next x xs b c (e ∷ own) above rise names =
      let from : c ≤ e.0 = rise.0 in
      (at_next x xs b e.0 e.1 (omega arith) names.0, names_next x xs b (suc e.0) own (omega arith) rise.1 names.1)

  -- The first member, named at the first position.
  at_first : (x : X) (xs : List X) (b p : ℕ) (y : X) → p ≡ b → get_elem? (x ∷ xs) (p - b) ≡ some y → x ≡ y
  at_first x xs b p y first at = let here : 0 ≡ p - b = omega arith in some-injective x y (ap (get_elem? (x ∷ xs)) here ∙ at)

  filter_less : (x : X) (xs : List X) → length (filter test xs) ≤ length (filter test (x ∷ xs))
  filter_less x xs = elim (test x) as (λ b. length (filter test xs) ≤ length (if b then x ∷ filter test xs else filter test xs)) [
    | true ↦ omega arith
    | false ↦ omega arith
  ]

  filter_more : (x : X) (xs : List X) → test x ≡ true → length (filter test (x ∷ xs)) ≡ suc (length (filter test xs))
  filter_more x xs so = rw so refl

  -- No more are named than there are.
  named_few : (xs : List X) (b : ℕ) (own : List (ℕ × X)) → RiseFrom b (positions own) → AllByRecursion (Names xs b) own → AllByRecursion (λ e. test e.1 ≡ true) own → length own ≤ length (filter test xs)
  named_few [] b [] rise names passes = omega arith
  named_few [] b (e ∷ own) rise names passes = absurd (some-ne-none e.1 (sym names.0))
  named_few (x ∷ xs) b [] rise names passes = omega arith
  named_few (x ∷ xs) b (e ∷ own) rise names passes = elim (cases_eq e.0 b) [
    | inl first ↦
        let so : test x ≡ true = ap test (at_first x xs b e.0 e.1 first names.0) ∙ passes.0 in
        let above : RiseFrom (suc b) (positions own) = subst (λ n. RiseFrom (suc n) (positions own)) first rise.1 in
        let later = named_few xs (suc b) own above (names_next x xs b (suc b) own (omega arith) above names.1) passes.1 in
        omega (arith, later, filter_more x xs so)
    | inr other ↦
        let above : RiseFrom (suc b) (positions (e ∷ own)) = (let from : b ≤ e.0 = rise.0 in omega arith, rise.1) in
        let later = named_few xs (suc b) (e ∷ own) above (names_next x xs b (suc b) (e ∷ own) (omega arith) above names) passes in
        omega (arith, later, filter_less x xs)
  ]

  -- Where as many are named as pass, each that passes is named: what holds of all that are named holds of it.
  named_all : (P : ℕ × X → Type 0) (xs : List X) (b : ℕ) (own : List (ℕ × X)) (p : ℕ) (y : X) → RiseFrom b (positions own) → AllByRecursion (Names xs b) own → AllByRecursion (λ e. test e.1 ≡ true) own → length (filter test xs) ≤ length own
      → b ≤ p → get_elem? xs (p - b) ≡ some y → test y ≡ true → AllByRecursion P own → P (p, y)
  named_all P [] b own p y rise names passes enough from at so all = absurd (some-ne-none y (sym at))
  named_all P (x ∷ xs) b [] p y rise names passes enough from at so all = elim (cases_eq p b) [
    | inl first ↦ absurd (let its : test x ≡ true = ap test (at_first x xs b p y first at) ∙ so in let more = filter_more x xs its in omega arith)
    | inr other ↦ named_all P xs (suc b) [] p y tt tt tt (let less = filter_less x xs in omega arith) (omega arith) (at_next x xs b p y (omega arith) at) so tt
  ]
  named_all P (x ∷ xs) b (e ∷ own) p y rise names passes enough from at so all = elim (cases_eq e.0 b) [
    | inl first ↦
        let same : x ≡ e.1 = at_first x xs b e.0 e.1 first names.0 in
        let its : test x ≡ true = ap test same ∙ passes.0 in
        let above : RiseFrom (suc b) (positions own) = subst (λ n. RiseFrom (suc n) (positions own)) first rise.1 in
        elim (cases_eq p b) [
          | inl here ↦
              let place : e.0 ≡ p = first ∙ sym here in
              let member : e.1 ≡ y = sym same ∙ at_first x xs b p y here at in
              let both : ◌≡◌ {A = ℕ × X} (e.0, e.1) (p, y) = λ i. (place i, member i) in
              subst P both all.0
          | inr other ↦ named_all P xs (suc b) own p y above (names_next x xs b (suc b) own (omega arith) above names.1) passes.1 (let more = filter_more x xs its in omega arith) (omega arith) (at_next x xs b p y (omega arith) at) so all.1
        ]
    | inr later ↦
        let above : RiseFrom (suc b) (positions (e ∷ own)) = (let start : b ≤ e.0 = rise.0 in omega arith, rise.1) in
        let next : AllByRecursion (Names xs (suc b)) (e ∷ own) = names_next x xs b (suc b) (e ∷ own) (omega arith) above names in
        elim (cases_eq p b) [
          | inl here ↦ absurd (let its : test x ≡ true = ap test (at_first x xs b p y here at) ∙ so in let more = filter_more x xs its in let few = named_few xs (suc b) (e ∷ own) above next passes in omega arith)
          | inr other ↦ named_all P xs (suc b) (e ∷ own) p y above next passes (let less = filter_less x xs in omega arith) (omega arith) (at_next x xs b p y (omega arith) at) so all
        ]
  ]

-- ---- the journal's entries are those of the passes

elem_or : {X : Type 0} (xs : List X) (i : ℕ) (d : X) → i < length xs → get_elem? xs i ≡ some (get_or xs i d)
elem_or [] i d below = absurd (omega arith)
elem_or (x ∷ xs) zero d below = refl
elem_or (x ∷ xs) (suc i) d below = elem_or xs i d (omega arith)

same_lane : (lane i n : ℕ) → lane ≡ i → n ≡ i → (lane == n) ≡ true
same_lane lane i n a b = eq-eqb lane n (a ∙ sym b)

-- What holds of all entries of the passes holds of each entry of the journal, at its position.
journal_own : {script : Script} {first : ℕ} {report : Report} {passes : List Passing} → LanesDone script first report passes → (P : ℕ × Entry → Type 0) → AllByRecursion (λ p. AllByRecursion P p.share.sight.own) passes → (r : ℕ) (d : Entry) → r < length report.journal → P (r, get_or report.journal r d)
journal_own {script} {first} {report} {passes} all P each r d below =
    let e : Entry = get_or report.journal r d in
    let some_of : 0 < count_of e.place.lane (map (λ p. p.number) passes) = all_at (λ (x : Entry). 0 < count_of x.place.lane (map (λ p. p.number) passes)) report.journal r e all.history.within (slice_get-get_or report.journal r d below) in
    let its = pass_of e.place.lane passes some_of in
    let p : Passing = its.pass in
    let part : IsPart report.journal report.shards p = part_of all its.i p its.at in
    let done = (lane_at all its.i p its.at).done in
    let own : List (ℕ × Entry) = p.share.sight.own in
    let names : AllByRecursion (λ x. get_elem? report.journal (x.0 - 0) ≡ some x.1) own = all_weaker (λ x. get_elem? report.journal x.0 ≡ some x.1) (λ x. get_elem? report.journal (x.0 - 0) ≡ some x.1)
    (λ x at. let same : x.0 - 0 ≡ x.0 = omega arith in ap (get_elem? report.journal) same ∙ at) own part.at in
    let passed : AllByRecursion (λ x. (x.1.place.lane == p.number) ≡ true) own = all_weaker (λ x. x.1.place.lane ≡ its.i) (λ x. (x.1.place.lane == p.number) ≡ true)
    (λ x lane. same_lane x.1.place.lane its.i p.number lane done.number) own done.kept.stands.placed in
    let entries : length (filter (λ x. x.place.lane == p.number) report.journal) ≡ length (map (λ x. x.1) own) = ap length part.own in
    let long : length (map (λ x. x.1) own) ≡ length own = length-map own (λ x. x.1) in
    let start : r - 0 ≡ r = omega arith in
    named_all (λ x. x.place.lane == p.number) P report.journal 0 own r e done.kept.stands.rise names passed (omega arith) (omega arith) (ap (get_elem? report.journal) start ∙ elem_or report.journal r d below) (eq-eqb e.place.lane p.number (sym its.number))
    (all_at (λ (q : Passing). AllByRecursion P q.share.sight.own) passes its.i p each its.at)

-- Where each entry stands in its turn, the entries of the head come first.
pub head_first : (script : Script) (first : ℕ) (report : Report) (passes : List Passing) (ends : List ℕ) → LanesDone script first report passes → AllInTurn script.lines ends passes → HeadFirst script (length ends) report
head_first script first report passes ends all turns p q d before below n in_head place =
    let early : InTurn script.lines ends (p, get_or report.journal p d) = journal_own all (InTurn script.lines ends) turns p d (omega arith) in
    let late : InTurn script.lines ends (q, get_or report.journal q d) = journal_own all (InTurn script.lines ends) turns q d below in
    let rises : over_at ends p ≤ over_at ends q = over_rises ends p q (omega arith) in
    elim (cases_lt (over_at ends q) (length ends)) [
      | inl head ↦
          let same : over_at ends q ≡ n = same_line (late.head head) place in
          record { number = over_at ends p; most = omega arith; is = early.head (omega arith) }
      | inr past ↦ absurd (let behind : length ends ≤ n = late.behind past n place in omega arith)
    ]

-- What it says of two entries: where the later one is of a line of the head, the earlier one is of no later line.
pub head_leads : (script : Script) (head : ℕ) (report : Report) → HeadFirst script head report → (p q m n : ℕ) (d : Entry) → p < q → q < length report.journal → n < head
    → IsPlaceOf script.lines m (get_or report.journal p d).place → IsPlaceOf script.lines n (get_or report.journal q d).place → m ≤ n
head_leads script head report firsts p q m n d before below in_head early late =
    let upto = firsts p q d before below n in_head late in
    let same : upto.number ≡ m = same_line upto.is early in
    let most = upto.most in omega arith

-- A script has no more lines of a head than it has lines.
pub head_capped : (script : Script) (report : Report) (head n : ℕ) → min head (length script.lines) ≤ n → HeadFirst script n report → HeadFirst script head report
head_capped script report head n enough firsts p q d before below m in_head place = firsts p q d before below m (let within = slice_get_within script.lines m place.line place.line_is in omega arith) place

-- ---- while the head runs, and behind it

-- An entry of a line that is over stays so as one more line is.
in_head_stays : (lines : List Line) (ends : List ℕ) (end : ℕ) (e : ℕ × Entry) → AllByRecursion (λ x. x ≤ end) ends → InHead lines ends e → InHead lines (ends ++ end ∷ []) e
in_head_stays lines ends end e most was =
    let over : over_at ends e.0 < length ends = was.over in
    let before : e.0 < end = elim (cases_lt e.0 end) [
      | inl before ↦ before
      | inr past ↦ absurd (let whole = over_all ends e.0 (all_weaker (λ x. x ≤ end) (λ x. x ≤ e.0) (λ x m. omega arith) ends most) in omega arith)
    ] in
    let same : over_at (ends ++ end ∷ []) e.0 ≡ over_at ends e.0 = total_snoc (λ x. if nat_le x e.0 then 1 else 0) ends end ∙ (let none = over_not end e.0 before in omega arith) in
    record { over = (let long = length-append ends (end ∷ []) in omega arith); is = rw same was.is }

-- An entry of the next line.
in_head_next : (lines : List Line) (ends : List ℕ) (low end : ℕ) (e : ℕ × Entry) → AllByRecursion (λ x. x ≤ low) ends → IsNext lines (length ends) low end e → InHead lines (ends ++ end ∷ []) e
in_head_next lines ends low end e most next =
    let from : low ≤ e.0 = next.from in
    let whole = over_all ends e.0 (all_weaker (λ x. x ≤ low) (λ x. x ≤ e.0) (λ x m. omega arith) ends most) in
    let same : over_at (ends ++ end ∷ []) e.0 ≡ length ends = total_snoc (λ x. if nat_le x e.0 then 1 else 0) ends end ∙ (let none = over_not end e.0 next.below in omega arith) in
    record { over = (let long = length-append ends (end ∷ []) in omega arith); is = rw same next.is }

-- A pass answered the head's next line: its entries have more of that line, and the other passes' are as they were.
pub head_more : (lines : List Line) (ends : List ℕ) (low end : ℕ) (passes : List Passing) (i : ℕ) (old new : Passing) (more : List (ℕ × Entry)) → AllInHead lines ends passes → AllByRecursion (λ x. x ≤ low) ends → low ≤ end → slice_get passes i ≡ Some old → new.share.sight.own ≡ old.share.sight.own ++ more
    → AllByRecursion (IsNext lines (length ends) low end) more → AllInHead lines (ends ++ end ∷ []) (set passes i new)
head_more lines ends low end passes i old new more were most wider at own next =
    let Was : ℕ × Entry → Type 0 = InHead lines ends in
    let Is : ℕ × Entry → Type 0 = InHead lines (ends ++ end ∷ []) in
    let below : AllByRecursion (λ x. x ≤ end) ends = all_weaker (λ x. x ≤ low) (λ x. x ≤ end) (λ x m. omega arith) ends most in
    let stays : (es : List (ℕ × Entry)) → AllByRecursion Was es → AllByRecursion Is es = λ es. all_weaker Was Is (λ e was. in_head_stays lines ends end e below was) es in
    let its : AllByRecursion Is (old.share.sight.own ++ more) = all_append Is old.share.sight.own more (stays old.share.sight.own (all_at (λ (p : Passing). AllByRecursion Was p.share.sight.own) passes i old were at))
    (all_weaker (IsNext lines (length ends) low end) Is (λ e n. in_head_next lines ends low end e most n) more next) in
    let All_is : Passing → Type 0 = λ p. AllByRecursion Is p.share.sight.own in
    let all : AllByRecursion All_is passes = all_weaker (λ (p : Passing). AllByRecursion Was p.share.sight.own) All_is (λ p was. stays p.share.sight.own was) passes were in
    recursion_from_All All_is (set passes i new) (All-set All_is passes i new (rw own its) (All-from_recursion All_is passes all))

-- The head is over: its entries are in turn, and so are those of the lines behind it.
pub in_turn_head : (lines : List Line) (ends : List ℕ) (e : ℕ × Entry) → InHead lines ends e → InTurn lines ends e
in_turn_head lines ends e was = record { head = λ _. was.is; behind = λ past. absurd (let over = was.over in omega arith) }

pub in_turn_behind : (lines : List Line) (ends : List ℕ) (low : ℕ) (e : ℕ × Entry) → AllByRecursion (λ x. x ≤ low) ends → IsBehind lines (length ends) low e → InTurn lines ends e
in_turn_behind lines ends low e most behind =
    let from : low ≤ e.0 = behind.from in
    let whole = over_all ends e.0 (all_weaker (λ x. x ≤ low) (λ x. x ≤ e.0) (λ x m. omega arith) ends most) in
    record {
      head = λ head. absurd (omega arith);
      behind = λ past n place. elim (cases_lt n (length ends)) [
        | inl before ↦ absurd (let fewer = place_before (length ends) place before in let later = behind.later in omega arith)
        | inr not_before ↦ not_before
      ];
    }

-- Of a pass that answered more lines behind the head.
pub turns_more : (lines : List Line) (ends : List ℕ) (low : ℕ) (old new : Passing) (more : List (ℕ × Entry)) → AllByRecursion (InHead lines ends) old.share.sight.own → AllByRecursion (λ x. x ≤ low) ends → new.share.sight.own ≡ old.share.sight.own ++ more → AllByRecursion (IsBehind lines (length ends) low) more
    → AllByRecursion (InTurn lines ends) new.share.sight.own
turns_more lines ends low old new more were most own behind =
    rw own (all_append (InTurn lines ends) old.share.sight.own more
    (all_weaker (InHead lines ends) (InTurn lines ends) (λ e was. in_turn_head lines ends e was) old.share.sight.own were)
    (all_weaker (IsBehind lines (length ends) low) (InTurn lines ends) (λ e b. in_turn_behind lines ends low e most b) more behind))
