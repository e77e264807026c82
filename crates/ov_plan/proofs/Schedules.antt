-- The text of a schedule and its parts between the commas.
use Rattle.std.proofs.Common.{ℕ, ◌≡◌, ◌≢◌, ◌⊎◌, ◌+◌, ◌<◌, ◌≤◌, Bool, true, false, List, [], ◌∷◌, ◌++◌, length, map, refl, sym, ◌∙◌, ap, subst, arith, eqb, not, decimal, All, inl, inr, if◌then◌else◌, ◌/◌, ◌%◌}
use Rattle.std.specs.List.{AllByRecursion, join_with_byte, slice_split, position_or_len, before_first, after_first}
use Rattle.std.proofs.lemmas.Bool.{cases_lt, ne_eqb}
use Rattle.std.proofs.lemmas.Fmt.{decimal_digit}
use Rattle.std.proofs.lemmas.List.Elements.{All-from_recursion}
use Rattle.std.proofs.lemmas.List.Splits.{join_with_byte-slice_split, slice_split_none, slice_split_at, slice_split_first}
use Rattle.std.proofs.lemmas.List.Sums.{fails_before_first}
use Rattle.itoa.proofs.Decimal.{decimal_two, pair}
use Rattle.ov_plan.specs.Plan.{IsLane, IsSchedule, HasSchedule}

-- Whether a byte is a comma.
abbrev pub comma : ℕ → Bool
comma b = eqb b 44

-- The parts of a text between its commas.
abbrev pub parts : List ℕ → List (List ℕ)
parts text = slice_split comma text

-- The decimal number of a lane has no comma.
abbrev NoComma : ℕ → Type 0
NoComma b = comma b ≡ false

no_comma_at : (d : ℕ) → NoComma (48 + d)
no_comma_at d = ne_eqb (48 + d) 44 (λ is. omega (arith, is))

by_size : (lane : ℕ) → lane < 64 → (lane < 10) ⊎ (10 ≤ lane) → All NoComma (decimal lane)
by_size lane below (inl one) = subst (All NoComma) (sym (decimal_digit lane one)) (All-from_recursion NoComma ((48 + lane) ∷ []) (no_comma_at lane, tt))
by_size lane below (inr two) = subst (All NoComma) (sym (decimal_two lane two (omega arith))) (All-from_recursion NoComma (pair lane) (no_comma_at (lane / 10), (no_comma_at (lane % 10), tt)))

no_comma : (lane : ℕ) → lane < 64 → All NoComma (decimal lane)
no_comma lane below = by_size lane below (cases_lt lane 10)

-- The parts of a text of decimal numbers that are joined by commas are these numbers.
parts_are : (lane : ℕ) (lanes : List ℕ) → AllByRecursion (λ l. l < 64) (lane ∷ lanes) → parts (join_with_byte 44 (map decimal (lane ∷ lanes))) ≡ map decimal (lane ∷ lanes)
parts_are lane [] below = slice_split_none comma (decimal lane) (no_comma lane below.0)
parts_are lane (next ∷ lanes) below =
    slice_split_at comma (decimal lane) 44 (join_with_byte 44 (map decimal (next ∷ lanes))) (no_comma lane below.0) refl
    ∙ ap (λ ps. decimal lane ∷ ps) (parts_are next lanes below.1)

are_lanes : (lanes : List ℕ) → AllByRecursion (λ l. l < 64) lanes → AllByRecursion IsLane (map decimal lanes)
are_lanes [] below = tt
are_lanes (lane ∷ lanes) below = (record { lane = lane; below = below.0; is = refl }, are_lanes lanes below.1)

-- Each part of a schedule's text that isn't empty is a lane.
schedule_parts : (text lanes : List ℕ) → text ≢ [] → IsSchedule text lanes → AllByRecursion IsLane (parts text)
schedule_parts text [] some is = absurd (some is.is)
schedule_parts text (lane ∷ lanes) some is =
    subst (AllByRecursion IsLane) (sym (ap parts is.is ∙ parts_are lane lanes is.below)) (are_lanes (lane ∷ lanes) is.below)

-- A text was read up to a rest: the parts before it are those lanes, and they are kept where there was memory.
pub record ReadTo (text rest kept : List ℕ) (full : Bool) : Type 0 where
  pub lanes : List ℕ
  pub below : AllByRecursion (λ lane. lane < 64) lanes
  pub parts_are : parts text ≡ map decimal lanes ++ parts rest
  pub held : full ≡ false → kept ≡ lanes

-- Nothing was read yet.
pub none_read : (text : List ℕ) → ReadTo text text [] false
none_read text = record { lanes = []; below = tt; parts_are = refl; held = λ is. refl }

below_more : (lanes : List ℕ) (lane : ℕ) → AllByRecursion (λ l. l < 64) lanes → lane < 64 → AllByRecursion (λ l. l < 64) (lanes ++ lane ∷ [])
below_more [] lane all below = (below, tt)
below_more (l ∷ lanes) lane all below = (all.0, below_more lanes lane all.1 below)

map_more : (lanes : List ℕ) (lane : ℕ) (ps : List (List ℕ)) → map decimal lanes ++ (decimal lane ∷ ps) ≡ map decimal (lanes ++ lane ∷ []) ++ ps
map_more [] lane ps = refl
map_more (l ∷ lanes) lane ps = ap (λ qs. decimal l ∷ qs) (map_more lanes lane ps)

-- A lane more was read, which stands before the first comma.
pub read_more : (text rest part behind kept now : List ℕ) (full more : Bool) (lane : ℕ) → ReadTo text rest kept full → position_or_len comma rest < length rest → part ≡ before_first comma rest → behind ≡ after_first comma rest
    → lane < 64 → part ≡ decimal lane → (more ≡ false → (full ≡ false) × (now ≡ kept ++ lane ∷ [])) → ReadTo text behind now more
read_more text rest part behind kept now full more lane was some front back below is keeps = record {
  lanes = was.lanes ++ lane ∷ [];
  below = below_more was.lanes lane was.below below;
  parts_are =
      was.parts_are
      ∙ ap (λ ps. map decimal was.lanes ++ ps) (slice_split_first comma rest 0 some ∙ ap (λ p. p ∷ parts (after_first comma rest)) (sym front ∙ is) ∙ ap (λ b. decimal lane ∷ parts b) (sym back))
      ∙ map_more was.lanes lane (parts behind);
  held = λ calm. let k = keeps calm in k.1 ∙ ap (λ ls. ls ++ lane ∷ []) (was.held k.0);
}

last_part : (rest : List ℕ) → position_or_len comma rest ≡ length rest → parts rest ≡ rest ∷ []
last_part rest none = slice_split_none comma rest (λ k d below. fails_before_first comma rest k d (omega (arith, none, below)))

nothing_behind : (lanes : List ℕ) → map decimal lanes ++ [] ≡ map decimal lanes
nothing_behind [] = refl
nothing_behind (l ∷ lanes) = ap (λ ps. decimal l ∷ ps) (nothing_behind lanes)

-- The last lane was read: the text is that of the schedule.
pub all_read : (text rest kept : List ℕ) (full : Bool) (lane : ℕ) (was : ReadTo text rest kept full) → position_or_len comma rest ≡ length rest → lane < 64 → rest ≡ decimal lane → IsSchedule text (was.lanes ++ lane ∷ [])
all_read text rest kept full lane was none below is = record {
  is =
      sym (join_with_byte-slice_split 44 text)
      ∙ ap (join_with_byte 44) (was.parts_are ∙ ap (λ ps. map decimal was.lanes ++ ps) (last_part rest none ∙ ap (λ p. p ∷ []) is) ∙ map_more was.lanes lane [] ∙ nothing_behind (was.lanes ++ lane ∷ []));
  below = below_more was.lanes lane was.below below;
}

pub has_schedule : (text rest kept : List ℕ) (full : Bool) (lane : ℕ) → ReadTo text rest kept full → position_or_len comma rest ≡ length rest → lane < 64 → rest ≡ decimal lane → HasSchedule text
has_schedule text rest kept full lane was none below is = (was.lanes ++ lane ∷ [], all_read text rest kept full lane was none below is)

pub kept_schedule : (text rest kept now : List ℕ) (full : Bool) (lane : ℕ) → ReadTo text rest kept full → position_or_len comma rest ≡ length rest → lane < 64 → rest ≡ decimal lane → full ≡ false → now ≡ kept ++ lane ∷ [] → IsSchedule text now
kept_schedule text rest kept now full lane was none below is calm all =
    subst (IsSchedule text) (sym (all ∙ ap (λ ls. ls ++ lane ∷ []) (was.held calm))) (all_read text rest kept full lane was none below is)

-- Where a part is no lane, the text is no schedule's.
behind_lanes : (ps : List (List ℕ)) (part : List ℕ) (qs : List (List ℕ)) → AllByRecursion IsLane (ps ++ part ∷ qs) → IsLane part
behind_lanes [] part qs all = all.0
behind_lanes (p ∷ ps) part qs all = behind_lanes ps part qs all.1

no_schedule : (text rest kept part : List ℕ) (full : Bool) (qs : List (List ℕ)) → text ≢ [] → ReadTo text rest kept full → parts rest ≡ part ∷ qs → ¬ (IsLane part) → ¬ (HasSchedule text)
no_schedule text rest kept part full qs some was first strange has =
    strange (behind_lanes (map decimal was.lanes) part qs (subst (AllByRecursion IsLane) (was.parts_are ∙ ap (λ ps. map decimal was.lanes ++ ps) first) (schedule_parts text has.0 some has.1)))

pub no_schedule_first : (text rest kept part : List ℕ) (full : Bool) → text ≢ [] → ReadTo text rest kept full → position_or_len comma rest < length rest → part ≡ before_first comma rest → ¬ (IsLane part) → ¬ (HasSchedule text)
no_schedule_first text rest kept part full some was at front strange =
    no_schedule text rest kept part full (parts (after_first comma rest)) some was (slice_split_first comma rest 0 at ∙ ap (λ p. p ∷ parts (after_first comma rest)) (sym front)) strange

pub no_schedule_last : (text rest kept : List ℕ) (full : Bool) → text ≢ [] → ReadTo text rest kept full → position_or_len comma rest ≡ length rest → ¬ (IsLane rest) → ¬ (HasSchedule text)
no_schedule_last text rest kept full some was none strange = no_schedule text rest kept rest full [] some was (last_part rest none) strange

-- What a push that found memory appended.
pub pushed : (new old : List ℕ) (x : ℕ) (ok err : Bool) → new ≡ (if ok then old ++ x ∷ [] else old) → ok ≡ not err → err ≡ false → new ≡ old ++ x ∷ []
pushed new old x ok err is other calm = is ∙ ap (λ b. if b then old ++ x ∷ [] else old) (other ∙ ap not calm)

pub not_both : (b : Bool) → b ≡ true → ¬ (b ≡ false)
not_both b is is_not = cc
