-- Facts on options and answers that the grammar's parts share.
use Rattle.std.proofs.Common.{rules, ◌≡◌, false, Option, None, Some, Result, Ok, Err, List, ℕ, subst, sym}
use Rattle.std.specs.Option.{is_some}
use Rattle.std.specs.Prelude.{IsErr, IsErrAnd, IfErr, MatchOption}
use Rattle.serde_json.specs.Data.{Data}
use Rattle.serde_json.specs.Find.{get}
use Rattle.ov_line.specs.declared.line.LineStop.{LineStop}
use Rattle.ov_line.specs.declared.line.LineStop.TheVariants as stop
use Rattle.ov_line.specs.Values.{Has}
use Rattle.ov_line.specs.Outcome.{IsBad, Finds, Reads}
use Rattle.ov_line.proofs.Has.{has_not}

-- Two values under `Some` are one where the options are.
pub some_same : {A : Type 0} → (a b : A) → Some a ≡ Some b → a ≡ b
some_same a b h = search (rules, h)

-- What holds of a cause holds of the answer that hands it on.
pub handed_on : {T E : Type 0} → (r : Result T E) (stop : E) (P : E → Type 0) → IsErr r × IsErrAnd r (λ s. s ≡ stop) → P stop → IfErr r P
handed_on (Ok x) stop P h p = tt
handed_on (Err s) stop P h p = subst P (sym h.1) p

-- What holds where there is no value, by the test.
pub none_of : {A : Type 0} (r : Option A) (P : Type 0) (Q : A → Type 0) → is_some r ≡ false → MatchOption r P Q → P
none_of None P Q is h = h
none_of (Some a) P Q is h = absurd (cc is)

-- A refusal of a part is one of the whole, where the whole has the part.
pub finds_not : {A B E : Type 0} (r : Result B E) (why : E) (rule : A → Type 0) (whole : B → Type 0) → IsErr r × IsErrAnd r (λ s. s ≡ why) → Finds {A = A} {E = E} rule (Err why) → ((b : B) → whole b → (a : A) × rule a) → Finds whole r
finds_not (Ok x) why rule whole h none part = absurd (cc h.0)
finds_not (Err s) why rule whole h none part = λ b w. none (part b w).0 (part b w).1

refused : {A B : Type 0} (s : LineStop) (rule : A → Type 0) (whole : B → Type 0) → Reads {A = A} rule (Err s) → ((b : B) → whole b → (a : A) × rule a) → Reads {A = B} whole (Err s)
refused (stop.Bad why) rule whole none part = λ b w. none (part b w).0 (part b w).1
refused stop.Memory rule whole none part = tt

pub reads_not : {A B : Type 0} (r : Result B LineStop) (s : LineStop) (rule : A → Type 0) (whole : B → Type 0) → IsErr r × IsErrAnd r (λ t. t ≡ s) → Reads {A = A} rule (Err s) → ((b : B) → whole b → (a : A) × rule a) → Reads whole r
reads_not (Ok x) s rule whole h none part = absurd (cc h.0)
reads_not (Err t) s rule whole h none part = subst (λ (u : LineStop). Reads whole (Err u)) (sym h.1) (refused s rule whole none part)

-- A refusal of what stands under a name is one of the name.
refused_under : {A : Type 0} (s : LineStop) (kind : Data → A → Type 0) (name : List ℕ) (d v : Data) → Some v ≡ get name d → Reads {A = A} (kind v) (Err s) → Reads {A = Option A} (Has kind name d) (Err s)
refused_under (stop.Bad why) kind name d v found none = has_not kind name d v found none
refused_under stop.Memory kind name d v found none = tt

pub reads_not_under : {A : Type 0} (r : Result (Option A) LineStop) (s : LineStop) (kind : Data → A → Type 0) (name : List ℕ) (d v : Data) → IsErr r × IsErrAnd r (λ t. t ≡ s) → Some v ≡ get name d → Reads {A = A} (kind v) (Err s) → Reads (Has kind name d) r
reads_not_under (Ok x) s kind name d v h found none = absurd (cc h.0)
reads_not_under (Err t) s kind name d v h found none = subst (λ (u : LineStop). Reads (Has kind name d) (Err u)) (sym h.1) (refused_under s kind name d v found none)

-- What a refusal says of nothing that could have been.
pub nothing_by : {A : Type 0} (s : LineStop) (rule : A → Type 0) → Reads {A = A} rule (Err s) → IsBad s → (a : A) → ¬ (rule a)
nothing_by (stop.Bad why) rule none bad = none
nothing_by stop.Memory rule none bad = absurd bad
