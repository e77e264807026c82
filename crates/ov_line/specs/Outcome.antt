-- What an answer by a rule is: what is found keeps the rule, and a refusal comes only where nothing does.
use Rattle.std.specs.Prelude.{⊤, Result, Ok, Err}
use Rattle.ov_line.specs.declared.line.LineStop.{LineStop}
use Rattle.ov_line.specs.declared.line.LineStop.TheVariants as stop

-- The bytes are outside the grammar, whatever the reason.
abbrev pub IsBad : LineStop → Type 0
IsBad (stop.Bad why) = ⊤
IsBad stop.Memory = ⊥

-- Passed exactly where something holds.
abbrev pub Passes : {E : Type 0} → Type 0 → Result ⊤ E → Type 0
Passes P (Ok done) = P
Passes P (Err why) = ¬ P

-- Something by a rule, or a refusal where there is nothing by it.
abbrev pub Finds : {A E : Type 0} → (A → Type 0) → Result A E → Type 0
Finds rule (Ok a) = rule a
Finds {A} rule (Err why) = (a : A) → ¬ (rule a)

-- The same of what takes memory, of which want says nothing.
abbrev pub Reads : {A : Type 0} → (A → Type 0) → Result A LineStop → Type 0
Reads rule (Ok a) = rule a
Reads {A} rule (Err (stop.Bad why)) = (a : A) → ¬ (rule a)
Reads rule (Err stop.Memory) = ⊤
