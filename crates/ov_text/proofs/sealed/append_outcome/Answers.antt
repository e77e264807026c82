-- Each outcome by its text.
use Rattle.std.proofs.Common.{◌∙◌, ap}
use Rattle.serde_json.specs.Written.{compact_text}
use Rattle.ov_model.specs.declared.answer.PingOutcome.{PingOutcome}
use Rattle.ov_text.specs.Sealed.{outcome_data}
use Rattle.ov_text.proofs.Lines.{kept_on, outcome_sealed, outcome_spent, outcome_skip}
use Rattle.ov_text.proofs.sealed.append_outcome.Goals as goal

pub returns-in-Sealed : goal.returns-in-Sealed
returns-in-Sealed c = kept_on c.append_sealed.result c.append_sealed.new.page.items c.args.page.now.items _ _ c.append_sealed.ensures (ap (λ (o : PingOutcome). compact_text (outcome_data o)) c.in-Sealed.is ∙ outcome_sealed c.in-Sealed.sealed)

pub returns-in-Spent : goal.returns-in-Spent
returns-in-Spent c = kept_on c.append.result c.append.new.page.items c.args.page.now.items _ _ c.append.ensures (ap (λ (o : PingOutcome). compact_text (outcome_data o)) c.in-Spent.is ∙ outcome_spent)

pub returns-in-Skip : goal.returns-in-Skip
returns-in-Skip c = kept_on c.append-in-Skip.result c.append-in-Skip.new.page.items c.args.page.now.items _ _ c.append-in-Skip.ensures (ap (λ (o : PingOutcome). compact_text (outcome_data o)) c.in-Skip.is ∙ outcome_skip)
