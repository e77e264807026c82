-- The delivery law, in both directions.
use Rattle.std.proofs.Common.{ap, ◌∙◌}
use Rattle.std.specs.Prelude.{Some}
use Rattle.ov_model.proofs.DeliveryLaw.{delivered_shows, showing_delivers, delivered_received}
use Rattle.ov_model.proofs.laws.n3.Goals as goal

pub returns-clause-delivered : goal.returns-clause-delivered
returns-clause-delivered c script start report legal lane line from bytes a receives at id packet = (
  (λ is. delivered_shows script start report legal lane line from bytes receives id packet (at ∙ ap (λ b. Some b) is)),
  showing_delivers script start report legal lane line from bytes a receives at id packet,
)

pub returns-clause-received : goal.returns-clause-received
returns-clause-received c = delivered_received
