use Rattle.std.proofs.Common.{ap, sym, refl, ◌∙◌}
use Rattle.ov_replay.specs.Desk.{Part, is_new}
use Rattle.ov_replay.proofs.Places.{seen_part, seen_name}
use Rattle.ov_replay.proofs.Seating.{is_seat}
use Rattle.ov_replay.proofs.desk.ReplayDesk.new.Goals as goal

pub returns-clause-of : goal.returns-clause-of
returns-clause-of c = is_seat c.in_ok-locks.locks.items _ c.in_ok-locks.parts.items refl (λ s below. ap (λ (p : Part). p.name) (c.in_ok-locks.ensures.new s below))

pub returns-clause-new : goal.returns-clause-new
returns-clause-new c s below = seen_part c.in_ok-locks.parts.items s ∙ c.in_ok-locks.ensures.new s below ∙ ap is_new (sym (seen_name c.in_ok-locks.locks.items s))
