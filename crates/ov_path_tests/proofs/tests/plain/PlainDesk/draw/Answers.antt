use Rattle.std.proofs.Common.{sym, subst}
use Rattle.ov_model.specs.Next.{stand_of}
use Rattle.ov_path.specs.Desks.{HoldsKey, IsLooked}
use Rattle.ov_path_tests.specs.Plain.{Kept}
use Rattle.ov_path_tests.specs.contracts.tests.plain.Plain.{the_view}
use Rattle.ov_path_tests.proofs.Plain.{draw_sound}
use Rattle.ov_path_tests.proofs.tests.plain.PlainDesk.draw.Goals as goal

pub invariant_of-self : goal.invariant_of-self
invariant_of-self c = draw_sound (the_view c.self.inside) c.args.key c.count-drawn.result c.push.new.self.events c.push.new.self.room c.self.invariant
    (subst (λ (k : Kept). HoldsKey k.hold c.args.key) (sym c.self.view_is) c.requires.held)
    (subst (λ (k : Kept). IsLooked (stand_of k.events)) (sym c.self.view_is) c.requires.looked)
    c.push.ensures.events
    c.push.ensures.room
