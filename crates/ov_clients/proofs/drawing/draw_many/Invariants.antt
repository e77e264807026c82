use Rattle.ov_clients.specs.Ids.{HasDrawn}
use Rattle.ov_clients.proofs.drawing.draw_many.Given as goal

abbrev pub invariant-loop-turn : goal.invariant-loop-turn
invariant-loop-turn l = HasDrawn l.draws l.fn.seat.share l._turn l.seat l.ids
