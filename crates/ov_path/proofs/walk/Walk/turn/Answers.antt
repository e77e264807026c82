use Rattle.std.proofs.Common.{sym, ◌∙◌}
use Rattle.ov_path.proofs.Ending.{none_owed, at_stage, not_open, tick_open}
use Rattle.ov_path.proofs.walk.Walk.turn.Goals as goal

pub peer_back-requires : goal.peer_back-requires
peer_back-requires g c κs within =
    (within, (at_stage (sym c.replace.ensures.value ∙ c.in-KeyGiven.is) c.requires.1.0, none_owed _ (sym c.owed.ensures.first ∙ c.in_default.is)))

pub unreachable-requires-in-PeerGiven : goal.unreachable-requires-in-PeerGiven
unreachable-requires-in-PeerGiven g c = not_open (sym c.replace.ensures.value ∙ c.in-PeerGiven.is) (none_owed _ (sym c.owed.ensures.first ∙ c.in_default.is)) c.requires.1.1.0

pub tick-requires : goal.tick-requires
tick-requires g c κs within =
    (within, (at_stage (sym c.replace.ensures.value ∙ c.in-Ticking.is) c.requires.1.0, (none_owed _ (sym c.owed.ensures.first ∙ c.in_default.is), tick_open (sym c.replace.ensures.value ∙ c.in-Ticking.is) (none_owed _ (sym c.owed.ensures.first ∙ c.in_default.is)) c.requires.1.1.0)))
