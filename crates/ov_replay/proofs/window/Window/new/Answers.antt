use Rattle.std.proofs.Common.{refl, arith}
use Rattle.ov_model.specs.Replay.{before_gap, floor_of}
use Rattle.ov_replay.proofs.window.Window.new.Goals as goal

pub returns : goal.returns
unfolding before_gap floor_of
returns c = record { moment = refl; highest = refl; last = refl; floor = refl; marks = λ id positive below near. absurd (omega arith) }
