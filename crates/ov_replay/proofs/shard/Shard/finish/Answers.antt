use Rattle.std.proofs.Common.{List, sym, subst}
use Rattle.ov_model.specs.Replay.{ShardJudges}
use Rattle.ov_model.specs.declared.replay.ReplayEntry.{ReplayEntry}
use Rattle.ov_replay.specs.History.{History}
use Rattle.ov_replay.proofs.shard.Shard.finish.Goals as goal

pub returns-clause-judged : goal.returns-clause-judged
returns-clause-judged c =
    subst (λ (l : List ReplayEntry). ShardJudges c.args.self.number l) (sym c.finish.ensures.entries) (subst (λ (h : History). ShardJudges h.number c.self.inside.course) c.self.view_is c.self.invariant)
