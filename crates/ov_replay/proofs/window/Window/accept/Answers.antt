use Rattle.ov_replay.proofs.WindowLemmas.{Stands-push}
use Rattle.ov_replay.proofs.window.Window.accept.Goals as goal

pub returns : goal.returns
returns c l m s e =
    Stands-push c.args.self.now l c.args.id m c.max-highest.result c.floor_now-self.result c.pass.new.self c.set.new.self s e
    (c.floor_now-self.ensures l m s) c.max-highest.ensures c.pass.ensures.passed c.pass.ensures.kept c.set.ensures.set c.set.ensures.others
