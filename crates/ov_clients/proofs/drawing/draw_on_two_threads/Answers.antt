-- Each thread's closure says what it has drawn, and `ended` what both together have.
use Rattle.std.proofs.Common.{rules, ℕ, ◌++◌, subst}
use Rattle.ov_draw.specs.Drawer.{Drawer, IsEnded}
use Rattle.ov_clients.proofs.Ids.{all_ids}
use Rattle.ov_clients.proofs.drawing.draw_on_two_threads.Goals as goal

pub returns : goal.returns
returns g c =
    let one = c.in_ok-one.one in
    let two = c.in_ok-two.two in
    let joined = subst (λ (d : Drawer). IsEnded d.of.first d.drawn d.spent) c.join-seat.ensures.both c.ended-seat.ensures.ended in
    let ended = subst (λ (first : ℕ). IsEnded first (one.drawn ++ two.drawn) (one.spent ++ two.spent)) c.in_ok-counters.ensures.first joined in
    all_ids c.in_ok-counters.counters c.split-one.result.0.share c.split-one.result.1.share c.args.count one two c.in_ok-one.ids c.in_ok-two.others (search rules) (search rules) ended c.requires
