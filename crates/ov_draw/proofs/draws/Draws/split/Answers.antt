-- The seat is one of these counters', and has a share to give.
use Rattle.std.proofs.Common.{◌∙◌, ◌≤◌, sym, ap, rules}
use Rattle.ov_draw.proofs.Keeps.{splits}
use Rattle.ov_draw.proofs.draws.Draws.split.Goals as goal

pub split_seat-second-requires : goal.split_seat-second-requires
split_seat-second-requires c =
    let own = ap (λ d. d.of) c.seat.view_is ∙ c.requires.seat ∙ sym c.self.view_is in
    let two : 2 ≤ c.seat.inside.seat.me.0.share = rw (ap (λ d. d.share) c.seat.view_is) c.requires.share in
    (ap (λ d. d.name) own, search rules, splits c.self.inside.table.shared.key 65536 _ _ two)
