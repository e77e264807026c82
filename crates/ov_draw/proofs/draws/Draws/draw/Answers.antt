-- The seat is one of these counters', stands at no word before its load, and at the key's before its addition.
use Rattle.std.proofs.Common.{◌∙◌, ◌<◌, sym, ap, rules}
use Rattle.ov_draw.proofs.Keeps.{looks, takes}
use Rattle.ov_draw.proofs.draws.Draws.draw.Goals as goal

pub load-requires : goal.load-requires
load-requires c =
    let own = ap (λ d. d.of) c.seat.view_is ∙ c.requires.seat ∙ sym c.self.view_is in
    (ap (λ d. d.name) own, search rules, looks c.self.inside.table.shared.key 65536 _ _ _ _ c.seat.invariant.standing c.seat.invariant.live)

pub fetch_add-found-requires : goal.fetch_add-found-requires
fetch_add-found-requires c =
    let own = ap (λ d. d.of) c.seat.view_is ∙ c.requires.seat ∙ sym c.self.view_is in
    let stands = c.load.ensures.2.1 c.if-load-ge-END.false in
    let live : 0 < c.load.new.seat.me.0.share = rw stands c.seat.invariant.live in
    (c.load.ensures.0 ∙ ap (λ d. d.name) own, search rules, takes c.self.inside.table.shared.key 65536 _ _ _ _ c.requires.key (ap (λ v. v.standing) stands) live)
