use Rattle.std.proofs.Common.{◌≡◌, ◌<◌, ◌≤◌, ℕ, ap, sym, subst, length, ◌∙◌, None, arith}
use Rattle.std.specs.Prelude.{get_or, slice_get}
use Rattle.ov_replay.specs.Desk.{Part, part_in, name_at}
use Rattle.ov_replay.proofs.Seating.{part_seen, names_here, is_seat, cut_seen}
use Rattle.ov_replay.proofs.desk.ReplayDesk.split.Goals as goal

pub cut_all-parts-requires-clause-of : goal.cut_all-parts-requires-clause-of
cut_all-parts-requires-clause-of c =
    let long : length c.self.inside.locks.items ≡ 8 = c.self.invariant.0 in
    subst (λ l. (s : ℕ) → s < length l → (part_in (get_or c.seat.inside.parts.items s None)).name ≡ name_at (slice_get l s)) (sym c.as_slice.ensures.value)
    (λ s below. names_here c.self.inside.locks.items c.args.self.now c.seat.inside.parts.items c.args.seat c.self.view_is c.seat.view_is c.requires.of s (omega arith))

pub cut_all-parts-requires-clause-share : goal.cut_all-parts-requires-clause-share
cut_all-parts-requires-clause-share c s below =
    let long : length c.self.inside.locks.items ≡ 8 = c.self.invariant.0 in
    let lent = ap length c.as_slice.ensures.value in
    subst (λ (p : Part). 2 ≤ p.share) (part_seen c.seat.inside.parts.items c.args.seat c.seat.view_is s) (c.requires.share s (omega arith))

pub returns-clause-of : goal.returns-clause-of
returns-clause-of c =
    let long : length c.self.inside.locks.items ≡ 8 = c.self.invariant.0 in
    let lent = ap length c.as_slice.ensures.value in
    let was = names_here c.self.inside.locks.items c.args.self.now c.seat.inside.parts.items c.args.seat c.self.view_is c.seat.view_is c.requires.of in (
      is_seat c.self.inside.locks.items c.args.self.now c.cut_all-parts.result.0.items c.self.view_is (λ s below. ap (λ (p : Part). p.name) (c.cut_all-parts.ensures.cut s (omega arith)).left_is ∙ was s below),
      is_seat c.self.inside.locks.items c.args.self.now c.cut_all-parts.result.1.items c.self.view_is (λ s below. ap (λ (p : Part). p.name) (c.cut_all-parts.ensures.cut s (omega arith)).right_is ∙ was s below),
    )

pub returns-clause-cut : goal.returns-clause-cut
returns-clause-cut c s below =
    let long : length c.self.inside.locks.items ≡ 8 = c.self.invariant.0 in
    let lent = ap length c.as_slice.ensures.value in
    let lt : s < 8 = below in
    cut_seen c.seat.inside.parts.items c.cut_all-parts.result.0.items c.cut_all-parts.result.1.items c.args.seat c.seat.view_is s (c.cut_all-parts.ensures.cut s (omega arith))
