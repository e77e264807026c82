use Rattle.std.proofs.Common.{◌≡◌, ◌<◌, ℕ, ap, sym, subst, length, ◌∙◌, None, arith}
use Rattle.std.specs.Prelude.{get_or, slice_get}
use Rattle.ov_replay.specs.Desk.{part_in, name_at}
use Rattle.ov_replay.proofs.Seating.{names_here, is_seat, joined_seen}
use Rattle.ov_replay.proofs.desk.ReplayDesk.join.Goals as goal

pub join_all-requires-clause-left : goal.join_all-requires-clause-left
join_all-requires-clause-left c =
    let long : length c.self.inside.locks.items ≡ 8 = c.self.invariant.0 in
    subst (λ l. (s : ℕ) → s < length l → (part_in (get_or c.left.inside.parts.items s None)).name ≡ name_at (slice_get l s)) (sym c.as_slice.ensures.value)
    (λ s below. names_here c.self.inside.locks.items c.args.self.now c.left.inside.parts.items c.args.left c.self.view_is c.left.view_is c.requires.left s (omega arith))

pub join_all-requires-clause-right : goal.join_all-requires-clause-right
join_all-requires-clause-right c =
    let long : length c.self.inside.locks.items ≡ 8 = c.self.invariant.0 in
    subst (λ l. (s : ℕ) → s < length l → (part_in (get_or c.right.inside.parts.items s None)).name ≡ name_at (slice_get l s)) (sym c.as_slice.ensures.value)
    (λ s below. names_here c.self.inside.locks.items c.args.self.now c.right.inside.parts.items c.args.right c.self.view_is c.right.view_is c.requires.right s (omega arith))

pub returns-clause-of : goal.returns-clause-of
returns-clause-of c =
    let long : length c.self.inside.locks.items ≡ 8 = c.self.invariant.0 in
    let lent = ap length c.as_slice.ensures.value in
    let was = names_here c.self.inside.locks.items c.args.self.now c.left.inside.parts.items c.args.left c.self.view_is c.left.view_is c.requires.left in
    is_seat c.self.inside.locks.items c.args.self.now c.join_all.result.items c.self.view_is (λ s below. (c.join_all.ensures.joined s (omega arith)).name ∙ was s below)

pub returns-clause-joined : goal.returns-clause-joined
returns-clause-joined c s below =
    let long : length c.self.inside.locks.items ≡ 8 = c.self.invariant.0 in
    let lent = ap length c.as_slice.ensures.value in
    let lt : s < 8 = below in
    joined_seen c.left.inside.parts.items c.right.inside.parts.items c.join_all.result.items c.args.left c.args.right c.left.view_is c.right.view_is s (c.join_all.ensures.joined s (omega arith))
