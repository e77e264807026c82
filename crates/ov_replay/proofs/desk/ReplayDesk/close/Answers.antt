use Rattle.std.proofs.Common.{◌≡◌, ◌<◌, ap, sym, subst, length, ◌∙◌, [], arith}
use Rattle.std.specs.Prelude.{get_or}
use Rattle.ov_replay.specs.Desk.{Part, part_at, IsShardOf}
use Rattle.ov_replay.proofs.Seating.{part_seen, names_here, closed_seen}
use Rattle.ov_replay.proofs.desk.ReplayDesk.close.Goals as goal

pub close_all-requires-clause-of : goal.close_all-requires-clause-of
close_all-requires-clause-of c s below =
    let long : length c.self.inside.locks.items ≡ 8 = c.self.invariant.0 in
    names_here c.self.inside.locks.items c.args.self c.seat.inside.parts.items c.args.seat c.self.view_is c.seat.view_is c.requires.of s (omega arith)

pub close_all-requires-clause-whole : goal.close_all-requires-clause-whole
close_all-requires-clause-whole c s below =
    let long : length c.self.inside.locks.items ≡ 8 = c.self.invariant.0 in
    ap (λ (p : Part). p.share) (sym (part_seen c.seat.inside.parts.items c.args.seat c.seat.view_is s)) ∙ c.requires.whole s (omega arith)

pub returns-clause-each : goal.returns-clause-each
returns-clause-each c s below =
    let long : length c.self.inside.locks.items ≡ 8 = c.self.invariant.0 in
    let inside : s < length c.self.inside.locks.items = (let lt : s < 8 = below in omega arith) in
    subst (λ l. IsShardOf s (part_at c.args.seat s) (get_or l s [])) (sym c.of_vec.ensures)
    (closed_seen c.seat.inside.parts.items c.args.seat (get_or c.close_all.result.items s []) c.seat.view_is s (c.seat.invariant.1 s) (c.close_all.ensures.each s inside))
