use Rattle.std.proofs.Common.{◌≡◌, ◌+◌, ◌∷◌, [], ◌<◌, ℕ, Some, None, length, length-append, ap, subst, sym, ◌∙◌, arith}
use Rattle.std.specs.Prelude.{get_or, slice_get, slice_set}
use lib.ListN.{length-set}
use Rattle.ov_replay.specs.Desk.{part_in, name_at, is_new}
use Rattle.ov_replay.proofs.Sides.{lock_more}
use Rattle.ov_replay.proofs.parts.lock_all.Goals as goal

pub loop-shard-preserved : goal.loop-shard-preserved
loop-shard-preserved c =
    let n : ℕ = c.loop-shard.shard in
    let was = c.loop-shard.invariant in
    let inside : n < length c.loop-shard.parts.items = (let e = was.parts in let test = c.loop-shard-test.true in omega arith) in
    let more = lock_more c.loop-shard.locks.items c.loop-shard.parts.items c.in-Ok.lock c.in-Ok.seat n was.long inside c.in-Ok.ensures.lock.0 c.in-Ok.ensures.seat (record { new = was.new; fit = was.fit }) in
    let pushed = c.push_reserved.ensures.items in
    record {
      long = ap length pushed ∙ length-append c.loop-shard.locks.items (c.in-Ok.lock ∷ []) ∙ (let e = was.long in omega arith);
      parts = length-set c.loop-shard.parts.items n (Some c.in-Ok.seat) ∙ was.parts;
      new = subst (λ l. (s : ℕ) → s < n + 1 → part_in (get_or (slice_set c.loop-shard.parts.items n (Some c.in-Ok.seat)) s None) ≡ is_new (name_at (slice_get l s))) (sym pushed) more.new;
      fit = more.fit;
      capacity = (let e = c.push_reserved.ensures.capacity in let f = was.capacity in omega arith);
    }
