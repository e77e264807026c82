use Rattle.std.proofs.Common.{◌≡◌, ◌++◌, ◌∷◌, [], ◌<◌, ℕ, None, length, length-append, ap, subst, ◌∙◌, arith}
use Rattle.std.specs.Option.{option_to_list}
use lib.ListN.{length-set}
use Rattle.ov_replay.proofs.Places.{read_at}
use Rattle.ov_replay.proofs.Sides.{ClosedTo, close_more}
use Rattle.ov_replay.proofs.parts.close_all.Goals as goal

pub loop-closed-preserved : goal.loop-closed-preserved
loop-closed-preserved c =
    let n : ℕ = c.len-shard.result in
    let was = c.loop-closed.invariant in
    let last : c.loop-closed.locks.items ≡ c.pop.new.self.items ++ c.in-Some.lock ∷ [] = c.pop.ensures.items ∙ ap (λ o. c.pop.new.self.items ++ option_to_list o) c.in-Some.is in
    let longer = ap length last ∙ length-append c.pop.new.self.items (c.in-Some.lock ∷ []) in
    let counted : n ≡ length c.pop.new.self.items = c.len-shard.ensures ∙ c.pop.new.self.ok.0 in
    let inside : n < length c.loop-closed.shards.items = (let a = was.shards in let b = c.requires.fits.1 in let e = was.left in let f = was.counted in omega arith) in
    let beside : n < length c.loop-closed.parts.items = (let a = was.parts in let b = c.requires.fits.0 in let e = was.left in let f = was.counted in omega arith) in
    let more = close_more c.len-count.result n c.args.locks.items c.pop.new.self.items c.in-Some.lock c.args.parts.items c.loop-closed.parts.items c.loop-closed.shards.items c.take.result c.take.new.self c.close_one.result counted inside
    (c.take.ensures.value ∙ read_at c.loop-closed.parts.items n c.index_mut.result.now None beside c.index_mut.ensures.value) c.close_one.ensures
    (subst (λ l. ClosedTo c.len-count.result c.args.locks.items l c.args.parts.items c.loop-closed.parts.items c.loop-closed.shards.items) last (record { names = was.names; rest = was.rest; done = was.done })) in
    record {
      left = (let e = was.left in omega arith);
      counted = was.counted;
      parts = length-set c.loop-closed.parts.items n c.take.new.self ∙ was.parts;
      shards = length-set c.loop-closed.shards.items n c.close_one.result ∙ was.shards;
      names = more.names;
      rest = more.rest;
      done = more.done;
    }
