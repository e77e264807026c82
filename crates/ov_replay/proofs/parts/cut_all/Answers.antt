use Rattle.std.proofs.Common.{◌<◌, ℕ, None, length, ◌∙◌, arith}
use lib.ListN.{length-set}
use Rattle.ov_replay.proofs.Places.{put_length, read_at}
use Rattle.ov_replay.proofs.Sides.{cut_more}
use Rattle.ov_replay.proofs.parts.cut_all.Goals as goal

pub loop-shard-preserved : goal.loop-shard-preserved
loop-shard-preserved c =
    let n : ℕ = c.loop-shard.shard in
    let was = c.loop-shard.invariant in
    let below : n < length c.args.locks.now = (let test = c.loop-shard-test.true in omega arith) in
    let inside : n < length c.loop-shard.parts.items = (let e = was.parts in omega arith) in
    let beside : n < length c.loop-shard.others.items = (let e = was.others in omega arith) in
    let more = cut_more n c.args.parts.items c.loop-shard.parts.items c.loop-shard.others.items c.take.result c.take.new.self c.cut-left.result.0 c.cut-left.result.1 inside beside
    (c.take.ensures.value ∙ read_at c.loop-shard.parts.items n c.index_mut.result.now None inside c.index_mut.ensures.value) (c.requires.fit n) c.cut-left.ensures.cut c.cut-left.ensures.fit
    (record { done = was.done; fit = was.fit; rest = was.rest }) in
    record {
      parts = put_length c.loop-shard.parts.items n c.take.new.self c.cut-left.result.0 ∙ was.parts;
      others = length-set c.loop-shard.others.items n c.cut-left.result.1 ∙ was.others;
      done = more.done;
      fit = more.fit;
      rest = more.rest;
    }
