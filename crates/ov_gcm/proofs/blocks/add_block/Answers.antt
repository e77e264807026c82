use Rattle.std.proofs.Common.{◌≡◌, length, take, sym, ap, ◌∙◌, arith, rules}
use Rattle.std.proofs.lemmas.List.{take_all}
use Rattle.std.proofs.lemmas.Simd.{put_chunk_whole}
use Rattle.ov_aes.specs.Field.{plus}
use Rattle.ov_aes.proofs.Lengths.{length-plus}
use Rattle.ov_gcm.proofs.Sums.{plus-elements}
use Rattle.ov_gcm.proofs.blocks.add_block.Goals as goal

pub returns-then-text-eq-BLOCK : goal.returns-then-text-eq-BLOCK
returns-then-text-eq-BLOCK c =
    let block : length c.args.block ≡ 16 = search rules in
    let whole = take_all 16 c.args.text.now c.requires in
    let long : length (plus (take 16 c.args.text.now) c.args.block) ≡ length c.args.text.now =
    ap (λ t. length (plus t c.args.block)) whole ∙ length-plus c.args.text.now c.args.block (omega arith) in
    put_chunk_whole c.args.text.now (plus (take 16 c.args.text.now) c.args.block) (sym long)
    ∙ ap (λ t. plus t c.args.block) whole

pub returns-after-loop-i : goal.returns-after-loop-i
returns-after-loop-i c =
    let block : length c.args.block ≡ 16 = search rules in
    plus-elements c.args.text.now c.args.block c.loop-i.text (omega arith) (omega arith)
    (λ k below. c.loop-i.invariant.front k (omega arith))
