use Rattle.std.proofs.Common.{◌≡◌, ℕ, ◌+◌, ◌*◌, List, [], ◌∷◌, ◌++◌, map, length, take, drop, ◌-◌, sym, ap, ◌∙◌, zero-add, append_assoc, arith}
use Rattle.std.specs.List.{range_with_len}
use Rattle.std.proofs.lemmas.List.FromFn.{map-range_with_len_more}
use Rattle.ov_ghash.specs.Block.{ghash}
use Rattle.ov_gcm.specs.Gcm.{padded, padded_block, padded_blocks, block_count}
use Rattle.ov_gcm.proofs.Steps.{part-is}
use Rattle.ov_gcm.proofs.blocks.absorbed.Goals as goal

pub loop-i-preserved : goal.loop-i-preserved
loop-i-preserved c = λ h xs is before_is.
    let bytes : List ℕ = c.args.bytes.now in
    let i : ℕ = c.loop-i.i in
    let before : List (List ℕ) = map (padded_block bytes) (range_with_len 0 i) in
    let part : List ℕ = padded (take (c.min-end.result - 16 * i) (drop (16 * i) bytes)) in
    let block = ap padded (part-is bytes (16 * i) c.min-end.result (omega arith) c.min-end.ensures) in
    let all : (xs ++ before) ++ part ∷ [] ≡ xs ++ map (padded_block bytes) (range_with_len 0 (i + 1)) =
    append_assoc xs before (part ∷ [])
    ∙ ap (λ (ys : List (List ℕ)). xs ++ ys)
    (ap (λ (b : List ℕ). before ++ b ∷ []) block ∙ sym (map-range_with_len_more (padded_block bytes) 0 i i (zero-add i))) in
    ap (ghash h) (sym all) ∙ c.folded_part-next.ensures h (xs ++ before) is (c.loop-i.invariant h xs is before_is)

pub returns : goal.returns
unfolding padded_blocks
returns c = λ h xs is before_is.
    let all : c.loop-i.i ≡ block_count (length c.args.bytes.now) = omega arith in
    ap (λ n. ghash h (xs ++ map (padded_block c.args.bytes.now) (range_with_len 0 n))) (sym all) ∙ c.loop-i.invariant h xs is before_is
