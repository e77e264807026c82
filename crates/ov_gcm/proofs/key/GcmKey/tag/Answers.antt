use Rattle.std.proofs.Common.{ℕ, List, [], ◌∷◌, ◌++◌, sym, ap, ◌∙◌}
use Rattle.ov_aes.specs.Aes.{key_list}
use Rattle.ov_aes.specs.Cipher.{aes}
use Rattle.ov_aes.specs.Field.{plus}
use Rattle.ov_ghash.specs.Block.{ghash}
use Rattle.ov_ghash.proofs.Held.{ghash-none}
use Rattle.ov_gcm.specs.Gcm.{hash_key, padded_blocks, lengths_block, tag_of}
use Rattle.ov_gcm.proofs.key.GcmKey.tag.Goals as goal

pub returns : goal.returns
unfolding tag_of lengths_block
returns c =
    let key : List ℕ = key_list c.self.inside.aes in
    let h : List ℕ = hash_key key in
    let ad : List (List ℕ) = padded_blocks c.args.ad.now in
    let text : List (List ℕ) = padded_blocks c.args.text.now in
    let is = c.self.invariant.1 in
    let of_ad = c.absorbed-of_ad.ensures h [] is (ghash-none h) in
    let of_text = c.absorbed-of_text.ensures h ad is of_ad in
    let hash = sym (c.folded-tag.ensures h (ad ++ text) is of_text)
    ∙ ap (λ (b : List ℕ). ghash h (ad ++ text ++ b ∷ [])) c.lengths.ensures in
    rw (← c.self.view_is)
    (c.add_block.ensures ∙ (λ i. plus (hash i) ((c.encrypt.ensures ∙ ap (aes key) c.counter_block.ensures) i)))
