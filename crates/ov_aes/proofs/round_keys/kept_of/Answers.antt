use Rattle.std.proofs.Common.{ℕ, ◌≡◌, List, length, get_or, refl, ap, ◌∙◌, arith, rules}
use Rattle.ov_aes.proofs.KeptFacts.{four-words, put-more, kept-are}
use Rattle.ov_aes.proofs.round_keys.kept_of.Goals as goal

pub loop-r-init : goal.loop-r-init
loop-r-init c = record { long = refl; front = λ k below. absurd (omega arith) }

pub loop-r-preserved : goal.loop-r-preserved
loop-r-preserved c =
    let long : length c.block_of-key.result ≡ 16 = search rules in
    record {
      long = search rules;
      front =
          put-more c.args.words.now c.block_of-key.result c.loop-r.keys c.put_key.new.keys c.args.rounds c.loop-r.r long
          (c.block_of-key.ensures ∙ four-words c.args.words.now c.key_at.result c.loop-r.r c.key_at.ensures)
          (λ m below. c.put_key.ensures.put m below ∙ ap (λ (xs : List ℕ). get_or xs m 0) c.kept.ensures)
          c.put_key.ensures.same c.loop-r.invariant.front;
    }

pub returns : goal.returns
returns c =
    kept-are c.args.words.now c.loop-r.keys c.args.rounds c.loop-r.invariant.long
    (λ k below. c.loop-r.invariant.front k (omega arith))
