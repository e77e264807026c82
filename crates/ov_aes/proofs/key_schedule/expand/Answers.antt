use Rattle.std.proofs.Common.{ℕ, ◌+◌, ◌-◌, ◌/◌, List, length, get_or, arith, sym, refl, ap, ⊎_elim, ◌∙◌, length-set}
use Rattle.std.specs.Prelude.{bit_xor}
use Rattle.std.specs.Int.{w32, from_be_bytes}
use Rattle.std.proofs.lemmas.Nat.{xor_lt, from_be_bytes-to_be_bytes_4}
use Rattle.std.proofs.lemmas.Bool.{cases_lt}
use Rattle.std.proofs.lemmas.List.FromFn.{fill_by_all}
use Rattle.ov_aes.specs.Field.{plus}
use Rattle.ov_aes.specs.KeySchedule.{word, key_word, changed_word, key_schedule}
use Rattle.ov_aes.proofs.Bytes.{to_be_bytes-xor}
use Rattle.ov_aes.proofs.Filled.{set_front, set_fits, set_rest, zeros}
use Rattle.ov_aes.proofs.Schedules.{key_length, key_schedule-key, key_schedule-step, key_schedule-past}
use Rattle.ov_aes.specs.Words.{words_of}
use Rattle.ov_aes.proofs.key_schedule.expand.Goals as goal

pub loop-i-init : goal.loop-i-init
loop-i-init c = record {
  long = refl;
  front = λ k below. absurd (omega arith);
  rest = λ k past. zeros 60 k;
  fits = λ k. let none = zeros 60 k in omega arith;
}

pub loop-i-preserved : goal.loop-i-preserved
loop-i-preserved c =
    let sizes = key_length (length c.args.key.now) c.requires in
    let long = c.loop-i.invariant.long in
    record {
      long = length-set c.loop-i.words c.loop-i.i c.word_at.result ∙ long;
      front =
          set_front (key_word c.args.key.now) c.loop-i.words c.loop-i.i c.word_at.result (omega arith)
          c.loop-i.invariant.front c.word_at.ensures;
      rest = set_rest c.loop-i.words c.loop-i.i c.word_at.result c.loop-i.invariant.rest;
      fits = set_fits c.loop-i.words c.loop-i.i c.word_at.result c.loop-i.invariant.fits c.word_at.type_inv;
    }

pub loop-j-init : goal.loop-j-init
loop-j-init c = record {
  long = c.loop-i.invariant.long;
  front = λ k below. c.loop-i.invariant.front k (omega arith) ∙ sym (key_schedule-key c.args.key.now k below);
  rest = λ k past. c.loop-i.invariant.rest k (omega arith);
  fits = c.loop-i.invariant.fits;
}

pub loop-j-preserved : goal.loop-j-preserved
loop-j-preserved c =
    let nk : ℕ = length c.args.key.now / 4 in
    let j : ℕ = c.loop-j.j in
    let sizes = key_length (length c.args.key.now) c.requires in
    let one_key_before : ℕ = get_or c.loop-j.words (j - nk) 0 in
    let new : ℕ = bit_xor one_key_before c.changed.result in
    let long = c.loop-j.invariant.long in
    let here = to_be_bytes-xor one_key_before c.changed.result
    ∙ (λ i. plus (c.loop-j.invariant.front (j - nk) (omega arith) i)
    ((c.changed.ensures ∙ ap (changed_word nk j) (c.loop-j.invariant.front (j - 1) (omega arith))) i))
    ∙ sym (key_schedule-step c.args.key.now c.requires j (omega arith) (omega arith)) in
    record {
      long = length-set c.loop-j.words j new ∙ long;
      front = set_front (word (key_schedule c.args.key.now)) c.loop-j.words j new (omega arith) c.loop-j.invariant.front here;
      rest = set_rest c.loop-j.words j new c.loop-j.invariant.rest;
      fits =
          set_fits c.loop-j.words j new c.loop-j.invariant.fits
          (xor_lt 32 one_key_before c.changed.result (c.loop-j.invariant.fits (j - nk)) c.changed.type_inv);
    }

pub returns-clause-words : goal.returns-clause-words
unfolding words_of
returns-clause-words c =
    let key : List ℕ = c.args.key.now in
    let words : List ℕ = c.loop-j.words in
    let sizes = key_length (length key) c.requires in
    let long = c.loop-j.invariant.long in
    sym (fill_by_all (λ i. from_be_bytes w32 (word (key_schedule key) i)) words 60 0 long (λ k within.
    ⊎_elim (λ lt. sym (from_be_bytes-to_be_bytes_4 (get_or words k 0) (c.loop-j.invariant.fits k))
    ∙ ap (from_be_bytes w32) (c.loop-j.invariant.front k (omega arith)))
    (λ ge. c.loop-j.invariant.rest k (omega arith)
    ∙ ap (from_be_bytes w32) (sym (key_schedule-past key c.requires k ge)))
    (cases_lt k (length key + 28))))
