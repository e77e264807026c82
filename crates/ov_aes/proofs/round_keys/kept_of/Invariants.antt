use Rattle.std.proofs.Common.{◌≡◌, ◌<◌, ◌*◌, ◌/◌, ℕ, length, get_or}
use Rattle.ov_aes.specs.RoundKeys.{kept_byte, word_byte}
use Rattle.ov_aes.proofs.round_keys.kept_of.Given as goal

abbrev pub invariant-loop-r : goal.invariant-loop-r
invariant-loop-r l = record {
  long : length l.keys ≡ 240;
  front : (k : ℕ) → k < 16 * l.r → get_or l.keys k 0 ≡ kept_byte l.rounds (k / 16) (word_byte l.words k);
}
