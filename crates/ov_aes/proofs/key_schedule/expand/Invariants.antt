use Rattle.std.proofs.Common.{◌≡◌, ℕ, ◌<◌, ◌≤◌, ◌^◌, length, get_or}
use Rattle.std.specs.Int.{to_be_bytes, w32}
use Rattle.ov_aes.specs.KeySchedule.{key_schedule, key_word, word}
use Rattle.ov_aes.proofs.key_schedule.expand.Given as goal

abbrev pub invariant-loop-i : goal.invariant-loop-i
invariant-loop-i l = record {
  long : length l.words ≡ 60;
  front : (k : ℕ) → k < l.i → to_be_bytes w32 (get_or l.words k 0) ≡ key_word l.key k;
  rest : (k : ℕ) → l.i ≤ k → get_or l.words k 0 ≡ 0;
  fits : (k : ℕ) → get_or l.words k 0 < 2 ^ 32;
}

abbrev pub invariant-loop-j : goal.invariant-loop-j
invariant-loop-j l = record {
  long : length l.words ≡ 60;
  front : (k : ℕ) → k < l.j → to_be_bytes w32 (get_or l.words k 0) ≡ word (key_schedule l.key) k;
  rest : (k : ℕ) → l.j ≤ k → get_or l.words k 0 ≡ 0;
  fits : (k : ℕ) → get_or l.words k 0 < 2 ^ 32;
}
