use Rattle.std.proofs.Common.{◌≡◌, ◌<◌, ◌+◌, ◌*◌, ℕ, get_or}
use Rattle.ov_aes.proofs.round_keys.put_key.Given as goal

abbrev pub invariant-loop-m : goal.invariant-loop-m
invariant-loop-m l = record {
  put : (k : ℕ) → k < l.m → get_or l.keys (16 * l.r + k) 0 ≡ get_or l.key k 0;
  same : (k : ℕ) → k < 16 * l.r → get_or l.keys k 0 ≡ get_or l.initial.keys k 0;
}
