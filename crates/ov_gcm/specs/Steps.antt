-- How far a text has come.
use Rattle.std.specs.Prelude.{◌≡◌, ℕ, ◌*◌, List, ◌++◌, length, take, drop}
use Rattle.ov_aes.specs.Field.{plus}
use Rattle.ov_gcm.specs.Gcm.{stream}

-- text is p with its first i blocks encrypted or decrypted
abbrev pub IsCryptedUpTo : List ℕ → List ℕ → List ℕ → ℕ → List ℕ → Type 0
IsCryptedUpTo key nonce p i text =
    (length (stream key nonce i) ≡ 16 * i)
    × (text ≡ plus (take (16 * i) p) (stream key nonce i) ++ drop (16 * i) p)
