-- Keys: their bytes and their lengths (FIPS 197, 5).
use Rattle.std.specs.Prelude.{◌≡◌, ℕ, ◌⊎◌, List}
use Rattle.ov_aes.specs.declared.key_bytes.KeyBytes.{KeyBytes}
use Rattle.ov_aes.specs.declared.key_bytes.KeyBytes.TheVariants.{K16, K24, K32}

-- the bytes of a key
abbrev pub key_list : KeyBytes → List ℕ
key_list (K16 k) = k
key_list (K24 k) = k
key_list (K32 k) = k

-- a key has 16, 24 or 32 bytes
abbrev pub IsKeyLength : ℕ → Type 0
IsKeyLength n = (n ≡ 16) ⊎ ((n ≡ 24) ⊎ (n ≡ 32))
