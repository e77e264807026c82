-- What a contract sees of a `HashKey`, which is of a subkey, and of a `Ghash`, which holds blocks too.
use Rattle.std.specs.Prelude.{◌≡◌, ℕ, ◌<◌, ◌^◌, List, replicate}
use Rattle.ov_ghash.specs.Block.{number_of, ghash}
use Rattle.ov_ghash.specs.Rows.{rows}
use Rattle.ov_ghash.specs.Turn.{turns}
use Rattle.ov_ghash.specs.declared.subkey.HashKey.{HashKey}
use Rattle.ov_ghash.specs.declared.Ghash.{Ghash}

-- the hash subkey h, ready for use
unfoldable pub prepared : List ℕ → HashKey
prepared h = record { first = rows (number_of h); second = rows (turns 4 (number_of h)) }

-- key is the hash subkey h, ready for use
unfoldable pub IsPrepared : HashKey → List ℕ → Type 0
IsPrepared key h = (number_of h < 2 ^ 128) × (prepared h ≡ key)

-- g holds the blocks xs under the hash subkey h
unfoldable pub Holds : Ghash → List ℕ → List (List ℕ) → Type 0
Holds g h xs = IsPrepared g.key h × (ghash h xs ≡ g.sum)

-- the value that holds no block under the hash subkey h
unfoldable pub fresh : List ℕ → Ghash
fresh h = record { key = prepared h; sum = replicate 16 0 }
