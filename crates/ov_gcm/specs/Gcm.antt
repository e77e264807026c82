-- Galois/Counter Mode over AES (SP 800-38D), with IVs of 96 bits and tags of 128 bits. Keys, IVs,
-- blocks and texts are lists of bytes.
use Rattle.std.specs.Prelude.{◌≡◌, ℕ, zero, suc, ◌+◌, ◌-◌, ◌*◌, ◌/◌, ◌%◌, ◌^◌, List, [], ◌∷◌, ◌++◌, length, map, take, drop, replicate}
use Rattle.std.specs.Int.{w32, w64, from_be_bytes, to_be_bytes}
use Rattle.std.specs.List.{range_with_len}
use Rattle.ov_aes.specs.Field.{plus}
use Rattle.ov_aes.specs.Cipher.{aes}
use Rattle.ov_ghash.specs.Block.{ghash}

-- ---- the counter blocks and the text

-- inc32: the last 32 bits of a block, as a number, raised by one modulo 2^32 (6.2)
unfoldable pub inc32 : List ℕ → List ℕ
inc32 block = take 12 block ++ to_be_bytes w32 ((from_be_bytes w32 (drop 12 block) + 1) % 2 ^ 32)

-- counter block i: the first is J0, which is the IV followed by 31 zero bits and a one (7.1)
unfoldable pub counter : List ℕ → ℕ → List ℕ
counter nonce zero = nonce ++ 0 ∷ 0 ∷ 0 ∷ 1 ∷ []
counter nonce (suc i) = inc32 (counter nonce i)

-- AES of the first n counter blocks after J0, one behind the other (6.5)
unfoldable pub stream : List ℕ → List ℕ → ℕ → List ℕ
stream key nonce zero = []
stream key nonce (suc i) = stream key nonce i ++ aes key (counter nonce (suc i))

-- the number of blocks of 16 bytes that n bytes begin
abbrev pub block_count : ℕ → ℕ
block_count n = (n + 15) / 16

-- GCTR from inc32 of J0 on: the text plus the stream, whose last block is cut to the text's length (6.5)
unfoldable pub crypted : List ℕ → List ℕ → List ℕ → List ℕ
crypted key nonce text = plus text (stream key nonce (block_count (length text)))

-- ---- the tag

-- at most 16 bytes, with zeros behind up to 16 (7.1)
abbrev pub padded : List ℕ → List ℕ
padded bytes = bytes ++ replicate (16 - length bytes) 0

-- block i of a text, the last one padded
abbrev pub padded_block : List ℕ → ℕ → List ℕ
padded_block text i = padded (take 16 (drop (16 * i) text))

-- a text in blocks, the last one padded
unfoldable pub padded_blocks : List ℕ → List (List ℕ)
padded_blocks text = map (padded_block text) (range_with_len 0 (block_count (length text)))

-- the lengths of the associated data and of the ciphertext in bits, as two 64-bit numbers (7.1)
unfoldable pub lengths_block : List ℕ → List ℕ → List ℕ
lengths_block ad cipher = to_be_bytes w64 (8 * length ad) ++ to_be_bytes w64 (8 * length cipher)

-- the hash subkey H: AES of the zero block (7.1)
unfoldable pub hash_key : List ℕ → List ℕ
hash_key key = aes key (replicate 16 0)

-- the tag of a ciphertext: GHASH of the associated data, the ciphertext and their lengths, plus AES of
-- J0 (7.1)
unfoldable pub tag_of : List ℕ → List ℕ → List ℕ → List ℕ → List ℕ
tag_of key nonce ad cipher =
    plus (ghash (hash_key key) (padded_blocks ad ++ padded_blocks cipher ++ lengths_block ad cipher ∷ []))
    (aes key (counter nonce 0))

-- ---- sealing and opening

-- the ciphertext that the authenticated encryption function gives (7.1)
abbrev pub seal_text : List ℕ → List ℕ → List ℕ → List ℕ → List ℕ
seal_text key nonce ad text = crypted key nonce text

-- the tag that the authenticated encryption function gives (7.1)
abbrev pub seal_tag : List ℕ → List ℕ → List ℕ → List ℕ → List ℕ
seal_tag key nonce ad text = tag_of key nonce ad (seal_text key nonce ad text)

-- the tag is that of the ciphertext, so that the authenticated decryption function doesn't fail (7.2)
abbrev pub Opens : List ℕ → List ℕ → List ℕ → List ℕ → List ℕ → Type 0
Opens key nonce ad cipher tag = tag ≡ tag_of key nonce ad cipher

-- the text that the authenticated decryption function then gives (7.2)
abbrev pub plain : List ℕ → List ℕ → List ℕ → List ℕ
plain key nonce cipher = crypted key nonce cipher
