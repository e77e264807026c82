-- The examples that came with GCM for keys of zeros, a nonce of zeros and no associated data, by
-- computing from the definitions: the test cases 1, 2, 13 and 14 of "The Galois/Counter Mode of
-- Operation", by D. McGrew and J. Viega. What AES makes of a block is computed once, and cited where it is
-- used again.
use Rattle.std.proofs.Common.{◌≡◌, ℕ, List, [], ◌∷◌, ◌++◌, replicate, refl, ◌∙◌}
use Rattle.ov_aes.specs.Field.{plus, product, remainder, times, inverse, power_of_x}
use Rattle.ov_aes.specs.SBox.{affine_bit, affine, sub_byte, sub_bytes}
use Rattle.ov_aes.specs.KeySchedule.{key_words, changed_word, schedule, key_schedule}
use Rattle.ov_aes.specs.Cipher.{shift_rows, mix_column, mix_columns, after_round, cipher, aes}
use Rattle.ov_ghash.specs.Polynomial.{add, plus as ghash_plus, scaled, product as ghash_product, overflow, raised, remainder as ghash_remainder, times as ghash_times, power}
use Rattle.ov_ghash.specs.Block.{number_of, bits, number, polynomial, block_of, sum_of_powers, ghash}
use Rattle.ov_gcm.specs.Gcm.{inc32, counter, stream, crypted, padded_blocks, lengths_block, hash_key, tag_of, seal_text, seal_tag}

zeros : ℕ → List ℕ
zeros n = replicate n 0

-- what the tag masks, of the hash subkey and the ciphertext
hashed : List ℕ → List ℕ → List ℕ
hashed h text = ghash h (padded_blocks [] ++ padded_blocks text ++ lengths_block [] text ∷ [])

-- the tag, of what AES makes of its blocks
tag_parts : (key nonce text h crypt first : List ℕ) → hash_key key ≡ h → seal_text key nonce [] text ≡ crypt → aes key (counter nonce 0) ≡ first → seal_tag key nonce [] text ≡ plus (hashed h crypt) first
unfolding tag_of hashed
tag_parts key nonce text h crypt first h_is crypt_is first_is = λ i. plus (hashed (h_is i) (crypt_is i)) (first_is i)

-- ---- 128 bits of key

subkey_128 : List ℕ
subkey_128 = 0x66 ∷ 0xe9 ∷ 0x4b ∷ 0xd4 ∷ 0xef ∷ 0x8a ∷ 0x2c ∷ 0x3b ∷ 0x88 ∷ 0x4c ∷ 0xfa ∷ 0x59 ∷ 0xca ∷ 0x34 ∷ 0x2b ∷ 0x2e ∷ []

first_128 : List ℕ
first_128 = 0x58 ∷ 0xe2 ∷ 0xfc ∷ 0xce ∷ 0xfa ∷ 0x7e ∷ 0x30 ∷ 0x61 ∷ 0x36 ∷ 0x7f ∷ 0x1d ∷ 0x57 ∷ 0xa4 ∷ 0xe7 ∷ 0x45 ∷ 0x5a ∷ []

subkey_128_is : hash_key (zeros 16) ≡ subkey_128
unfolding zeros product remainder times inverse power_of_x affine_bit affine sub_byte sub_bytes key_words changed_word schedule key_schedule shift_rows mix_column mix_columns after_round cipher aes hash_key subkey_128
subkey_128_is = refl

first_128_is : aes (zeros 16) (counter (zeros 12) 0) ≡ first_128
unfolding zeros product remainder times inverse power_of_x affine_bit affine sub_byte sub_bytes key_words changed_word schedule key_schedule shift_rows mix_column mix_columns after_round cipher aes counter first_128
first_128_is = refl

-- no text
text_128_empty : seal_text (zeros 16) (zeros 12) [] (zeros 0) ≡ []
unfolding zeros stream crypted
text_128_empty = refl

masked_128_empty : plus (hashed subkey_128 []) first_128 ≡ 0x58 ∷ 0xe2 ∷ 0xfc ∷ 0xce ∷ 0xfa ∷ 0x7e ∷ 0x30 ∷ 0x61 ∷ 0x36 ∷ 0x7f ∷ 0x1d ∷ 0x57 ∷ 0xa4 ∷ 0xe7 ∷ 0x45 ∷ 0x5a ∷ []
unfolding add ghash_plus scaled ghash_product overflow raised ghash_remainder ghash_times power number_of bits number polynomial block_of sum_of_powers ghash padded_blocks lengths_block hashed subkey_128 first_128
masked_128_empty = refl

tag_128_empty : seal_tag (zeros 16) (zeros 12) [] (zeros 0) ≡ 0x58 ∷ 0xe2 ∷ 0xfc ∷ 0xce ∷ 0xfa ∷ 0x7e ∷ 0x30 ∷ 0x61 ∷ 0x36 ∷ 0x7f ∷ 0x1d ∷ 0x57 ∷ 0xa4 ∷ 0xe7 ∷ 0x45 ∷ 0x5a ∷ []
tag_128_empty = tag_parts (zeros 16) (zeros 12) (zeros 0) subkey_128 [] first_128 subkey_128_is text_128_empty first_128_is ∙ masked_128_empty

-- one block
crypt_128 : List ℕ
crypt_128 = 0x03 ∷ 0x88 ∷ 0xda ∷ 0xce ∷ 0x60 ∷ 0xb6 ∷ 0xa3 ∷ 0x92 ∷ 0xf3 ∷ 0x28 ∷ 0xc2 ∷ 0xb9 ∷ 0x71 ∷ 0xb2 ∷ 0xfe ∷ 0x78 ∷ []

text_128_block : seal_text (zeros 16) (zeros 12) [] (zeros 16) ≡ 0x03 ∷ 0x88 ∷ 0xda ∷ 0xce ∷ 0x60 ∷ 0xb6 ∷ 0xa3 ∷ 0x92 ∷ 0xf3 ∷ 0x28 ∷ 0xc2 ∷ 0xb9 ∷ 0x71 ∷ 0xb2 ∷ 0xfe ∷ 0x78 ∷ []
unfolding zeros product remainder times inverse power_of_x affine_bit affine sub_byte sub_bytes key_words changed_word schedule key_schedule shift_rows mix_column mix_columns after_round cipher aes inc32 counter stream crypted
text_128_block = refl

masked_128_block : plus (hashed subkey_128 crypt_128) first_128 ≡ 0xab ∷ 0x6e ∷ 0x47 ∷ 0xd4 ∷ 0x2c ∷ 0xec ∷ 0x13 ∷ 0xbd ∷ 0xf5 ∷ 0x3a ∷ 0x67 ∷ 0xb2 ∷ 0x12 ∷ 0x57 ∷ 0xbd ∷ 0xdf ∷ []
unfolding add ghash_plus scaled ghash_product overflow raised ghash_remainder ghash_times power number_of bits number polynomial block_of sum_of_powers ghash padded_blocks lengths_block hashed subkey_128 first_128 crypt_128
masked_128_block = refl

crypt_128_is : seal_text (zeros 16) (zeros 12) [] (zeros 16) ≡ crypt_128
unfolding crypt_128
crypt_128_is = text_128_block

tag_128_block : seal_tag (zeros 16) (zeros 12) [] (zeros 16) ≡ 0xab ∷ 0x6e ∷ 0x47 ∷ 0xd4 ∷ 0x2c ∷ 0xec ∷ 0x13 ∷ 0xbd ∷ 0xf5 ∷ 0x3a ∷ 0x67 ∷ 0xb2 ∷ 0x12 ∷ 0x57 ∷ 0xbd ∷ 0xdf ∷ []
tag_128_block = tag_parts (zeros 16) (zeros 12) (zeros 16) subkey_128 crypt_128 first_128 subkey_128_is crypt_128_is first_128_is ∙ masked_128_block

-- ---- 256 bits of key

subkey_256 : List ℕ
subkey_256 = 0xdc ∷ 0x95 ∷ 0xc0 ∷ 0x78 ∷ 0xa2 ∷ 0x40 ∷ 0x89 ∷ 0x89 ∷ 0xad ∷ 0x48 ∷ 0xa2 ∷ 0x14 ∷ 0x92 ∷ 0x84 ∷ 0x20 ∷ 0x87 ∷ []

first_256 : List ℕ
first_256 = 0x53 ∷ 0x0f ∷ 0x8a ∷ 0xfb ∷ 0xc7 ∷ 0x45 ∷ 0x36 ∷ 0xb9 ∷ 0xa9 ∷ 0x63 ∷ 0xb4 ∷ 0xf1 ∷ 0xc4 ∷ 0xcb ∷ 0x73 ∷ 0x8b ∷ []

subkey_256_is : hash_key (zeros 32) ≡ subkey_256
unfolding zeros product remainder times inverse power_of_x affine_bit affine sub_byte sub_bytes key_words changed_word schedule key_schedule shift_rows mix_column mix_columns after_round cipher aes hash_key subkey_256
subkey_256_is = refl

first_256_is : aes (zeros 32) (counter (zeros 12) 0) ≡ first_256
unfolding zeros product remainder times inverse power_of_x affine_bit affine sub_byte sub_bytes key_words changed_word schedule key_schedule shift_rows mix_column mix_columns after_round cipher aes counter first_256
first_256_is = refl

-- no text
text_256_empty : seal_text (zeros 32) (zeros 12) [] (zeros 0) ≡ []
unfolding zeros stream crypted
text_256_empty = refl

masked_256_empty : plus (hashed subkey_256 []) first_256 ≡ 0x53 ∷ 0x0f ∷ 0x8a ∷ 0xfb ∷ 0xc7 ∷ 0x45 ∷ 0x36 ∷ 0xb9 ∷ 0xa9 ∷ 0x63 ∷ 0xb4 ∷ 0xf1 ∷ 0xc4 ∷ 0xcb ∷ 0x73 ∷ 0x8b ∷ []
unfolding add ghash_plus scaled ghash_product overflow raised ghash_remainder ghash_times power number_of bits number polynomial block_of sum_of_powers ghash padded_blocks lengths_block hashed subkey_256 first_256
masked_256_empty = refl

tag_256_empty : seal_tag (zeros 32) (zeros 12) [] (zeros 0) ≡ 0x53 ∷ 0x0f ∷ 0x8a ∷ 0xfb ∷ 0xc7 ∷ 0x45 ∷ 0x36 ∷ 0xb9 ∷ 0xa9 ∷ 0x63 ∷ 0xb4 ∷ 0xf1 ∷ 0xc4 ∷ 0xcb ∷ 0x73 ∷ 0x8b ∷ []
tag_256_empty = tag_parts (zeros 32) (zeros 12) (zeros 0) subkey_256 [] first_256 subkey_256_is text_256_empty first_256_is ∙ masked_256_empty

-- one block
crypt_256 : List ℕ
crypt_256 = 0xce ∷ 0xa7 ∷ 0x40 ∷ 0x3d ∷ 0x4d ∷ 0x60 ∷ 0x6b ∷ 0x6e ∷ 0x07 ∷ 0x4e ∷ 0xc5 ∷ 0xd3 ∷ 0xba ∷ 0xf3 ∷ 0x9d ∷ 0x18 ∷ []

text_256_block : seal_text (zeros 32) (zeros 12) [] (zeros 16) ≡ 0xce ∷ 0xa7 ∷ 0x40 ∷ 0x3d ∷ 0x4d ∷ 0x60 ∷ 0x6b ∷ 0x6e ∷ 0x07 ∷ 0x4e ∷ 0xc5 ∷ 0xd3 ∷ 0xba ∷ 0xf3 ∷ 0x9d ∷ 0x18 ∷ []
unfolding zeros product remainder times inverse power_of_x affine_bit affine sub_byte sub_bytes key_words changed_word schedule key_schedule shift_rows mix_column mix_columns after_round cipher aes inc32 counter stream crypted
text_256_block = refl

masked_256_block : plus (hashed subkey_256 crypt_256) first_256 ≡ 0xd0 ∷ 0xd1 ∷ 0xc8 ∷ 0xa7 ∷ 0x99 ∷ 0x99 ∷ 0x6b ∷ 0xf0 ∷ 0x26 ∷ 0x5b ∷ 0x98 ∷ 0xb5 ∷ 0xd4 ∷ 0x8a ∷ 0xb9 ∷ 0x19 ∷ []
unfolding add ghash_plus scaled ghash_product overflow raised ghash_remainder ghash_times power number_of bits number polynomial block_of sum_of_powers ghash padded_blocks lengths_block hashed subkey_256 first_256 crypt_256
masked_256_block = refl

crypt_256_is : seal_text (zeros 32) (zeros 12) [] (zeros 16) ≡ crypt_256
unfolding crypt_256
crypt_256_is = text_256_block

tag_256_block : seal_tag (zeros 32) (zeros 12) [] (zeros 16) ≡ 0xd0 ∷ 0xd1 ∷ 0xc8 ∷ 0xa7 ∷ 0x99 ∷ 0x99 ∷ 0x6b ∷ 0xf0 ∷ 0x26 ∷ 0x5b ∷ 0x98 ∷ 0xb5 ∷ 0xd4 ∷ 0x8a ∷ 0xb9 ∷ 0x19 ∷ []
tag_256_block = tag_parts (zeros 32) (zeros 12) (zeros 16) subkey_256 crypt_256 first_256 subkey_256_is crypt_256_is first_256_is ∙ masked_256_block
