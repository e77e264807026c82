-- One block more of a text.
use Rattle.std.proofs.Common.{◌≡◌, ℕ, zero, suc, ◌+◌, ◌-◌, ◌*◌, ◌≤◌, min, List, ◌++◌, length, take, drop, refl, ap, sym, ◌∙◌, arith, add-one, length-append, length-drop, append_assoc}
use Rattle.std.proofs.lemmas.List.{take_at, drop_at, take_min, drop_min, drop-drop, length-take-le, take_all, drop_all, append-nil}
use Rattle.std.proofs.Math.Seq.{take-add}
use Rattle.ov_aes.specs.Field.{plus}
use Rattle.ov_aes.specs.Cipher.{aes}
use Rattle.ov_gcm.specs.Gcm.{counter, stream, crypted, block_count}
use Rattle.ov_gcm.specs.Steps.{IsCryptedUpTo}
use Rattle.ov_aes.proofs.Lengths.{length-plus, length-aes}
use Rattle.ov_aes.specs.Aes.{IsKeyLength}
use Rattle.ov_gcm.proofs.Sums.{plus-append, plus-plus}

-- the bytes from k on, at most 16 of them
pub part-is : (bytes : List ℕ) (k e : ℕ) → k ≤ length bytes → e ≡ min (length bytes) (k + 16) → take (e - k) (drop k bytes) ≡ take 16 (drop k bytes)
part-is bytes k e le end =
    let long = length-drop k bytes in
    let size : e - k ≡ min 16 (length (drop k bytes)) = omega arith in
    ap (λ n. take n (drop k bytes)) size ∙ take_min 16 (drop k bytes)

-- and those behind them
pub rest-is : (bytes : List ℕ) (k e : ℕ) → k ≤ length bytes → e ≡ min (length bytes) (k + 16) → drop (e - k) (drop k bytes) ≡ drop (k + 16) bytes
rest-is bytes k e le end =
    let long = length-drop k bytes in
    let size : e - k ≡ min 16 (length (drop k bytes)) = omega arith in
    ap (λ n. drop n (drop k bytes)) size ∙ drop_min 16 (drop k bytes) ∙ drop-drop 16 k bytes

-- a text that is p with k bytes of a stream s added to it, and then a block b more
pub sum-more : (p s b text : List ℕ) (k e : ℕ) → k ≤ length p → length s ≡ k → e ≡ min (length p) (k + 16) → text ≡ plus (take k p) s ++ drop k p → take k text ++ (plus (take (e - k) (drop k text)) b ++ drop (e - k) (drop k text)) ≡ plus (take (k + 16) p) (s ++ b) ++ drop (k + 16) p
sum-more p s b text k e le long end is =
    let short = length-take-le k p le in
    let front : length (plus (take k p) s) ≡ k = length-plus (take k p) s (omega arith) ∙ short in
    let taken : take k text ≡ plus (take k p) s = ap (take k) is ∙ take_at (plus (take k p) s) (drop k p) k front in
    let left : drop k text ≡ drop k p = ap (drop k) is ∙ drop_at (plus (take k p) s) (drop k p) k front in
    let part = part-is p k e le end in
    let rest = rest-is p k e le end in
    (λ i. taken i ++ (plus (take (e - k) (left i)) b ++ drop (e - k) (left i)))
    ∙ (λ i. plus (take k p) s ++ (plus (part i) b ++ rest i))
    ∙ sym (append_assoc (plus (take k p) s) (plus (take 16 (drop k p)) b) (drop (k + 16) p))
    ∙ ap (λ (x : List ℕ). x ++ drop (k + 16) p)
    (sym (plus-append (take k p) (take 16 (drop k p)) s b (short ∙ sym long)) ∙ ap (λ x. plus x (s ++ b)) (sym (take-add k 16 p)))

-- one block more of a text
pub crypted-more : (key nonce p text block : List ℕ) (i e : ℕ) → 16 * i ≤ length p → length block ≡ 16 → block ≡ aes key (counter nonce (i + 1)) → e ≡ min (length p) (16 * i + 16) → IsCryptedUpTo key nonce p i text → IsCryptedUpTo key nonce p (i + 1) (take (16 * i) text ++ (plus (take (e - 16 * i) (drop (16 * i) text)) block ++ drop (e - 16 * i) (drop (16 * i) text)))
unfolding stream
crypted-more key nonce p text block i e le long is end before =
    let stream-more : stream key nonce (i + 1) ≡ stream key nonce i ++ block =
    rw add-one (ap (λ b. stream key nonce i ++ b) (sym (rw add-one at is))) in
    let next : 16 * i + 16 ≡ 16 * (i + 1) = omega arith in (
      ap length stream-more ∙ length-append (stream key nonce i) block ∙ (let front = before.0 in omega arith),
      sum-more p (stream key nonce i) block text (16 * i) e le before.0 end before.1
          ∙ (λ j. plus (take (next j) p) (sym stream-more j) ++ drop (next j) p),
    )

-- none of a text
pub crypted-none : (key nonce p : List ℕ) → IsCryptedUpTo key nonce p 0 p
unfolding stream
crypted-none key nonce p = (refl, refl)

-- all of a text
pub crypted-all : (key nonce p text : List ℕ) (n : ℕ) → n ≡ block_count (length p) → IsCryptedUpTo key nonce p n text → text ≡ crypted key nonce p
unfolding crypted
crypted-all key nonce p text n is after =
    after.1
    ∙ (λ i. plus (take_all (16 * n) p (omega arith) i) (stream key nonce n) ++ drop_all (16 * n) p (omega arith) i)
    ∙ append-nil (plus p (stream key nonce n)) ∙ ap (λ n. plus p (stream key nonce n)) is

-- ---- a text that is encrypted and then decrypted

length-stream : (key nonce : List ℕ) → IsKeyLength (length key) → (n : ℕ) → length (stream key nonce n) ≡ 16 * n
unfolding stream
length-stream key nonce is zero = refl
length-stream key nonce is (suc n) =
    let front = length-stream key nonce is n in
    let back = length-aes key (counter nonce (suc n)) is in
    length-append (stream key nonce n) (aes key (counter nonce (suc n))) ∙ omega arith

pub crypted-crypted : (key nonce text : List ℕ) → IsKeyLength (length key) → crypted key nonce (crypted key nonce text) ≡ text
unfolding crypted
crypted-crypted key nonce text is =
    let s : List ℕ = stream key nonce (block_count (length text)) in
    let long = length-stream key nonce is (block_count (length text)) in
    let enough : length text ≤ length s = omega arith in
    ap (λ n. plus (plus text s) (stream key nonce (block_count n))) (length-plus text s enough)
    ∙ plus-plus text s enough
