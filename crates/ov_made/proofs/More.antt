-- Lists of the definition with one member more, and what holds of all members.
use Rattle.std.proofs.Common.{◌≡◌, ◌≢◌, ◌∙◌, ℕ, ◌+◌, ◌/◌, ◌%◌, List, [], ◌∷◌, ◌++◌, map, length, get_or, ◌<◌, sym, subst, ap, arith, zero-add, append_assoc}
use Rattle.std.specs.List.{range_with_len, AllByRecursion}
use Rattle.std.proofs.lemmas.List.FromFn.{map-range_with_len_more, get_or-map-range_with_len}
use Rattle.ov_aes.specs.declared.key_bytes.KeyBytes.{KeyBytes}
use Rattle.ov_aes.specs.declared.key_bytes.KeyBytes.TheVariants.{K16}
use Rattle.ov_aes.specs.Aes.{key_list}
use Rattle.ov_model.specs.declared.line.Line.{Line}
use Rattle.ov_model.specs.declared.line.Route.{Route}
use Rattle.ov_model.specs.declared.line.Script.{Script}
use Rattle.ov_model.specs.Packets.{datagram}
use Rattle.ov_model.proofs.Lanes.{all_append}
use Rattle.ov_made.specs.Made.{peer_count, peer_keys, decrypt_key, tail_bytes, back, head_line, head_lines, made_line, made_lines, made, peer_of, packet_id_of, sealed_of}

pub keys_more : (seed n : ℕ) → peer_keys seed (n + 1) ≡ peer_keys seed n ++ K16 (decrypt_key seed n) ∷ []
keys_more seed n = map-range_with_len_more (λ p. K16 (decrypt_key seed p)) 0 n n (zero-add n)

pub heads_more : (seed n : ℕ) → map (head_line seed) (range_with_len 0 (n + 1)) ≡ map (head_line seed) (range_with_len 0 n) ++ head_line seed n ∷ []
heads_more seed n = map-range_with_len_more (head_line seed) 0 n n (zero-add n)

pub lines_more : (seed n : ℕ) → map (made_line seed) (range_with_len 0 (n + 1)) ≡ map (made_line seed) (range_with_len 0 n) ++ made_line seed n ∷ []
lines_more seed n = map-range_with_len_more (made_line seed) 0 n n (zero-add n)

-- What holds of all members, and of one more behind them.
pub one_more : {X : Type 0} (P : X → Type 0) (xs : List X) (x : X) → AllByRecursion P xs → P x → AllByRecursion P (xs ++ x ∷ [])
one_more P xs x all one = all_append P xs (x ∷ []) all (one, tt)

-- The lines of a script, and the next one behind them.
pub script_more : (seed j : ℕ) (lines : List Line) (line : Line) → lines ≡ head_lines seed ++ map (made_line seed) (range_with_len 0 j) → line ≡ made_line seed j → lines ++ line ∷ [] ≡ head_lines seed ++ map (made_line seed) (range_with_len 0 (j + 1))
script_more seed j lines line lines_are line_is =
    let made : List Line = map (made_line seed) (range_with_len 0 j) in
    ap (λ (xs : List Line). xs ++ line ∷ []) lines_are
    ∙ append_assoc (head_lines seed) made (line ∷ [])
    ∙ ap (λ (x : Line). head_lines seed ++ made ++ x ∷ []) line_is
    ∙ ap (λ (xs : List Line). head_lines seed ++ xs) (sym (lines_more seed j))

-- A line that doesn't begin a group is in the group of the line in front of it.
pub same_group : (j : ℕ) → (j + 1) % 4 ≢ 0 → (j + 1) / 4 ≡ j / 4
same_group j inside = omega arith

-- The script with all its lines.
pub script_is : (seed count : ℕ) (lines : List Line) (routes : List Route) → lines ≡ made_lines seed count → routes ≡ [] → (let s : Script = record { lines = lines; routes = routes } in s) ≡ made seed count
script_is seed count lines routes lines_are none =
    ap (λ (xs : List Line). let s : Script = record { lines = xs; routes = routes } in s) lines_are
    ∙ ap (λ (rs : List Route). let s : Script = record { lines = made_lines seed count; routes = rs } in s) none

-- The key of a peer stands at the peer's number.
pub key_at : (seed p i : ℕ) (keys : List KeyBytes) (d : KeyBytes) → keys ≡ peer_keys seed peer_count → i ≡ p → p < peer_count → get_or keys i d ≡ K16 (decrypt_key seed p)
key_at seed p i keys d keys_are i_is below =
    ap (λ (ks : List KeyBytes). get_or ks i d) keys_are
    ∙ get_or-map-range_with_len (λ k. K16 (decrypt_key seed k)) 0 peer_count i p d (subst (λ (k : ℕ). k < peer_count) (sym i_is) below) (zero-add i ∙ i_is)

-- The datagram of a group, of its parts.
pub sealed_by : (seed q id key_id n : ℕ) (key : KeyBytes) (tail packet : List ℕ) → id ≡ peer_of q → key_id ≡ peer_of q % 8 → n ≡ packet_id_of q → key ≡ K16 (decrypt_key seed (peer_of q)) → tail ≡ tail_bytes (peer_of q) → packet ≡ back seed (peer_of q) → datagram id key_id n (key_list key) tail packet ≡ sealed_of seed q
sealed_by seed q id key_id n key tail packet id_is key_id_is n_is key_is tail_is packet_is =
    ap (λ (x : ℕ). datagram x key_id n (key_list key) tail packet) id_is
    ∙ ap (λ (x : ℕ). datagram (peer_of q) x n (key_list key) tail packet) key_id_is
    ∙ ap (λ (x : ℕ). datagram (peer_of q) (peer_of q % 8) x (key_list key) tail packet) n_is
    ∙ ap (λ (x : KeyBytes). datagram (peer_of q) (peer_of q % 8) (packet_id_of q) (key_list x) tail packet) key_is
    ∙ ap (λ (x : List ℕ). datagram (peer_of q) (peer_of q % 8) (packet_id_of q) (decrypt_key seed (peer_of q)) x packet) tail_is
    ∙ ap (λ (x : List ℕ). datagram (peer_of q) (peer_of q % 8) (packet_id_of q) (decrypt_key seed (peer_of q)) (tail_bytes (peer_of q)) x) packet_is

-- A datagram has bytes.
pub sealed_some : (seed q : ℕ) → 0 < length (sealed_of seed q)
unfolding datagram
sealed_some seed q = omega arith
