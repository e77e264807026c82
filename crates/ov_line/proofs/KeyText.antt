-- The compact text of a line that makes a key says the line.
use Rattle.std.proofs.Common.{◌≡◌, ◌∙◌, ℕ, ◌<◌, ◌≤◌, ◌^◌, List, ◌∷◌, ◌++◌, codes, Some, None, refl, sym, ap, ap₂, subst, append_assoc, arith}
use Rattle.std.specs.Prelude.{decimal}
use Rattle.std.specs.Str.{IsUtf8}
use Rattle.json.specs.Print.{escape, quoted}
use Rattle.json.specs.Tree.{depth}
use Rattle.json.proofs.Printed.Utf8.{IsUtf8-are_ascii}
use Rattle.serde_json.specs.Read.{read, of_json}
use Rattle.serde_json.specs.Written.{outline, compact_text}
use Rattle.serde_json.proofs.Numbers.{number_of-decimal}
use Rattle.serde_json.proofs.OnLiterals.{serde_json_on_literals}
use Rattle.ov_model.specs.declared.line.Deed.TheVariants as deed
use Rattle.ov_model.specs.declared.command.Slot.TheVariants.{Primary}
use Rattle.ov_model.specs.declared.netlink.Cipher.TheVariants.{AesGcm}
use Rattle.ov_model.specs.declared.netlink.NlKeyDir.{NlKeyDir}
use Rattle.ov_model.specs.declared.netlink.NlKeyConf.{NlKeyConf}
use Rattle.ov_model.specs.declared.netlink.NlOp.TheVariants as op
use Rattle.ov_line.specs.Compact.{key_text, key_data, conf_data, dir_text, dir_data, IsDirText}
use Rattle.ov_line.specs.Grammar.{Says, IsDir}
use Rattle.ov_line.proofs.Widths.{fits_64, is_most}
use Rattle.ov_line.proofs.PlainText.{IsPlain, text_utf8, reads_compact, string_text, escape_decoded}

-- The text in its pieces, as they are taken off its front.
pub dir_pieces : (text a key b c tail rest : List ℕ) → text ≡ codes "{\"cipher-key\":\"" ++ a → a ≡ key ++ b → b ≡ codes "\",\"nonce-tail\":\"" ++ c → c ≡ tail ++ (codes "\"}" ++ rest) → text ≡ dir_text key tail ++ rest
dir_pieces text a key b c tail rest h0 h1 h2 h3 =
    rw (h0, h1, h2, h3) (ap (λ l. codes "{\"cipher-key\":\"" ++ l) (sym (append_assoc key (codes "\",\"nonce-tail\":\"" ++ (tail ++ codes "\"}")) rest ∙ ap (λ l. key ++ (codes "\",\"nonce-tail\":\"" ++ l)) (append_assoc tail (codes "\"}") rest))))

pub key_pieces : (line a b c opening opening_tail d e sealing sealing_tail f g h i j k : List ℕ) (at key_id peer lane : ℕ) → line ≡ codes "{\"at\":" ++ a → a ≡ decimal at ++ b → b ≡ codes ",\"do\":\"key-new\",\"keyconf\":{\"cipher-alg\":\"aes-gcm\",\"decrypt-dir\":" ++ c
    → c ≡ dir_text opening opening_tail ++ d → d ≡ codes ",\"encrypt-dir\":" ++ e → e ≡ dir_text sealing sealing_tail ++ f → f ≡ codes ",\"key-id\":" ++ g → g ≡ decimal key_id ++ h → h ≡ codes ",\"peer-id\":" ++ i
    → i ≡ decimal peer ++ j → j ≡ codes ",\"slot\":\"primary\"},\"lane\":" ++ k → k ≡ decimal lane ++ codes "}" → line ≡ key_text at opening opening_tail sealing sealing_tail key_id peer lane
unfolding key_text
key_pieces line a b c opening opening_tail d e sealing sealing_tail f g h i j k at key_id peer lane h0 h1 h2 h3 h4 h5 h6 h7 h8 h9 h10 h11 = rw (h0, h1, h2, h3, h4, h5, h6, h7, h8, h9, h10, h11) refl

dir_is : (key tail : List ℕ) → escape key ≡ key → escape tail ≡ tail → dir_text key tail ≡ compact_text (dir_data key tail)
unfolding serde_json_on_literals
dir_is key tail k t =
    let close : List ℕ = codes ",\"nonce-tail\":" ++ (quoted tail ++ codes "}") in
    let front : List ℕ → List ℕ = λ s. codes "{\"cipher-key\":" ++ s in
    let back : List ℕ → List ℕ = λ s. front (34 ∷ (key ++ (codes "\",\"nonce-tail\":" ++ s))) in
    sym (ap front (string_text key close k) ∙ ap back (string_text tail (codes "}") t))

text_is : (at : ℕ) (opening opening_tail sealing sealing_tail : List ℕ) (key_id peer lane : ℕ) → escape opening ≡ opening → escape opening_tail ≡ opening_tail → escape sealing ≡ sealing → escape sealing_tail ≡ sealing_tail
    → key_text at opening opening_tail sealing sealing_tail key_id peer lane ≡ compact_text (key_data at opening opening_tail sealing sealing_tail key_id peer lane)
unfolding serde_json_on_literals key_text key_data
text_is at opening opening_tail sealing sealing_tail key_id peer lane o ot s st =
    let end : List ℕ = codes ",\"lane\":" ++ (decimal lane ++ codes "}") in
    let opens : List ℕ = compact_text (dir_data opening opening_tail) in
    let seals : List ℕ = compact_text (dir_data sealing sealing_tail) in
    let after_peer : List ℕ = codes ",\"slot\":\"primary\"}" in
    let after_id : List ℕ = codes ",\"peer-id\":" ++ (decimal peer ++ after_peer) in
    let after_seal : List ℕ = codes ",\"key-id\":" ++ (decimal key_id ++ after_id) in
    let after_open : List ℕ = codes ",\"encrypt-dir\":" ++ (seals ++ after_seal) in
    let to_open : List ℕ → List ℕ = λ l. codes "{\"at\":" ++ (decimal at ++ (codes ",\"do\":\"key-new\",\"keyconf\":{\"cipher-alg\":\"aes-gcm\",\"decrypt-dir\":" ++ l)) in
    let to_seal : List ℕ → List ℕ = λ l. to_open (opens ++ (codes ",\"encrypt-dir\":" ++ l)) in
    let to_id : List ℕ → List ℕ = λ l. to_seal (seals ++ (codes ",\"key-id\":" ++ l)) in
    let to_peer : List ℕ → List ℕ = λ l. to_id (decimal key_id ++ (codes ",\"peer-id\":" ++ l)) in
    let whole : List ℕ → List ℕ → List ℕ = λ x y. codes "{\"at\":" ++ (decimal at ++ (codes ",\"do\":\"key-new\",\"keyconf\":{\"cipher-alg\":\"aes-gcm\",\"decrypt-dir\":" ++ (x
    ++ (codes ",\"encrypt-dir\":" ++ (y ++ (codes ",\"key-id\":" ++ (decimal key_id ++ (codes ",\"peer-id\":" ++ (decimal peer ++ (codes ",\"slot\":\"primary\"},\"lane\":" ++ (decimal lane ++ codes "}"))))))))))) in
    ap₂ whole (dir_is opening opening_tail o ot) (dir_is sealing sealing_tail s st) ∙ sym (ap to_open (append_assoc opens after_open end)
    ∙ ap to_seal (append_assoc seals after_seal end)
    ∙ ap to_id (append_assoc (decimal key_id) after_id end)
    ∙ ap to_peer (append_assoc (decimal peer) after_peer end))

made : (at : ℕ) (opening opening_tail sealing sealing_tail : List ℕ) (key_id peer lane : ℕ) → at < 2 ^ 64 → key_id < 2 ^ 64 → peer < 2 ^ 64 → lane < 2 ^ 64
    → of_json (outline (key_data at opening opening_tail sealing sealing_tail key_id peer lane)) ≡ Some (key_data at opening opening_tail sealing sealing_tail key_id peer lane)
unfolding serde_json_on_literals key_data
made at opening opening_tail sealing sealing_tail key_id peer lane a k p l = rw (number_of-decimal at a, number_of-decimal key_id k, number_of-decimal peer p, number_of-decimal lane l) refl

shallow : (at : ℕ) (opening opening_tail sealing sealing_tail : List ℕ) (key_id peer lane : ℕ) → depth (outline (key_data at opening opening_tail sealing sealing_tail key_id peer lane)) ≤ 127
unfolding serde_json_on_literals key_data
shallow at opening opening_tail sealing sealing_tail key_id peer lane = omega arith

plain_data : (at : ℕ) (opening opening_tail sealing sealing_tail : List ℕ) (key_id peer lane : ℕ) → at < 2 ^ 64 → key_id < 2 ^ 64 → peer < 2 ^ 64 → lane < 2 ^ 64
    → IsUtf8 opening → IsUtf8 opening_tail → IsUtf8 sealing → IsUtf8 sealing_tail → IsPlain (key_data at opening opening_tail sealing sealing_tail key_id peer lane)
unfolding key_data
plain_data at opening opening_tail sealing sealing_tail key_id peer lane a k p l o ot s st =
    let opens : IsPlain (dir_data opening opening_tail) = (IsUtf8-are_ascii _ refl, o, (IsUtf8-are_ascii _ refl, ot, tt)) in
    let seals : IsPlain (dir_data sealing sealing_tail) = (IsUtf8-are_ascii _ refl, s, (IsUtf8-are_ascii _ refl, st, tt)) in
    let conf : IsPlain (conf_data opening opening_tail sealing sealing_tail key_id peer) = (IsUtf8-are_ascii _ refl, IsUtf8-are_ascii _ refl, (IsUtf8-are_ascii _ refl, opens, (IsUtf8-are_ascii _ refl, seals, (IsUtf8-are_ascii _ refl, k, (IsUtf8-are_ascii _ refl, p, (IsUtf8-are_ascii _ refl, IsUtf8-are_ascii _ refl, tt)))))) in
    (IsUtf8-are_ascii _ refl, a, (IsUtf8-are_ascii _ refl, IsUtf8-are_ascii _ refl, (IsUtf8-are_ascii _ refl, conf, (IsUtf8-are_ascii _ refl, l, tt))))

dir_read : (key tail : List ℕ) (dir : NlKeyDir) → IsDirText key tail dir → IsDir (dir_data key tail) dir
unfolding serde_json_on_literals
dir_read key tail dir h =
    subst (IsDir (dir_data key tail)) (sym h.dir_is) (record {
      only = refl;
      cipher_key = record { text = key; given = refl; digits = h.key_read; short = h.key_short };
      nonce_tail = record { text = tail; given = refl; digits = h.tail_read; short = h.tail_short };
    })

abbrev pub conf_with_dirs : ℕ → ℕ → NlKeyDir → NlKeyDir → NlKeyConf
conf_with_dirs peer key_id encrypt decrypt = record { peer_id = Some peer; slot = Some Primary; key_id = Some key_id; cipher = Some AesGcm; encrypt = Some encrypt; decrypt = Some decrypt }

pub says_key : (bytes : List ℕ) (lanes at : ℕ) (opening opening_tail sealing sealing_tail : List ℕ) (key_id peer lane : ℕ) (opens seals : NlKeyDir) → bytes ≡ key_text at opening opening_tail sealing sealing_tail key_id peer lane
    → at < 2 ^ 32 → lane < 2 ^ 32 → lane < lanes → key_id < 2 ^ 32 → peer < 2 ^ 32 → IsDirText opening opening_tail opens → IsDirText sealing sealing_tail seals
    → Says bytes lanes (record { lane = lane; at = at; deed = deed.Netlink (record { op = op.KeyNew; ifindex = None; peer = None; keyconf = Some (conf_with_dirs peer key_id seals opens) }) })
unfolding serde_json_on_literals key_data
says_key bytes lanes at opening opening_tail sealing sealing_tail key_id peer lane opens seals text a l below k p ho hs =
    let co = escape_decoded opening ho.key ho.key_read in
    let cot = escape_decoded opening_tail ho.tail ho.tail_read in
    let cs = escape_decoded sealing hs.key hs.key_read in
    let cst = escape_decoded sealing_tail hs.tail hs.tail_read in
    let same : bytes ≡ compact_text (key_data at opening opening_tail sealing sealing_tail key_id peer lane) = text ∙ text_is at opening opening_tail sealing sealing_tail key_id peer lane co.0 cot.0 cs.0 cst.0 in
    let plain = plain_data at opening opening_tail sealing sealing_tail key_id peer lane (fits_64 at a) (fits_64 key_id k) (fits_64 peer p) (fits_64 lane l) co.1 cot.1 cs.1 cst.1 in
    record {
      utf8 = subst IsUtf8 (sym same) (text_utf8 (key_data at opening opening_tail sealing sealing_tail key_id peer lane) plain);
      value = key_data at opening opening_tail sealing sealing_tail key_id peer lane;
      reads = ap read same ∙ reads_compact (key_data at opening opening_tail sealing sealing_tail key_id peer lane) plain (shallow at opening opening_tail sealing sealing_tail key_id peer lane) (made at opening opening_tail sealing sealing_tail key_id peer lane (fits_64 at a) (fits_64 key_id k) (fits_64 peer p) (fits_64 lane l));
      is_line = record {
        at = (refl, is_most at a);
        lane = (refl, is_most lane l);
        below = below;
        word = refl;
        deed = record {
          only = refl;
          ifindex = tt;
          peer = tt;
          keyconf = record {
            only = refl;
            peer_id = (refl, is_most peer p);
            slot = refl;
            key_id = (refl, is_most key_id k);
            cipher = refl;
            encrypt = dir_read sealing sealing_tail seals hs;
            decrypt = dir_read opening opening_tail opens ho;
          };
        };
      };
    }
