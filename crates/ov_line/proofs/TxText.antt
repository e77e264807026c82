-- The compact text of a line that sends a packet says the line.
use Rattle.std.proofs.Common.{◌≡◌, ◌∙◌, ℕ, ◌<◌, ◌≤◌, ◌^◌, List, [], ◌∷◌, ◌++◌, length, codes, Some, Ok, refl, sym, ap, subst, append_assoc, arith}
use Rattle.std.specs.Prelude.{decimal}
use Rattle.std.specs.Str.{IsUtf8}
use Rattle.json.specs.Print.{escape}
use Rattle.json.proofs.Printed.Utf8.{IsUtf8-are_ascii}
use Rattle.serde_json.specs.Read.{read, of_json}
use Rattle.serde_json.specs.Written.{outline, compact_text}
use Rattle.serde_json.proofs.Numbers.{number_of-decimal}
use Rattle.serde_json.proofs.OnLiterals.{serde_json_on_literals}
use Rattle.hex.specs.Hex.{decode_of}
use Rattle.ov_model.specs.declared.line.Deed.TheVariants as deed
use Rattle.ov_line.specs.Compact.{tx_text, tx_data}
use Rattle.ov_line.specs.Grammar.{Says}
use Rattle.ov_line.proofs.PlainText.{IsPlain, text_utf8, reads_compact, escape_decoded}

-- The text in its pieces, as they are taken off its front.
pub tx_pieces : (line a b c d e digits : List ℕ) (at lane : ℕ) → line ≡ codes "{\"at\":" ++ a → a ≡ decimal at ++ b → b ≡ codes ",\"do\":\"tx\",\"lane\":" ++ c
    → c ≡ decimal lane ++ d → d ≡ codes ",\"packet\":\"" ++ e → e ≡ digits ++ codes "\"}" → line ≡ tx_text at lane digits
unfolding tx_text
tx_pieces line a b c d e digits at lane h0 h1 h2 h3 h4 h5 = rw (h0, h1, h2, h3, h4, h5) refl

text_is : (at lane : ℕ) (digits : List ℕ) → escape digits ≡ digits → tx_text at lane digits ≡ compact_text (tx_data at lane digits)
unfolding serde_json_on_literals tx_text tx_data
text_is at lane digits plain = rw (plain, append_assoc digits (34 ∷ []) (125 ∷ [])) refl

made : (at lane : ℕ) (digits : List ℕ) → at < 2 ^ 64 → lane < 2 ^ 64 → of_json (outline (tx_data at lane digits)) ≡ Some (tx_data at lane digits)
unfolding serde_json_on_literals tx_data
made at lane digits a l = rw (number_of-decimal at a, number_of-decimal lane l) refl

plain_data : (at lane : ℕ) (digits : List ℕ) → at < 2 ^ 64 → lane < 2 ^ 64 → IsUtf8 digits → IsPlain (tx_data at lane digits)
unfolding tx_data
plain_data at lane digits a l d =
    (IsUtf8-are_ascii _ refl, a, (IsUtf8-are_ascii _ refl, IsUtf8-are_ascii _ refl, (IsUtf8-are_ascii _ refl, l, (IsUtf8-are_ascii _ refl, d, tt))))

pub says_tx : (bytes : List ℕ) (lanes at lane : ℕ) (digits packet : List ℕ) → bytes ≡ tx_text at lane digits → at < 2 ^ 32 → lane < 2 ^ 32 → lane < lanes
    → decode_of digits ≡ Ok packet → length packet ≤ 65483 → Says bytes lanes (record { lane = lane; at = at; deed = deed.Tx packet })
unfolding serde_json_on_literals tx_data
says_tx bytes lanes at lane digits packet text a l below decoded short =
    let clean = escape_decoded digits packet decoded in
    let same : bytes ≡ compact_text (tx_data at lane digits) = text ∙ text_is at lane digits clean.0 in
    let plain = plain_data at lane digits (omega arith) (omega arith) clean.1 in
    record {
      utf8 = subst IsUtf8 (sym same) (text_utf8 (tx_data at lane digits) plain);
      value = tx_data at lane digits;
      reads = ap read same ∙ reads_compact (tx_data at lane digits) plain (omega arith) (made at lane digits (omega arith) (omega arith));
      is_line = record {
        at = (refl, omega arith);
        lane = (refl, omega arith);
        below = below;
        word = refl;
        deed = record { only = refl; packet_is = record { text = digits; given = refl; digits = decoded; short = short } };
      };
    }
