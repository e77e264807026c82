-- The compact text of a line by which a datagram comes says the line.
use Rattle.std.proofs.Common.{◌≡◌, ◌∙◌, ℕ, ◌<◌, ◌≤◌, ◌^◌, List, ◌∷◌, ◌++◌, length, codes, Some, Ok, refl, sym, ap, subst, append_assoc, arith}
use Rattle.std.specs.Prelude.{decimal}
use Rattle.std.specs.Str.{IsUtf8}
use Rattle.std.specs.Net.Grammar.{IsDotted}
use Rattle.json.specs.Print.{escape, quoted}
use Rattle.json.specs.Tree.{depth}
use Rattle.json.proofs.Printed.Utf8.{IsUtf8-are_ascii}
use Rattle.serde_json.specs.Read.{read, of_json}
use Rattle.serde_json.specs.Written.{outline, compact_text}
use Rattle.serde_json.proofs.Numbers.{number_of-decimal}
use Rattle.serde_json.proofs.OnLiterals.{serde_json_on_literals}
use Rattle.hex.specs.Hex.{decode_of}
use Rattle.ov_base.specs.declared.address.Addr.TheVariants.{V4}
use Rattle.ov_model.specs.declared.line.Deed.TheVariants as deed
use Rattle.ov_line.specs.Compact.{rx_text, rx_data, from_data}
use Rattle.ov_line.specs.Grammar.{Says}
use Rattle.ov_line.proofs.Widths.{fits_64, is_most}
use Rattle.ov_line.proofs.PlainText.{IsPlain, text_utf8, reads_compact, string_text, escape_decoded, escape_dotted}

-- The text in its pieces, as they are taken off its front.
pub rx_pieces : (line a b c digits d addr e f g h i : List ℕ) (at port lane : ℕ) → line ≡ codes "{\"at\":" ++ a → a ≡ decimal at ++ b → b ≡ codes ",\"datagram\":\"" ++ c → c ≡ digits ++ d
    → d ≡ codes "\",\"do\":\"rx\",\"from\":{\"addr\":\"" ++ e → e ≡ addr ++ f → f ≡ codes "\",\"port\":" ++ g → g ≡ decimal port ++ h → h ≡ codes "},\"lane\":" ++ i
    → i ≡ decimal lane ++ codes "}" → line ≡ rx_text at digits addr port lane
unfolding rx_text
rx_pieces line a b c digits d addr e f g h i at port lane h0 h1 h2 h3 h4 h5 h6 h7 h8 h9 = rw (h0, h1, h2, h3, h4, h5, h6, h7, h8, h9) refl

text_is : (at : ℕ) (digits addr : List ℕ) (port lane : ℕ) → escape digits ≡ digits → escape addr ≡ addr → rx_text at digits addr port lane ≡ compact_text (rx_data at digits addr port lane)
unfolding serde_json_on_literals rx_text rx_data
text_is at digits addr port lane plain dotted =
    let end : List ℕ = codes ",\"lane\":" ++ (decimal lane ++ codes "}") in
    let close : List ℕ = codes ",\"port\":" ++ (decimal port ++ codes "}") in
    let front : List ℕ → List ℕ = λ s. codes "{\"at\":" ++ (decimal at ++ (codes ",\"datagram\":" ++ s)) in
    let middle : List ℕ → List ℕ = λ s. front (34 ∷ (digits ++ (codes "\",\"do\":\"rx\",\"from\":{\"addr\":" ++ s))) in
    let back : List ℕ → List ℕ = λ s. middle (34 ∷ (addr ++ (codes "\",\"port\":" ++ s))) in
    sym (ap front (string_text digits (codes ",\"do\":\"rx\",\"from\":{\"addr\":" ++ ((quoted addr ++ close) ++ end)) plain)
    ∙ ap middle (append_assoc (quoted addr) close end ∙ string_text addr (close ++ end) dotted)
    ∙ ap back (append_assoc (decimal port) (codes "}") end))

made : (at : ℕ) (digits addr : List ℕ) (port lane : ℕ) → at < 2 ^ 64 → port < 2 ^ 64 → lane < 2 ^ 64 → of_json (outline (rx_data at digits addr port lane)) ≡ Some (rx_data at digits addr port lane)
unfolding serde_json_on_literals rx_data
made at digits addr port lane a p l = rw (number_of-decimal at a, number_of-decimal port p, number_of-decimal lane l) refl

shallow : (at : ℕ) (digits addr : List ℕ) (port lane : ℕ) → depth (outline (rx_data at digits addr port lane)) ≤ 127
unfolding serde_json_on_literals rx_data
shallow at digits addr port lane = omega arith

port_64 : (port : ℕ) → port ≤ 65535 → port < 2 ^ 64
port_64 port h = omega arith

plain_data : (at : ℕ) (digits addr : List ℕ) (port lane : ℕ) → at < 2 ^ 64 → port < 2 ^ 64 → lane < 2 ^ 64 → IsUtf8 digits → IsUtf8 addr → IsPlain (rx_data at digits addr port lane)
unfolding rx_data
plain_data at digits addr port lane a p l d t =
    let from : IsPlain (from_data addr port) = (IsUtf8-are_ascii _ refl, t, (IsUtf8-are_ascii _ refl, p, tt)) in
    (IsUtf8-are_ascii _ refl, a, (IsUtf8-are_ascii _ refl, d, (IsUtf8-are_ascii _ refl, IsUtf8-are_ascii _ refl, (IsUtf8-are_ascii _ refl, from, (IsUtf8-are_ascii _ refl, l, tt)))))

pub says_rx : (bytes : List ℕ) (lanes at : ℕ) (digits addr : List ℕ) (port lane : ℕ) (datagram octets : List ℕ) → bytes ≡ rx_text at digits addr port lane → at < 2 ^ 32 → lane < 2 ^ 32 → lane < lanes
    → port ≤ 65535 → IsDotted addr octets → decode_of digits ≡ Ok datagram → length datagram ≤ 65507
    → Says bytes lanes (record { lane = lane; at = at; deed = deed.Rx (record { addr = V4 octets; port = port }) datagram })
unfolding serde_json_on_literals rx_data
says_rx bytes lanes at digits addr port lane datagram octets text a l below p dotted decoded short =
    let clean = escape_decoded digits datagram decoded in
    let address = escape_dotted addr octets dotted in
    let same : bytes ≡ compact_text (rx_data at digits addr port lane) = text ∙ text_is at digits addr port lane clean.0 address.0 in
    let plain = plain_data at digits addr port lane (fits_64 at a) (port_64 port p) (fits_64 lane l) clean.1 address.1 in
    record {
      utf8 = subst IsUtf8 (sym same) (text_utf8 (rx_data at digits addr port lane) plain);
      value = rx_data at digits addr port lane;
      reads = ap read same ∙ reads_compact (rx_data at digits addr port lane) plain (shallow at digits addr port lane) (made at digits addr port lane (fits_64 at a) (port_64 port p) (fits_64 lane l));
      is_line = record {
        at = (refl, is_most at a);
        lane = (refl, is_most lane l);
        below = below;
        word = refl;
        deed = record {
          only = refl;
          sender = record { only = refl; addr = record { text = addr; given = refl; dotted = dotted }; port = (refl, p) };
          datagram_is = record { text = digits; given = refl; digits = decoded; short = short };
        };
      };
    }
