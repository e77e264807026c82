-- The compact text of a line that makes a peer says the line.
use Rattle.std.proofs.Common.{◌≡◌, ◌∙◌, ℕ, ◌<◌, ◌≤◌, ◌^◌, List, ◌∷◌, ◌++◌, codes, Some, None, refl, sym, ap, subst, append_assoc, arith}
use Rattle.std.specs.Prelude.{decimal}
use Rattle.std.specs.Str.{IsUtf8}
use Rattle.std.specs.Net.Grammar.{IsDotted}
use Rattle.json.specs.Print.{escape, quoted}
use Rattle.json.specs.Tree.{depth}
use Rattle.json.proofs.Printed.Utf8.{IsUtf8-are_ascii}
use Rattle.serde_json.specs.Read.{read, of_json}
use Rattle.serde_json.specs.Written.{outline, compact_text}
use Rattle.serde_json.proofs.Numbers.{number_of-decimal}
use Rattle.serde_json.proofs.OnLiterals.{serde_json_on_literals}
use Rattle.ov_model.specs.declared.line.Deed.TheVariants as deed
use Rattle.ov_model.specs.declared.netlink.NlOp.TheVariants as op
use Rattle.ov_model.specs.declared.netlink.NlPeer.{NlPeer}
use Rattle.ov_line.specs.Compact.{new_text, new_data, peer_data}
use Rattle.ov_line.specs.Grammar.{Says}
use Rattle.ov_line.proofs.Widths.{fits_64, is_most}
use Rattle.ov_line.proofs.PlainText.{IsPlain, text_utf8, reads_compact, string_text, escape_dotted}

-- The text in its pieces, as they are taken off its front.
pub new_pieces : (line a b c d e f g remote h i j k vpn : List ℕ) (at lane id port : ℕ) → line ≡ codes "{\"at\":" ++ a → a ≡ decimal at ++ b → b ≡ codes ",\"do\":\"peer-new\",\"lane\":" ++ c → c ≡ decimal lane ++ d
    → d ≡ codes ",\"peer\":{\"id\":" ++ e → e ≡ decimal id ++ f → f ≡ codes ",\"remote-ipv4\":\"" ++ g → g ≡ remote ++ h → h ≡ codes "\",\"remote-port\":" ++ i → i ≡ decimal port ++ j
    → j ≡ codes ",\"vpn-ipv4\":\"" ++ k → k ≡ vpn ++ codes "\"}}" → line ≡ new_text at lane id remote port vpn
unfolding new_text
new_pieces line a b c d e f g remote h i j k vpn at lane id port h0 h1 h2 h3 h4 h5 h6 h7 h8 h9 h10 h11 = rw (h0, h1, h2, h3, h4, h5, h6, h7, h8, h9, h10, h11) refl

text_is : (at lane id : ℕ) (remote : List ℕ) (port : ℕ) (vpn : List ℕ) → escape remote ≡ remote → escape vpn ≡ vpn → new_text at lane id remote port vpn ≡ compact_text (new_data at lane id remote port vpn)
unfolding serde_json_on_literals new_text new_data
text_is at lane id remote port vpn r v =
    let end : List ℕ = codes "}" in
    let after_port : List ℕ = codes ",\"vpn-ipv4\":" ++ (quoted vpn ++ codes "}") in
    let after_remote : List ℕ = codes ",\"remote-port\":" ++ (decimal port ++ after_port) in
    let after_id : List ℕ = codes ",\"remote-ipv4\":" ++ (quoted remote ++ after_remote) in
    let to_id : List ℕ → List ℕ = λ s. codes "{\"at\":" ++ (decimal at ++ (codes ",\"do\":\"peer-new\",\"lane\":" ++ (decimal lane ++ (codes ",\"peer\":{\"id\":" ++ s)))) in
    let to_remote : List ℕ → List ℕ = λ s. to_id (decimal id ++ (codes ",\"remote-ipv4\":" ++ s)) in
    let to_port : List ℕ → List ℕ = λ s. to_remote (34 ∷ (remote ++ (codes "\",\"remote-port\":" ++ s))) in
    let to_vpn : List ℕ → List ℕ = λ s. to_port (decimal port ++ (codes ",\"vpn-ipv4\":" ++ s)) in
    sym (ap to_id (append_assoc (decimal id) after_id end)
    ∙ ap to_remote (append_assoc (quoted remote) after_remote end ∙ string_text remote (after_remote ++ end) r)
    ∙ ap to_port (append_assoc (decimal port) after_port end)
    ∙ ap to_vpn (append_assoc (quoted vpn) (codes "}") end ∙ string_text vpn (codes "}}") v))

made : (at lane id : ℕ) (remote : List ℕ) (port : ℕ) (vpn : List ℕ) → at < 2 ^ 64 → lane < 2 ^ 64 → id < 2 ^ 64 → port < 2 ^ 64 → of_json (outline (new_data at lane id remote port vpn)) ≡ Some (new_data at lane id remote port vpn)
unfolding serde_json_on_literals new_data
made at lane id remote port vpn a l i p = rw (number_of-decimal at a, number_of-decimal lane l, number_of-decimal id i, number_of-decimal port p) refl

shallow : (at lane id : ℕ) (remote : List ℕ) (port : ℕ) (vpn : List ℕ) → depth (outline (new_data at lane id remote port vpn)) ≤ 127
unfolding serde_json_on_literals new_data
shallow at lane id remote port vpn = omega arith

plain_data : (at lane id : ℕ) (remote : List ℕ) (port : ℕ) (vpn : List ℕ) → at < 2 ^ 64 → lane < 2 ^ 64 → id < 2 ^ 64 → port < 2 ^ 64 → IsUtf8 remote → IsUtf8 vpn → IsPlain (new_data at lane id remote port vpn)
unfolding new_data
plain_data at lane id remote port vpn a l i p r v =
    let peer : IsPlain (peer_data id remote port vpn) = (IsUtf8-are_ascii _ refl, i, (IsUtf8-are_ascii _ refl, r, (IsUtf8-are_ascii _ refl, p, (IsUtf8-are_ascii _ refl, v, tt)))) in
    (IsUtf8-are_ascii _ refl, a, (IsUtf8-are_ascii _ refl, IsUtf8-are_ascii _ refl, (IsUtf8-are_ascii _ refl, l, (IsUtf8-are_ascii _ refl, peer, tt))))

-- A peer with no attribute given.
abbrev no_attributes : NlPeer
no_attributes = record { id = None; remote_ipv4 = None; remote_ipv6 = None; remote_ipv6_scope_id = None; remote_port = None; socket = None; socket_netnsid = None; vpn_ipv4 = None; vpn_ipv6 = None; local_ipv4 = None; local_ipv6 = None; local_port = None; keepalive_interval = None; keepalive_timeout = None }

-- The peer that the line makes.
abbrev pub peer_of : ℕ → List ℕ → ℕ → List ℕ → NlPeer
peer_of id remote port vpn = record no_attributes { id = Some id; remote_ipv4 = Some remote; remote_port = Some port; vpn_ipv4 = Some vpn }

pub says_new : (bytes : List ℕ) (lanes at lane id : ℕ) (remote : List ℕ) (port : ℕ) (vpn far near : List ℕ) → bytes ≡ new_text at lane id remote port vpn → at < 2 ^ 32 → lane < 2 ^ 32 → lane < lanes
    → id < 2 ^ 32 → port < 2 ^ 32 → IsDotted remote far → IsDotted vpn near
    → Says bytes lanes (record { lane = lane; at = at; deed = deed.Netlink (record { op = op.PeerNew; ifindex = None; peer = Some (peer_of id far port near); keyconf = None }) })
unfolding serde_json_on_literals new_data
says_new bytes lanes at lane id remote port vpn far near text a l below i p there here =
    let r = escape_dotted remote far there in
    let v = escape_dotted vpn near here in
    let same : bytes ≡ compact_text (new_data at lane id remote port vpn) = text ∙ text_is at lane id remote port vpn r.0 v.0 in
    let plain = plain_data at lane id remote port vpn (fits_64 at a) (fits_64 lane l) (fits_64 id i) (fits_64 port p) r.1 v.1 in
    record {
      utf8 = subst IsUtf8 (sym same) (text_utf8 (new_data at lane id remote port vpn) plain);
      value = new_data at lane id remote port vpn;
      reads = ap read same ∙ reads_compact (new_data at lane id remote port vpn) plain (shallow at lane id remote port vpn) (made at lane id remote port vpn (fits_64 at a) (fits_64 lane l) (fits_64 id i) (fits_64 port p));
      is_line = record {
        at = (refl, is_most at a);
        lane = (refl, is_most lane l);
        below = below;
        word = refl;
        deed = record {
          only = refl;
          ifindex = tt;
          peer = record {
            only = refl;
            id = (refl, is_most id i);
            remote_ipv4 = record { text = remote; given = refl; dotted = there };
            remote_ipv6 = tt;
            remote_ipv6_scope_id = tt;
            remote_port = (refl, is_most port p);
            socket = tt;
            socket_netnsid = tt;
            vpn_ipv4 = record { text = vpn; given = refl; dotted = here };
            vpn_ipv6 = tt;
            local_ipv4 = tt;
            local_ipv6 = tt;
            local_port = tt;
            keepalive_interval = tt;
            keepalive_timeout = tt;
          };
          keyconf = tt;
        };
      };
    }
