-- The pieces of what peer-get shows of a peer: they stand in ascending byte order of their names, as JSON puts them.
use Rattle.std.specs.Prelude.{ℕ, ◌≡◌, ⊤, List, [], ◌++◌, Option, Some, None, codes, decimal}
use Rattle.std.specs.Net.Text.{ipv4_text}
use Rattle.hex.specs.Hex.{encode_lower}
use Rattle.json.specs.Print.{escape}
use Rattle.ov_base.specs.declared.address.Addr.{Addr}
use Rattle.ov_base.specs.declared.address.Addr.TheVariants.{V4, V6}
use Rattle.ov_model.specs.declared.reply.Counts.{Counts}

-- The counts of the link.
abbrev pub link_counts_text : Counts → List ℕ
link_counts_text c =
    (codes ",\"link-rx-bytes\":" ++ decimal c.link_rx_bytes) ++
    ((codes ",\"link-rx-packets\":" ++ decimal c.link_rx_packets) ++
    ((codes ",\"link-tx-bytes\":" ++ decimal c.link_tx_bytes) ++
    (codes ",\"link-tx-packets\":" ++ decimal c.link_tx_packets)))

-- The counts inside the tunnel.
abbrev pub vpn_counts_text : Counts → List ℕ
vpn_counts_text c =
    (codes ",\"vpn-rx-bytes\":" ++ decimal c.vpn_rx_bytes) ++
    ((codes ",\"vpn-rx-packets\":" ++ decimal c.vpn_rx_packets) ++
    ((codes ",\"vpn-tx-bytes\":" ++ decimal c.vpn_tx_bytes) ++
    (codes ",\"vpn-tx-packets\":" ++ decimal c.vpn_tx_packets)))

-- An address behind its name and the quote that opens it, with the quote that closes it.
abbrev pub named_text : (front text : List ℕ) → List ℕ
named_text front text = front ++ (text ++ codes "\"")

-- The address of a remote transport.
abbrev pub remote_text : Addr → List ℕ
remote_text (V4 a) = named_text (codes ",\"remote-ipv4\":\"") (ipv4_text a)
remote_text (V6 a) = named_text (codes ",\"remote-ipv6\":\"") (encode_lower a)

-- The IPv4 address inside the tunnel, where there is one.
abbrev pub vpn4_text : Option (List ℕ) → List ℕ
vpn4_text None = []
vpn4_text (Some a) = named_text (codes ",\"vpn-ipv4\":\"") (ipv4_text a)

-- The IPv6 address inside the tunnel, where there is one.
abbrev pub vpn6_text : Option (List ℕ) → List ℕ
vpn6_text None = []
vpn6_text (Some a) = named_text (codes ",\"vpn-ipv6\":\"") (encode_lower a)

-- No character of a text is escaped in JSON.
abbrev pub IsPlain : List ℕ → Type 0
IsPlain text = escape text ≡ text

-- The text that an address has, where there is one, is plain.
abbrev pub IsPlainIfAny : (List ℕ → List ℕ) → Option (List ℕ) → Type 0
IsPlainIfAny text None = ⊤
IsPlainIfAny text (Some a) = IsPlain (text a)
