-- What peer-get shows of a peer, as the pieces that it is put together of.
use Rattle.std.proofs.Common.{ℕ, ◌≡◌, ◌∙◌, List, [], ◌++◌, Bool, true, false, ap, append_assoc}
use Rattle.std.specs.Prelude.{⊤, Option, Some, None, codes, decimal}
use Rattle.std.specs.Net.Text.{ipv4_text}
use Rattle.hex.specs.Hex.{encode_lower}
use Rattle.json.specs.Print.{escape}
use Rattle.serde_json.specs.Data.{object, no_members, Members}
use Rattle.serde_json.specs.Written.{compact_text}
use Rattle.serde_json.proofs.OnLiterals.{serde_json_on_literals}
use Rattle.ov_base.specs.declared.address.Addr.{Addr}
use Rattle.ov_base.specs.declared.address.Addr.TheVariants.{V4, V6}
use Rattle.ov_model.specs.declared.reply.Counts.{Counts}
use Rattle.ov_model.specs.declared.reply.PeerView.{PeerView}
use Rattle.ov_text.specs.Pieces.{put_num, put_text, addr_text}
use Rattle.ov_text.specs.Replies.{put_counts, put_remote_addr, put_vpn4, put_vpn6, view_members, view_data}
use Rattle.ov_text.specs.Views.{named_text, link_counts_text, vpn_counts_text, remote_text, vpn4_text, vpn6_text, IsPlain, IsPlainIfAny}

-- The members of what is shown, and their text, by the texts of the addresses: `six` is whether the remote's is one of IPv6.
abbrev remote_member : Bool → List ℕ → Members → Members
remote_member false t ms = put_text (codes "remote-ipv4") t ms
remote_member true t ms = put_text (codes "remote-ipv6") t ms

abbrev member_if_any : List ℕ → Option (List ℕ) → Members → Members
member_if_any name None ms = ms
member_if_any name (Some t) ms = put_text name t ms

abbrev shown_members : (id interval timeout port : ℕ) → Counts → (six : Bool) → List ℕ → (a b : Option (List ℕ)) → Members
shown_members id interval timeout port c six t a b =
    member_if_any (codes "vpn-ipv6") b
    (member_if_any (codes "vpn-ipv4") a
    (put_num (codes "remote-port") port
    (remote_member six t
    (put_num (codes "keepalive-timeout") timeout
    (put_num (codes "keepalive-interval") interval
    (put_num (codes "id") id (put_counts c no_members)))))))

abbrev remote_piece : Bool → List ℕ → List ℕ
remote_piece false t = named_text (codes ",\"remote-ipv4\":\"") t
remote_piece true t = named_text (codes ",\"remote-ipv6\":\"") t

abbrev piece_if_any : List ℕ → Option (List ℕ) → List ℕ
piece_if_any front None = []
piece_if_any front (Some t) = named_text front t

abbrev shown_text : (id interval timeout port : ℕ) → Counts → (remote vpn4 vpn6 : List ℕ) → List ℕ
shown_text id interval timeout port c remote vpn4 vpn6 =
    (codes "{\"id\":" ++ decimal id) ++
    ((codes ",\"keepalive-interval\":" ++ decimal interval) ++
    ((codes ",\"keepalive-timeout\":" ++ decimal timeout) ++
    (link_counts_text c ++
    (remote ++
    ((codes ",\"remote-port\":" ++ decimal port) ++
    (vpn4 ++
    (vpn6 ++
    (vpn_counts_text c ++ codes "}"))))))))

abbrev PlainIfAny : Option (List ℕ) → Type 0
PlainIfAny None = ⊤
PlainIfAny (Some t) = escape t ≡ t

-- The same with the counts piece by piece.
abbrev flat_text : (id interval timeout port : ℕ) → Counts → (remote vpn4 vpn6 : List ℕ) → List ℕ
flat_text id interval timeout port c remote vpn4 vpn6 =
    (codes "{\"id\":" ++ decimal id) ++
    ((codes ",\"keepalive-interval\":" ++ decimal interval) ++
    ((codes ",\"keepalive-timeout\":" ++ decimal timeout) ++
    ((codes ",\"link-rx-bytes\":" ++ decimal c.link_rx_bytes) ++
    ((codes ",\"link-rx-packets\":" ++ decimal c.link_rx_packets) ++
    ((codes ",\"link-tx-bytes\":" ++ decimal c.link_tx_bytes) ++
    ((codes ",\"link-tx-packets\":" ++ decimal c.link_tx_packets) ++
    (remote ++
    ((codes ",\"remote-port\":" ++ decimal port) ++
    (vpn4 ++
    (vpn6 ++
    ((codes ",\"vpn-rx-bytes\":" ++ decimal c.vpn_rx_bytes) ++
    ((codes ",\"vpn-rx-packets\":" ++ decimal c.vpn_rx_packets) ++
    ((codes ",\"vpn-tx-bytes\":" ++ decimal c.vpn_tx_bytes) ++
    ((codes ",\"vpn-tx-packets\":" ++ decimal c.vpn_tx_packets) ++ codes "}"))))))))))))))

four : (a b c d rest : List ℕ) → a ++ (b ++ (c ++ (d ++ rest))) ≡ (a ++ (b ++ (c ++ d))) ++ rest
four a b c d rest = simp append_assoc

grouped : (id interval timeout port : ℕ) (c : Counts) (remote vpn4 vpn6 : List ℕ) → flat_text id interval timeout port c remote vpn4 vpn6 ≡ shown_text id interval timeout port c remote vpn4 vpn6
grouped id interval timeout port c remote vpn4 vpn6 =
    let last : List ℕ = codes "}" in
    let inner : List ℕ = vpn_counts_text c ++ last in
    ap (λ t. (codes "{\"id\":" ++ decimal id) ++ ((codes ",\"keepalive-interval\":" ++ decimal interval) ++ ((codes ",\"keepalive-timeout\":" ++ decimal timeout) ++ t)))
    (ap (λ t. (codes ",\"link-rx-bytes\":" ++ decimal c.link_rx_bytes) ++ ((codes ",\"link-rx-packets\":" ++ decimal c.link_rx_packets) ++ ((codes ",\"link-tx-bytes\":" ++ decimal c.link_tx_bytes) ++ ((codes ",\"link-tx-packets\":" ++ decimal c.link_tx_packets) ++ (remote ++ ((codes ",\"remote-port\":" ++ decimal port) ++ (vpn4 ++ (vpn6 ++ t))))))))
    (four (codes ",\"vpn-rx-bytes\":" ++ decimal c.vpn_rx_bytes) (codes ",\"vpn-rx-packets\":" ++ decimal c.vpn_rx_packets) (codes ",\"vpn-tx-bytes\":" ++ decimal c.vpn_tx_bytes) (codes ",\"vpn-tx-packets\":" ++ decimal c.vpn_tx_packets) last)
    ∙ four (codes ",\"link-rx-bytes\":" ++ decimal c.link_rx_bytes) (codes ",\"link-rx-packets\":" ++ decimal c.link_rx_packets) (codes ",\"link-tx-bytes\":" ++ decimal c.link_tx_bytes) (codes ",\"link-tx-packets\":" ++ decimal c.link_tx_packets) (remote ++ ((codes ",\"remote-port\":" ++ decimal port) ++ (vpn4 ++ (vpn6 ++ inner)))))

by_texts : (id interval timeout port : ℕ) (c : Counts) (six : Bool) (t : List ℕ) (a b : Option (List ℕ)) → escape t ≡ t → PlainIfAny a → PlainIfAny b
    → compact_text (object (shown_members id interval timeout port c six t a b)) ≡ flat_text id interval timeout port c (remote_piece six t) (piece_if_any (codes ",\"vpn-ipv4\":\"") a) (piece_if_any (codes ",\"vpn-ipv6\":\"") b)
unfolding serde_json_on_literals put_counts
by_texts id interval timeout port c false t None None p q s =
    simp (p, append_assoc)
by_texts id interval timeout port c false t None (Some b) p q s =
    let sixth : escape b ≡ b = s in
    simp (p, sixth, append_assoc)
by_texts id interval timeout port c false t (Some a) None p q s =
    let four : escape a ≡ a = q in
    simp (p, four, append_assoc)
by_texts id interval timeout port c false t (Some a) (Some b) p q s =
    let four : escape a ≡ a = q in
    let sixth : escape b ≡ b = s in
    simp (p, four, sixth, append_assoc)
by_texts id interval timeout port c true t None None p q s =
    simp (p, append_assoc)
by_texts id interval timeout port c true t None (Some b) p q s =
    let sixth : escape b ≡ b = s in
    simp (p, sixth, append_assoc)
by_texts id interval timeout port c true t (Some a) None p q s =
    let four : escape a ≡ a = q in
    simp (p, four, append_assoc)
by_texts id interval timeout port c true t (Some a) (Some b) p q s =
    let four : escape a ≡ a = q in
    let sixth : escape b ≡ b = s in
    simp (p, four, sixth, append_assoc)

by_vpn6 : (id interval timeout port : ℕ) (c : Counts) (six : Bool) (t : List ℕ) (a : Option (List ℕ)) (b : Option (List ℕ)) → escape t ≡ t → PlainIfAny a → IsPlainIfAny encode_lower b
    → compact_text (object (put_vpn6 b (shown_members id interval timeout port c six t a None))) ≡ shown_text id interval timeout port c (remote_piece six t) (piece_if_any (codes ",\"vpn-ipv4\":\"") a) (vpn6_text b)
by_vpn6 id interval timeout port c six t a None p q s = by_texts id interval timeout port c six t a None p q tt ∙ grouped id interval timeout port c (remote_piece six t) (piece_if_any (codes ",\"vpn-ipv4\":\"") a) []
by_vpn6 id interval timeout port c six t a (Some b) p q s = by_texts id interval timeout port c six t a (Some (encode_lower b)) p q s ∙ grouped id interval timeout port c (remote_piece six t) (piece_if_any (codes ",\"vpn-ipv4\":\"") a) (vpn6_text (Some b))

by_vpn4 : (id interval timeout port : ℕ) (c : Counts) (six : Bool) (t : List ℕ) (a b : Option (List ℕ)) → escape t ≡ t → IsPlainIfAny ipv4_text a → IsPlainIfAny encode_lower b
    → compact_text (object (put_vpn6 b (put_vpn4 a (shown_members id interval timeout port c six t None None)))) ≡ shown_text id interval timeout port c (remote_piece six t) (vpn4_text a) (vpn6_text b)
by_vpn4 id interval timeout port c six t None b p q s = by_vpn6 id interval timeout port c six t None b p tt s
by_vpn4 id interval timeout port c six t (Some a) b p q s = by_vpn6 id interval timeout port c six t (Some (ipv4_text a)) b p q s

by_parts : (id interval timeout port : ℕ) (c : Counts) (r : Addr) (a b : Option (List ℕ)) → IsPlain (addr_text r) → IsPlainIfAny ipv4_text a → IsPlainIfAny encode_lower b
    → compact_text (object (put_vpn6 b (put_vpn4 a (put_num (codes "remote-port") port (put_remote_addr r (put_num (codes "keepalive-timeout") timeout (put_num (codes "keepalive-interval") interval (put_num (codes "id") id (put_counts c no_members)))))))))
    ≡ shown_text id interval timeout port c (remote_text r) (vpn4_text a) (vpn6_text b)
by_parts id interval timeout port c (V4 x) a b p q s = by_vpn4 id interval timeout port c false (ipv4_text x) a b p q s
by_parts id interval timeout port c (V6 x) a b p q s = by_vpn4 id interval timeout port c true (encode_lower x) a b p q s

-- The pieces of what is shown of a peer.
pub view_pieces : (v : PeerView) → IsPlain (addr_text v.remote.addr) → IsPlainIfAny ipv4_text v.vpn4 → IsPlainIfAny encode_lower v.vpn6
    → compact_text (view_data v) ≡ shown_text v.id.number v.keepalive.interval v.keepalive.timeout v.remote.port v.counts (remote_text v.remote.addr) (vpn4_text v.vpn4) (vpn6_text v.vpn6)
unfolding view_members
view_pieces v p q s = by_parts v.id.number v.keepalive.interval v.keepalive.timeout v.remote.port v.counts v.remote.addr v.vpn4 v.vpn6 p q s
