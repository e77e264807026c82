-- What a live peer is found by.
use Rattle.std.specs.Prelude.{ℕ, List, Bool, false, ◌==◌, ◌&&◌, Option, Some, None}
use Rattle.std.specs.Str.{bytes_eq}
use Rattle.ov_base.specs.declared.address.Addr.{Addr}
use Rattle.ov_base.specs.declared.address.Addr.TheVariants as addr
use Rattle.ov_base.specs.declared.address.Transport.{Transport}
use Rattle.ov_model.specs.Tables.{Peer, same_vpn}
use Rattle.ov_index.specs.declared.name.Host.{Host}
use Rattle.ov_index.specs.declared.name.Host.TheVariants.{V4, V6}
use Rattle.ov_index.specs.declared.name.Name.{Name}
use Rattle.ov_index.specs.declared.name.Name.TheVariants.{Id, Vpn, Remote}

-- An address as the key of a map.
abbrev pub host_of : Addr → Host
host_of (addr.V4 octets) = V4 octets
host_of (addr.V6 octets) = V6 octets

-- A transport as the key of a map.
abbrev pub remote_name : Transport → Name
remote_name t = Remote (host_of t.addr) t.port

-- A VPN address as the key of a map.
abbrev pub vpn_name : Addr → Name
vpn_name a = Vpn (host_of a)

-- A VPN address of version 4 as the key of a map, where there is one.
abbrev pub vpn4_name : Option (List ℕ) → Option Name
vpn4_name None = None
vpn4_name (Some a) = Some (Vpn (V4 a))

-- A VPN address of version 6 as the key of a map, where there is one.
abbrev pub vpn6_name : Option (List ℕ) → Option Name
vpn6_name None = None
vpn6_name (Some a) = Some (Vpn (V6 a))

-- Two addresses are one where they are of one family and have the same bytes.
abbrev pub same_host : Host → Host → Bool
same_host (V4 a) (V4 b) = bytes_eq a b
same_host (V6 a) (V6 b) = bytes_eq a b
same_host _ _ = false

-- Two names are one where they are of one kind and name by the same.
abbrev pub same_name : Name → Name → Bool
same_name (Id a) (Id b) = a == b
same_name (Vpn a) (Vpn b) = same_host a b
same_name (Remote a m) (Remote b n) = same_host a b && (m == n)
same_name _ _ = false

-- Whether a name is there and is this one.
abbrev pub is_name : Option Name → Name → Bool
is_name None n = false
is_name (Some own) n = same_name own n

-- Whether a peer has a name.
abbrev pub has_name : Name → Peer → Bool
has_name (Id n) p = p.id.number == n
has_name (Vpn (V4 a)) p = same_vpn p.vpn4 (Some a)
has_name (Vpn (V6 a)) p = same_vpn p.vpn6 (Some a)
has_name (Remote h m) p = same_host (host_of p.remote.addr) h && (p.remote.port == m)
