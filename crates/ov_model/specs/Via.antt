-- The next hop of an address by a list of routes: longest prefix first, as IP forwards packets (RFC 1812, section
-- 5.2.4.3; RFC 4632, section 5.1).
use Rattle.std.specs.Prelude.{ℕ, ◌-◌, ◌*◌, ◌^◌, ◌/◌, List, [], ◌∷◌, Bool, true, false, Option, Some, None, if◌then◌else◌, nat_le, ◌==◌, ◌&&◌}
use Rattle.ov_base.specs.declared.address.Addr.{Addr}
use Rattle.ov_base.specs.declared.address.Addr.TheVariants.{V4, V6}
use Rattle.ov_model.specs.declared.line.Route.{Route}
use Rattle.ov_model.specs.Packets.{number_from}

-- The first bits of so many bytes in network order, as a number.
abbrev pub first_bits : (bytes length : ℕ) → List ℕ → ℕ
first_bits bytes length octets = number_from 0 bytes octets / 2 ^ (8 * bytes - length)

-- Whether the first bits of a prefix and of an address of so many bytes are the same.
abbrev pub same_bits : (bytes length : ℕ) → List ℕ → List ℕ → Bool
same_bits bytes length prefix address = nat_le length (8 * bytes) && first_bits bytes length prefix == first_bits bytes length address

-- Whether an address has a prefix of so many bits: both are of the same family.
abbrev pub has_prefix : ℕ → Addr → Addr → Bool
has_prefix length (V4 prefix) (V4 address) = same_bits 4 length prefix address
has_prefix length (V6 prefix) (V6 address) = same_bits 16 length prefix address
has_prefix length _ _ = false

-- Whether a route matches an address.
abbrev pub matches : Addr → Route → Bool
matches a r = has_prefix r.length r.prefix a

-- Whether a route is at least as long as the best one so far.
abbrev pub is_longer : Option Route → Route → Bool
is_longer None r = true
is_longer (Some best) r = nat_le best.length r.length

-- The longest of the routes that match, the last among equals, where `best` is the best one before them.
abbrev pub longest : Addr → Option Route → List Route → Option Route
longest a best [] = best
longest a best (r ∷ rs) = longest a (if matches a r && is_longer best r then Some r else best) rs

-- The hop of a route, or the address itself where there is none.
abbrev pub hop_of : Addr → Option Route → Addr
hop_of a None = a
hop_of a (Some r) = r.hop

-- The next hop of an address. A hop isn't looked up again.
abbrev pub via_of : List Route → Addr → Addr
via_of routes a = hop_of a (longest a None routes)
