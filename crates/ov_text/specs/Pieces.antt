-- The pieces of a line, as JSON (RFC 8259): whole numbers, texts, bytes and addresses under their names. `put`
-- sets a name, and keeps the names in ascending byte order.
use Rattle.std.specs.Prelude.{ℕ, List, [], ◌∷◌, ◌++◌, map, codes}
use Rattle.std.specs.Net.Text.{ipv4_text}
use Rattle.hex.specs.Hex.{encode_lower}
use Rattle.serde_json.specs.Data.{Data, string, number, unsigned, array, object, Members, no_members, put}
use Rattle.serde_json.specs.View.{items_of}
use Rattle.serde_json.specs.Written.{compact_text}
use Rattle.ov_base.specs.declared.address.Addr.{Addr}
use Rattle.ov_base.specs.declared.address.Addr.TheVariants.{V4, V6}
use Rattle.ov_base.specs.declared.address.Transport.{Transport}

-- A whole number.
abbrev pub num : ℕ → Data
num n = number (unsigned n)

-- A whole number under a name.
abbrev pub put_num : List ℕ → ℕ → Members → Members
put_num name n ms = put name (num n) ms

-- A text under a name.
abbrev pub put_text : List ℕ → List ℕ → Members → Members
put_text name s ms = put name (string s) ms

-- A list of whole numbers.
abbrev pub nums : List ℕ → Data
nums ns = array (items_of (map num ns))

-- An object with one name.
abbrev pub one : List ℕ → Data → Data
one name d = object (put name d no_members)

-- The text of a line.
abbrev pub line_text : Data → List ℕ
line_text d = compact_text d ++ 10 ∷ []

-- The text of an address: IPv4 in dotted decimal, IPv6 as 32 hexadecimal digits.
abbrev pub addr_text : Addr → List ℕ
addr_text (V4 a) = ipv4_text a
addr_text (V6 a) = encode_lower a

-- Bytes under a name, as hexadecimal digits in lower case.
abbrev pub put_bytes : List ℕ → List ℕ → Members → Members
put_bytes name bytes ms = put_text name (encode_lower bytes) ms

-- A transport: its address and its port.
abbrev pub transport_members : Transport → Members
transport_members t = put_num (codes "port") t.port (put_text (codes "addr") (addr_text t.addr) no_members)
