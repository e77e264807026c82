-- Sameness of addresses and of transports, as tests that other definitions compute with.
use Rattle.std.specs.Prelude.{Bool, false, ◌==◌, ◌&&◌}
use Rattle.std.specs.Str.{bytes_eq}
use Rattle.ov_base.specs.declared.address.Addr.{Addr}
use Rattle.ov_base.specs.declared.address.Addr.TheVariants.{V4, V6}
use Rattle.ov_base.specs.declared.address.Transport.{Transport}

-- Two addresses are one where they are of one family and have the same bytes.
abbrev pub same_addr : Addr → Addr → Bool
same_addr (V4 a) (V4 b) = bytes_eq a b
same_addr (V6 a) (V6 b) = bytes_eq a b
same_addr _ _ = false

-- Two transports are one where address and port are.
abbrev pub same_transport : Transport → Transport → Bool
same_transport a b = same_addr a.addr b.addr && (a.port == b.port)
