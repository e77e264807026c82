-- Where a peer's datagrams go.
use Rattle.std.specs.Prelude.{Option, Some, None}
use Rattle.ov_base.specs.declared.address.Transport.{Transport}
use Rattle.ov_model.specs.Tables.{Peer}

-- A peer with another remote, where one is given.
abbrev pub moved : Option Transport → Peer → Peer
moved None p = p
moved (Some remote) p = record p { remote = remote }
