-- What a tick, and a down, ask of the live peers.
use Rattle.std.specs.Prelude.{ℕ, ◌-◌, Bool, true, ◌||◌, ◌&&◌, nat_lt, nat_le, Option, Some, None, is_some}
use Rattle.ov_keepalive.specs.declared.tick.TickFacts.{TickFacts}
use Rattle.ov_keepalive.specs.Rule.{is_expired, is_quiet}
use Rattle.ov_model.specs.Tables.{Peer}
use Rattle.ov_index.specs.declared.ticks.Ranked.{Ranked}

-- What the keepalive rule asks of a peer.
abbrev pub facts_of : Peer → TickFacts
facts_of p = record { serial = p.serial; interval = p.keepalive.interval; timeout = p.keepalive.timeout; last_recv = p.last_received; last_sent = p.last_sent; keyed = is_some p.slots.primary }

-- A peer's facts, and the id by which they are put in order.
abbrev pub ranked_of : Peer → Ranked
ranked_of p = record { id = p.id.number; facts = facts_of p }

-- Whether a peer is expired or quiet at a moment; where no moment is given, each peer is asked for.
abbrev pub is_asked : Option ℕ → Peer → Bool
is_asked None p = true
is_asked (Some now) p = is_expired now (facts_of p) || is_quiet now (facts_of p)

-- Whether a keepalive time is not 0 and has gone by at a moment since an earlier one.
abbrev pub has_gone_by : ℕ → ℕ → ℕ → Bool
has_gone_by time since now = nat_lt 0 time && nat_le time (now - since)
