-- The keepalive rule, for a tick at a moment. All times are in whole seconds, and a keepalive time of 0 means never.
use Rattle.std.specs.Prelude.{ℕ, ◌-◌, List, Bool, not, ◌&&◌, nat_lt, nat_le, map, filter}
use Rattle.ov_keepalive.specs.declared.tick.TickFacts.{TickFacts}

-- Whether a peer is expired: nothing was received of it for its timeout.
abbrev pub is_expired : ℕ → TickFacts → Bool
is_expired now f = nat_lt 0 f.timeout && nat_le f.timeout (now - f.last_recv)

-- Whether a peer with a key to seal with was sent nothing for its interval.
abbrev pub is_quiet : ℕ → TickFacts → Bool
is_quiet now f = nat_lt 0 f.interval && (f.keyed && nat_le f.interval (now - f.last_sent))

-- Whether a ping is due to a peer: it isn't expired, and it was sent nothing for its interval.
abbrev pub is_due : ℕ → TickFacts → Bool
is_due now f = not (is_expired now f) && is_quiet now f

-- The serials of some peers, in their order.
abbrev pub serials : List TickFacts → List ℕ
serials facts = map (λ f. f.serial) facts

-- The serials of the expired peers, in the order of the facts.
abbrev pub expired : ℕ → List TickFacts → List ℕ
expired now facts = serials (filter (is_expired now) facts)

-- The serials of the peers to which a ping is due, in the order of the facts.
abbrev pub due : ℕ → List TickFacts → List ℕ
due now facts = serials (filter (is_due now) facts)
