-- The keys that the table still has: in a slot of a live peer, or retired.
use Rattle.std.specs.Prelude.{ℕ, List, Option, Some, None, find, ◌==◌}
use Rattle.std.specs.Option.{option_or}
use Rattle.ov_model.specs.Tables.{Material, Key, Peer, Table, by_key}
use Rattle.ov_model.specs.Step.{has_key}

-- The key with a serial in a slot of a peer, if there is that peer.
abbrev pub key_of_peer : ℕ → Option Peer → Option Key
key_of_peer key None = None
key_of_peer key (Some p) = by_key key p.slots

-- The key with a serial in a slot of a live peer: of the first peer that has it.
abbrev pub live_key : ℕ → List Peer → Option Key
live_key key peers = key_of_peer key (find (has_key key) peers)

-- The retired key with a serial.
abbrev pub retired_key : ℕ → List Key → Option Key
retired_key key keys = find (λ k. k.serial == key) keys

-- The material of a key, if there is that key.
abbrev pub material_if_any : Option Key → Option Material
material_if_any None = None
material_if_any (Some k) = Some k.material

-- The material of the key with a serial, looked for in the slots and then among the retired keys.
abbrev pub pair_in : Table → ℕ → Option Material
pair_in t key = option_or (material_if_any (live_key key t.live)) (material_if_any (retired_key key t.retired))
