-- The cells of a table that lies behind a lock: who may be held anew, and who may only still be held.
use Rattle.std.specs.Prelude.{ℕ, ◌+◌, ◌<◌, List, ◌++◌, map}
use Rattle.ov_base.specs.Sums.{count_of}
use Rattle.ov_model.specs.declared.act.Act.{Act}
use Rattle.ov_model.specs.declared.reply.Reply.{Reply}
use Rattle.ov_model.specs.Tables.{Table, serials_of, keys_of, key_serials}
use Rattle.ov_model.specs.Path.{removed}
use Rattle.ov_model.specs.Removals.{released_by, key_released_by}
use Rattle.ov_model.specs.Lifetime.{peer_made_by, key_made_by}

-- A peer's cell is its serial, of which a session has at most 4,096; a key's is its serial after those.
abbrev pub key_cell : ℕ → ℕ
key_cell key = 4096 + key

-- How many cells there are: one for each peer and each key that a session may make.
abbrev pub all_cells : ℕ
all_cells = 69632

-- The cells of some peers and of some keys.
abbrev pub cells : (peers keys : List ℕ) → List ℕ
cells peers keys = peers ++ map key_cell keys

-- Live peers and keys in slots may be held anew.
abbrev pub live_cells : Table → List ℕ
live_cells t = cells (serials_of t.live) (key_serials (keys_of t.live))

-- Dying peers and retired keys may still be held, but not anew.
abbrev pub dying_cells : Table → List ℕ
dying_cells t = cells (serials_of t.dying) (key_serials t.retired)

-- The cells of the peer and of the key that an act made.
abbrev pub made_cells : Act → Reply → List ℕ
made_cells a r = cells (peer_made_by a r) (key_made_by a r)

-- The cells of the peers that a reply tells to be removed, and of the keys that left their slots.
abbrev pub gone_cells : (taken : List ℕ) → Reply → List ℕ
gone_cells taken r = cells (removed r) taken

-- The cells of the peer and of the key that an act lets go.
abbrev pub freed_cells : Act → List ℕ
freed_cells a = cells (released_by a) (key_released_by a)

-- What an act lets go is owed.
abbrev pub OwesFreed : Act → (owes : List ℕ) → Type 0
OwesFreed a owes = (c : ℕ) → 0 < count_of c (freed_cells a) → 0 < count_of c owes
