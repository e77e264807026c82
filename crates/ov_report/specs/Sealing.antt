-- What keys seal with, as pairs of their key's bytes and their nonce tail.
use Rattle.std.specs.Prelude.{List, [], ◌∷◌, ℕ, map, Option, Some, None, Bool, ◌&&◌}
use Rattle.std.specs.Borrow.{Bor}
use Rattle.std.specs.Str.{bytes_eq}
use Rattle.std.specs.declared.cmp.Ordering.{Ordering}
use Rattle.std.specs.Ordering.{nat_cmp, ordering_then}
use Rattle.std.specs.Cmp.Lexicographic.{slice_cmp}
use Rattle.ov_aes.specs.Aes.{key_list}
use Rattle.ov_model.specs.declared.command.KeyDir.{KeyDir}
use Rattle.ov_model.specs.declared.entry.Entry.{Entry}
use Rattle.ov_model.specs.Keys.{conf_made}

-- What a direction seals with, as a pair.
abbrev pub pair_of : KeyDir → List ℕ × List ℕ
pair_of d = (key_list d.key, d.tail)

-- A pair as it is lent.
abbrev pub pair_read : Bor (List ℕ) × Bor (List ℕ) → List ℕ × List ℕ
pair_read p = (p.0.now, p.1.now)

-- Whether two pairs have the same bytes.
abbrev pub same_pair : List ℕ × List ℕ → List ℕ × List ℕ → Bool
same_pair p q = bytes_eq p.0 q.0 && bytes_eq p.1 q.1

-- The order of pairs: by the keys' bytes, then by the tails.
abbrev pub pair_cmp : Bor (List ℕ) × Bor (List ℕ) → Bor (List ℕ) × Bor (List ℕ) → Ordering
pair_cmp p q = ordering_then (slice_cmp nat_cmp p.0.now q.0.now) (slice_cmp nat_cmp p.1.now q.1.now)

-- The direction that an entry's new key seals with, as a list of none or one.
abbrev pub dirs_of : Option (Bor KeyDir) → List KeyDir
dirs_of None = []
dirs_of (Some d) = d.now ∷ []

-- The direction that an entry's new key seals with, as a list of none or one.
abbrev pub sealing_by : Entry → List KeyDir
sealing_by e = map (λ c. c.encrypt) (conf_made e.call.act e.reply)
