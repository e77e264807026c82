use Rattle.std.proofs.Common.{◌≡◌, ℕ, List, length, [], ◌∷◌, sym, rules}
use Rattle.std.proofs.lemmas.List.{take_at, drop_at}
use Rattle.ov_gcm.proofs.Counters.{counter-number}
use Rattle.ov_gcm.proofs.stream.counter_block.Goals as goal

pub returns : goal.returns
returns c =
    let long : length c.args.nonce ≡ 12 = search rules in
    let behind : List ℕ = 0 ∷ 0 ∷ 0 ∷ 0 ∷ [] in
    rw (c.copy_from_slice.ensures.after, c.copy_from_slice-2.ensures.after, c.to_be_bytes.ensures, take_at c.args.nonce behind 12 long, drop_at c.args.nonce behind 12 long)
    (sym (counter-number c.args.nonce long c.args.i c.requires))
