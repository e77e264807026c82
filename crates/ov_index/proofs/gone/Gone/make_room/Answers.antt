use Rattle.std.proofs.Common.{rules, arith, ℕ, List, ◌≡◌, ◌≤◌, ◌∙◌, ap, ◌++◌, ◌-◌, length}
use Rattle.std.specs.Prelude.{replicate, vec_len}
use Rattle.std.proofs.lemmas.List.{take_all}
use Rattle.ov_index.proofs.Listed.{more_places}
use Rattle.ov_index.proofs.gone.Gone.make_room.Goals as goal

pub invariant_of-self-in-Continue-branch-2 : goal.invariant_of-self-in-Continue-branch-2
invariant_of-self-in-Continue-branch-2 g c =
    let more : List ℕ = replicate (c.args.serials - vec_len c.self.inside.places) 0 in
    let short : length c.self.inside.places.items ≤ c.args.serials = search (rules, arith) in
    let places : c.resize.new.self.items ≡ c.self.inside.places.items ++ more = c.in_ok-resize.ensures.items ∙ ap (λ xs. xs ++ more) (take_all c.args.serials c.self.inside.places.items short) in
    rw (places, c.reserve.ensures.items) (more_places g.T.Numbered.serial_of c.self.inside.places.items more c.self.inside.slots.items c.self.inside.front c.self.inside.holes c.self.invariant)
