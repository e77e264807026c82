use Rattle.std.proofs.Common.{rules, arith, ◌≡◌, ◌<◌, ◌∙◌, ap, ◌++◌, ◌∷◌, [], length, false}
use Rattle.std.specs.Prelude.{Some}
use Rattle.std.specs.List.{list_any}
use Rattle.ov_index.specs.Index.{present}
use Rattle.ov_index.specs.Gone.{has_number}
use Rattle.ov_index.proofs.Slots.{present_more}
use Rattle.ov_index.proofs.Listed.{joined}
use Rattle.ov_index.proofs.gone.Gone.join.Goals as goal

pub invariant_of-self : goal.invariant_of-self
invariant_of-self g c =
    let items : present c.self.inside.slots.items ≡ c.args.self.now.items = ap (λ x. x.items) c.self.view_is in
    let within : g.T.Numbered.serial_of c.args.item < length c.self.inside.places.items = search (rules, arith) in
    let apart : list_any (has_number g.T.Numbered.serial_of (g.T.Numbered.serial_of c.args.item)) (present c.self.inside.slots.items) ≡ false = rw items c.requires.apart in
    let place : c.len-place.result ≡ length c.self.inside.slots.items = search rules in
    let pushed : c.push.new.self.items ≡ c.self.inside.slots.items ++ Some c.args.item ∷ [] = search rules in
    rw (pushed, c.serial.ensures, place) (joined g.T.Numbered.serial_of c.self.inside.places.items c.self.inside.slots.items c.self.inside.front c.self.inside.holes c.args.item c.self.invariant within apart)

pub returns-clause-items : goal.returns-clause-items
returns-clause-items g c =
    let items : present c.self.inside.slots.items ≡ c.args.self.now.items = ap (λ x. x.items) c.self.view_is in
    let pushed : c.push.new.self.items ≡ c.self.inside.slots.items ++ Some c.args.item ∷ [] = search rules in
    ap present pushed ∙ present_more c.self.inside.slots.items c.args.item ∙ ap (λ xs. xs ++ c.args.item ∷ []) items
