use Rattle.std.proofs.Common.{rules, ◌≡◌, sym, ap}
use Rattle.std.specs.Prelude.{Some, None}
use Rattle.ov_index.specs.Index.{present}
use Rattle.ov_index.specs.Gone.{place_in}
use Rattle.ov_index.proofs.Listed.{placed, not_placed}
use Rattle.ov_index.proofs.gone.Gone.find.Goals as goal

pub returns-in_err-place : goal.returns-in_err-place
returns-in_err-place g c =
    let items : present c.self.inside.slots.items ≡ c.args.self.now.items = ap (λ x. x.items) c.self.view_is in
    let none : place_in g.T.Numbered.serial_of c.self.inside.places.items c.self.inside.slots.items c.args.serial ≡ None = search rules in
    rw (sym items, (not_placed g.T.Numbered.serial_of c.self.inside.places.items c.self.inside.slots.items c.self.inside.front c.self.inside.holes c.args.serial c.self.invariant none).found) (search rules)

pub returns : goal.returns
returns g c =
    let items : present c.self.inside.slots.items ≡ c.args.self.now.items = ap (λ x. x.items) c.self.view_is in
    let there : place_in g.T.Numbered.serial_of c.self.inside.places.items c.self.inside.slots.items c.args.serial ≡ Some c.in_ok-place.place = search rules in
    let who = placed g.T.Numbered.serial_of c.self.inside.places.items c.self.inside.slots.items c.self.inside.front c.self.inside.holes c.args.serial c.in_ok-place.place c.self.invariant there in
    rw (sym items, who.at.found, sym who.stands) (search rules)
