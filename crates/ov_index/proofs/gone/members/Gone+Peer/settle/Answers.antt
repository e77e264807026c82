use Rattle.std.proofs.Common.{rules, ◌<◌, ◌∙◌, sym, ap, length}
use Rattle.ov_model.specs.Tables.{Peer, change_first, has_serial}
use Rattle.ov_model.specs.Step.{is_there, settled_peer, received_peer}
use Rattle.ov_index.specs.Gone.{Listed}
use Rattle.ov_index.proofs.Slots.{standing_within}
use Rattle.ov_index.proofs.Held.{length_changed}
use Rattle.ov_index.proofs.Changed.{settled_alike}
use Rattle.ov_index.proofs.Listed.{not_placed, returned}
use Rattle.ov_index.proofs.gone.members.Gone+Peer.settle.Goals as goal

pub returns-in_default-clause-there : goal.returns-in_default-clause-there
returns-in_default-clause-there c =
    sym (not_placed (λ (p : Peer). p.serial) c.self.inside.places.items c.self.inside.slots.items c.self.inside.front c.self.inside.holes c.args.serial c.self.invariant (search rules)).any ∙ ap (λ (x : Listed Peer). is_there c.args.serial x.items) c.self.view_is

pub returns-in_default-clause-peers : goal.returns-in_default-clause-peers
returns-in_default-clause-peers c =
    let dye : Peer → Peer = λ p. settled_peer c.args.settled c.args.inner (received_peer c.args.now c.args.outer p) in
    sym (ap (λ (x : Listed Peer). x.items) c.self.view_is) ∙ sym ((not_placed (λ (p : Peer). p.serial) c.self.inside.places.items c.self.inside.slots.items c.self.inside.front c.self.inside.holes c.args.serial c.self.invariant (search rules)).same dye) ∙ ap (λ (x : Listed Peer). change_first (has_serial c.args.serial) dye x.items) c.self.view_is

pub put_at-requires : goal.put_at-requires
put_at-requires c =
    let within : c.in-Some.place < length c.self.inside.slots.items = standing_within c.self.inside.slots.items c.in-Some.place c.in-Some-take_at.peer (search rules) in
    rw c.take_at.ensures.long within

pub invariant_of-self : goal.invariant_of-self
invariant_of-self c =
    let back = returned (λ (p : Peer). p.serial) c.self.inside.places.items c.self.inside.slots.items c.take_at.new.slots.items c.put_at.new.slots.items c.self.inside.front c.self.inside.holes c.args.serial c.in-Some.place (λ p. settled_peer c.args.settled c.args.inner (received_peer c.args.now c.args.outer p)) c.in-Some-take_at.peer c.settle.new.self c.self.invariant (search rules) (search rules) c.take_at.ensures.now c.put_at.ensures c.settle.ensures (settled_alike c.args.now c.args.inner c.args.outer c.args.settled c.in-Some-take_at.peer).serial in
    back.listed

pub returns-clause-there : goal.returns-clause-there
returns-clause-there c =
    let back = returned (λ (p : Peer). p.serial) c.self.inside.places.items c.self.inside.slots.items c.take_at.new.slots.items c.put_at.new.slots.items c.self.inside.front c.self.inside.holes c.args.serial c.in-Some.place (λ p. settled_peer c.args.settled c.args.inner (received_peer c.args.now c.args.outer p)) c.in-Some-take_at.peer c.settle.new.self c.self.invariant (search rules) (search rules) c.take_at.ensures.now c.put_at.ensures c.settle.ensures (settled_alike c.args.now c.args.inner c.args.outer c.args.settled c.in-Some-take_at.peer).serial in
    sym back.any ∙ ap (λ (x : Listed Peer). is_there c.args.serial x.items) c.self.view_is

pub returns-clause-peers : goal.returns-clause-peers
returns-clause-peers c =
    let back = returned (λ (p : Peer). p.serial) c.self.inside.places.items c.self.inside.slots.items c.take_at.new.slots.items c.put_at.new.slots.items c.self.inside.front c.self.inside.holes c.args.serial c.in-Some.place (λ p. settled_peer c.args.settled c.args.inner (received_peer c.args.now c.args.outer p)) c.in-Some-take_at.peer c.settle.new.self c.self.invariant (search rules) (search rules) c.take_at.ensures.now c.put_at.ensures c.settle.ensures (settled_alike c.args.now c.args.inner c.args.outer c.args.settled c.in-Some-take_at.peer).serial in
    back.changed ∙ ap (λ (x : Listed Peer). change_first (has_serial c.args.serial) (λ p. settled_peer c.args.settled c.args.inner (received_peer c.args.now c.args.outer p)) x.items) c.self.view_is

pub returns-clause-long : goal.returns-clause-long
returns-clause-long c = ap length (returns-clause-peers c) ∙ length_changed (has_serial c.args.serial) (λ p. settled_peer c.args.settled c.args.inner (received_peer c.args.now c.args.outer p)) c.args.self.now.items
