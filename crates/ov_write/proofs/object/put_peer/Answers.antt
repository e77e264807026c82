-- The object under its name.
use Rattle.std.proofs.Common.{codes, refl, sym, subst, true, Option}
use Rattle.std.specs.Prelude.{option_map}
use Rattle.ov_model.specs.declared.netlink.NlPeer.{NlPeer}
use Rattle.ov_write.specs.Text.{Puts, peer_data, peer_members}
use Rattle.ov_write.proofs.Putting.{puts_object, plain_text}
use Rattle.ov_write.proofs.object.put_peer.Goals as goal

pub returns : goal.returns
returns c =
    subst (λ (o : Option NlPeer). Puts c.args.page.now.items c.put_attributes.new.page.items c.args.later true (codes "peer") (option_map peer_data o)) (sym c.in-Some.is)
    (puts_object c.args.page.now.items c.put_name.new.page.items c.extend_from_slice.new.self.items c.put_attributes.new.page.items c.args.later (codes "peer") (peer_members c.in-Some.peer)
    c.in_ok-put_name.ensures c.in_ok-extend_from_slice.ensures.items c.in_ok-put_attributes.ensures (plain_text (codes "peer") refl))
