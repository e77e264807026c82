use Rattle.ov_lane.proofs.Ordering.{orderly_called}
use Rattle.ov_lane.proofs.ovpn.Ovpn.call.Goals as goal

pub invariant_of-pass-2 : goal.invariant_of-pass-2
invariant_of-pass-2 g c = (
  c.serve.ensures.room,
  orderly_called c.pass.inside.number c.pass.inside.lines c.args.at c.pass.inside.share c.serve.new.share c.args.command.now c.in_ok-reply.reply c.in_ok-reply.ensures.ok c.serve.ensures.same c.pass.invariant.1,
)
