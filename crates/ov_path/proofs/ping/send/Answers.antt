use Rattle.std.proofs.Common.{refl, ◌∙◌}
use Rattle.ov_path.proofs.Ticks.{ping_sent_step}
use Rattle.ov_path.proofs.Making.{ping_sent_made}
use Rattle.ov_path.proofs.ping.send.Goals as goal

pub returns-in-Ok-clause-then : goal.returns-in-Ok-clause-then
returns-in-Ok-clause-then g c = rw (c.tell.ensures, c.in_ok-outs.ensures.ok, c.in_ok-datagram.ensures.ok, c.keepalive_message-packet.ensures.exactly)
    (ping_sent_step c.args.id c.pair_of.result.now c.sent_of-act.result c.in-Ok.reply c.requires.1 c.pair_of.ensures.has (c.sent_of-act.ensures ∙ rw c.keepalive_message-packet.ensures.exactly refl) c.in-Ok.ensures.ok)

pub returns-in-Ok-clause-made : goal.returns-in-Ok-clause-made
returns-in-Ok-clause-made g c = ping_sent_made {peer = c.args.peer} {h = c.args.hold} {p = c.args.pings.now} c.args.id c.sent_of-act.result c.in-Ok.reply c.requires.1 (c.sent_of-act.ensures ∙ rw c.keepalive_message-packet.ensures.exactly refl) c.in-Ok.ensures.ok
