use Rattle.ov_path.proofs.Ticks.{ping_drew_step, ping_key_step, ping_peer_step}
use Rattle.ov_path.proofs.Making.{ping_drew_made, ping_key_made, ping_peer_made}
use Rattle.ov_path.proofs.ping.ping.Goals as goal

pub returns-in-Looked-clause-then : goal.returns-in-Looked-clause-then
returns-in-Looked-clause-then g c = ping_drew_step c.draw-drawn.result (rw (← c.in-Looked.is) c.requires.1.0) c.draw-drawn.ensures.drew

pub returns-in-Looked-clause-made : goal.returns-in-Looked-clause-made
returns-in-Looked-clause-made g c = ping_drew_made {peer = c.in-Looked.peer} {h = c.in-Looked.hold} {p = c.args.pings.now} c.draw-drawn.result (rw (← c.in-Looked.is) c.requires.1.0) c.draw-drawn.ensures.drew

pub returns-in-Used-clause-then : goal.returns-in-Used-clause-then
returns-in-Used-clause-then g c = ping_key_step c.give_back_key.result (rw (← c.in-Used.is) c.requires.1.0) c.give_back_key.ensures.gave

pub returns-in-Used-clause-made : goal.returns-in-Used-clause-made
returns-in-Used-clause-made g c = ping_key_made {h = c.in-Used.hold} {u = c.in-Used.made} {p = c.args.pings.now} c.give_back_key.result (rw (← c.in-Used.is) c.requires.1.0) c.give_back_key.ensures.gave

pub returns-in-KeyGiven-clause-then : goal.returns-in-KeyGiven-clause-then
returns-in-KeyGiven-clause-then g c = ping_peer_step c.give_back.result (rw (← c.in-KeyGiven.is) c.requires.1.0) c.requires.1.1.0 c.give_back.ensures.gave

pub returns-in-KeyGiven-clause-made : goal.returns-in-KeyGiven-clause-made
returns-in-KeyGiven-clause-made g c = ping_peer_made {h = c.in-KeyGiven.hold} {u = c.in-KeyGiven.made} {p = c.args.pings.now} c.give_back.result (rw (← c.in-KeyGiven.is) c.requires.1.0) c.requires.1.1.0 c.give_back.ensures.gave
