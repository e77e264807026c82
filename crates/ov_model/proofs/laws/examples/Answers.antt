-- Each is computed.
use Rattle.ov_model.proofs.Examples.{window_examples, datagram_examples, inner_examples, id_examples, message_examples, new_examples, set_examples, slot_examples, dump_examples, look_examples, tick_examples, down_examples, keep_examples, float_examples, via_examples, route_example}
use Rattle.ov_model.proofs.laws.examples.Goals as goal

pub returns-clause-window : goal.returns-clause-window
returns-clause-window c = window_examples

pub returns-clause-datagrams : goal.returns-clause-datagrams
returns-clause-datagrams c = datagram_examples

pub returns-clause-packets : goal.returns-clause-packets
returns-clause-packets c = inner_examples

pub returns-clause-ids : goal.returns-clause-ids
returns-clause-ids c = id_examples

pub returns-clause-messages : goal.returns-clause-messages
returns-clause-messages c = message_examples

pub returns-clause-new : goal.returns-clause-new
returns-clause-new c = new_examples

pub returns-clause-set : goal.returns-clause-set
returns-clause-set c = set_examples

pub returns-clause-slots : goal.returns-clause-slots
returns-clause-slots c = slot_examples

pub returns-clause-dump : goal.returns-clause-dump
returns-clause-dump c = dump_examples

pub returns-clause-looks : goal.returns-clause-looks
returns-clause-looks c = look_examples

pub returns-clause-tick : goal.returns-clause-tick
returns-clause-tick c = tick_examples

pub returns-clause-down : goal.returns-clause-down
returns-clause-down c = down_examples

pub returns-clause-keep : goal.returns-clause-keep
returns-clause-keep c = keep_examples

pub returns-clause-float : goal.returns-clause-float
returns-clause-float c = float_examples

pub returns-clause-via : goal.returns-clause-via
returns-clause-via c = via_examples

pub returns-clause-route : goal.returns-clause-route
returns-clause-route c = route_example
