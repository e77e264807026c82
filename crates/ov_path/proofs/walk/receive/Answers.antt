use Rattle.std.proofs.Common.{rules, sym, ◌∙◌}
use Rattle.ov_path.proofs.Going.{bad_tag_step, judged_step, refused_step}
use Rattle.ov_path.proofs.Making.{bad_tag_made, judged_made}
use Rattle.ov_path.proofs.walk.receive.Goals as goal

pub returns-in_default-opened-clause-then : goal.returns-in_default-opened-clause-then
returns-in_default-opened-clause-then g c = (
  bad_tag_step {bytes = c.in-Rx.datagram} c.pair_of.result.now c.give_back_key.result c.requires.1.0 c.in-Rx.is c.pair_of.ensures.has
      (rw (← c.as_slice.ensures) (sym c.in_default-opened.is ∙ c.in_ok-opened.ensures.ok)) c.give_back_key.ensures.gave,
  tt,
)

pub returns-in-Some-refusal_of-clause-then : goal.returns-in-Some-refusal_of-clause-then
returns-in-Some-refusal_of-clause-then g c = rw c.dropped_as.ensures (
  refused_step {bytes = c.in-Rx.datagram} {packet = c.in-Some.packet} c.pair_of.result.now c.in_ok-verdict.verdict c.in-Some-refusal_of.refusal c.requires.1.0 c.in-Rx.is c.pair_of.ensures.has
      (rw (← c.as_slice.ensures) (sym c.in-Some.is ∙ c.in_ok-opened.ensures.ok)) (search rules) (sym c.refusal_of.ensures ∙ c.in-Some-refusal_of.is) c.in_ok-verdict.ensures.ok,
  tt,
)

pub returns-in-None-clause-then : goal.returns-in-None-clause-then
returns-in-None-clause-then g c = (
  judged_step {bytes = c.in-Rx.datagram} {packet = c.in-Some.packet} c.pair_of.result.now c.in_ok-verdict.verdict c.requires.1.0 c.in-Rx.is c.pair_of.ensures.has
      (rw (← c.as_slice.ensures) (sym c.in-Some.is ∙ c.in_ok-opened.ensures.ok)) (search rules) (search rules) (sym c.refusal_of.ensures ∙ c.in-None.is) c.in_ok-verdict.ensures.ok,
  tt,
)

pub returns-in_default-opened-clause-made : goal.returns-in_default-opened-clause-made
returns-in_default-opened-clause-made g c = bad_tag_made {id = c.args.packet_id} {bytes = c.in-Rx.datagram} c.pair_of.result.now c.give_back_key.result c.requires.1.0 c.in-Rx.is c.pair_of.ensures.has
    (rw (← c.as_slice.ensures) (sym c.in_default-opened.is ∙ c.in_ok-opened.ensures.ok)) c.give_back_key.ensures.gave

pub returns-in-Some-refusal_of-clause-made : goal.returns-in-Some-refusal_of-clause-made
returns-in-Some-refusal_of-clause-made g c = judged_made {bytes = c.in-Rx.datagram} {packet = c.in-Some.packet} c.pair_of.result.now c.in_ok-verdict.verdict c.requires.1.0 c.in-Rx.is c.pair_of.ensures.has
    (rw (← c.as_slice.ensures) (sym c.in-Some.is ∙ c.in_ok-opened.ensures.ok)) (search rules) c.in_ok-verdict.ensures.ok

pub returns-in-None-clause-made : goal.returns-in-None-clause-made
returns-in-None-clause-made g c = judged_made {bytes = c.in-Rx.datagram} {packet = c.in-Some.packet} c.pair_of.result.now c.in_ok-verdict.verdict c.requires.1.0 c.in-Rx.is c.pair_of.ensures.has
    (rw (← c.as_slice.ensures) (sym c.in-Some.is ∙ c.in_ok-opened.ensures.ok)) (search rules) c.in_ok-verdict.ensures.ok
