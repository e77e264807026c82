use Rattle.std.proofs.Common.{◌≡◌, ◌∙◌, max, refl}
use Rattle.ov_model.specs.Replay.{verdict_of}
use Rattle.ov_replay.proofs.course.step_on.Goals as goal

pub returns-clause-ok : goal.returns-clause-ok
returns-clause-ok c = λ l m stood.
    let answer = c.in_ok-verdict.ensures.verdict l m stood in
    let verdict : c.in_ok-verdict.verdict ≡ verdict_of l c.args.id (max m c.args.at) = cc in
    let stands = c.in_ok-verdict.ensures.stands l m stood in
    let moment : c.moment.result ≡ max m c.args.at = c.moment.ensures _ _ stands in
    (moment, verdict ∙ rw (moment) refl, rw (moment, verdict) stands)
