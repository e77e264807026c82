-- What the lines show of the bytes that were read holds of those that the source tells it gave.
use Rattle.std.proofs.Common.{◌≡◌, length, rules}
use Rattle.ov_script.proofs.Judging.{early_stops, stops_known, no_stop_known, not_early_known, counts_known, good_known, most_known, told_early, told_stop}
use Rattle.ov_script.proofs.Lines.{lines_fit, lines_below}
use Rattle.ov_script.specs.Reading.{whole_lines}
use Rattle.ov_script.proofs.script.read_script.Goals as goal

pub returns-in-Ok-clause-no_stop : goal.returns-in-Ok-clause-no_stop
returns-in-Ok-clause-no_stop g c = no_stop_known _ _ _ _ _ _ _ c.in-Ok.ensures.read

pub returns-in-Ok-clause-told_early : goal.returns-in-Ok-clause-told_early
returns-in-Ok-clause-told_early g c = λ event taken gave early. absurd (no_stop_known _ _ _ _ _ _ _ c.in-Ok.ensures.read taken gave event (early_stops c.args.lanes taken event early))

pub returns-in-Ok-clause-told_stop : goal.returns-in-Ok-clause-told_stop
returns-in-Ok-clause-told_stop g c = λ calm event taken gave first. absurd (no_stop_known _ _ _ _ _ _ _ c.in-Ok.ensures.read taken gave event first)

pub returns-in-Ok-clause-fits : goal.returns-in-Ok-clause-fits
returns-in-Ok-clause-fits g c = rw c.of_vec.ensures (lines_fit c.args.lanes (whole_lines c.in-Ok.ensures.read.bytes) c.read_source-end.new.pieces.good.lines.items c.in-Ok.ensures.read.judged.2)

pub returns-in-Ok-clause-lanes : goal.returns-in-Ok-clause-lanes
returns-in-Ok-clause-lanes g c = rw c.of_vec.ensures (lines_below c.args.lanes (whole_lines c.in-Ok.ensures.read.bytes) c.read_source-end.new.pieces.good.lines.items c.in-Ok.ensures.read.judged.2)

pub returns-clause-stops : goal.returns-clause-stops
returns-clause-stops g c = stops_known _ _ _ _ _ _ c.in-Err.stop c.in-Err.ensures.read

pub returns-clause-not_early : goal.returns-clause-not_early
returns-clause-not_early g c = not_early_known _ _ _ _ _ _ c.in-Err.stop c.in-Err.ensures.read

pub returns-clause-told_early : goal.returns-clause-told_early
returns-clause-told_early g c = told_early _ _ _ _ _ _ c.in-Err.stop c.in-Err.ensures.read

pub returns-clause-told_stop : goal.returns-clause-told_stop
returns-clause-told_stop g c = told_stop _ _ _ _ _ _ c.in-Err.stop c.in-Err.ensures.read

pub returns-clause-counted : goal.returns-clause-counted
returns-clause-counted g c =
    let count : c.len-good.result ≡ length c.read_source-end.new.pieces.good.lines.items = search rules in
    counts_known _ _ _ _ _ _ c.in-Err.stop c.len-good.result c.in-Err.ensures.read count

pub returns-clause-good : goal.returns-clause-good
returns-clause-good g c =
    let count : c.len-good.result ≡ length c.read_source-end.new.pieces.good.lines.items = search rules in
    good_known _ _ _ _ _ _ _ c.len-good.result c.in-Err.ensures.read count

pub returns-clause-most : goal.returns-clause-most
returns-clause-most g c = most_known _ _ _ _ _ _ _ c.in-Err.ensures.read
