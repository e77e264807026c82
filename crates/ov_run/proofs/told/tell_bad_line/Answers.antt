-- The parts of the line, up to the one that wasn't written whole.
use Rattle.std.proofs.Common.{◌≡◌, rules}
use Rattle.std.specs.Prelude.{decimal}
use Rattle.ov_run.proofs.Telling.{on_err, told_whole, told_first, told_second, told_third}
use Rattle.ov_run.proofs.told.tell_bad_line.Goals as goal

pub returns-in_err-write_all-clause-part : goal.returns-in_err-write_all-clause-part
returns-in_err-write_all-clause-part g c = on_err _ _ (told_first _ _ (decimal c.args.number) c.in_err-write_all.ensures.part)

pub returns-in_err-write_all-2-clause-part : goal.returns-in_err-write_all-2-clause-part
returns-in_err-write_all-2-clause-part g c =
    let digits : c.as_bytes.result.now ≡ decimal c.args.number = search rules in
    on_err _ _ (told_second _ _ _ _ _ digits c.in_ok-write_all.ensures.whole c.in_err-write_all-2.ensures.part)

pub returns-in_err-write_all-3-clause-part : goal.returns-in_err-write_all-3-clause-part
returns-in_err-write_all-3-clause-part g c =
    let digits : c.as_bytes.result.now ≡ decimal c.args.number = search rules in
    on_err _ _ (told_third _ _ _ _ _ _ digits c.in_ok-write_all.ensures.whole c.in_ok-write_all-2.ensures.whole c.in_err-write_all-3.ensures.part)

pub returns-clause-whole : goal.returns-clause-whole
returns-clause-whole g c =
    let digits : c.as_bytes.result.now ≡ decimal c.args.number = search rules in
    told_whole _ _ _ _ _ _ digits c.in_ok-write_all.ensures.whole c.in_ok-write_all-2.ensures.whole c.in_ok-write_all-3.ensures.whole
