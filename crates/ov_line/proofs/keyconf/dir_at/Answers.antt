-- What stands under the name is no direction.
use Rattle.serde_json.specs.View.{view}
use Rattle.ov_line.specs.Grammar.{IsDir}
use Rattle.ov_line.proofs.Options.{reads_not_under}
use Rattle.ov_line.proofs.keyconf.dir_at.Goals as goal

pub returns-in_err-dir_of-in-Some : goal.returns-in_err-dir_of-in-Some
returns-in_err-dir_of-in-Some c = reads_not_under c.from_residual.result c.in_err-dir_of-in-Some.field-0.0 IsDir c.args.name.now (view c.args.value.now) (view c.in-Some.found.now) c.from_residual.ensures c.in-Some.ensures c.in_err-dir_of-in-Some.ensures
