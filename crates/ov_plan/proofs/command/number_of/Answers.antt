-- The text that was found for the option is a number, and is read as it.
use Rattle.std.proofs.Common.{◌∙◌, arith}
use Rattle.std.specs.Str.Parse.{ParsesUnsigned, ExplainsUnsignedError, HasUnsignedDigitsIfOk}
use Rattle.clap.specs.Words.{found_of}
use Rattle.ov_plan.proofs.Numbers.{number_read}
use Rattle.ov_plan.proofs.command.number_of.Goals as goal

pub returns : goal.returns
returns c = record {
  value = c.unwrap_or.ensures
      ∙ number_read _ (λ bs r. ParsesUnsigned 32 10 bs r × ExplainsUnsignedError 10 bs r × HasUnsignedDigitsIfOk bs r) 32 0 4294967295 c.args.standard (found_of c.args.matches.now) c.args.name.now c.get_one.result
      c.requires.number (omega arith) (λ u x g. g.0) c.get_one.ensures.none c.get_one.ensures.value;
}
