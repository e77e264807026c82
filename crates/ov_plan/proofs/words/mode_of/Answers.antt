-- What MODE is in the matches.
use Rattle.clap.specs.Words.{found_of}
use Rattle.ov_plan.proofs.Matches.{mode_found, mode_missing, mode_other}
use Rattle.ov_plan.proofs.words.mode_of.Goals as goal

pub returns-in-Some-clause-some : goal.returns-in-Some-clause-some
returns-in-Some-clause-some c = mode_found (found_of c.args.matches.now) c.in-Some.name.now c.mode_named.result c.in-Some.ensures c.mode_named.ensures.some

pub returns-in-Some-clause-none : goal.returns-in-Some-clause-none
returns-in-Some-clause-none c = λ none mode. mode_other (found_of c.args.matches.now) c.in-Some.name.now mode c.in-Some.ensures (c.mode_named.ensures.none none mode)

pub returns-in-None-clause-none : goal.returns-in-None-clause-none
returns-in-None-clause-none c = λ none mode. mode_missing (found_of c.args.matches.now) mode c.in-None.ensures
