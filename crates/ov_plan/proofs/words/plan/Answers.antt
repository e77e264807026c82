-- Each number was found in its bounds.
use Rattle.std.proofs.Common.{arith, codes}
use Rattle.clap.specs.Words.{found_of}
use Rattle.ov_plan.proofs.Numbers.{widened, number_between}
use Rattle.ov_plan.proofs.words.plan.Goals as goal

pub number_of-requires : goal.number_of-requires
number_of-requires c = record { number = widened (found_of c.in_ok-matches.matches) (codes "lanes") 1 64 c.in_ok-matches.ensures.numbers.lanes (omega arith) }

pub number_of-requires-2 : goal.number_of-requires-2
number_of-requires-2 c = record { number = widened (found_of c.in_ok-matches.matches) (codes "head") 0 262144 c.in_ok-matches.ensures.numbers.head (omega arith) }

pub number_of-requires-3 : goal.number_of-requires-3
number_of-requires-3 c = record { number = widened (found_of c.in_ok-matches.matches) (codes "first-id") 1 4294967295 c.in_ok-matches.ensures.numbers.first_id (omega arith) }

pub number_of-requires-5 : goal.number_of-requires-5
number_of-requires-5 c = record { number = widened (found_of c.in_ok-matches.matches) (codes "count") 1 100000 c.in_ok-matches.ensures.numbers.count (omega arith) }

pub number_of-requires-6 : goal.number_of-requires-6
number_of-requires-6 c = record { number = widened (found_of c.in_ok-matches.matches) (codes "turns") 1 4294967295 c.in_ok-matches.ensures.numbers.turns (omega arith) }

pub number_of-requires-7 : goal.number_of-requires-7
number_of-requires-7 c = record { number = widened (found_of c.in_ok-matches.matches) (codes "port") 1 65344 c.in_ok-matches.ensures.numbers.port (omega arith) }

pub overflow_cast-result : goal.overflow_cast-result
overflow_cast-result c =
    let port = number_between (found_of c.in_ok-matches.matches) (codes "port") 1 65344 1194 c.in_ok-matches.ensures.numbers.port (omega arith) (omega arith) in
    omega (arith, port.1, c.number_of-7.ensures.value)

pub returns-clause-ranges : goal.returns-clause-ranges
returns-clause-ranges c =
    let lanes = number_between (found_of c.in_ok-matches.matches) (codes "lanes") 1 64 4 c.in_ok-matches.ensures.numbers.lanes (omega arith) (omega arith) in
    let head = number_between (found_of c.in_ok-matches.matches) (codes "head") 0 262144 0 c.in_ok-matches.ensures.numbers.head (omega arith) (omega arith) in
    let first_id = number_between (found_of c.in_ok-matches.matches) (codes "first-id") 1 4294967295 1 c.in_ok-matches.ensures.numbers.first_id (omega arith) (omega arith) in
    let count = number_between (found_of c.in_ok-matches.matches) (codes "count") 1 100000 1000 c.in_ok-matches.ensures.numbers.count (omega arith) (omega arith) in
    let turns = number_between (found_of c.in_ok-matches.matches) (codes "turns") 1 4294967295 1000 c.in_ok-matches.ensures.numbers.turns (omega arith) (omega arith) in
    let port = number_between (found_of c.in_ok-matches.matches) (codes "port") 1 65344 1194 c.in_ok-matches.ensures.numbers.port (omega arith) (omega arith) in
    record {
      lanes = rw c.number_of.ensures.value lanes;
      head = rw c.number_of-2.ensures.value head.1;
      first_id = rw c.number_of-3.ensures.value first_id.0;
      count = rw c.number_of-5.ensures.value count;
      turns = rw c.number_of-6.ensures.value turns.0;
      port = rw c.number_of-7.ensures.value port;
    }
