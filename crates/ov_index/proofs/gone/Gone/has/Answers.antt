use Rattle.std.proofs.Common.{rules}
use Rattle.ov_index.specs.Gone.{has_number}
use Rattle.ov_index.proofs.Held.{any_is}
use Rattle.ov_index.proofs.gone.Gone.has.Goals as goal

pub returns : goal.returns
returns g c = rw (any_is (has_number g.T.Numbered.serial_of c.args.serial) c.args.self.now.items) (search rules)
