-- The nonce law: by the rows of the lines, and by the counts of packet ids.
use Rattle.ov_model.proofs.SealedLaw.{sealed_under, pinged_for}
use Rattle.ov_model.proofs.NonceLaw.{nonces_differ}
use Rattle.ov_model.proofs.laws.n1.Goals as goal

pub returns-clause-sealed : goal.returns-clause-sealed
returns-clause-sealed c = sealed_under

pub returns-clause-differ : goal.returns-clause-differ
returns-clause-differ c = nonces_differ

pub returns-clause-pings : goal.returns-clause-pings
returns-clause-pings c = pinged_for
