-- The number passed the test, so the definition gives the id with it.
use Rattle.ov_model.proofs.PeerIds.{key_id_of}
use Rattle.ov_model.proofs.ident.KeyId.new.Goals as goal

pub returns-clause-value : goal.returns-clause-value
returns-clause-value c = key_id_of _ _
