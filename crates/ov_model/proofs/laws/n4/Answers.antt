-- The lifetime law, of every run.
use Rattle.ov_model.proofs.LifetimeLaw.{peers_stay_released, keys_stay_released, report_stays_released}
use Rattle.ov_model.proofs.laws.n4.Goals as goal

pub returns-clause-peers : goal.returns-clause-peers
returns-clause-peers c = peers_stay_released

pub returns-clause-keys : goal.returns-clause-keys
returns-clause-keys c = keys_stay_released

pub returns-clause-report : goal.returns-clause-report
returns-clause-report c script first report legal = report_stays_released script first report legal
