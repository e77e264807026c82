-- The names that are passed are those of the operation.
use Rattle.std.proofs.Common.{sym, subst}
use Rattle.serde_json.specs.View.{view}
use Rattle.ov_model.specs.declared.netlink.NlOp.{NlOp}
use Rattle.ov_line.specs.Grammar.{IsConf, conf_names}
use Rattle.ov_line.specs.Outcome.{Reads}
use Rattle.ov_line.proofs.keyconf.conf_of.Goals as goal

pub returns-in-KeyNew : goal.returns-in-KeyNew
returns-in-KeyNew c = subst (λ (o : NlOp). Reads (IsConf (conf_names o) (view c.args.value.now)) c.attributes.result) (sym c.in-KeyNew.is) c.attributes.ensures
