-- An address is of one family or of the other.
use Rattle.std.proofs.Common.{Result, Ok, Err, List, ℕ}
use Rattle.std.specs.Prelude.{IsErr}
use Rattle.serde_json.specs.Data.{Data}
use Rattle.serde_json.specs.View.{view}
use Rattle.ov_base.specs.declared.address.Addr.{Addr}
use Rattle.ov_base.specs.declared.address.Addr.TheVariants.{V4, V6}
use Rattle.ov_line.specs.declared.why.Why.{Why}
use Rattle.ov_line.specs.Values.{IsIpv4, IsIpv6, IsAddr}
use Rattle.ov_line.specs.Outcome.{Finds}
use Rattle.ov_line.proofs.member.addr_of.Goals as goal

neither : (d : Data) (r : Result Addr Why) → IsErr r → ((a : List ℕ) → ¬ (IsIpv4 d a)) → ((a : List ℕ) → ¬ (IsIpv6 d a)) → Finds (IsAddr d) r
neither d (Ok a) is four six = absurd (cc is)
neither d (Err why) is four six = λ a h. one a h
  where
    one : (a : Addr) → ¬ (IsAddr d a)
    one (V4 octets) h = four octets h
    one (V6 octets) h = six octets h

pub returns-in_err-ipv6_of-in-Err : goal.returns-in_err-ipv6_of-in-Err
returns-in_err-ipv6_of-in-Err c = neither (view c.args.value.now) c.from_residual.result c.from_residual.ensures.0 c.in-Err.ensures c.in_err-ipv6_of-in-Err.ensures
