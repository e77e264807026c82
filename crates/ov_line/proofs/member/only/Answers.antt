-- The members of the value are those of the map in it.
use Rattle.std.proofs.Common.{◌≡◌, ◌∙◌, ℕ, Bool, false, List, map, Bor, sym}
use Rattle.std.specs.Prelude.{IsTrue}
use Rattle.serde_json.specs.View.{view, members_view}
use Rattle.ov_line.specs.Values.{has_only}
use Rattle.ov_line.proofs.Names.{all_members, object_names}
use Rattle.ov_line.proofs.member.only.Goals as goal

false_is_not : (b : Bool) → b ≡ false → ¬ (IsTrue b)
false_is_not b h t = cc

pub returns-in-Some : goal.returns-in-Some
returns-in-Some c =
    let names : List (List ℕ) = map {A = Bor (List ℕ)} {B = List ℕ} (λ n. n.now) c.args.names.now in
    let same : c.all_among.result ≡ has_only names (view c.args.value.now) = c.all_among.ensures ∙ all_members names c.in-Some.members.now.entries
    ∙ object_names names (members_view c.in-Some.members.now.entries) (view c.args.value.now) c.in-Some.ensures in
    sym same ∙ c.if-all_among.true

pub returns-in-Some-2 : goal.returns-in-Some-2
returns-in-Some-2 c =
    let names : List (List ℕ) = map {A = Bor (List ℕ)} {B = List ℕ} (λ n. n.now) c.args.names.now in
    let same : c.all_among.result ≡ has_only names (view c.args.value.now) = c.all_among.ensures ∙ all_members names c.in-Some.members.now.entries
    ∙ object_names names (members_view c.in-Some.members.now.entries) (view c.args.value.now) c.in-Some.ensures in
    false_is_not _ (sym same ∙ c.if-all_among.false)
