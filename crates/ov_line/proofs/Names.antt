-- Facts on the names of objects.
use Rattle.std.proofs.Common.{◌≡◌, ℕ, List, [], ◌∷◌, map, String, string_bytes, ◌&&◌, Some, refl, ap}
use Rattle.std.specs.List.{list_all}
use Rattle.std.specs.declared.alloc.Global.{Global}
use Rattle.serde_json.specs.declared.value.Value.{Value}
use Rattle.serde_json.specs.View.{members_view}
use Rattle.serde_json.specs.Data.{Data, null, boolean, number, string, array, object, Members}
use Rattle.serde_json.specs.Find.{as_object}
use Rattle.ov_line.specs.Values.{is_among, only_members, has_only}
use Rattle.ov_line.proofs.Options.{some_same}

-- The test over the keys of a map is the definition's test over the members that the map stands for.
pub all_members : (names : List (List ℕ)) (ms : List (String Global × Value)) → list_all (λ k. is_among (string_bytes k) names) (map (λ e. e.0) ms) ≡ only_members names (members_view ms)
all_members names [] = refl
all_members names (m ∷ ms) = ap (λ b. is_among (string_bytes m.0) names && b) (all_members names ms)

-- Of a value that is an object the test is that of its members.
pub object_names : (names : List (List ℕ)) (ms : Members) (d : Data) → Some ms ≡ as_object d → only_members names ms ≡ has_only names d
object_names names ms null h = absurd (cc h)
object_names names ms (boolean b) h = absurd (cc h)
object_names names ms (number n) h = absurd (cc h)
object_names names ms (string s) h = absurd (cc h)
object_names names ms (array ds) h = absurd (cc h)
object_names names ms (object ns) h = ap (only_members names) (some_same _ _ h)
