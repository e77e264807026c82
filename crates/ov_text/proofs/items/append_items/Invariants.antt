use Rattle.std.proofs.Common.{◌≡◌, ◌++◌, false, drop}
use Rattle.std.specs.Prelude.{map}
use Rattle.serde_json.specs.View.{items_of}
use Rattle.serde_json.specs.Written.{items_text}
use Rattle.ov_text.proofs.items.append_items.Given as goal

abbrev pub invariant-loop-member : goal.invariant-loop-member
invariant-loop-member g l = record {
  written : l.page.items ++ items_text l.later (items_of (map g.T.Item.json (drop l.member-index l.list))) ≡ l.fn.page.items ++ items_text false (items_of (map g.T.Item.json l.list));
}
