use Rattle.std.proofs.Common.{◌≡◌, ◌-◌, ◌/◌, ◌^◌}
use Rattle.ov_ghash.specs.Block.{bits}
use Rattle.ov_ghash.specs.Turn.{turns, horner}
use Rattle.ov_ghash.proofs.plain.product.Given as goal

abbrev pub invariant-each : goal.invariant-each
invariant-each l = record {
  moved : l.v ≡ turns l.i l.y;
  done : l.z ≡ horner (bits l.i (l.x / 2 ^ (128 - l.i))) l.y;
}
