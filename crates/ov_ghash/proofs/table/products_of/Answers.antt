use Rattle.std.proofs.Common.{◌≡◌, ℕ, replicate, refl}
use Rattle.ov_ghash.specs.Block.{bits}
use Rattle.ov_ghash.specs.Turn.{horner}
use Rattle.ov_ghash.proofs.Tables.{AreProducts, AreProducts_first, AreProducts_double, AreProducts_all, horner_1, horner_2, horner_4, horner_8}
use Rattle.ov_ghash.proofs.table.products_of.Goals as goal

pub returns : goal.returns
returns c =
    let h : ℕ = c.args.h in
    let by_x : c.turned-by_x.result ≡ horner (bits 4 4) h = cc (horner_4 h) in
    let by_x2 : c.turned-by_x2.result ≡ horner (bits 4 2) h = cc (horner_2 h) in
    let by_x3 : c.turned-by_x3.result ≡ horner (bits 4 1) h = cc (horner_1 h) in
    let first : AreProducts h 1 (replicate 16 0) = AreProducts_first h (replicate 16 0) refl in
    let two : AreProducts h 2 c.double.new.table =
    AreProducts_double h 0 1 c.turned-by_x3.result (replicate 16 0) c.double.new.table refl by_x3 first c.double.ensures.kept c.double.ensures.added in
    let four : AreProducts h 4 c.double-2.new.table =
    AreProducts_double h 1 2 c.turned-by_x2.result c.double.new.table c.double-2.new.table refl by_x2 two c.double-2.ensures.kept c.double-2.ensures.added in
    let eight : AreProducts h 8 c.double-3.new.table =
    AreProducts_double h 2 4 c.turned-by_x.result c.double-2.new.table c.double-3.new.table refl by_x four c.double-3.ensures.kept c.double-3.ensures.added in
    AreProducts_all h c.double-4.new.table c.double-4.array_long
    (AreProducts_double h 3 8 h c.double-3.new.table c.double-4.new.table refl (horner_8 h) eight c.double-4.ensures.kept c.double-4.ensures.added)
