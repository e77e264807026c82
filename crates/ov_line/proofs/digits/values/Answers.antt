-- Each lane is computed from its digit, and so for each of the 256 bytes.
use Rattle.std.proofs.Common.{◌≡◌, ◌∙◌, ℕ, map, refl, ap}
use Rattle.std.proofs.lemmas.Simd.{zip2_of_maps, splat_is_map, map-map}
use lib.Lanes.{top}
use lib.ListN.{replicate}
use Rattle.ov_line.specs.Digits.{value_of}
use Rattle.ov_line.proofs.HexLanes.{sel_of_maps, lanes_same, map_self}
use Rattle.ov_line.proofs.digits.values.Goals as goal

pub returns : goal.returns
returns c =
    let v = c.args.digits in
    let splat : (n : ℕ) → replicate 16 n ≡ map (λ _. n) v = λ n. splat_is_map v 16 n c.fits-digits.0 in
    let self : v ≡ map (λ x. x) v = map_self v in
    let decimal = zip2_of_maps _ (λ x. x) (λ _. 48) v self (splat 48) in
    let lower = zip2_of_maps _ (λ x. x) (λ _. 32) v self (splat 32) in
    let letter = zip2_of_maps _ _ (λ _. 97) v lower (splat 97) in
    let is_letter = ap (map (top 7)) (zip2_of_maps _ _ (λ _. 6) v letter (splat 6)) ∙ map-map _ _ v in
    let is_decimal = ap (map (top 7)) (zip2_of_maps _ _ (λ _. 10) v decimal (splat 10)) ∙ map-map _ _ v in
    let of_letter = sel_of_maps _ _ (λ _. 255) v is_letter (zip2_of_maps _ _ (λ _. 10) v letter (splat 10)) (splat 255) in
    sel_of_maps _ _ _ v is_decimal decimal of_letter ∙ lanes_same _ value_of v c.fits-digits.1 refl
