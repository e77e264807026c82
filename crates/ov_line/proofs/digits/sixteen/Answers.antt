-- The digits are woven of the two vectors whose values were joined.
use Rattle.std.proofs.Common.{◌≡◌, List, ℕ, Option, Some, None}
use Rattle.std.specs.Prelude.{IfSome, map}
use Rattle.ov_line.specs.Digits.{value_of, woven, AreJoined, AreDigits}
use Rattle.ov_line.proofs.HexLanes.{woven_digits}
use Rattle.ov_line.proofs.digits.sixteen.Goals as goal

-- What was joined, where something was.
decoded : (r : Option (List ℕ)) (digits highs lows hs ls : List ℕ) → digits ≡ woven highs lows → hs ≡ map value_of highs → ls ≡ map value_of lows → IfSome r (λ bytes. AreJoined hs ls bytes)
    → IfSome r (λ bytes. AreDigits digits bytes)
decoded None digits highs lows hs ls d h l joined = tt
decoded (Some bytes) digits highs lows hs ls d h l joined = rw d (woven_digits highs lows bytes (rw (h, l) at joined))

pub returns : goal.returns
returns c = decoded c.joined.result c.args.digits.now c.apart.result.0 c.apart.result.1 c.values.result c.values-2.result c.apart.ensures c.values.ensures c.values-2.ensures c.joined.ensures
