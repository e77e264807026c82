-- The two lay in the two parts of the slice.
use Rattle.std.proofs.Common.{◌≡◌, ◌+◌, refl, ◌∙◌, ap, arith, slice_index_or}
use Rattle.std.specs.Prelude.{Some}
use Rattle.std.proofs.lemmas.Option.{slice_get_read}
use Rattle.ov_lanes.proofs.Meeting.{set_parts}
use Rattle.ov_lanes.proofs.pairs.with_both.Goals as goal

pub returns : goal.returns
returns g c =
    let parts = c.split_at_mut-front.ensures in
    let one = c.index-front-low in
    let other = c.index-back-0 in
    let first : c.args.high + 0 ≡ c.args.high = omega arith in
    record {
      one = _;
      other = _;
      one_is = slice_get_read c.args.all.now _ c.args.low one.result refl (omega arith) (one.is ∙ parts.by_index.0 c.args.low one.result c.requires.order) ∙ ap Some one.is;
      other_is = slice_get_read c.args.all.now _ c.args.high other.result refl c.requires.high (other.is ∙ parts.by_index.1 0 other.result ∙ ap (λ k. slice_index_or c.args.all.now k other.result) first) ∙ ap Some other.is;
      one_after = _;
      other_after = _;
      call = c.f.ensures;
      left = set_parts c.args.all.now c.split_at_mut-front.result.0.now c.split_at_mut-front.result.1.now c.args.low c.args.high c.f.new.arg2 c.f.new.arg3 parts.value parts.front_len c.requires.order;
    }
