-- What one more write took follows, in the text, on what the earlier ones took.
use Rattle.std.proofs.Common.{arith, ◌≡◌, ◌∙◌, ℕ, ◌-◌, List, length, take, drop, length-drop}
use Rattle.std.proofs.KnownBytes.{Appends-trans}
use Rattle.std.proofs.Math.Seq.{take-add, take-length}
use Rattle.ov_base.proofs.writing.write_all.Goals as goal

-- the slice from n on, as it is lent for a call
take-drop : (n : ℕ) (bytes : List ℕ) → take (length bytes - n) (drop n bytes) ≡ drop n bytes
take-drop n bytes = rw (← length-drop n bytes) (take-length (drop n bytes))

pub loop-at-preserved : goal.loop-at-preserved
loop-at-preserved g c =
    let rest = take-drop c.loop-at.at c.args.text.now in
    record {
      written = rw take-add (Appends-trans _ _ _ _ _ c.loop-at.invariant.written (rw rest at c.in-Bytes.ensures.bytes));
      kept = c.in-Bytes.ensures.cause ∙ c.loop-at.invariant.kept;
      within =
          let fits = rw (rest, length-drop) at c.in-Bytes.ensures.fits.1 in
          omega (arith, fits);
    }
