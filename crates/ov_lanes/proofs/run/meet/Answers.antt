-- The two saw what either had seen, in whichever order they are named.
use Rattle.std.proofs.Common.{ℕ, ◌≡◌, ◌<◌, arith, sym, subst}
use Rattle.ov_lanes.specs.Jobs.{HaveMet}
use Rattle.ov_lanes.proofs.Meeting.{two_saw, two_met, met_either}
use Rattle.ov_lanes.proofs.run.meet.Goals.{then-one-other-2, else-one-other-2}
use Rattle.ov_lanes.proofs.run.meet.Goals as goal

pub returns-clause-saw : goal.returns-clause-saw
returns-clause-saw c =
    let both = c.with_both.ensures in
    let below : c.if-one-other-2.low.0 < c.if-one-other-2.low.1 = elim c.if-one-other-2.branch [
      | then-one-other-2 w ↦ subst (λ (p : ℕ × ℕ). p.0 < p.1) (sym w.low-is) w.if-one-other-2.true
      | else-one-other-2 w ↦ subst (λ (p : ℕ × ℕ). p.0 < p.1) (sym w.low-is) (omega arith)
    ] in
    two_saw c.args.jobs.now c.with_both.new.all _ _ both.one.now both.other.now both.one_after.now both.other_after.now both.one_is both.other_is (λ same. omega arith) both.left both.call.0 both.call.1.0

pub returns-clause-met : goal.returns-clause-met
returns-clause-met c =
    let both = c.with_both.ensures in
    let met : (c.if-one-other-2.low.0 ≡ c.if-one-other-2.low.1 → ⊥) → HaveMet c.if-one-other-2.low.0 c.if-one-other-2.low.1 c.with_both.new.all = λ other. two_met c.args.jobs.now c.with_both.new.all _ _ both.one_after.now both.other_after.now other both.left both.call.1.1 in
    elim c.if-one-other-2.branch [
      | then-one-other-2 w ↦
          let other : c.if-one-other-2.low.0 ≡ c.if-one-other-2.low.1 → ⊥ = subst (λ (p : ℕ × ℕ). p.0 ≡ p.1 → ⊥) (sym w.low-is) (λ same. omega arith) in
          subst (λ (p : ℕ × ℕ). HaveMet p.0 p.1 c.with_both.new.all) w.low-is (met other)
      | else-one-other-2 w ↦
          let other : c.if-one-other-2.low.0 ≡ c.if-one-other-2.low.1 → ⊥ = subst (λ (p : ℕ × ℕ). p.0 ≡ p.1 → ⊥) (sym w.low-is) (λ same. omega arith) in
          met_either c.args.other c.args.one c.with_both.new.all (subst (λ (p : ℕ × ℕ). HaveMet p.0 p.1 c.with_both.new.all) w.low-is (met other))
    ]
