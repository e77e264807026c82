-- What the matches have of MODE and of the schedule.
use Rattle.std.proofs.Common.{ℕ, List, [], ◌≡◌, ◌≢◌, ◌∙◌, ap, subst, sym, codes, Option, Some, None}
use Rattle.std.specs.Prelude.{IfSome, unwrap_or}
use Rattle.clap.specs.Words.{first_value, rows_of}
use Rattle.clap.specs.declared.parser.matches.Found.{Found}
use Rattle.clap.proofs.WalkLemmas.{first_value-rows}
use Rattle.ov_plan.specs.declared.words.Mode.{Mode}
use Rattle.ov_plan.specs.Plan.{IsMode, IsPlan, IsSchedule, mode_name, mode_word, schedule_text}
use Rattle.ov_plan.specs.declared.words.RunPlan.{RunPlan}

-- The words of a plan have its mode's word as MODE.
pub mode_word_is : (words : List (List ℕ)) (plan : RunPlan) → IsPlan words plan → mode_word words ≡ mode_name plan.mode
mode_word_is words plan is = ap (λ o. unwrap_or o []) is.plans.mode

module _ (f : Found) where
  -- The word is that of a mode, or of none.
  pub mode_found : (name : List ℕ) (r : Option Mode) → Some name ≡ first_value f (codes "mode") → IfSome r (λ mode. name ≡ mode_name mode) → IfSome r (IsMode (rows_of f))
  mode_found name None at is = tt
  mode_found name (Some mode) at is = sym (first_value-rows f (codes "mode")) ∙ (sym at ∙ ap Some is)

  pub mode_other : (name : List ℕ) (mode : Mode) → Some name ≡ first_value f (codes "mode") → name ≢ mode_name mode → ¬ (IsMode (rows_of f) mode)
  mode_other name mode at other is = let same : Some name ≡ Some (mode_name mode) = at ∙ (first_value-rows f (codes "mode") ∙ is) in other (ap (λ o. unwrap_or o name) same)

  pub mode_missing : (mode : Mode) → None ≡ first_value f (codes "mode") → ¬ (IsMode (rows_of f) mode)
  mode_missing mode at is = let none : None ≡ Some (mode_name mode) = at ∙ (first_value-rows f (codes "mode") ∙ is) in cc

  -- The schedule's text is the one that the words give, or is empty.
  pub text_given : (text : List ℕ) (P : List ℕ → Type 0) → Some text ≡ first_value f (codes "schedule") → P text → P (schedule_text (rows_of f))
  text_given text P at p = subst P (ap (λ o. unwrap_or o []) (at ∙ first_value-rows f (codes "schedule"))) p

  pub none_given : (lanes : List ℕ) → None ≡ first_value f (codes "schedule") → lanes ≡ [] → IsSchedule (schedule_text (rows_of f)) lanes
  none_given lanes at none = subst (IsSchedule (schedule_text (rows_of f))) (sym none) (record { is = sym (ap (λ o. unwrap_or o []) (at ∙ first_value-rows f (codes "schedule"))); below = tt })
