use Rattle.std.proofs.Common.{refl, eq-eqb}
use Rattle.std.proofs.lemmas.Bool.{ne_eqb}
use Rattle.ov_aes.specs.KeySchedule.{changed_word}
use Rattle.ov_aes.proofs.key_schedule.changed.Goals as goal
use Rattle.ov_aes.proofs.key_schedule.changed.Goals.{else-key_words-eq8-via-then-key_words-eq8+else-i-eq4, else-key_words-eq8-via-else-key_words-eq8}

pub returns-then-i-key_words-eq0 : goal.returns-then-i-key_words-eq0
unfolding changed_word
returns-then-i-key_words-eq0 c = rw (eq-eqb _ _ c.if-i-key_words-eq0.true) c.turned.ensures

pub returns-then-i-eq4 : goal.returns-then-i-eq4
unfolding changed_word
returns-then-i-eq4 c =
    rw (ne_eqb _ _ c.if-i-key_words-eq0.false, eq-eqb _ _ c.if-key_words-eq8.true, eq-eqb _ _ c.if-i-eq4.true) c.sub_word.ensures

pub returns-else-key_words-eq8 : goal.returns-else-key_words-eq8
unfolding changed_word
returns-else-key_words-eq8 c =
    elim c.else-key_words-eq8.branch [
      | else-key_words-eq8-via-then-key_words-eq8+else-i-eq4 w ↦
          rw (ne_eqb _ _ c.if-i-key_words-eq0.false, eq-eqb _ _ w.if-key_words-eq8.true, ne_eqb _ _ w.if-i-eq4.false) refl
      | else-key_words-eq8-via-else-key_words-eq8 w ↦
          rw (ne_eqb _ _ c.if-i-key_words-eq0.false, ne_eqb _ _ w.if-key_words-eq8.false) refl
    ]
