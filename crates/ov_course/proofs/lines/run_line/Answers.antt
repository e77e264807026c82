use Rattle.std.proofs.Common.{refl, ap}
use contract.BorrowLft.{⊑_meet, ⊑_refl, ⊑_static}
use Rattle.ov_model.specs.Via.{via_of}
use Rattle.ov_course.proofs.Since.{rest_new, done_rests, done_answered, stopped_rests}
use Rattle.ov_course.proofs.lines.run_line.Goals as goal

pub walk_out-requires : goal.walk_out-requires
walk_out-requires g c = λ κs within.
    let lives = ⊑_meet _ _ _ (⊑_meet _ _ _ within.1 (⊑_static _)) (⊑_meet _ _ _ (⊑_meet _ _ _ (⊑_refl _) within.1) (⊑_meet _ _ _ (⊑_meet _ _ _ (⊑_refl _) (⊑_static _)) (⊑_meet _ _ _ (⊑_meet _ _ _ (⊑_refl _) (⊑_static _)) (⊑_static _)))) in
    (within.0, (lives, (rest_new c.args.desk.now c.requires.rests, (refl, ((λ a b e did. ap via_of did.routes), c.requires.fits)))))

pub returns-in-Ok-clause-ok : goal.returns-in-Ok-clause-ok
returns-in-Ok-clause-ok g c = done_answered c.args.place c.args.line.now c.args.desk.now c.walk_out.new.desk c.end_line.new.self c.in-Ok.answer c.requires.rests c.in-Ok.ensures.ok c.end_line.ensures.rests

pub returns-in-Ok-clause-rests : goal.returns-in-Ok-clause-rests
returns-in-Ok-clause-rests g c = done_rests c.args.place c.args.line.now c.args.desk.now c.walk_out.new.desk c.end_line.new.self c.in-Ok.answer c.requires.rests c.in-Ok.ensures.ok c.end_line.ensures.rests c.end_line.ensures.free

pub returns-in-Err-clause-rests : goal.returns-in-Err-clause-rests
returns-in-Err-clause-rests g c = stopped_rests c.args.place c.args.line.now c.args.desk.now c.walk_out.new.desk c.give_up.new.self c.requires.rests c.in-Err.ensures.err c.give_up.ensures
