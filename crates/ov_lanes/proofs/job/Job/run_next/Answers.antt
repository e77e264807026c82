use Rattle.std.proofs.Common.{◌≡◌, ◌<◌, length, ap, sym, ◌∙◌, subst, arith}
use Rattle.std.specs.Prelude.{Some, slice_get}
use Rattle.std.proofs.lemmas.Option.{slice_get-get_or}
use Rattle.ov_desk.specs.Sittings.{at_rest}
use Rattle.ov_lanes.specs.declared.job.Job.TheInside.{Inside}
use Rattle.ov_lanes.specs.Jobs.{Lane}
use Rattle.ov_lanes.proofs.Working.{IsSat, parts_answered, parts_stopped}
use Rattle.ov_lanes.proofs.job.Job.run_next.Goals.{in-Ok, in-Err}
use Rattle.ov_lanes.proofs.job.Job.run_next.Goals as goal

pub returns : goal.returns
returns g c =
    let table = c.self.inside.ovpn.now in
    let pass = c.in-Some.pass in
    let took : c.self.inside.pass ≡ Some pass = sym c.take.ensures.value ∙ c.in-Some.is in
    let sat : IsSat table pass c.into_parts-lane.result.0 c.into_parts-lane.result.1 c.into_parts-lane.result.2 c.new-desk.result c.run_line-ran.new.desk c.into_parts-share.result.0 = record {
      number_is = c.into_parts-lane.ensures.number;
      lines_is = c.into_parts-lane.ensures.lines;
      share_is = c.into_parts-lane.ensures.share;
      sat_is = c.new-desk.ensures ∙ ap (λ w. at_rest w c.routes.result.now c.into_parts-lane.result.2) c.words.ensures ∙ ap (λ r. at_rest table.words r c.into_parts-lane.result.2) c.routes.ensures;
      back_is = c.into_parts-share.ensures.share;
      of = c.into_parts-share.ensures.of;
      rests = c.run_line-ran.ensures.rests;
    } in
    let next : length c.as_slice-next.result.now ≡ length c.self.inside.answers.items = ap length c.as_slice-next.ensures.value in
    let left : length c.self.inside.answers.items < length c.self.inside.lines.items = subst (λ (l : Lane). length l.answers < length l.lines) (sym c.self.view_is) c.requires.left in
    let at : slice_get c.self.inside.lines.items (length c.self.inside.answers.items) ≡ Some c.index.result.now =
    rw (← next) (slice_get-get_or c.self.inside.lines.items (length c.as_slice-next.result.now) c.index.result.now (omega (arith, next, left)) ∙ ap (λ x. Some x) (sym c.index.ensures)) in
    elim c.match-ran.branch [
      | in-Ok w ↦
          let inside = w.self-inside-is in
          parts_answered table c.self.inside.lines.items c.self.inside.answers.items c.self.inside.stopped _ c.args.self.now _ c.self.inside.pass pass c.into_parts-lane.result.0 c.into_parts-lane.result.1 c.match-ran.lines c.into_parts-lane.result.2 c.new-desk.result c.run_line-ran.new.desk c.into_parts-share.result.0 c.index.result.now w.in-Ok.answer
          took c.self.view_is c.self.invariant sat w.lines-is c.of_parts.ensures (ap (λ (i : Inside). i.ovpn.now) inside) (ap (λ (i : Inside). i.lines.items) inside) (ap (λ (i : Inside). i.answers.items) inside ∙ w.push_reserved.ensures.items) (ap (λ (i : Inside). i.stopped) inside) c.requires.left at w.in-Ok.ensures.ok
      | in-Err w ↦
          let inside = w.self-inside-is in
          parts_stopped table c.self.inside.lines.items c.self.inside.answers.items c.self.inside.stopped _ c.args.self.now _ c.self.inside.pass pass c.into_parts-lane.result.0 c.into_parts-lane.result.1 c.match-ran.lines c.into_parts-lane.result.2 c.new-desk.result c.run_line-ran.new.desk c.into_parts-share.result.0
          took c.self.view_is c.self.invariant sat w.lines-is c.of_parts.ensures (ap (λ (i : Inside). i.ovpn.now) inside) (ap (λ (i : Inside). i.lines.items) inside) (ap (λ (i : Inside). i.answers.items) inside) (ap (λ (i : Inside). i.stopped) inside)
    ]
