-- A step of the table.
use Rattle.ov_past.specs.Pasts.{event_of}
use Rattle.ov_desk.proofs.Seating.{on_err, asks_seated, stepped_seated, stepped_told, unstepped_seated, unstepped_line, unstepped_stayed}
use Rattle.ov_desk.proofs.desk.LaneDeskDesk.table.Goals as goal

pub step-requires : goal.step-requires
step-requires g c = record {
  of = c.self.invariant.kept.of;
  asks = asks_seated c.self.invariant c.self.view_is c.args.call.now.act c.requires.may;
  held = c.self.invariant.kept.held_is;
  owed = c.self.invariant.fits;
}

pub invariant_of-self : goal.invariant_of-self
invariant_of-self g c =
    unstepped_seated c.self.invariant c.self.view_is c.step.new.share c.step.new.held c.step.new.pair c.step.new.owed
    c.step.ensures.of c.step.ensures.same c.in_err-reply.ensures.err c.step.ensures.held c.in_err-reply.ensures.kept_pair c.in_err-reply.ensures.kept c.step.ensures.owed

pub invariant_of-self-2 : goal.invariant_of-self-2
invariant_of-self-2 g c =
    stepped_seated c.self.invariant c.self.view_is c.args.place c.args.call.now c.in_ok-reply.reply (event_of c.in_ok-reply.event) c.step.new.share c.push.new.self _ c.step.new.held c.step.new.pair c.step.new.owed
    c.requires.may c.step.ensures.of c.step.ensures.same c.in_ok-reply.ensures.ok c.step.ensures.held c.in_ok-reply.ensures.pair c.step.ensures.owed c.push.ensures c.after-self-inside.ensures

pub returns : goal.returns
returns g c = record {
  ok = stepped_told c.self.invariant c.self.view_is c.args.place c.args.call.now c.in_ok-reply.reply (event_of c.in_ok-reply.event) c.step.new.share c.push.new.self _ c.step.new.held c.step.new.pair c.step.new.owed
      c.requires.may c.step.ensures.of c.step.ensures.same c.in_ok-reply.ensures.ok c.step.ensures.held c.in_ok-reply.ensures.pair c.push.ensures c.after-self-inside.ensures;
  err = tt;
  keeps = tt;
}

pub returns-in_err-reply-clause-err : goal.returns-in_err-reply-clause-err
returns-in_err-reply-clause-err g c =
    on_err _ (unstepped_line c.self.invariant c.self.view_is c.step.new.share c.step.new.held c.step.new.pair c.step.new.owed
    c.step.ensures.of c.step.ensures.same c.in_err-reply.ensures.err c.step.ensures.held c.in_err-reply.ensures.kept_pair c.in_err-reply.ensures.kept)

pub returns-in_err-reply-clause-keeps : goal.returns-in_err-reply-clause-keeps
returns-in_err-reply-clause-keeps g c =
    on_err _ (unstepped_stayed c.self.invariant c.self.view_is c.step.new.share c.step.new.held c.step.new.pair c.step.new.owed
    c.step.ensures.of c.step.ensures.same c.in_err-reply.ensures.err c.step.ensures.held c.in_err-reply.ensures.kept_pair c.in_err-reply.ensures.kept)
