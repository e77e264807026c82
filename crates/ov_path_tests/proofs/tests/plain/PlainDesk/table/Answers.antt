-- A step of the table: its event is told, and what it holds and owes is kept.
use Rattle.std.proofs.Common.{false, ◌≡◌, ◌++◌, ◌∷◌, [], List, refl, sym, subst, ap, ◌∙◌}
use Rattle.ov_model.specs.declared.reply.Reply.{Reply}
use Rattle.ov_model.specs.Events.{Event}
use Rattle.ov_path.specs.Desks.{Called, HasMaterial, stepped_as}
use Rattle.ov_path_tests.specs.Plain.{Kept, Past, one_key, shown_of, taken_by}
use Rattle.ov_path_tests.specs.contracts.tests.plain.Plain.{the_view}
use Rattle.ov_path_tests.proofs.Plain.{called}
use Rattle.ov_path_tests.proofs.tests.plain.PlainDesk.table.Goals as goal

abbrev was : (c : goal.After-push) → Kept
was c = the_view c.self.inside

abbrev now : (c : goal.After-push) → Kept
now c = record {
  events = c.push.new.self.events;
  room = c.push.new.self.room;
  hold = c.step.new.self;
  drew = false;
  owing = c.joined-self-inside.result;
  pair = (was c).pair;
  hop = (was c).hop;
}

told : (c : goal.After-push) → c.push.new.self.events ≡ (was c).events ++ stepped_as c.args.place c.args.call.now c.in_ok-reply.reply (taken_by c.args.call.now.act c.in_ok-reply.reply) ∷ []
told c =
    c.push.ensures.events
    ∙ ap (λ (p : Past). p.events ++ c.stepped.result ∷ []) c.in_ok-reserve.ensures.ok
    ∙ ap (λ (e : Event). (was c).events ++ e ∷ [])
    (c.stepped.ensures ∙ ap (λ (r : Reply). stepped_as c.args.place c.args.call.now r (taken_by c.args.call.now.act r)) c.in_ok-kept.ensures)

has : (c : goal.After-push) → HasMaterial (one_key (was c).pair) c.args.call.now.act c.in_ok-reply.reply
has c = subst (λ (k : Kept). HasMaterial (one_key k.pair) c.args.call.now.act c.in_ok-reply.reply) (sym c.self.view_is) c.in_ok-reply.ensures.has

pub returns-clause-ok : goal.returns-clause-ok
returns-clause-ok c =
    subst (λ (k : Kept). Called shown_of (λ (p : Kept) (x : Event) (q : Kept). q.hop ≡ p.hop) k c.args.place c.args.call.now c.in_ok-reply.reply (now c)) c.self.view_is
    (called (was c) (now c) c.args.place c.args.call.now c.in_ok-reply.reply c.in_ok-reply.ensures.fits c.in_ok-reply.ensures.apart (has c) (told c) c.step.ensures c.joined-self-inside.ensures refl refl)
