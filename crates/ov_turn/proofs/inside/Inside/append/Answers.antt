use Rattle.std.proofs.Common.{◌+◌, ◌<◌, [], ◌∷◌, ◌++◌, length, sym, ap, ◌∙◌, arith}
use Rattle.atomic_table.specs.Table.{rest}
use Rattle.ov_turn.specs.Lists.{newly, still}
use Rattle.ov_turn.specs.Views.{holds_fit}
use Rattle.ov_turn.specs.Slots.{front}
use Rattle.ov_turn.specs.Insides.{kept_of}
use Rattle.ov_turn.proofs.Slots.{slot_again, slot_back, kept_same}
use Rattle.ov_turn.proofs.Turning.{append_step, snoc_same}
use Rattle.ov_turn.proofs.inside.Inside.append.Goals as goal

pub fetch_add-requires : goal.fetch_add-requires
fetch_add-requires g c =
    let it = c.args.self.now in
    let value = c.kept.ensures.value in
    let size : length (g.S.Kept.history (kept_of it)) < 18446744073709551616 = let e = ap (λ y. length (g.S.Kept.history y)) value in let l = c.length-length.ensures in let f = c.length-length.type_inv in omega arith in (
      it.here,
      (let w = it.fit.2 in let e = ap (λ z. z.words) it.here in omega arith),
      append_step g.S.Kept.history g.S.Kept.live g.S.Kept.dying _ _ _ _ it.place.0 it.place.1 it.place.2 c.requires.linked.0 c.requires.linked.1 (kept_of it) c.requires.history.0
          (slot_again it.seat.me.1 it.slot.0 it.slot.1 c.kept.result.now value) c.requires.history.1 size c.requires.cells,
    )

pub invariant_of-self : goal.invariant_of-self
invariant_of-self g c =
    let it = c.args.self.now in let told = c.fetch_add.ensures.2 (kept_of it) c.requires.history.0 (slot_again it.seat.me.1 it.slot.0 it.slot.1 _ c.kept.ensures.value) c.requires.history.1 in record {
      here = c.fetch_add.ensures.0 ∙ it.here;
      slot = (ap (λ m. front m.1) told.0, ap (λ m. length (rest m.1)) told.0 ∙ it.slot.1);
      place = (ap (λ m. m.0.queued) told.0 ∙ it.place.0, ap (λ m. m.0.inside) told.0 ∙ it.place.1, (let part = it.place.2 in let same = ap (λ m. m.0.share) told.0 in omega arith));
      fit = (ap (λ m. holds_fit m.0) told.0 ∙ it.fit.0, told.1, ap (λ m. 3 + m.0.cells) told.0 ∙ it.fit.2 ∙ sym (ap (λ z. z.words) c.fetch_add.ensures.0));
    }

pub returns-clause-lock : goal.returns-clause-lock
returns-clause-lock g c = let it = c.args.self.now in let told = c.fetch_add.ensures.2 (kept_of it) c.requires.history.0 (slot_again it.seat.me.1 it.slot.0 it.slot.1 _ c.kept.ensures.value) c.requires.history.1 in (c.fetch_add.ensures.0, ap (λ m. m.0.share) told.0, ap (λ m. m.0.cells) told.0)

pub returns-clause-kept : goal.returns-clause-kept
returns-clause-kept g c = let it = c.args.self.now in let told = c.fetch_add.ensures.2 (kept_of it) c.requires.history.0 (slot_again it.seat.me.1 it.slot.0 it.slot.1 _ c.kept.ensures.value) c.requires.history.1 in kept_same _ _ _ it.slot.0 (ap (λ m. m.1) told.0 ∙ slot_back it.seat.me.1 it.slot.0 c.kept.result.now c.kept.ensures.value)

pub returns-clause-seen : goal.returns-clause-seen
returns-clause-seen g c = let it = c.args.self.now in let told = c.fetch_add.ensures.2 (kept_of it) c.requires.history.0 (slot_again it.seat.me.1 it.slot.0 it.slot.1 _ c.kept.ensures.value) c.requires.history.1 in ap (λ m. m.0.seen) told.0 ∙ sym c.requires.history.1

pub returns-clause-own : goal.returns-clause-own
returns-clause-own g c x longer =
    let it = c.args.self.now in let told = c.fetch_add.ensures.2 (kept_of it) c.requires.history.0 (slot_again it.seat.me.1 it.slot.0 it.slot.1 _ c.kept.ensures.value) c.requires.history.1 in ap (λ m. m.0.own) told.0 ∙ ap (λ y. it.seat.me.0.own ++ (length it.seat.me.0.seen, y) ∷ []) (snoc_same it.seat.me.0.seen c.requires.history.0 x (sym c.requires.history.1 ∙ longer))

pub returns-clause-lists : goal.returns-clause-lists
returns-clause-lists g c = let it = c.args.self.now in let told = c.fetch_add.ensures.2 (kept_of it) c.requires.history.0 (slot_again it.seat.me.1 it.slot.0 it.slot.1 _ c.kept.ensures.value) c.requires.history.1 in (ap (λ m. m.0.live) told.0, ap (λ m. m.0.dying) told.0)

pub returns-clause-link : goal.returns-clause-link
returns-clause-link g c = let it = c.args.self.now in let told = c.fetch_add.ensures.2 (kept_of it) c.requires.history.0 (slot_again it.seat.me.1 it.slot.0 it.slot.1 _ c.kept.ensures.value) c.requires.history.1 in ap (λ m. m.0.to_link) told.0 ∙ ap (λ l. newly it.seat.me.0.live l) (sym (ap (λ m. m.0.live) told.0))

pub returns-clause-unlink : goal.returns-clause-unlink
returns-clause-unlink g c = let it = c.args.self.now in let told = c.fetch_add.ensures.2 (kept_of it) c.requires.history.0 (slot_again it.seat.me.1 it.slot.0 it.slot.1 _ c.kept.ensures.value) c.requires.history.1 in ap (λ m. m.0.to_unlink) told.0 ∙ ap (λ l. newly it.seat.me.0.dying l) (sym (ap (λ m. m.0.dying) told.0))

pub returns-clause-holds : goal.returns-clause-holds
returns-clause-holds g c = let it = c.args.self.now in let told = c.fetch_add.ensures.2 (kept_of it) c.requires.history.0 (slot_again it.seat.me.1 it.slot.0 it.slot.1 _ c.kept.ensures.value) c.requires.history.1 in ap (λ m. m.0.holds) told.0

pub returns-clause-owes : goal.returns-clause-owes
returns-clause-owes g c = let it = c.args.self.now in let told = c.fetch_add.ensures.2 (kept_of it) c.requires.history.0 (slot_again it.seat.me.1 it.slot.0 it.slot.1 _ c.kept.ensures.value) c.requires.history.1 in ap (λ m. m.0.owes) told.0 ∙ ap (λ l. still l it.seat.me.0.owes) (sym (ap (λ m. m.0.dying) told.0))
