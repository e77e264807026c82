use Rattle.std.proofs.Common.{◌≡◌, ◌<◌, ℕ, List, [], get_or, length, refl, sym, ap, subst, ◌∙◌, arith}
use Rattle.std.specs.Prelude.{take}
use Rattle.std.proofs.lemmas.List.{length-take-le}
use Rattle.ov_turn.specs.Lists.{has, without}
use Rattle.ov_turn.specs.Insides.{inside_with, kept_of, owes_in, to_unlink_in}
use Rattle.ov_model.specs.declared.hold.Owed.TheVariants as kind
use Rattle.ov_table.specs.Recorded.{Recorded}
use Rattle.ov_ticket.specs.Within.{OwesOne, cell_of}
use Rattle.ov_ticket.proofs.Stepping.{unlinked_none, unlinked_lent, unlinked_next, next_left}
use Rattle.ov_ticket.proofs.within.unlink_keys.Goals as goal

pub loop-index-init : goal.loop-index-init
loop-index-init c =
    let it = c.args.inside.now in
    record {
      done = unlinked_lent kind.Key it it [] c.args.owed.now.items c.args.owed.now.items c.kept.result.now c.kept.ensures.value (unlinked_none kind.Key it c.args.owed.now.items);
      counted = ap length c.taken-count.ensures ∙ ap (λ (r : Recorded). length r.taken) c.kept.ensures.value;
      capacity = refl;
    }

pub unlink_one-requires-clause-left : goal.unlink_one-requires-clause-left
unlink_one-requires-clause-left c =
    let it = c.args.inside.now in
    let cur = c.loop-index.inside in
    let n : ℕ = c.loop-index.index in
    let lent : c.taken.result.now ≡ (kept_of it).taken = c.taken.ensures ∙ ap (λ (r : Recorded). r.taken) (c.kept-in-loop-index.ensures.value ∙ c.loop-index.invariant.done.steady.1) in
    let below : n < length (kept_of it).taken = (let test = c.loop-index-test.true in let counted = c.loop-index.invariant.counted in omega arith) in
    subst (λ (l : List ℕ). has (cell_of (kind.Key (get_or l n 0))) (to_unlink_in cur) ≡ 1) (sym lent)
    (next_left kind.Key it cur (kept_of it).taken n c.args.owed.now.items c.loop-index.owed.items _ c.requires c.loop-index.invariant.done below)

pub unlink_one-requires-clause-room : goal.unlink_one-requires-clause-room
unlink_one-requires-clause-room c =
    let fits = c.requires.fits in
    let few = c.loop-index.invariant.done.few in
    let capacity = c.loop-index.invariant.capacity in
    let counted = c.loop-index.invariant.counted in
    let test = c.loop-index-test.true in
    let part = length-take-le c.loop-index.index (kept_of c.args.inside.now).taken (omega arith) in
    let long = c.loop-index.owed.ok.0 in
    omega arith

pub loop-index-preserved : goal.loop-index-preserved
loop-index-preserved c =
    let it = c.args.inside.now in
    let cur = c.loop-index.inside in
    let n : ℕ = c.loop-index.index in
    let lent : c.taken.result.now ≡ (kept_of it).taken = c.taken.ensures ∙ ap (λ (r : Recorded). r.taken) (c.kept-in-loop-index.ensures.value ∙ c.loop-index.invariant.done.steady.1) in
    let below : n < length (kept_of it).taken = (let test = c.loop-index-test.true in let counted = c.loop-index.invariant.counted in omega arith) in
    let key : get_or c.taken.result.now n 0 ≡ get_or (kept_of it).taken n 0 = ap (λ (l : List ℕ). get_or l n 0) lent in
    let e = c.unlink_one.ensures in
    record {
      done = unlinked_next kind.Key it (inside_with cur c.kept-in-loop-index.result.now) c.unlink_one.new.inside (kept_of it).taken n c.args.owed.now.items c.loop-index.owed.items c.unlink_one.new.owed.items _ c.requires
          (unlinked_lent kind.Key it cur (take n (kept_of it).taken) c.args.owed.now.items c.loop-index.owed.items c.kept-in-loop-index.result.now c.kept-in-loop-index.ensures.value c.loop-index.invariant.done)
          below e.same e.holds e.link
          (subst (λ (k : ℕ). to_unlink_in c.unlink_one.new.inside ≡ without (cell_of (kind.Key k)) (to_unlink_in cur)) key e.unlink)
          (subst (λ (k : ℕ). OwesOne (kind.Key k) (owes_in cur) (owes_in c.unlink_one.new.inside) c.loop-index.owed.items c.unlink_one.new.owed.items) key e.owes);
      counted = c.loop-index.invariant.counted;
      capacity = e.capacity ∙ c.loop-index.invariant.capacity;
    }
