use Rattle.std.proofs.Common.{◌≡◌, ◌<◌, ◌%◌, ℕ, ap, sym, subst, refl, length, ◌∙◌, Some, None, arith}
use Rattle.std.specs.Prelude.{get_or, slice_get}
use Rattle.std.proofs.lemmas.Option.{slice_get_read}
use Rattle.ov_replay.specs.Desk.{part_in, name_at, IsOfShard}
use Rattle.ov_replay.proofs.Places.{below_eight, read_at}
use Rattle.ov_replay.proofs.Seating.{names_here, still_of, step_seen, look_seen}
use Rattle.ov_replay.proofs.desk.ReplayDesk.step.Goals as goal

pub judge_once-part-requires-clause-of : goal.judge_once-part-requires-clause-of
judge_once-part-requires-clause-of g c =
    let n : ℕ = c.args.key % 8 in
    let few : length c.seat.inside.parts.items ≡ 8 = c.seat.invariant.0 in
    let inside : n < length c.seat.inside.parts.items = (let lt = below_eight c.args.key in omega arith) in
    let taken : c.take-part.result ≡ get_or c.seat.inside.parts.items n None = c.take-part.ensures.value ∙ read_at c.seat.inside.parts.items n c.index_mut.result.now None inside c.index_mut.ensures.value in
    let long : length c.self.inside.locks.items ≡ 8 = c.self.invariant.0 in
    let lt : n < 8 = below_eight c.args.key in
    let lock : slice_get c.self.inside.locks.items n ≡ Some c.index.result.now = slice_get_read c.self.inside.locks.items (length c.self.inside.locks.items) n c.index.result.now refl (omega arith) c.index.ensures in
    ap (λ p. (part_in p).name) taken ∙ names_here c.self.inside.locks.items c.args.self.now c.seat.inside.parts.items c.args.seat.now c.self.view_is c.seat.view_is c.requires.of n lt ∙ ap name_at lock

pub judge_once-part-requires-clause-fit : goal.judge_once-part-requires-clause-fit
judge_once-part-requires-clause-fit g c =
    let n : ℕ = c.args.key % 8 in
    let few : length c.seat.inside.parts.items ≡ 8 = c.seat.invariant.0 in
    let inside : n < length c.seat.inside.parts.items = (let lt = below_eight c.args.key in omega arith) in
    let taken : c.take-part.result ≡ get_or c.seat.inside.parts.items n None = c.take-part.ensures.value ∙ read_at c.seat.inside.parts.items n c.index_mut.result.now None inside c.index_mut.ensures.value in
    (n, subst (IsOfShard n) (sym taken) (c.seat.invariant.1 n))

pub returns-clause-of : goal.returns-clause-of
returns-clause-of g c =
    let n : ℕ = c.args.key % 8 in
    let few : length c.seat.inside.parts.items ≡ 8 = c.seat.invariant.0 in
    let inside : n < length c.seat.inside.parts.items = (let lt = below_eight c.args.key in omega arith) in
    let taken : c.take-part.result ≡ get_or c.seat.inside.parts.items n None = c.take-part.ensures.value ∙ read_at c.seat.inside.parts.items n c.index_mut.result.now None inside c.index_mut.ensures.value in
    still_of c.self.inside.locks.items c.args.self.now c.seat.inside.parts.items c.args.seat.now c.take-part.result c.take-part.new.self c.judge_once-part.result.0 c.args.place c.args.key c.args.id c.args.at c.judge_once-part.result.1 c.self.view_is c.seat.view_is c.requires.of inside taken c.judge_once-part.ensures.ok c.judge_once-part.ensures.err

pub returns-clause-ok : goal.returns-clause-ok
returns-clause-ok g c =
    let n : ℕ = c.args.key % 8 in
    let few : length c.seat.inside.parts.items ≡ 8 = c.seat.invariant.0 in
    let inside : n < length c.seat.inside.parts.items = (let lt = below_eight c.args.key in omega arith) in
    let taken : c.take-part.result ≡ get_or c.seat.inside.parts.items n None = c.take-part.ensures.value ∙ read_at c.seat.inside.parts.items n c.index_mut.result.now None inside c.index_mut.ensures.value in
    step_seen c.seat.inside.parts.items c.args.seat.now c.take-part.result c.take-part.new.self c.judge_once-part.result.0 c.args.place c.args.key c.args.id c.args.at c.judge_once-part.result.1 c.seat.view_is inside taken c.judge_once-part.ensures.ok

pub returns-clause-err : goal.returns-clause-err
returns-clause-err g c =
    let n : ℕ = c.args.key % 8 in
    let few : length c.seat.inside.parts.items ≡ 8 = c.seat.invariant.0 in
    let inside : n < length c.seat.inside.parts.items = (let lt = below_eight c.args.key in omega arith) in
    let taken : c.take-part.result ≡ get_or c.seat.inside.parts.items n None = c.take-part.ensures.value ∙ read_at c.seat.inside.parts.items n c.index_mut.result.now None inside c.index_mut.ensures.value in
    look_seen c.seat.inside.parts.items c.args.seat.now c.take-part.result c.take-part.new.self c.judge_once-part.result.0 c.args.key c.judge_once-part.result.1 c.seat.view_is inside taken c.judge_once-part.ensures.err
