-- One peer more is removed.
use Rattle.std.proofs.Common.{arith, ℕ, ◌≡◌, ◌+◌, ◌++◌, ◌∷◌, List, length, get_or, ap, sym, subst, ◌∙◌}
use Rattle.std.specs.Prelude.{map, drop, option_to_list}
use Rattle.std.proofs.lemmas.List.{drop_more}
use Rattle.ov_index.specs.Index.{Indexed}
use Rattle.ov_model.specs.Runs.{numbered}
use Rattle.ov_model.specs.Tables.{Peer, bare, by_serial, has_serial, without_first, serials_of, keys_of, key_serials}
use Rattle.ov_table.specs.Apart.{Apart}
use Rattle.ov_table.specs.Picked.{picked, left, del_notes}
use Rattle.ov_table.proofs.Removed.{dying_apart, keys_apart, dying_length, keys_more, bare_step, keys_step, taken_step, notes_step}
use Rattle.ov_table.proofs.removal.remove_each.Goals as goal

pub loop-serial-preserved : goal.loop-serial-preserved
loop-serial-preserved c =
    let xs : List ℕ = c.args.gone.now in
    let n : ℕ = c.loop-serial.serial-index in
    let serial : ℕ = get_or xs n 0 in
    let rest : List ℕ = drop (n + 1) xs in
    let next : drop n xs ≡ serial ∷ rest = drop_more xs n 0 c.loop-serial-test.true in
    let i = c.loop-serial.invariant in
    let e = c.remove_one.ensures in
    let live : List Peer = (c.loop-serial.live).live in
    let stay : List Peer = (c.remove_one.new.live).live in
    let out : List Peer = option_to_list (by_serial serial live) in
    let now : stay ≡ without_first (has_serial serial) live = ap (λ (x : Indexed). x.live) e.live in
    let picks : picked (drop n xs) live ≡ out ++ picked rest stay = ap (λ ys. picked ys live) next ∙ ap (λ ps. out ++ picked rest ps) (sym now) in
    record {
      live = ap (left rest) now ∙ sym (ap (λ ys. left ys live) next) ∙ i.live;
      made = ap (λ (x : Indexed). x.made) e.live ∙ i.made;
      keys_made = ap (λ (x : Indexed). x.keys_made) e.live ∙ i.keys_made;
      dying = bare_step (c.loop-serial.dying).items (c.remove_one.new.dying).items _ out (picked rest stay) e.dying (ap (λ ps. (c.loop-serial.dying).items ++ map bare ps) (sym picks) ∙ i.dying);
      retired = keys_step (c.loop-serial.retired).items (c.remove_one.new.retired).items _ out (picked rest stay) e.retired (ap (λ ps. (c.loop-serial.retired).items ++ keys_of ps) (sym picks) ∙ i.retired);
      notes = notes_step c.args.entry c.args.reason (c.loop-serial.notes).notes (c.remove_one.new.notes).notes _ out (picked rest stay) e.notes (ap (λ ps. (c.loop-serial.notes).notes ++ numbered c.args.entry (del_notes c.args.reason ps)) (sym picks) ∙ i.notes);
      taken = taken_step (c.loop-serial.taken).items (c.remove_one.new.taken).items _ out (picked rest stay) e.taken (ap (λ ps. (c.loop-serial.taken).items ++ key_serials (keys_of ps)) (sym picks) ∙ i.taken);
      dying_room = (let was = i.dying_room in let less = e.dying_room in omega arith);
      retired_room = (let was = i.retired_room in let less = e.retired_room in omega arith);
      notes_room = (let was = i.notes_room in let less = e.notes_room in omega arith);
      taken_room = (let was = i.taken_room in let less = e.taken_room in let more = e.taken_len in omega arith);
      apart = λ made was. subst (λ ps. Apart (serials_of ps) (serials_of (c.remove_one.new.dying).items) made) (sym now) (dying_apart serial live (c.loop-serial.dying).items (c.remove_one.new.dying).items made e.dying (i.apart made was));
      keys = λ made was. subst (λ ps. Apart (key_serials (keys_of ps)) (key_serials (c.remove_one.new.retired).items) made) (sym now) (keys_apart serial live (c.loop-serial.retired).items (c.remove_one.new.retired).items made e.retired (i.keys made was));
      dying_serials = e.dying_serials ∙ i.dying_serials;
      retired_serials = e.retired_serials ∙ i.retired_serials;
      same = ap (λ ps. length ps + length (c.remove_one.new.dying).items) now ∙ dying_length serial live (c.loop-serial.dying).items (c.remove_one.new.dying).items e.dying ∙ i.same;
      most = (let was = i.most in let more = keys_more serial live (c.loop-serial.retired).items (c.remove_one.new.retired).items e.retired in omega arith);
    }
