use Rattle.std.proofs.Common.{rules, arith, ◌≡◌, ◌≤◌, ◌+◌, ◌∙◌, [], ap, append-nil, length, true}
use Rattle.std.specs.Prelude.{is_some}
use Rattle.ov_model.specs.Tables.{Table, by_id, swapped}
use Rattle.ov_model.specs.Step.{slots_changed}
use Rattle.ov_index.specs.Index.{Indexed}
use Rattle.ov_table.proofs.Outcomes.{some_of}
use Rattle.ov_table.proofs.Apart.{ApartIn, swap_apart}
use Rattle.ov_table.proofs.peers.Peers.key_swap.Goals as goal

pub invariant_of-self : goal.invariant_of-self
invariant_of-self c =
    let t : Table = record { live = c.self.inside.live.live; dying = c.self.inside.dying.items; retired = c.self.inside.retired.items; made = c.self.inside.made; keys_made = c.self.inside.keys_made; moment = c.self.inside.moment } in
    let lives : t.live ≡ c.args.self.now.live = ap (λ (x : Table). x.live) c.self.view_is in
    let there : is_some (by_id c.args.id t.live) ≡ true = search rules in
    let found = some_of (by_id c.args.id t.live) there in
    let apart : ApartIn (slots_changed t c.args.now c.args.id swapped []).after = swap_apart t c.args.now c.args.id found.0 found.1 (c.self.invariant.5, c.self.invariant.6) in
    let live : c.swap.new.self.live ≡ (slots_changed t c.args.now c.args.id swapped []).after.live = ap (λ (x : Indexed). x.live) c.swap.ensures.now in
    let long : length c.swap.new.self.live ≡ length t.live = c.swap.ensures.long in
    let all : length t.live + length t.dying ≤ t.made = c.self.invariant.1 in (
      c.self.invariant.0,
      omega arith,
      c.self.invariant.2,
      ap (λ (x : Indexed). x.made) c.swap.ensures.now ∙ c.self.invariant.3,
      ap (λ (x : Indexed). x.keys_made) c.swap.ensures.now ∙ c.self.invariant.4,
      rw live apart.0,
      rw live (rw (append-nil t.retired) at apart.1),
    )
