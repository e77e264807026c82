-- Where the entry was added, it stands behind all that the seat had seen.
use Rattle.std.proofs.Common.{rules, ◌≡◌, ℕ, ◌+◌, ◌∙◌, List, [], ◌∷◌, ◌++◌, length, ap, arith, length-append}
use Rattle.ov_turn.specs.Seats.{seen_of, own_of}
use Rattle.ov_turn.specs.Insides.{seen_in, own_in}
use Rattle.ov_clients.specs.declared.journal.Entry.{Entry}
use Rattle.ov_clients.proofs.Orders.{entry, InOrder-wider, InOrder-snoc, prefix_length}
use Rattle.ov_clients.proofs.appending.append_one.Goals as goal
use Rattle.ov_clients.proofs.appending.append_one.Goals.{then-added, else-added}

pub returns : goal.returns
returns g c =
    let r = c.requires in
    let t : ℕ = c.args.thread in
    let n : ℕ = c.args.number in
    let x : Entry = entry t n in
    let before : List Entry = seen_in c.enter-inside.result in
    let p : ℕ = length before in
    let longer = prefix_length (seen_of c.args.seat) before c.enter-inside.ensures.seen in
    let kept = c.kept.ensures.value ∙ c.enter-inside.ensures.kept in
    elim c.if-added.branch [
      | then-added w ↦
          let history : c.add-added.new.self ≡ before ++ x ∷ [] = w.if-added.ensures ∙ ap (λ (l : List Entry). l ++ x ∷ []) kept in
          let own : own_of c.leave.result ≡ own_of c.args.seat ++ (p, x) ∷ [] =
          c.leave.ensures.own ∙ ap (λ it. own_in it) w.inside-is ∙ w.append.ensures.own x history ∙ ap (λ (l : List (ℕ × Entry)). l ++ (p, x) ∷ []) c.enter-inside.ensures.own in
          let seen : seen_of c.leave.result ≡ before ++ x ∷ [] = c.leave.ensures.seen ∙ ap (λ it. seen_in it) w.inside-is ∙ w.append.ensures.seen ∙ history in
          let long : length (seen_of c.leave.result) ≡ p + 1 = ap length seen ∙ length-append before (x ∷ []) in
          rw w.if-added.true record {
            of = search rules;
            share = search rules;
            holds = search rules;
            owes = search rules;
            counted = omega (arith, ap length own, length-append (own_of c.args.seat) ((p, x) ∷ []), r.counted);
            order = rw (own, long) (InOrder-snoc t 0 0 (length (seen_of c.args.seat)) p n (own_of c.args.seat) r.order longer (omega (arith, r.counted)));
          }
      | else-added w ↦
          let own : own_of c.leave.result ≡ own_of c.args.seat = c.leave.ensures.own ∙ ap (λ it. own_in it) w.inside-is ∙ c.enter-inside.ensures.own in
          let seen : seen_of c.leave.result ≡ before = c.leave.ensures.seen ∙ ap (λ it. seen_in it) w.inside-is in
          rw w.if-added.false record {
            of = search rules;
            share = search rules;
            holds = search rules;
            owes = search rules;
            counted = ap length own ∙ r.counted;
            order = rw (own, seen) (InOrder-wider t 0 0 (length (seen_of c.args.seat)) p (own_of c.args.seat) r.order longer);
          }
    ]
