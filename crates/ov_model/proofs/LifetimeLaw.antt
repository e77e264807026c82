-- A peer or a key that was let go is named by no later entry: its serial was made and stands nowhere any more.
use Rattle.std.proofs.Common.{ℕ, ◌≡◌, ◌+◌, ◌<◌, ◌≤◌, zero, suc, List, [], ◌∷◌, sym, ap, ◌∙◌, refl, subst, arith, inl, inr}
use Rattle.std.specs.Prelude.{Some, slice_get}
use Rattle.std.proofs.lemmas.Bool.{cases_lt, eq-eqb}
use Rattle.ov_model.specs.declared.entry.Entry.{Entry}
use Rattle.ov_model.specs.declared.line.Script.{Script}
use Rattle.ov_model.specs.declared.report.Report.{Report}
use Rattle.ov_model.specs.Tables.{Table, empty_table}
use Rattle.ov_model.specs.Step.{step}
use Rattle.ov_model.specs.Runs.{Follows, IsRun}
use Rattle.ov_model.specs.Removals.{released_by, key_released_by, times}
use Rattle.ov_model.specs.Legal.{Legal}
use Rattle.ov_model.specs.Lifetime.{peers_named, keys_named, PeersStayReleased, KeysStayReleased}
use Rattle.ov_model.proofs.Tallies.{Tally, Moves, Room, AllMove, new_cases, room_after, peer_tally, peer_moves, key_tally, key_moves}

-- After it is let go it was made and stands nowhere.
record Gone (y : Tally) (t : Table) : Type 0 where
  made : y.serial < y.made t
  nowhere : y.stands t ≡ 0

gone_after : (y : Tally) (t : Table) (e : Entry) → Moves y t e → Gone y t → Gone y (step t e.call).after
gone_after y t e moves gone =
    let whole : y.stands (step t e.call).after + y.freed e ≡ y.stands t + moves.new = moves.balance in
    let grows : y.made t ≤ y.made (step t e.call).after = moves.comes.grows in
    let made : y.serial < y.made t = gone.made in
    let nowhere : y.stands t ≡ 0 = gone.nowhere in
    elim (new_cases moves.new moves.comes.once) [
      | inl none ↦ record { made = omega arith; nowhere = omega arith }
      | inr new ↦ absurd (let first : y.serial ≡ y.made t = (moves.comes.next new).0 in omega arith)
    ]

freed_gone : (y : Tally) (t : Table) (e : Entry) → Moves y t e → Room y t → 0 < y.freed e → Gone y (step t e.call).after
freed_gone y t e moves room freed =
    let whole : y.stands (step t e.call).after + y.freed e ≡ y.stands t + moves.new = moves.balance in
    let grows : y.made t ≤ y.made (step t e.call).after = moves.comes.grows in
    let most : y.stands t ≤ 1 = room.most in
    elim (new_cases moves.new moves.comes.once) [
      | inl none ↦ elim (cases_lt y.serial (y.made t)) [
        | inl made ↦ record { made = omega arith; nowhere = omega arith }
        | inr unmade ↦ absurd (let before : y.stands t ≡ 0 = room.unmade (omega arith) in omega arith)
      ]
      | inr new ↦
          let first : y.serial ≡ y.made t = (moves.comes.next new).0 in
          let more : y.made (step t e.call).after ≡ y.made t + 1 = (moves.comes.next new).1 in
          let before : y.stands t ≡ 0 = room.unmade (omega arith) in
          let once : moves.new ≤ 1 = moves.comes.once in
          record { made = omega arith; nowhere = omega arith }
    ]

gone_unnamed : (y : Tally) → AllMove y → (t : Table) (es : List Entry) → Follows t es → Gone y t → (j : ℕ) (e : Entry) → slice_get es j ≡ Some e → y.named e ≡ 0
gone_unnamed y moves t [] follows gone j e at = cc
gone_unnamed y moves t (f ∷ es) follows gone zero e at =
    let its : f ≡ e = cc in
    let names : y.named f ≤ y.stands t + y.stands t + y.stands t = (moves t f follows.0 follows.1).names gone.made in
    let nowhere : y.stands t ≡ 0 = gone.nowhere in
    let none : y.named f ≡ 0 = omega arith in
    sym (ap (λ (g : Entry). y.named g) its) ∙ none
gone_unnamed y moves t (f ∷ es) follows gone (suc j) e at = gone_unnamed y moves (step t f.call).after es follows.2 (gone_after y t f (moves t f follows.0 follows.1) gone) j e at

freed_unnamed : (y : Tally) → AllMove y → (t : Table) (es : List Entry) → Follows t es → Room y t → (i j : ℕ) (e later : Entry) → slice_get es i ≡ Some e → 0 < y.freed e → i < j → slice_get es j ≡ Some later → y.named later ≡ 0
freed_unnamed y moves t [] follows room i j e later at freed before at_later = cc
freed_unnamed y moves t (f ∷ es) follows room i zero e later at freed before at_later = absurd (omega arith)
freed_unnamed y moves t (f ∷ es) follows room zero (suc j) e later at freed before at_later =
    let its : f ≡ e = cc in
    let lets_go : 0 < y.freed f = subst (λ (g : Entry). 0 < y.freed g) (sym its) freed in
    gone_unnamed y moves (step t f.call).after es follows.2 (freed_gone y t f (moves t f follows.0 follows.1) room lets_go) j later at_later
freed_unnamed y moves t (f ∷ es) follows room (suc i) (suc j) e later at freed before at_later =
    freed_unnamed y moves (step t f.call).after es follows.2 (room_after y t f (moves t f follows.0 follows.1) room) i j e later at freed (omega arith) at_later

-- ---- peers and keys

pub peers_stay_released : (journal : List Entry) → IsRun journal → PeersStayReleased journal
peers_stay_released journal run peer i j e later at lets_go before at_later names =
    let freed : 0 < times peer (released_by e.call.act) = rw (lets_go, eq-eqb peer peer refl) (omega arith) in
    let none : times peer (peers_named later) ≡ 0 = freed_unnamed (peer_tally peer) (peer_moves peer) empty_table journal run (record { most = omega arith; unmade = λ _. refl }) i j e later at freed before at_later in
    absurd (omega arith)

pub keys_stay_released : (journal : List Entry) → IsRun journal → KeysStayReleased journal
keys_stay_released journal run key i j e later at lets_go before at_later names =
    let freed : 0 < times key (key_released_by e.call.act) = rw (lets_go, eq-eqb key key refl) (omega arith) in
    let none : times key (keys_named later) ≡ 0 = freed_unnamed (key_tally key) (key_moves key) empty_table journal run (record { most = omega arith; unmade = λ _. refl }) i j e later at freed before at_later in
    absurd (omega arith)

pub report_stays_released : (script : Script) (first : ℕ) (report : Report) → Legal script first report → PeersStayReleased report.journal × KeysStayReleased report.journal
report_stays_released script first report legal = (peers_stay_released report.journal legal.journal.runs, keys_stay_released report.journal legal.journal.runs)
