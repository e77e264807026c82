-- A run without a dying peer or a retired key at its end let each of them go exactly once.
use Rattle.std.proofs.Common.{ℕ, ◌≡◌, ◌+◌, ◌<◌, ◌≤◌, ◌↔◌, List, [], ◌∷◌, refl, Bool, true, false, arith, inl, inr}
use Rattle.std.specs.Prelude.{map}
use Rattle.std.proofs.lemmas.Bool.{cases_lt, eq-eqb}
use Rattle.ov_model.specs.declared.act.Act.{Act}
use Rattle.ov_model.specs.declared.act.Act.TheVariants as act
use Rattle.ov_model.specs.declared.entry.Entry.{Entry}
use Rattle.ov_model.specs.Tables.{Peer, Key, Table, empty_table, key_serials}
use Rattle.ov_model.specs.Step.{Outcome, tx_look, rx_look, keep_look, sent, settle, spend, released, key_released, command_step, act_step, step, is_there, is_retired, may_act}
use Rattle.ov_model.specs.Runs.{Follows, IsRun, table_after, last_table}
use Rattle.ov_model.specs.Events.{steps_after, steps_of}
use Rattle.ov_model.specs.Path.{removed, spent_reply}
use Rattle.ov_model.specs.Removals.{removed_in, AllReleased, released_by, released_in, key_released_by, keys_released_in, keys_taken_in, times, EachReleasedOnce}
use Rattle.ov_model.proofs.Removing.{serials, Joins, command_joins, Keeps, tx_look_keeps, rx_look_keeps, keep_look_keeps, sent_keeps, settle_keeps, Spends, spend_spends}
use Rattle.ov_model.proofs.Firsts.{counts_without}
use Rattle.ov_model.proofs.Times.{times-append}
use Rattle.ov_model.proofs.KeysTaken.{removed_times, taken_once}

-- ---- the balance of removals and releases

-- Of each serial: what was dying or retired and what joined is what is so still and what was let go.
pub record Balance (x : ℕ) (t : Table) (a : Act) (o : Outcome) : Type 0 where
  pub peers : times x (serials o.after.dying) + times x (released_by a) ≡ times x (serials t.dying) + times x (removed o.reply)
  pub keys : times x (key_serials o.after.retired) + times x (key_released_by a) ≡ times x (key_serials t.retired) + times x o.taken

keeps_balance : (x : ℕ) (t : Table) (a : Act) (o : Outcome) → released_by a ≡ [] → key_released_by a ≡ [] → Keeps t o → Balance x t a o
keeps_balance x t a o no_peer no_key keeps = record {
  peers = rw (no_peer, keeps.dying, keeps.removes_none) refl;
  keys = rw (no_key, keeps.retired, keeps.taken) refl;
}

released_balance : (x : ℕ) (t : Table) (now serial : ℕ) → is_there serial t.dying ≡ true → Balance x t (act.Released serial) (released t now serial)
unfolding released
released_balance x t now serial any =
    let out : times x (serials (released t now serial).after.dying) + times x (serial ∷ []) ≡ times x (serials t.dying) = counts_without (λ (p : Peer). p.serial) x serial t.dying any in
    record { peers = omega arith; keys = refl }

key_released_balance : (x : ℕ) (t : Table) (now serial : ℕ) → is_retired serial t.retired ≡ true → Balance x t (act.KeyReleased serial) (key_released t now serial)
unfolding key_released
key_released_balance x t now serial any =
    let out : times x (key_serials (key_released t now serial).after.retired) + times x (serial ∷ []) ≡ times x (key_serials t.retired) = counts_without (λ (k : Key). k.serial) x serial t.retired any in
    record { peers = refl; keys = omega arith }

spent_removes_none : (killed : Bool) → removed (spent_reply killed) ≡ []
spent_removes_none true = refl
spent_removes_none false = refl

pub act_balance : (x : ℕ) (t : Table) (now : ℕ) (a : Act) → may_act t a ≡ true → Balance x t a (act_step t now a)
act_balance x t now (act.Do c) may =
    let o : Outcome = command_step t now c in
    let joins : Joins t o = command_joins t now c in
    let joined : times x (serials o.after.dying) ≡ times x (serials t.dying) + times x (removed o.reply) = rw joins.joined (times-append x (serials t.dying) (removed o.reply)) in
    let keys_joined : times x (key_serials o.after.retired) ≡ times x (key_serials t.retired) + times x o.taken = rw joins.keys_joined (times-append x (key_serials t.retired) o.taken) in
    record { peers = omega arith; keys = omega arith }
act_balance x t now (act.TxLook a) may = keeps_balance x t (act.TxLook a) (tx_look t now a) refl refl (tx_look_keeps t now a)
act_balance x t now (act.RxLook id key_id from) may = keeps_balance x t (act.RxLook id key_id from) (rx_look t now id key_id from) refl refl (rx_look_keeps t now id key_id from)
act_balance x t now (act.KeepLook peer) may = keeps_balance x t (act.KeepLook peer) (keep_look t now peer) refl refl (keep_look_keeps t now peer)
act_balance x t now (act.Sent peer inner outer ping) may = keeps_balance x t (act.Sent peer inner outer ping) (sent t now peer inner outer ping) refl refl (sent_keeps t now peer inner outer ping)
act_balance x t now (act.Settle peer from k inner outer) may = keeps_balance x t (act.Settle peer from k inner outer) (settle t now peer from k inner outer) refl refl (settle_keeps t now peer from k inner outer)
act_balance x t now (act.Spend peer key) may =
    let o : Outcome = spend t now peer key in
    let spends : Spends t key o = spend_spends t now peer key in
    let joined : times x (key_serials o.after.retired) ≡ times x (key_serials t.retired) + times x o.taken = rw spends.keys_joined (times-append x (key_serials t.retired) o.taken) in
    record { peers = rw (spends.dying, spends.reply_is, spent_removes_none spends.killed) refl; keys = omega arith }
act_balance x t now (act.Released serial) may = released_balance x t now serial may
act_balance x t now (act.KeyReleased serial) may = key_released_balance x t now serial may

run_balance : (x : ℕ) (t : Table) (es : List Entry) → Follows t es → times x (released_in es) + times x (serials (table_after t es).dying) ≡ times x (serials t.dying) + times x (removed_in es)
run_balance x t [] follows = omega arith
run_balance x t (e ∷ es) follows =
    let o : Outcome = step t e.call in
    let here : times x (serials o.after.dying) + times x (released_by e.call.act) ≡ times x (serials t.dying) + times x (removed e.reply) = rw (← follows.1) (act_balance x t _ e.call.act follows.0).peers in
    let later : times x (released_in es) + times x (serials (table_after o.after es).dying) ≡ times x (serials o.after.dying) + times x (removed_in es) = run_balance x o.after es follows.2 in
    let freed : times x (released_in (e ∷ es)) ≡ times x (released_by e.call.act) + times x (released_in es) = times-append x (released_by e.call.act) (released_in es) in
    let gone : times x (removed_in (e ∷ es)) ≡ times x (removed e.reply) + times x (removed_in es) = times-append x (removed e.reply) (removed_in es) in
    rw (freed, gone) (omega arith)

keys_balance : (x : ℕ) (t : Table) (es : List Entry) → Follows t es → times x (keys_released_in es) + times x (key_serials (table_after t es).retired) ≡ times x (key_serials t.retired) + times x (keys_taken_in (steps_after t es))
keys_balance x t [] follows = omega arith
keys_balance x t (e ∷ es) follows =
    let o : Outcome = step t e.call in
    let here : times x (key_serials o.after.retired) + times x (key_released_by e.call.act) ≡ times x (key_serials t.retired) + times x o.taken = (act_balance x t _ e.call.act follows.0).keys in
    let later : times x (keys_released_in es) + times x (key_serials (table_after o.after es).retired) ≡ times x (key_serials o.after.retired) + times x (keys_taken_in (steps_after o.after es)) = keys_balance x o.after es follows.2 in
    let freed : times x (keys_released_in (e ∷ es)) ≡ times x (key_released_by e.call.act) + times x (keys_released_in es) = times-append x (key_released_by e.call.act) (keys_released_in es) in
    let gone : times x (keys_taken_in (steps_after t (e ∷ es))) ≡ times x o.taken + times x (keys_taken_in (steps_after o.after es)) = times-append x o.taken (keys_taken_in (steps_after o.after es)) in
    rw (freed, gone) (omega arith)

nobody : {X : Type 0} (f : X → ℕ) (ps : List X) → ((x : ℕ) → times x (map f ps) ≡ 0) → ps ≡ []
nobody f [] none = refl
nobody f (p ∷ ps) none =
    let first : times (f p) (map f (p ∷ ps)) ≡ 1 + times (f p) (map f ps) = rw (eq-eqb (f p) (f p) refl) (omega arith) in
    absurd (let zero_times = none (f p) in omega arith)

-- Where each is removed at most once and what is left balances, nothing is left exactly where each was let go once.
once_each : (gone freed left : ℕ → ℕ) → ((x : ℕ) → freed x + left x ≡ 0 + gone x) → ((x : ℕ) → gone x ≤ 1) → ((x : ℕ) → left x ≡ 0) → (x : ℕ) → 0 < gone x → freed x ≡ 1
once_each gone freed left balance once none x was = let whole = balance x in let most = once x in let zero_left = none x in omega arith

none_left : (gone freed left : ℕ → ℕ) → ((x : ℕ) → freed x + left x ≡ 0 + gone x) → ((x : ℕ) → gone x ≤ 1) → ((x : ℕ) → 0 < gone x → freed x ≡ 1) → (x : ℕ) → left x ≡ 0
none_left gone freed left balance once each x =
    let whole = balance x in let most = once x in
    elim (cases_lt 0 (gone x)) [
      | inl was ↦ let one = each x was in omega arith
      | inr never ↦ omega arith
    ]

-- A run ends without a dying peer and without a retired key exactly where each was let go exactly once.
pub all_released : (journal : List Entry) → IsRun journal → AllReleased journal ↔ EachReleasedOnce journal
all_released journal run =
    let gone : ℕ → ℕ = λ x. times x (removed_in journal) in
    let freed : ℕ → ℕ = λ x. times x (released_in journal) in
    let left : ℕ → ℕ = λ x. times x (serials (last_table journal).dying) in
    let taken : ℕ → ℕ = λ x. times x (keys_taken_in (steps_of journal)) in
    let keys_freed : ℕ → ℕ = λ x. times x (keys_released_in journal) in
    let keys_left : ℕ → ℕ = λ x. times x (key_serials (last_table journal).retired) in
    let balance : (x : ℕ) → freed x + left x ≡ 0 + gone x = λ x. run_balance x empty_table journal run in
    let keys_even : (x : ℕ) → keys_freed x + keys_left x ≡ 0 + taken x = λ x. keys_balance x empty_table journal run in
    let once : (x : ℕ) → gone x ≤ 1 = λ x. removed_times x journal run in
    let keys_once : (x : ℕ) → taken x ≤ 1 = λ x. taken_once x journal run in (
      λ (none : AllReleased journal). record {
        peers = once_each gone freed left balance once (λ x. rw none.peers refl);
        keys = once_each taken keys_freed keys_left keys_even keys_once (λ x. rw none.keys refl);
      },
      λ (each : EachReleasedOnce journal). record {
        peers = nobody (λ (p : Peer). p.serial) (last_table journal).dying (none_left gone freed left balance once each.peers);
        keys = nobody (λ (k : Key). k.serial) (last_table journal).retired (none_left taken keys_freed keys_left keys_even keys_once each.keys);
      },
    )
