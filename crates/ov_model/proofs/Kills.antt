-- No key is killed twice in a run: a killed key leaves its slot.
use Rattle.std.proofs.Common.{ℕ, ◌≡◌, ◌+◌, ◌≤◌, zero, suc, List, [], ◌∷◌, ◌++◌, refl, ap, true, false, arith}
use Rattle.std.specs.Prelude.{Some, slice_get}
use Rattle.std.proofs.lemmas.Bool.{eq-eqb}
use Rattle.ov_model.specs.declared.act.Act.{Act}
use Rattle.ov_model.specs.declared.act.Act.TheVariants as act
use Rattle.ov_model.specs.declared.entry.Entry.{Entry}
use Rattle.ov_model.specs.declared.reply.Reply.{Reply}
use Rattle.ov_model.specs.declared.reply.Reply.TheVariants as reply
use Rattle.ov_model.specs.Tables.{Table, empty_table}
use Rattle.ov_model.specs.Step.{Outcome, spend, act_step, step}
use Rattle.ov_model.specs.Runs.{Follows, IsRun}
use Rattle.ov_model.specs.Events.{steps_after, steps_of}
use Rattle.ov_model.specs.Path.{spent_reply, spent_taken}
use Rattle.ov_model.specs.Removals.{spent_by, killed_by, Kills, keys_taken_in, times}
use Rattle.ov_model.proofs.Removing.{Spends, spend_spends}
use Rattle.ov_model.proofs.KeysTaken.{taken_once}
use Rattle.ov_model.proofs.Times.{times-append}

-- The keys that a journal killed, in order.
abbrev killed_in : List Entry → List ℕ
killed_in [] = []
killed_in (e ∷ es) = killed_by e.reply e.call.act ++ killed_in es

-- An act that spends nothing kills nothing.
spares_all : (r : Reply) (a : Act) → spent_by a ≡ [] → killed_by r a ≡ []
spares_all reply.Killed a none = none
spares_all _ a none = refl

-- What a step kills it takes out of its slot.
killed_taken : (x : ℕ) (t : Table) (now : ℕ) (a : Act) → times x (killed_by (act_step t now a).reply a) ≤ times x (act_step t now a).taken
killed_taken x t now (act.Spend peer key) =
    let s : Spends t key (spend t now peer key) = spend_spends t now peer key in
    rw (s.reply_is, s.taken) (elim s.killed as (λ b. times x (killed_by (spent_reply b) (act.Spend peer key)) ≤ times x (spent_taken b key)) [ true ↦ omega arith | false ↦ omega arith ])
killed_taken x t now (act.Do c) = rw (spares_all (act_step t now (act.Do c)).reply (act.Do c) refl) (omega arith)
killed_taken x t now (act.TxLook a) = rw (spares_all (act_step t now (act.TxLook a)).reply (act.TxLook a) refl) (omega arith)
killed_taken x t now (act.RxLook id key_id from) = rw (spares_all (act_step t now (act.RxLook id key_id from)).reply (act.RxLook id key_id from) refl) (omega arith)
killed_taken x t now (act.Sent peer inner outer ping) = rw (spares_all (act_step t now (act.Sent peer inner outer ping)).reply (act.Sent peer inner outer ping) refl) (omega arith)
killed_taken x t now (act.Settle peer from k inner outer) = rw (spares_all (act_step t now (act.Settle peer from k inner outer)).reply (act.Settle peer from k inner outer) refl) (omega arith)
killed_taken x t now (act.KeepLook peer) = rw (spares_all (act_step t now (act.KeepLook peer)).reply (act.KeepLook peer) refl) (omega arith)
killed_taken x t now (act.Released serial) = rw (spares_all (act_step t now (act.Released serial)).reply (act.Released serial) refl) (omega arith)
killed_taken x t now (act.KeyReleased serial) = rw (spares_all (act_step t now (act.KeyReleased serial)).reply (act.KeyReleased serial) refl) (omega arith)

all_taken : (x : ℕ) (t : Table) (es : List Entry) → Follows t es → times x (killed_in es) ≤ times x (keys_taken_in (steps_after t es))
all_taken x t [] follows = omega arith
all_taken x t (e ∷ es) follows =
    let o : Outcome = step t e.call in
    let here : times x (killed_by e.reply e.call.act) ≤ times x o.taken = rw (← follows.1) (killed_taken x t _ e.call.act) in
    let later : times x (killed_in es) ≤ times x (keys_taken_in (steps_after o.after es)) = all_taken x o.after es follows.2 in
    let killed : times x (killed_in (e ∷ es)) ≡ times x (killed_by e.reply e.call.act) + times x (killed_in es) = times-append x (killed_by e.reply e.call.act) (killed_in es) in
    let taken : times x (keys_taken_in (steps_after t (e ∷ es))) ≡ times x o.taken + times x (keys_taken_in (steps_after o.after es)) = times-append x o.taken (keys_taken_in (steps_after o.after es)) in
    rw (killed, taken) (omega arith)

-- ---- the entry that kills a key

kills_one : (e : Entry) (key : ℕ) → Kills e key → times key (killed_by e.reply e.call.act) ≡ 1
kills_one e key kills = rw (kills, eq-eqb key key refl) refl

kills_counted : (key j : ℕ) (es : List Entry) (e : Entry) → slice_get es j ≡ Some e → Kills e key → 1 ≤ times key (killed_in es)
kills_counted key j [] e at kills = cc
kills_counted key zero (x ∷ es) e at kills =
    let its : x ≡ e = cc in
    let one : times key (killed_by x.reply x.call.act) ≡ 1 = rw its (kills_one e key kills) in
    let all : times key (killed_in (x ∷ es)) ≡ times key (killed_by x.reply x.call.act) + times key (killed_in es) = times-append key (killed_by x.reply x.call.act) (killed_in es) in
    omega arith
kills_counted key (suc j) (x ∷ es) e at kills =
    let later : 1 ≤ times key (killed_in es) = kills_counted key j es e at kills in
    let all : times key (killed_in (x ∷ es)) ≡ times key (killed_by x.reply x.call.act) + times key (killed_in es) = times-append key (killed_by x.reply x.call.act) (killed_in es) in
    omega arith

-- A killing entry before another one of the same key.
not_twice : (key j : ℕ) (x a : Entry) (es : List Entry) (e : Entry) → x ≡ a → Kills a key → slice_get es j ≡ Some e → Kills e key → times key (killed_in (x ∷ es)) ≤ 1 → ⊥
not_twice key j x a es e its kills at again most =
    let one : times key (killed_by x.reply x.call.act) ≡ 1 = rw its (kills_one a key kills) in
    let later : 1 ≤ times key (killed_in es) = kills_counted key j es e at again in
    let all : times key (killed_in (x ∷ es)) ≡ times key (killed_by x.reply x.call.act) + times key (killed_in es) = times-append key (killed_by x.reply x.call.act) (killed_in es) in
    absurd (omega arith)

killed_at : (es : List Entry) (i j key : ℕ) (a b : Entry) → slice_get es i ≡ Some a → slice_get es j ≡ Some b → Kills a key → Kills b key → times key (killed_in es) ≤ 1 → i ≡ j
killed_at [] i j key a b at other kills again most = cc
killed_at (x ∷ es) zero zero key a b at other kills again most = refl
killed_at (x ∷ es) zero (suc j) key a b at other kills again most = absurd (not_twice key j x a es b (cc) kills other again most)
killed_at (x ∷ es) (suc i) zero key a b at other kills again most = absurd (not_twice key i x b es a (cc) again at kills most)
killed_at (x ∷ es) (suc i) (suc j) key a b at other kills again most =
    let all : times key (killed_in (x ∷ es)) ≡ times key (killed_by x.reply x.call.act) + times key (killed_in es) = times-append key (killed_by x.reply x.call.act) (killed_in es) in
    ap suc (killed_at es i j key a b at other kills again (omega arith))

-- Two entries that killed the same key are one and the same.
pub killed_once : (journal : List Entry) → IsRun journal → (i j key : ℕ) (a b : Entry) → slice_get journal i ≡ Some a → slice_get journal j ≡ Some b → Kills a key → Kills b key → i ≡ j
killed_once journal run i j key a b at other kills again =
    let taken : times key (keys_taken_in (steps_of journal)) ≤ 1 = taken_once key journal run in
    let killed : times key (killed_in journal) ≤ times key (keys_taken_in (steps_of journal)) = all_taken key empty_table journal run in
    killed_at journal i j key a b at other kills again (omega arith)
