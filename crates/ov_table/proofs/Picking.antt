-- Peers that are taken out of the live ones by their serials: which they are, and which are left.
use Rattle.std.proofs.Common.{ℕ, ◌+◌, ◌≤◌, ◌≡◌, ◌∙◌, refl, ap, sym, subst, List, [], ◌∷◌, ◌++◌, Bool, true, false, cond, if◌then◌else◌, ◌==◌, ◌||◌, arith, inl, inr}
use Rattle.std.specs.Prelude.{map, filter, find, not, Some, None, option_to_list}
use Rattle.std.specs.List.{list_any}
use Rattle.std.proofs.lemmas.Bool.{cases_eq, eq-eqb, ne_eqb}
use Rattle.std.proofs.lemmas.List.Sorted.{IsPermutation-sym}
use Rattle.ov_keepalive.specs.Rule as rule
use Rattle.ov_model.specs.declared.command.Reason.TheVariants.{Expired, Teardown}
use Rattle.ov_model.specs.declared.reply.Reply.TheVariants as reply
use Rattle.ov_model.specs.Tables.{Peer, Table, serials_of, has_serial, by_serial, without_first, by_rising_id}
use Rattle.ov_model.specs.Step.{removals, is_expired, is_due, expired_of, due_of, tick, down}
use Rattle.ov_model.specs.Removals.{times}
use Rattle.ov_model.proofs.Firsts.{counts_without}
use Rattle.ov_model.proofs.Parts.{rising_times}
use Rattle.ov_model.proofs.Times.{times_first}
use Rattle.ov_index.specs.Ticks.{facts_of, is_asked}
use Rattle.ov_index.proofs.Rising.{In, in_moved, rising_moves}
use Rattle.ov_table.specs.Apart.{Apart}
use Rattle.ov_table.specs.Picked.{picked, left}
use Rattle.ov_table.proofs.Apart.{one}

-- No serial stands twice.
abbrev pub Once : List Peer → Type 0
Once ps = (x : ℕ) → times x (serials_of ps) ≤ 1

pub once_live : (live dying : List Peer) (made : ℕ) → Apart (serials_of live) (serials_of dying) made → Once live
once_live live dying made apart x = (let most : times x (serials_of live) + times x (serials_of dying) ≤ 1 = apart.once x in omega arith)

first_times : (x : ℕ) (q : Peer) (ps : List Peer) → times x (serials_of (q ∷ ps)) ≡ times x (q.serial ∷ []) + times x (serials_of ps)
first_times x q ps = times_first x q.serial (serials_of ps)

once_tail : (q : Peer) (ps : List Peer) → Once (q ∷ ps) → Once ps
once_tail q ps once x = (let all : times x (serials_of (q ∷ ps)) ≡ times x (q.serial ∷ []) + times x (serials_of ps) = first_times x q ps in let most : times x (serials_of (q ∷ ps)) ≤ 1 = once x in omega arith)

in_times : (ps : List Peer) (p : Peer) → In p ps → 1 ≤ times p.serial (serials_of ps)
in_times [] p there = absurd there
in_times (q ∷ ps) p there =
    let all : times p.serial (serials_of (q ∷ ps)) ≡ times p.serial (q.serial ∷ []) + times p.serial (serials_of ps) = first_times p.serial q ps in
    elim there [
      | inl same ↦ let own : times p.serial (q.serial ∷ []) ≡ 1 = subst (λ (r : Peer). times p.serial (r.serial ∷ []) ≡ 1) same (one p.serial) in omega arith
      | inr later ↦ let rest : 1 ≤ times p.serial (serials_of ps) = in_times ps p later in omega arith
    ]

-- The later ones have other serials.
differs : (q : Peer) (ps : List Peer) (p : Peer) → Once (q ∷ ps) → In p ps → q.serial ≡ p.serial → ⊥
differs q ps p once there same =
    let all : times p.serial (serials_of (q ∷ ps)) ≡ times p.serial (q.serial ∷ []) + times p.serial (serials_of ps) = first_times p.serial q ps in
    let most : times p.serial (serials_of (q ∷ ps)) ≤ 1 = once p.serial in
    let rest : 1 ≤ times p.serial (serials_of ps) = in_times ps p there in
    let own : times p.serial (q.serial ∷ []) ≡ 1 = rw (eq-eqb q.serial p.serial same) refl in
    absurd (omega arith)

-- Who is live is found by its serial.
found_in : (ps : List Peer) (p : Peer) → Once ps → In p ps → by_serial p.serial ps ≡ Some p
found_in [] p once there = absurd there
found_in (q ∷ ps) p once there =
    elim there [
      | inl same ↦ subst (λ (r : Peer). by_serial r.serial (q ∷ ps) ≡ Some r) (sym same) (rw (eq-eqb q.serial q.serial refl) refl)
      | inr later ↦ rw (ne_eqb q.serial p.serial (differs q ps p once later)) (found_in ps p (once_tail q ps once) later)
    ]

there_any : (ps : List Peer) (p : Peer) → In p ps → list_any (has_serial p.serial) ps ≡ true
there_any [] p there = absurd there
there_any (q ∷ ps) p there =
    elim there [
      | inl same ↦ subst (λ (r : Peer). list_any (has_serial r.serial) (q ∷ ps) ≡ true) (sym same) (rw (eq-eqb q.serial q.serial refl) refl)
      | inr later ↦ elim (q.serial == p.serial) as (λ b. (b || list_any (has_serial p.serial) ps) ≡ true) [ true ↦ refl | false ↦ there_any ps p later ]
    ]

-- ---- when one is taken out

in_without : (serial : ℕ) (ps : List Peer) (p : Peer) → In p ps → (p.serial ≡ serial → ⊥) → In p (without_first (has_serial serial) ps)
in_without serial [] p there other = there
in_without serial (q ∷ ps) p there other =
    elim (cases_eq q.serial serial) [
      | inl same ↦ rw (eq-eqb q.serial serial same) (elim there [ inl own ↦ absurd (other (ap (λ (r : Peer). r.serial) own ∙ same)) | inr later ↦ later ])
      | inr not ↦ rw (ne_eqb q.serial serial not) (elim there as (λ _. In p (q ∷ without_first (has_serial serial) ps)) [ inl own ↦ inl own | inr later ↦ inr (in_without serial ps p later other) ])
    ]

without_in : (serial : ℕ) (ps : List Peer) (p : Peer) → In p (without_first (has_serial serial) ps) → In p ps
without_in serial [] p there = there
without_in serial (q ∷ ps) p there =
    elim (q.serial == serial) as (λ b. In p (if b then ps else q ∷ without_first (has_serial serial) ps) → In p (q ∷ ps)) [
      | true ↦ λ later. inr later
      | false ↦ λ either. elim either as (λ _. In p (q ∷ ps)) [ inl own ↦ inl own | inr later ↦ inr (without_in serial ps p later) ]
    ] there

less_without : (x serial : ℕ) (ps : List Peer) → times x (serials_of (without_first (has_serial serial) ps)) ≤ times x (serials_of ps)
less_without x serial [] = omega arith
less_without x serial (q ∷ ps) =
    let all : times x (serials_of (q ∷ ps)) ≡ times x (q.serial ∷ []) + times x (serials_of ps) = first_times x q ps in
    let rest : List Peer = without_first (has_serial serial) ps in
    let part : times x (serials_of (q ∷ rest)) ≡ times x (q.serial ∷ []) + times x (serials_of rest) = first_times x q rest in
    let less : times x (serials_of rest) ≤ times x (serials_of ps) = less_without x serial ps in
    elim (q.serial == serial) as (λ b. times x (serials_of (if b then ps else q ∷ rest)) ≤ times x (serials_of (q ∷ ps))) [ true ↦ omega arith | false ↦ omega arith ]

once_without : (serial : ℕ) (ps : List Peer) → Once ps → Once (without_first (has_serial serial) ps)
once_without serial ps once x = (let most : times x (serials_of ps) ≤ 1 = once x in let less : times x (serials_of (without_first (has_serial serial) ps)) ≤ times x (serials_of ps) = less_without x serial ps in omega arith)

-- Who was taken out is live no more.
nobody_left : (ps : List Peer) (p q : Peer) → Once ps → In p ps → In q (without_first (has_serial p.serial) ps) → q.serial ≡ p.serial → ⊥
nobody_left ps p q once there still same =
    let rest : List Peer = without_first (has_serial p.serial) ps in
    let all : times q.serial (serials_of rest) + times q.serial (p.serial ∷ []) ≡ times q.serial (serials_of ps) = counts_without (λ (r : Peer). r.serial) q.serial p.serial ps (there_any ps p there) in
    let own : times q.serial (p.serial ∷ []) ≡ 1 = rw (eq-eqb p.serial q.serial (sym same)) refl in
    let some : 1 ≤ times q.serial (serials_of rest) = in_times rest q still in
    let most : times q.serial (serials_of ps) ≤ 1 = once q.serial in
    absurd (omega arith)

-- ---- some of the live peers

abbrev pub passes_not : (Peer → Bool) → List Peer → List Peer
passes_not test ps = filter (λ p. not (test p)) ps

none_pass : (test : Peer → Bool) (ps : List Peer) → ((p : Peer) → In p ps → test p ≡ true → ⊥) → ps ≡ passes_not test ps
none_pass test [] none = refl
none_pass test (q ∷ ps) none =
    elim (test q) as (λ b. test q ≡ b → q ∷ ps ≡ cond (not b) (q ∷ passes_not test ps) (passes_not test ps)) [
      | true ↦ λ is. absurd (none q (inl refl) is)
      | false ↦ λ is. ap (λ rs. q ∷ rs) (none_pass test ps (λ p there pass. none p (inr there) pass))
    ] refl

passed_by : (test fits : Peer → Bool) (ps : List Peer) (p : Peer) → find fits ps ≡ Some p → test p ≡ true → passes_not test (without_first fits ps) ≡ passes_not test ps
passed_by test fits [] p found pass = refl
passed_by test fits (q ∷ ps) p found pass =
    elim (fits q) as (λ b. (if b then Some q else find fits ps) ≡ Some p → passes_not test (if b then ps else q ∷ without_first fits ps) ≡ passes_not test (q ∷ ps)) [
      | true ↦ λ here. let same : q ≡ p = (let e : ◌≡◌ (Some q) (Some p) = here in cc) in rw (ap test same ∙ pass) refl
      | false ↦ λ later. ap (λ rs. cond (not (test q)) (q ∷ rs) rs) (passed_by test fits ps p later pass)
    ] found

-- The peers of a list are the live ones that pass a test.
pub record AreThose (test : Peer → Bool) (xs live : List Peer) : Type 0 where
  pub there : (p : Peer) → In p xs → In p live
  pub pass : (p : Peer) → In p xs → test p ≡ true
  pub back : (p : Peer) → In p live → test p ≡ true → In p xs

-- They are taken out by their serials, and the others are left.
pub record Picks (test : Peer → Bool) (xs live : List Peer) : Type 0 where
  pub out : picked (serials_of xs) live ≡ xs
  pub stay : left (serials_of xs) live ≡ passes_not test live

pub picks : (test : Peer → Bool) (xs live : List Peer) → Once live → Once xs → AreThose test xs live → Picks test xs live
picks test [] live once own those = record { out = refl; stay = none_pass test live (λ p there pass. those.back p there pass) }
picks test (x ∷ xs) live once own those =
    let there : In x live = those.there x (inl refl) in
    let found : by_serial x.serial live ≡ Some x = found_in live x once there in
    let rest : List Peer = without_first (has_serial x.serial) live in
    let later : Picks test xs rest = picks test xs rest (once_without x.serial live once) (once_tail x xs own) (record {
      there = λ p in_xs. in_without x.serial live p (those.there p (inr in_xs)) (λ same. differs x xs p own in_xs (sym same));
      pass = λ p in_xs. those.pass p (inr in_xs);
      back = λ p still pass. elim (those.back p (without_in x.serial live p still) pass) [
        | inl same ↦ absurd (nobody_left live x p once there still (ap (λ (r : Peer). r.serial) same))
        | inr more ↦ more
      ];
    }) in
    record {
      out = (λ i. option_to_list (found i) ++ picked (serials_of xs) rest) ∙ ap (λ ps. x ∷ ps) later.out;
      stay = later.stay ∙ passed_by test (has_serial x.serial) live x found (those.pass x (inl refl));
    }

in_filter : (test : Peer → Bool) (ps : List Peer) (p : Peer) → In p (filter test ps) → In p ps × (test p ≡ true)
in_filter test [] p there = absurd there
in_filter test (q ∷ ps) p there =
    elim (test q) as (λ b. test q ≡ b → In p (cond b (q ∷ filter test ps) (filter test ps)) → In p (q ∷ ps) × (test p ≡ true)) [
      | true ↦ λ is either. elim either as (λ _. In p (q ∷ ps) × (test p ≡ true)) [
        | inl own ↦ (inl own, ap test own ∙ is)
        | inr later ↦ let rest = in_filter test ps p later in (inr rest.0, rest.1)
      ]
      | false ↦ λ is later. let rest = in_filter test ps p later in (inr rest.0, rest.1)
    ] refl there

filter_in : (test : Peer → Bool) (ps : List Peer) (p : Peer) → In p ps → test p ≡ true → In p (filter test ps)
filter_in test [] p there pass = there
filter_in test (q ∷ ps) p there pass =
    elim there as (λ _. In p (filter test (q ∷ ps))) [
      | inl own ↦ rw (ap test (sym own) ∙ pass) (inl own)
      | inr later ↦ elim (test q) as (λ b. In p (cond b (q ∷ filter test ps) (filter test ps))) [
        | true ↦ inr (filter_in test ps p later pass)
        | false ↦ filter_in test ps p later pass
      ]
    ]

less_filter : (x : ℕ) (test : Peer → Bool) (ps : List Peer) → times x (serials_of (filter test ps)) ≤ times x (serials_of ps)
less_filter x test [] = omega arith
less_filter x test (q ∷ ps) =
    let all : times x (serials_of (q ∷ ps)) ≡ times x (q.serial ∷ []) + times x (serials_of ps) = first_times x q ps in
    let part : times x (serials_of (q ∷ filter test ps)) ≡ times x (q.serial ∷ []) + times x (serials_of (filter test ps)) = first_times x q (filter test ps) in
    let less : times x (serials_of (filter test ps)) ≤ times x (serials_of ps) = less_filter x test ps in
    elim (test q) as (λ b. times x (serials_of (cond b (q ∷ filter test ps) (filter test ps))) ≤ times x (serials_of (q ∷ ps))) [ true ↦ omega arith | false ↦ omega arith ]

once_rising : (ps : List Peer) → Once ps → Once (by_rising_id ps)
once_rising ps once x = subst (λ n. n ≤ 1) (sym (rising_times x ps)) (once x)

once_filter : (test : Peer → Bool) (ps : List Peer) → Once ps → Once (filter test ps)
once_filter test ps once x = (let most : times x (serials_of ps) ≤ 1 = once x in let less : times x (serials_of (filter test ps)) ≤ times x (serials_of ps) = less_filter x test ps in omega arith)

rising_in : (ps : List Peer) (p : Peer) → In p (by_rising_id ps) → In p ps
rising_in ps p there = in_moved (by_rising_id ps) ps p (IsPermutation-sym ps (by_rising_id ps) (rising_moves ps)) there

in_rising : (ps : List Peer) (p : Peer) → In p ps → In p (by_rising_id ps)
in_rising ps p there = in_moved ps (by_rising_id ps) p (rising_moves ps) there

by_test : (test : Peer → Bool) (live : List Peer) → Once live → Picks test (filter test (by_rising_id live)) live
by_test test live once = picks test (filter test (by_rising_id live)) live once (once_filter test (by_rising_id live) (once_rising live once)) (record {
  there = λ p in_xs. rising_in live p (in_filter test (by_rising_id live) p in_xs).0;
  pass = λ p in_xs. (in_filter test (by_rising_id live) p in_xs).1;
  back = λ p there pass. filter_in test (by_rising_id live) p (in_rising live p there) pass;
})

all_pass : (live : List Peer) → passes_not (λ p. true) live ≡ []
all_pass [] = refl
all_pass (p ∷ live) = all_pass live

all_of : (live : List Peer) → Once live → Picks (λ p. true) (by_rising_id live) live
all_of live once = picks (λ p. true) (by_rising_id live) live once (once_rising live once) (record {
  there = λ p in_xs. rising_in live p in_xs;
  pass = λ p in_xs. refl;
  back = λ p there pass. in_rising live p there;
})

-- ---- ticks and downs

pub tick_is : (t : Table) (now : ℕ) (es ds : List ℕ) → Once t.live → es ≡ serials_of (expired_of now t.live) → ds ≡ serials_of (due_of now t.live) → tick t now ≡ removals t now Expired (picked es t.live) (left es t.live) (reply.Ticked es ds)
unfolding tick
tick_is t now es ds once expired due =
    let those : Picks (is_expired now) (expired_of now t.live) t.live = by_test (is_expired now) t.live once in
    sym ((λ i. removals t now Expired (picked (expired i) t.live) (left (expired i) t.live) (reply.Ticked (expired i) (due i)))
    ∙ (λ i. removals t now Expired (those.out i) (those.stay i) (reply.Ticked (serials_of (expired_of now t.live)) (serials_of (due_of now t.live)))))

pub down_is : (t : Table) (now : ℕ) (gone : List ℕ) → Once t.live → gone ≡ serials_of (by_rising_id t.live) → down t now ≡ removals t now Teardown (picked gone t.live) (left gone t.live) (reply.Removed gone)
unfolding down
down_is t now gone once is =
    let those : Picks (λ p. true) (by_rising_id t.live) t.live = all_of t.live once in
    let none : left (serials_of (by_rising_id t.live)) t.live ≡ [] = those.stay ∙ all_pass t.live in
    sym ((λ i. removals t now Teardown (picked (is i) t.live) (left (is i) t.live) (reply.Removed (is i)))
    ∙ (λ i. removals t now Teardown (those.out i) (none i) (reply.Removed (serials_of (by_rising_id t.live)))))

-- ---- the keepalive rule

-- Who is expired is among those that are asked for.
pub expired_is : (now : ℕ) (ps : List Peer) → rule.expired now (map facts_of (filter (is_asked (Some now)) ps)) ≡ serials_of (filter (is_expired now) ps)
expired_is now [] = refl
expired_is now (p ∷ ps) =
    let rest : List Peer = filter (is_asked (Some now)) ps in
    let later : rule.expired now (map facts_of rest) ≡ serials_of (filter (is_expired now) ps) = expired_is now ps in
    elim (is_expired now p) as (λ b. is_expired now p ≡ b → rule.expired now (map facts_of (cond (b || rule.is_quiet now (facts_of p)) (p ∷ rest) rest)) ≡ serials_of (cond b (p ∷ filter (is_expired now) ps) (filter (is_expired now) ps))) [
      | true ↦ λ is. rw is (ap (λ ns. p.serial ∷ ns) later)
      | false ↦ λ is. elim (rule.is_quiet now (facts_of p)) as (λ b. rule.expired now (map facts_of (cond b (p ∷ rest) rest)) ≡ serials_of (filter (is_expired now) ps)) [
        | true ↦ rw is later
        | false ↦ later
      ]
    ] refl

pub due_is : (now : ℕ) (ps : List Peer) → rule.due now (map facts_of (filter (is_asked (Some now)) ps)) ≡ serials_of (filter (is_due now) ps)
due_is now [] = refl
due_is now (p ∷ ps) =
    let rest : List Peer = filter (is_asked (Some now)) ps in
    let later : rule.due now (map facts_of rest) ≡ serials_of (filter (is_due now) ps) = due_is now ps in
    elim (is_expired now p) as (λ b. is_expired now p ≡ b → rule.due now (map facts_of (cond (b || rule.is_quiet now (facts_of p)) (p ∷ rest) rest)) ≡ serials_of (filter (is_due now) (p ∷ ps))) [
      | true ↦ λ is. rw is later
      | false ↦ λ is. elim (rule.is_quiet now (facts_of p)) as (λ b. rule.is_quiet now (facts_of p) ≡ b → rule.due now (map facts_of (cond b (p ∷ rest) rest)) ≡ serials_of (filter (is_due now) (p ∷ ps))) [
        | true ↦ λ quiet. rw (is, quiet) (ap (λ ns. p.serial ∷ ns) later)
        | false ↦ λ quiet. rw (is, quiet) later
      ] refl
    ] refl

-- And where no moment is given all are.
pub all_asked : (ps : List Peer) → map (λ f. f.serial) (map facts_of (filter (is_asked None) ps)) ≡ serials_of ps
all_asked [] = refl
all_asked (p ∷ ps) = ap (λ ns. p.serial ∷ ns) (all_asked ps)
