-- Each key that a told table still has is as the journal's key-new with its serial installed it.
use Rattle.std.proofs.Common.{ℕ, ◌+◌, ◌≡◌, ◌≤◌, ◌∙◌, sym, ap, List, [], ◌∷◌, ◌++◌, refl, subst, true, false, if◌then◌else◌, ◌==◌, arith, append-nil, append_assoc}
use Rattle.std.specs.Prelude.{Option, Some, None, find, max}
use Rattle.std.specs.List.{AllByRecursion}
use Rattle.std.specs.Option.{option_or}
use Rattle.std.proofs.lemmas.Bool.Decides.{nat_tests}
use Rattle.ov_model.specs.declared.place.Place.{Place}
use Rattle.ov_model.specs.declared.command.KeyConf.{KeyConf}
use Rattle.ov_model.specs.declared.command.Command.TheVariants as command
use Rattle.ov_model.specs.declared.act.Act.{Act}
use Rattle.ov_model.specs.declared.act.Act.TheVariants as act
use Rattle.ov_model.specs.declared.reply.Reply.{Reply}
use Rattle.ov_model.specs.declared.reply.Reply.TheVariants as reply
use Rattle.ov_model.specs.declared.entry.Entry.{Entry}
use Rattle.ov_model.specs.Tables.{Material, Peer, Key, Table, empty_table, keys_in, by_key}
use Rattle.ov_model.specs.Step.{Outcome, has_key, key_of_conf, key_new, act_step, step}
use Rattle.ov_model.specs.Keys.{key_of, key_by}
use Rattle.ov_model.specs.Runs.{Follows, table_after}
use Rattle.ov_model.proofs.Firsts.{all_found}
use Rattle.ov_model.proofs.Lanes.{all_weaker}
use Rattle.ov_table.specs.Pairs.{key_of_peer, live_key, retired_key, material_if_any, pair_in}
use Rattle.ov_table.specs.Recorded.{Recorded, IsTold}
use Rattle.ov_table.proofs.Kept.{OneHolds, SlotsHold, Holds, KeyNewEnds, no, yes, new_key_ends, NoNewKey, act_keeps, slots_all}

abbrev pub AsIn : List Entry → Key → Type 0
AsIn journal k = key_of journal k.serial ≡ Some k.material

pub record Installed (journal : List Entry) (t : Table) : Type 0 where
  pub known : Holds (AsIn journal) t.keys_made t
  pub fresh : (key : ℕ) → t.keys_made ≤ key → key_of journal key ≡ None

or_assoc : {X : Type 0} (a b c : Option X) → option_or a (option_or b c) ≡ option_or (option_or a b) c
or_assoc None b c = refl
or_assoc (Some x) b c = refl

pub key_of-append : (es fs : List Entry) (key : ℕ) → key_of (es ++ fs) key ≡ option_or (key_of es key) (key_of fs key)
key_of-append [] fs key = refl
key_of-append (e ∷ es) fs key = ap (λ o. option_or (key_by e.call.act e.reply key) o) (key_of-append es fs key) ∙ or_assoc (key_by e.call.act e.reply key) (key_of es key) (key_of fs key)

still_in : (es fs : List Entry) (k : Key) → AsIn es k → AsIn (es ++ fs) k
still_in es fs k is = rw (key_of-append es fs k.serial, is) refl

one_weaker : (P Q : Key → Type 0) → ((k : Key) → P k → Q k) → (k : Option Key) → OneHolds P k → OneHolds Q k
one_weaker P Q f None h = tt
one_weaker P Q f (Some k) h = f k h

holds_weaker : (P Q : Key → Type 0) (n : ℕ) (t : Table) → ((k : Key) → P k → Q k) → Holds P n t → Holds Q n t
holds_weaker P Q n t f h = record {
  count = h.count;
  live = all_weaker (λ p. SlotsHold P p.slots) (λ p. SlotsHold Q p.slots) (λ p s. record { primary = one_weaker P Q f p.slots.primary s.primary; secondary = one_weaker P Q f p.slots.secondary s.secondary }) t.live h.live;
  retired = all_weaker P Q f t.retired h.retired;
}

-- An entry that installs no key.
same_keys : (journal : List Entry) (t after : Table) (e : Entry) → ((key : ℕ) → key_by e.call.act e.reply key ≡ None) → Installed journal t → Holds (AsIn (journal ++ e ∷ [])) t.keys_made after → Installed (journal ++ e ∷ []) after
same_keys journal t after e none old holds = record {
  known = subst (λ n. Holds (AsIn (journal ++ e ∷ [])) n after) (sym holds.count) holds;
  fresh = λ key past.
      let before : key_of journal key ≡ None = old.fresh key (subst (λ n. n ≤ key) holds.count past) in
      rw (key_of-append journal (e ∷ []) key, before, none key) refl;
}

none_of : (a : Act) (r : Reply) → NoNewKey a → (key : ℕ) → key_by a r key ≡ None
none_of (act.Do (command.PeerNew a)) r new key = refl
none_of (act.Do (command.PeerSet a)) r new key = refl
none_of (act.Do (command.PeerGet id)) r new key = refl
none_of (act.Do command.PeerDump) r new key = refl
none_of (act.Do (command.Remove id reason)) r new key = refl
none_of (act.Do (command.KeyNew c)) r new key = absurd new
none_of (act.Do (command.KeyGet id slot)) r new key = refl
none_of (act.Do (command.KeySwap id)) r new key = refl
none_of (act.Do (command.KeyDel id slot)) r new key = refl
none_of (act.Do command.Tick) r new key = refl
none_of (act.Do command.Down) r new key = refl
none_of (act.TxLook a) r new key = refl
none_of (act.RxLook id key_id from) r new key = refl
none_of (act.Sent peer inner outer ping) r new key = refl
none_of (act.Settle peer from k inner outer) r new key = refl
none_of (act.Spend peer spent) r new key = refl
none_of (act.KeepLook peer) r new key = refl
none_of (act.Released serial) r new key = refl
none_of (act.KeyReleased serial) r new key = refl

other_act : (journal : List Entry) (t : Table) (now : ℕ) (place : Place) (at : ℕ) (a : Act) (r : Reply) → NoNewKey a → Installed journal t → Installed (journal ++ record { place = place; call = record { at = at; act = a }; reply = r } ∷ []) (act_step t now a).after
other_act journal t now place at a r new old =
    let e : Entry = record { place = place; call = record { at = at; act = a }; reply = r } in
    let before : Holds (AsIn (journal ++ e ∷ [])) t.keys_made t = holds_weaker (AsIn journal) (AsIn (journal ++ e ∷ [])) t.keys_made t (still_in journal (e ∷ [])) old.known in
    same_keys journal t (act_step t now a).after e (none_of a r new) old (act_keeps (AsIn (journal ++ e ∷ [])) t.keys_made t now a new before).holds

abbrev key_entry : Place → ℕ → KeyConf → Reply → Entry
key_entry place at c r = record { place = place; call = record { at = at; act = act.Do (command.KeyNew c) }; reply = r }

made_key : (journal : List Entry) (t after : Table) (place : Place) (at : ℕ) (c : KeyConf) → Installed journal t → (AsIn (journal ++ key_entry place at c (reply.Made t.keys_made) ∷ []) (key_of_conf t.keys_made c) → Holds (AsIn (journal ++ key_entry place at c (reply.Made t.keys_made) ∷ [])) (t.keys_made + 1) after) → Installed (journal ++ key_entry place at c (reply.Made t.keys_made) ∷ []) after
made_key journal t after place at c old more =
    let e : Entry = key_entry place at c (reply.Made t.keys_made) in
    let before : key_of journal t.keys_made ≡ None = old.fresh t.keys_made (omega arith) in
    let same : (t.keys_made == t.keys_made) ≡ true = grind (arith, nat_tests) in
    let holds : Holds (AsIn (journal ++ e ∷ [])) (t.keys_made + 1) after = more (rw (key_of-append journal (e ∷ []) t.keys_made, before, same) refl) in
    record {
      known = subst (λ n. Holds (AsIn (journal ++ e ∷ [])) n after) (sym holds.count) holds;
      fresh = λ key past.
          let above : t.keys_made + 1 ≤ key = subst (λ n. n ≤ key) holds.count past in
          let before : key_of journal key ≡ None = old.fresh key (omega (arith, above)) in
          let other : (t.keys_made == key) ≡ false = grind (arith, nat_tests, above) in
          rw (key_of-append journal (e ∷ []) key, before, other) refl;
    }

key_ended : (journal : List Entry) (t : Table) (place : Place) (at : ℕ) (c : KeyConf) (r : Reply) (o : Outcome) → r ≡ o.reply → Installed journal t → KeyNewEnds (AsIn (journal ++ key_entry place at c r ∷ [])) t c o → Installed (journal ++ key_entry place at c r ∷ []) o.after
key_ended journal t place at c r o is old (no e said keeps) =
    let none : (key : ℕ) → key_by (act.Do (command.KeyNew c)) r key ≡ None = λ key. subst (λ x. key_by (act.Do (command.KeyNew c)) x key ≡ None) (sym (is ∙ said)) refl in
    same_keys journal t o.after (key_entry place at c r) none old keeps.holds
key_ended journal t place at c r o is old (yes said keeps) =
    let P : Reply → Type 0 = λ x. (AsIn (journal ++ key_entry place at c x ∷ []) (key_of_conf t.keys_made c) → Holds (AsIn (journal ++ key_entry place at c x ∷ [])) (t.keys_made + 1) o.after) → Installed (journal ++ key_entry place at c x ∷ []) o.after in
    let made : P r = subst P (sym (is ∙ said)) (made_key journal t o.after place at c old) in
    made (λ new. (keeps new).holds)

key_act : (journal : List Entry) (t : Table) (now : ℕ) (place : Place) (at : ℕ) (c : KeyConf) (r : Reply) → r ≡ (key_new t now c).reply → Installed journal t → Installed (journal ++ key_entry place at c r ∷ []) (key_new t now c).after
key_act journal t now place at c r is old =
    let P : Key → Type 0 = AsIn (journal ++ key_entry place at c r ∷ []) in
    let before : Holds P t.keys_made t = holds_weaker (AsIn journal) P t.keys_made t (still_in journal (key_entry place at c r ∷ [])) old.known in
    key_ended journal t place at c r (key_new t now c) is old (new_key_ends P t now c before)

each_act : (journal : List Entry) (t : Table) (now : ℕ) (place : Place) (at : ℕ) (a : Act) (r : Reply) → r ≡ (act_step t now a).reply → Installed journal t → Installed (journal ++ record { place = place; call = record { at = at; act = a }; reply = r } ∷ []) (act_step t now a).after
each_act journal t now place at (act.Do (command.PeerNew a)) r is old = other_act journal t now place at (act.Do (command.PeerNew a)) r tt old
each_act journal t now place at (act.Do (command.PeerSet a)) r is old = other_act journal t now place at (act.Do (command.PeerSet a)) r tt old
each_act journal t now place at (act.Do (command.PeerGet id)) r is old = other_act journal t now place at (act.Do (command.PeerGet id)) r tt old
each_act journal t now place at (act.Do command.PeerDump) r is old = other_act journal t now place at (act.Do command.PeerDump) r tt old
each_act journal t now place at (act.Do (command.Remove id reason)) r is old = other_act journal t now place at (act.Do (command.Remove id reason)) r tt old
each_act journal t now place at (act.Do (command.KeyNew c)) r is old = key_act journal t now place at c r is old
each_act journal t now place at (act.Do (command.KeyGet id slot)) r is old = other_act journal t now place at (act.Do (command.KeyGet id slot)) r tt old
each_act journal t now place at (act.Do (command.KeySwap id)) r is old = other_act journal t now place at (act.Do (command.KeySwap id)) r tt old
each_act journal t now place at (act.Do (command.KeyDel id slot)) r is old = other_act journal t now place at (act.Do (command.KeyDel id slot)) r tt old
each_act journal t now place at (act.Do command.Tick) r is old = other_act journal t now place at (act.Do command.Tick) r tt old
each_act journal t now place at (act.Do command.Down) r is old = other_act journal t now place at (act.Do command.Down) r tt old
each_act journal t now place at (act.TxLook a) r is old = other_act journal t now place at (act.TxLook a) r tt old
each_act journal t now place at (act.RxLook id key_id from) r is old = other_act journal t now place at (act.RxLook id key_id from) r tt old
each_act journal t now place at (act.Sent peer inner outer ping) r is old = other_act journal t now place at (act.Sent peer inner outer ping) r tt old
each_act journal t now place at (act.Settle peer from k inner outer) r is old = other_act journal t now place at (act.Settle peer from k inner outer) r tt old
each_act journal t now place at (act.Spend peer key) r is old = other_act journal t now place at (act.Spend peer key) r tt old
each_act journal t now place at (act.KeepLook peer) r is old = other_act journal t now place at (act.KeepLook peer) r tt old
each_act journal t now place at (act.Released serial) r is old = other_act journal t now place at (act.Released serial) r tt old
each_act journal t now place at (act.KeyReleased serial) r is old = other_act journal t now place at (act.KeyReleased serial) r tt old

installed_run : (journal : List Entry) (t : Table) (es : List Entry) → Installed journal t → Follows t es → Installed (journal ++ es) (table_after t es)
installed_run journal t [] old run = subst (λ es. Installed es t) (sym (append-nil journal)) old
installed_run journal t (e ∷ es) old run =
    let now : Installed (journal ++ e ∷ []) (step t e.call).after = each_act journal t (max t.moment e.call.at) e.place e.call.at e.call.act e.reply (sym run.1) old in
    subst (λ fs. Installed fs (table_after t (e ∷ es))) (append_assoc journal (e ∷ []) es) (installed_run (journal ++ e ∷ []) (step t e.call).after es now run.2)

none_installed : Installed [] empty_table
none_installed = record { known = record { count = refl; live = tt; retired = tt }; fresh = λ key past. refl }

pub installed : (r : Recorded) → IsTold r → Installed r.journal r.now
installed r told = subst (λ t. Installed r.journal t) told.last (installed_run [] empty_table r.journal none_installed told.run)

-- ---- what the table's look-up of a key gives

key_in : (es : List Entry) (key : ℕ) (keys : List Key) (k : Key) → find (λ x. x.serial == key) keys ≡ Some k → AllByRecursion (AsIn es) keys → key_of es key ≡ Some k.material
key_in es key [] k is all = absurd (let e : ◌≡◌ None (Some k) = is in cc)
key_in es key (x ∷ keys) k is all =
    elim (x.serial == key)
    as (λ b. (x.serial == key) ≡ b → (if b then Some x else find (λ y. y.serial == key) keys) ≡ Some k → key_of es key ≡ Some k.material) [
      | true ↦ λ same is.
          let n : x.serial ≡ key = grind (arith, nat_tests, same) in
          let here : key_of es key ≡ Some x.material = subst (λ n. key_of es n ≡ Some x.material) n all.0 in
          let e : x ≡ k = (let e : ◌≡◌ (Some x) (Some k) = is in cc) in
          subst (λ y. key_of es key ≡ Some y.material) e here
      | false ↦ λ same is. key_in es key keys k is all.1
    ]
    refl is

in_key : (es : List Entry) (key : ℕ) (keys : List Key) (o : Option Key) (m : Material) → find (λ k. k.serial == key) keys ≡ o → AllByRecursion (AsIn es) keys → material_if_any o ≡ Some m → key_of es key ≡ Some m
in_key es key keys None m is all gives = absurd (let e : ◌≡◌ None (Some m) = gives in cc)
in_key es key keys (Some k) m is all gives = key_in es key keys k is all ∙ gives

in_peer : (es : List Entry) (key : ℕ) (peers : List Peer) (o : Option Peer) (m : Material) → find (has_key key) peers ≡ o → AllByRecursion (λ p. SlotsHold (AsIn es) p.slots) peers → material_if_any (key_of_peer key o) ≡ Some m → key_of es key ≡ Some m
in_peer es key peers None m is all gives = absurd (let e : ◌≡◌ None (Some m) = gives in cc)
in_peer es key peers (Some p) m is all gives = in_key es key (keys_in p.slots) (by_key key p.slots) m refl (slots_all (AsIn es) p.slots (all_found (λ q. SlotsHold (AsIn es) q.slots) (has_key key) peers p is all)) gives

in_either : (a b : Option Material) (m : Material) (Goal : Type 0) → (a ≡ Some m → Goal) → (b ≡ Some m → Goal) → option_or a b ≡ Some m → Goal
in_either None b m Goal f g is = g is
in_either (Some x) b m Goal f g is = f is

pub pair_installed : (r : Recorded) (key : ℕ) (m : Material) → IsTold r → pair_in r.now key ≡ Some m → key_of r.journal key ≡ Some m
pair_installed r key m told is =
    let all : Installed r.journal r.now = installed r told in
    in_either (material_if_any (live_key key r.now.live)) (material_if_any (retired_key key r.now.retired)) m (key_of r.journal key ≡ Some m)
    (in_peer r.journal key r.now.live (find (has_key key) r.now.live) m refl all.known.live)
    (in_key r.journal key r.now.retired (retired_key key r.now.retired) m refl all.known.retired)
    is
