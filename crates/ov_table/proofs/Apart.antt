-- No serial stands twice in a table, after a step as before it.
use Rattle.std.proofs.Common.{ℕ, ◌+◌, ◌<◌, ◌≤◌, ◌≡◌, ◌∙◌, refl, ap, sym, subst, List, [], ◌∷◌, ◌++◌, length, Bool, true, false, if◌then◌else◌, ◌==◌, arith, inl, inr}
use Rattle.std.specs.Prelude.{map, find, Some, None, nat_le}
use Rattle.std.specs.List.{list_any}
use Rattle.std.proofs.lemmas.Bool.{cases_eq, eq-eqb, ne_eqb}
use Rattle.std.proofs.lemmas.List.{map-append}
use Rattle.ov_model.specs.declared.ident.PeerId.{PeerId}
use Rattle.ov_model.specs.declared.command.KeyConf.{KeyConf}
use Rattle.ov_model.specs.declared.command.Reason.{Reason}
use Rattle.ov_model.specs.declared.command.Slot.{Slot}
use Rattle.ov_model.specs.declared.command.Command.TheVariants as command
use Rattle.ov_model.specs.declared.act.Act.{Act}
use Rattle.ov_model.specs.declared.act.Act.TheVariants as act
use Rattle.ov_model.specs.declared.reply.Reply.TheVariants as reply
use Rattle.ov_model.specs.declared.reply.Settled.{Settled}
use Rattle.ov_model.specs.Limits.{most_keys}
use Rattle.ov_model.specs.Tables.{Peer, Key, Table, change_first, without_first, has_id, serials_of, in_slot, key_if_any, keys_in, keys_of, key_serials, by_id, by_serial, by_key, swapped, with_slot}
use Rattle.ov_model.specs.Step.{Outcome, unless, key_new_checks, key_made, slots_changed, removals, spent_key, spend, key_new, sent_peer, received_peer, settled_peer, act_step, may_act}
use Rattle.ov_model.specs.Path.{removed}
use Rattle.ov_model.specs.Removals.{times, released_by, key_released_by}
use Rattle.ov_model.specs.Lifetime.{peer_made_by, key_made_by}
use Rattle.ov_model.proofs.Firsts.{is_of, map_changed, counts_without}
use Rattle.ov_model.proofs.Freed.{act_balance}
use Rattle.ov_model.proofs.KeysTaken.{slot_serials, peer_keys, MakesNext, Turns, turns}
use Rattle.ov_model.proofs.Removing.{Spends, spend_spends}
use Rattle.ov_model.proofs.Shapes.{Name, Kept, settled_kept}
use Rattle.ov_model.proofs.Tallies.{found_stands, found_slots}
use Rattle.ov_model.proofs.Times.{times-append, times_first}
use Rattle.ov_table.specs.Apart.{Apart}
use Rattle.ov_index.proofs.Held.{length_without}
use Rattle.ov_table.proofs.Outcomes.{some_of, any_found, removed_found, key_new_found, swap_found, del_found, spent_found}

-- No serial of a peer or of a key stands twice.
abbrev pub ApartIn : Table → Type 0
ApartIn t = (Apart (serials_of t.live) (serials_of t.dying) t.made) × (Apart (key_serials (keys_of t.live)) (key_serials t.retired) t.keys_made)

-- ---- who may join

pub one : (x : ℕ) → times x (x ∷ []) ≡ 1
one x = rw (eq-eqb x x refl) refl

-- Who stands nowhere isn't found.
absent : {X : Type 0} (f : X → ℕ) (x : ℕ) (ps : List X) → times x (map f ps) ≡ 0 → list_any (is_of f x) ps ≡ false
absent f x [] none = refl
absent f x (p ∷ ps) none =
    let all : times x (f p ∷ map f ps) ≡ times x (f p ∷ []) + times x (map f ps) = times_first x (f p) (map f ps) in
    elim (cases_eq (f p) x) [
      | inl same ↦ absurd (let here : times x (f p ∷ []) ≡ 1 = rw (eq-eqb (f p) x same) refl in omega arith)
      | inr other ↦ rw (ne_eqb (f p) x other) (absent f x ps (omega arith))
    ]

pub record MayJoin {X : Type 0} (f : X → ℕ) (serial : ℕ) (there : List X) (made : ℕ) : Type 0 where
  pub apart : list_any (is_of f serial) there ≡ false
  pub below : serial < made

pub may_join : {X : Type 0} (f : X → ℕ) (serial : ℕ) (there : List X) (made : ℕ) → Apart (serial ∷ []) (map f there) made → MayJoin f serial there made
may_join f serial there made apart =
    let mine : times serial (serial ∷ []) ≡ 1 = one serial in
    let once : times serial (serial ∷ []) + times serial (map f there) ≤ 1 = apart.once serial in
    let unmade : made ≤ serial → times serial (serial ∷ []) + times serial (map f there) ≡ 0 = apart.unmade serial in
    record { apart = absent f serial there (omega arith); below = grind arith }

-- ---- what keeps serials apart

-- A part of the first list.
pub part : (here there some : List ℕ) (made more : ℕ) → Apart here there made → ((x : ℕ) → times x some ≤ times x here) → made ≤ more → Apart some there more
part here there some made more apart less above = record {
  once = λ x. (let once = apart.once x in let own = less x in omega arith);
  unmade = λ x past. (let none : times x here + times x there ≡ 0 = apart.unmade x (omega arith) in let own = less x in omega arith);
}

-- No serial stands more often.
pub fewer : (here there now rest : List ℕ) (made : ℕ) → Apart here there made → ((x : ℕ) → times x now + times x rest ≤ times x here + times x there) → Apart now rest made
fewer here there now rest made apart less = record {
  once = λ x. (let once = apart.once x in let both = less x in omega arith);
  unmade = λ x past. (let none : times x here + times x there ≡ 0 = apart.unmade x past in let both = less x in omega arith);
}

-- But for the next that is made.
pub next : (here there now rest : List ℕ) (made : ℕ) → Apart here there made → ((x : ℕ) → times x now + times x rest ≤ times x here + times x there + times x (made ∷ [])) → Apart now rest (made + 1)
next here there now rest made apart more = record {
  once = λ x. (let once = apart.once x in let both = more x in elim (cases_eq made x) [
    | inl same ↦ let none : times x here + times x there ≡ 0 = apart.unmade x (omega arith) in let own : times x (made ∷ []) ≡ 1 = rw (eq-eqb made x same) refl in omega arith
    | inr other ↦ let own : times x (made ∷ []) ≡ 0 = rw (ne_eqb made x other) refl in omega arith
  ]);
  unmade = λ x past. (let none : times x here + times x there ≡ 0 = apart.unmade x (omega arith) in let both = more x in let own : times x (made ∷ []) ≡ 0 = rw (ne_eqb made x (λ same. omega arith)) refl in omega arith);
}

makes : (here there now rest new : List ℕ) (made after : ℕ) → Apart here there made → MakesNext new made after → ((x : ℕ) → times x now + times x rest ≤ times x here + times x there + times x new) → Apart now rest after
makes here there now rest new made after apart (inl none) more = rw none.1 (fewer here there now rest made apart (λ x. (let both : times x now + times x rest ≤ times x here + times x there + times x [] = subst (λ ns. times x now + times x rest ≤ times x here + times x there + times x ns) none.0 (more x) in omega arith)))
makes here there now rest new made after apart (inr grown) more = rw grown.1 (next here there now rest made apart (λ x. subst (λ ns. times x now + times x rest ≤ times x here + times x there + times x ns) grown.0 (more x)))

-- ---- steps

-- The keys of some peers have the serials in their slots.
pub keys_serials : (ps : List Peer) → key_serials (keys_of ps) ≡ slot_serials ps
keys_serials [] = refl
keys_serials (p ∷ ps) = map-append (λ (k : Key). k.serial) (keys_in p.slots) (keys_of ps) ∙ ap (λ ns. peer_keys p ++ ns) (keys_serials ps)

pub apart_after : (t : Table) (now : ℕ) (a : Act) → may_act t a ≡ true → ApartIn t → ApartIn (act_step t now a).after
apart_after t now a may apart =
    let o : Outcome = act_step t now a in (
      makes (serials_of t.live) (serials_of t.dying) (serials_of o.after.live) (serials_of o.after.dying) (peer_made_by a o.reply) t.made o.after.made apart.0 (turns 0 t now a).born (λ x.
          let living : times x (serials_of o.after.live) + times x (removed o.reply) ≡ times x (serials_of t.live) + times x (peer_made_by a o.reply) = (turns x t now a).peers in
          let dying : times x (serials_of o.after.dying) + times x (released_by a) ≡ times x (serials_of t.dying) + times x (removed o.reply) = (act_balance x t now a may).peers in
          omega arith),
      rw (keys_serials o.after.live) (makes (slot_serials t.live) (key_serials t.retired) (slot_serials o.after.live) (key_serials o.after.retired) (key_made_by a o.reply) t.keys_made o.after.keys_made (rw (← keys_serials t.live) apart.1) (turns 0 t now a).made (λ x.
          let slots : times x (slot_serials o.after.live) + times x o.taken ≡ times x (slot_serials t.live) + times x (key_made_by a o.reply) = (turns x t now a).slots in
          let retired : times x (key_serials o.after.retired) + times x (key_released_by a) ≡ times x (key_serials t.retired) + times x o.taken = (act_balance x t now a may).keys in
          omega arith)),
    )

-- The removal of a live peer.
pub removed_apart : (t : Table) (now : ℕ) (id : PeerId) (reason : Reason) (p : Peer) → by_id id t.live ≡ Some p → ApartIn t → ApartIn (removals t now reason (p ∷ []) (without_first (has_id id) t.live) (reply.Removed (p.serial ∷ []))).after
removed_apart t now id reason p found apart = subst (λ (o : Outcome). ApartIn o.after) (removed_found t now id reason p found) (apart_after t now (act.Do (command.Remove id reason)) refl apart)

-- A key that a live peer gets.
pub key_apart : (t : Table) (now : ℕ) (c : KeyConf) (p : Peer) → by_id c.peer t.live ≡ Some p → nat_le most_keys t.keys_made ≡ false → ApartIn t → ApartIn (key_made t now c p).after
key_apart t now c p found room apart =
    let is : unless t now (key_new_checks t) (key_made t now c p) ≡ key_made t now c p = rw room refl in
    subst (λ (o : Outcome). ApartIn o.after) (key_new_found t now c p found ∙ is) (apart_after t now (act.Do (command.KeyNew c)) refl apart)

-- The keys of a live peer change places.
pub swap_apart : (t : Table) (now : ℕ) (id : PeerId) (p : Peer) → by_id id t.live ≡ Some p → ApartIn t → ApartIn (slots_changed t now id swapped []).after
swap_apart t now id p found apart = subst (λ (o : Outcome). ApartIn o.after) (swap_found t now id p found) (apart_after t now (act.Do (command.KeySwap id)) refl apart)

-- The key of a slot is taken out.
pub del_apart : (t : Table) (now : ℕ) (id : PeerId) (slot : Slot) (p : Peer) → by_id id t.live ≡ Some p → ApartIn t → ApartIn (slots_changed t now id (with_slot slot None) (key_if_any (in_slot slot p.slots))).after
del_apart t now id slot p found apart = subst (λ (o : Outcome). ApartIn o.after) (del_found t now id slot p found) (apart_after t now (act.Do (command.KeyDel id slot)) refl apart)

-- A new peer, which has no keys.
keys_of_more : (ps : List Peer) (p : Peer) → keys_in p.slots ≡ [] → keys_of (ps ++ p ∷ []) ≡ keys_of ps
keys_of_more [] p none = rw none refl
keys_of_more (q ∷ ps) p none = ap (λ ks. keys_in q.slots ++ ks) (keys_of_more ps p none)

pub new_apart : (t : Table) (p : Peer) → p.serial ≡ t.made → keys_in p.slots ≡ [] → ApartIn t → ApartIn (record t { live = t.live ++ p ∷ []; made = t.made + 1 })
new_apart t p own none apart = (
  next (serials_of t.live) (serials_of t.dying) (serials_of (t.live ++ p ∷ [])) (serials_of t.dying) t.made apart.0 (λ x.
      let more : times x (serials_of (t.live ++ p ∷ [])) ≡ times x (serials_of t.live) + times x (p.serial ∷ []) = ap (times x) (map-append (λ (q : Peer). q.serial) t.live (p ∷ [])) ∙ times-append x (serials_of t.live) (p.serial ∷ []) in
      let its : times x (p.serial ∷ []) ≡ times x (t.made ∷ []) = ap (λ n. times x (n ∷ [])) own in
      omega arith),
  rw (keys_of_more t.live p none) apart.1,
)

-- A key that is spent.
pub spent_apart : (t : Table) (now peer key : ℕ) (p : Peer) (k : Key) → by_serial peer t.live ≡ Some p → by_key key p.slots ≡ Some k → ApartIn t → ApartIn (spent_key t now peer key p k).after
spent_apart t now peer key p k found has apart =
    let a : Act = act.Spend peer key in
    let is : spend t now peer key ≡ spent_key t now peer key p k = spent_found t now peer key p found ∙ rw has refl in
    let o : Outcome = spend t now peer key in
    let spends : Spends t key o = spend_spends t now peer key in
    subst (λ (o : Outcome). ApartIn o.after) is (
      makes (serials_of t.live) (serials_of t.dying) (serials_of o.after.live) (serials_of o.after.dying) (peer_made_by a o.reply) t.made o.after.made apart.0 (turns 0 t now a).born (λ x.
          let living : times x (serials_of o.after.live) + times x (removed o.reply) ≡ times x (serials_of t.live) + times x (peer_made_by a o.reply) = (turns x t now a).peers in
          let dying : times x (serials_of o.after.dying) ≡ times x (serials_of t.dying) = ap (λ ps. times x (serials_of ps)) spends.dying in
          omega arith),
      rw (keys_serials o.after.live) (makes (slot_serials t.live) (key_serials t.retired) (slot_serials o.after.live) (key_serials o.after.retired) (key_made_by a o.reply) t.keys_made o.after.keys_made (rw (← keys_serials t.live) apart.1) (turns 0 t now a).made (λ x.
          let slots : times x (slot_serials o.after.live) + times x o.taken ≡ times x (slot_serials t.live) + times x (key_made_by a o.reply) = (turns x t now a).slots in
          let retired : times x (key_serials o.after.retired) ≡ times x (key_serials t.retired) + times x o.taken = ap (times x) spends.keys_joined ∙ times-append x (key_serials t.retired) o.taken in
          omega arith)),
    )

-- ---- keys that leave their slots

-- Those of a peer.
pub slots_apart : (fits : Peer → Bool) (live : List Peer) (retired : List Key) (made more : ℕ) (p : Peer) → find fits live ≡ Some p → Apart (key_serials (keys_of live)) (key_serials retired) made → made ≤ more → Apart (key_serials (keys_in p.slots)) (key_serials retired) more
slots_apart fits live retired made more p found apart above =
    part (slot_serials live) (key_serials retired) (key_serials (keys_in p.slots)) made more (rw (← keys_serials live) apart) (λ x. found_slots fits x live p found) above

-- The one that another replaces.
pub replaced_apart : (t : Table) (now : ℕ) (c : KeyConf) (p : Peer) (more : ℕ) → by_id c.peer t.live ≡ Some p → nat_le most_keys t.keys_made ≡ false → ApartIn t → t.keys_made ≤ more → Apart (key_serials (key_if_any (in_slot c.slot p.slots))) (key_serials t.retired) more
replaced_apart t now c p more found room apart above =
    let a : Act = act.Do (command.KeyNew c) in
    let is : key_new t now c ≡ key_made t now c p = key_new_found t now c p found ∙ rw room refl in
    let some : List ℕ = key_serials (key_if_any (in_slot c.slot p.slots)) in
    part (slot_serials t.live) (key_serials t.retired) some t.keys_made more (rw (← keys_serials t.live) apart.1)
    (λ x. let turn : Turns x t a (key_made t now c p) = subst (Turns x t a) is (turns x t now a) in turn.taken_live) above

-- The one that is deleted.
pub deleted_apart : (t : Table) (now : ℕ) (id : PeerId) (slot : Slot) (p : Peer) (more : ℕ) → by_id id t.live ≡ Some p → ApartIn t → t.keys_made ≤ more → Apart (key_serials (key_if_any (in_slot slot p.slots))) (key_serials t.retired) more
deleted_apart t now id slot p more found apart above =
    let a : Act = act.Do (command.KeyDel id slot) in
    let gone : List Key = key_if_any (in_slot slot p.slots) in
    part (slot_serials t.live) (key_serials t.retired) (key_serials gone) t.keys_made more (rw (← keys_serials t.live) apart.1)
    (λ x. let turn : Turns x t a (slots_changed t now id (with_slot slot None) gone) = subst (Turns x t a) (del_found t now id slot p found) (turns x t now a) in turn.taken_live) above

-- The one that is spent.
pub spent_joins : (fits : Peer → Bool) (live : List Peer) (retired : List Key) (made more : ℕ) (p : Peer) (key : ℕ) (k : Key) → find fits live ≡ Some p → by_key key p.slots ≡ Some k → Apart (key_serials (keys_of live)) (key_serials retired) made → made ≤ more → MayJoin (λ (k : Key). k.serial) k.serial retired more
spent_joins fits live retired made more p key k found has apart above =
    let slots : Apart (key_serials (keys_in p.slots)) (key_serials retired) more = slots_apart fits live retired made more p found apart above in
    may_join (λ (k : Key). k.serial) k.serial retired more (part (key_serials (keys_in p.slots)) (key_serials retired) (k.serial ∷ []) more more slots (λ x. found_stands (λ (q : Key). q.serial) (λ q. q.serial == key) x (keys_in p.slots) k has) (omega arith))

-- ---- peers that keep their names and their slots

pub serials_kept : (fits : Peer → Bool) (change : Peer → Peer) (ps : List Peer) → ((p : Peer) → Kept p (change p)) → serials_of (change_first fits change ps) ≡ serials_of ps
serials_kept fits change ps keeps = map_changed (λ (p : Peer). p.serial) fits change ps (λ p. ap (λ (n : Name). n.serial) (keeps p).name)

pub keys_kept : (fits : Peer → Bool) (change : Peer → Peer) (ps : List Peer) → ((p : Peer) → Kept p (change p)) → keys_of (change_first fits change ps) ≡ keys_of ps
keys_kept fits change [] keeps = refl
keys_kept fits change (p ∷ ps) keeps =
    elim (fits p) as (λ b. keys_of (if b then change p ∷ ps else p ∷ change_first fits change ps) ≡ keys_in p.slots ++ keys_of ps) [
      | true ↦ ap (λ s. keys_in s ++ keys_of ps) (keeps p).slots
      | false ↦ ap (λ ks. keys_in p.slots ++ ks) (keys_kept fits change ps keeps)
    ]

pub sent_kept : (now inner outer : ℕ) (ping : Bool) (p : Peer) → Kept p (sent_peer now inner outer ping p)
sent_kept now inner outer ping p = record { name = refl; slots = refl }

pub dying_kept : (now inner outer : ℕ) (s : Settled) (p : Peer) → Kept p (settled_peer s inner (received_peer now outer p))
dying_kept now inner outer s p = let k = settled_kept s inner (received_peer now outer p) in record { name = k.name; slots = k.slots }

-- ---- who is in a list

-- Who is live may be dying next.
pub dying_joins : (fits : Peer → Bool) (live dying : List Peer) (made more : ℕ) (p : Peer) → find fits live ≡ Some p → Apart (serials_of live) (serials_of dying) made → made ≤ more → MayJoin (λ (p : Peer). p.serial) p.serial dying more
dying_joins fits live dying made more p found apart above =
    let serial : Peer → ℕ = λ p. p.serial in
    may_join serial p.serial dying more (part (serials_of live) (serials_of dying) (p.serial ∷ []) made more apart (λ x. found_stands serial fits x live p found) above)

-- Who was let go is in no list any more.
pub let_go : {X : Type 0} (f : X → ℕ) (here : List ℕ) (there : List X) (made serial : ℕ) → list_any (is_of f serial) there ≡ true → Apart here (map f there) made → Apart here (map f (without_first (is_of f serial) there)) made
let_go f here there made serial any apart = fewer here (map f there) here (map f (without_first (is_of f serial) there)) made apart
    (λ x. (let less : times x (map f (without_first (is_of f serial) there)) + times x (serial ∷ []) ≡ times x (map f there) = counts_without f x serial there any in omega arith))

pub length_let_go : {X : Type 0} (fits : X → Bool) (xs : List X) → list_any fits xs ≡ true → length (without_first fits xs) + 1 ≡ length xs
length_let_go fits xs any = let found = some_of (find fits xs) (sym (any_found fits xs) ∙ any) in length_without fits xs found.0 found.1
