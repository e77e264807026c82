-- The index goes on saying the truth where one peer is changed or taken out.
use Rattle.std.proofs.Common.{ℕ, ◌≡◌, ◌∙◌, refl, ap, sym, subst, [], ◌∷◌, ◌++◌, length, Bool, true, false, cond, if◌then◌else◌, ◌==◌, ◌||◌, arith, inl, inr, ◌⊎◌}
use Rattle.std.specs.Prelude.{Option, Some, None, find, slice_get, slice_set, is_some}
use Rattle.std.proofs.lemmas.Bool.{cases_eq}
use Rattle.std.proofs.lemmas.Bool.Decides.{nat_tests}
use Rattle.ov_base.specs.declared.address.Transport.{Transport}
use Rattle.ov_model.specs.declared.ident.PeerId.{PeerId}
use Rattle.ov_model.specs.declared.command.Slot.{Slot}
use Rattle.ov_model.specs.declared.command.Slot.TheVariants.{Primary, Secondary}
use Rattle.std.proofs.lemmas.Bool.{or_cases}
use Rattle.ov_model.specs.Tables.{Peer, Key, Slots, key_if_any, by_remote, by_key, is_key, without_key, with_slot, swapped, has_id, change_first}
use Rattle.ov_model.specs.declared.reply.Settled.{Settled}
use Rattle.ov_model.specs.declared.reply.Settled.TheVariants as settled
use Rattle.ov_model.specs.Step.{has_key, with_key, with_slots, sent_peer, received_peer, settled_peer}
use Rattle.ov_index.specs.declared.name.Host.TheVariants.{V4, V6}
use Rattle.ov_index.specs.declared.name.Name.{Name}
use Rattle.ov_index.specs.declared.name.Name.TheVariants.{Id, Vpn, Remote}
use Rattle.ov_index.specs.Names.{has_name}
use Rattle.ov_index.specs.Index.{present, standing, IsIndex}
use Rattle.ov_index.proofs.Slots.{get_more, get_last, standing_at}
use Rattle.ov_index.proofs.Held.{Owner, Homes, Places, Reowned, put_at, free, remote_free, named_at, named_nowhere}

pub same_one : {X : Type 0} (x y : X) → Some x ≡ Some y → x ≡ y
same_one x y is = cc

-- One is taken out.
gone : (o new : Owner) (h : Homes) (s : Places) (k : ℕ) (p : Peer) → IsIndex o h s → slice_get s k ≡ Some (Some p) → ((n : Name) → new n ≡ cond (has_name n p) None (o n)) → Reowned o new k (Some p) None
gone o new h s k p i at is = record {
  mine = λ n q none has. absurd (let e : ◌≡◌ None (Some q) = none in cc);
  others = λ n j other owns.
      elim (has_name n p) as (λ b. has_name n p ≡ b → new n ≡ Some j) [
        | true ↦ λ its. absurd (other (same_one j k (sym owns ∙ i.known n k p at its)))
        | false ↦ λ not. is n ∙ rw not owns
      ] refl;
  back = λ n j owns.
      elim (has_name n p) as (λ b. has_name n p ≡ b → ((j ≡ k → ⊥) × (o n ≡ Some j)) ⊎ ((q : Peer) × (j ≡ k) × (◌≡◌ {A = Option Peer} None (Some q)) × (has_name n q ≡ true))) [
        | true ↦ λ its. absurd (let e : cond (has_name n p) None (o n) ≡ Some j = sym (is n) ∙ owns in let f : ◌≡◌ None (Some j) = (rw its at e) in cc)
        | false ↦ λ not.
            let old : o n ≡ Some j = (let e : cond (has_name n p) None (o n) ≡ Some j = sym (is n) ∙ owns in rw not at e) in
            let there = i.found n j old in
            inl (
              λ same.
                  let here : slice_get s j ≡ Some (Some p) = subst (λ m. slice_get s m ≡ Some (Some p)) (sym same) at in
                  let who : there.0 ≡ p = same_one _ _ (same_one _ _ (sym there.1 ∙ here)) in
                  let its : has_name n p ≡ true = subst (λ q. has_name n q ≡ true) who there.2 in
                  absurd (let e : ◌≡◌ {A = Bool} false true = sym not ∙ its in cc),
              old,
            )
      ] refl;
}

pub taken_out : (o new : Owner) (h : Homes) (s : Places) (k : ℕ) (p : Peer) → IsIndex o h s → standing s k ≡ Some p → ((n : Name) → new n ≡ cond (has_name n p) None (o n)) → IsIndex new h (slice_set s k None)
taken_out o new h s k p i stands is =
    let at = standing_at s k p stands in
    put_at o new h h s k (Some p) None i at (gone o new h s k p i at is) (λ q none. absurd (let e : ◌≡◌ None (Some q) = none in cc)) (λ key j home. home) (λ q key none has. absurd (let e : ◌≡◌ None (Some q) = none in cc))

-- One is changed and keeps its names.
pub kept_names : (o : Owner) (h more : Homes) (s : Places) (k : ℕ) (p q : Peer) → IsIndex o h s → standing s k ≡ Some p → q.serial ≡ p.serial → ((n : Name) → has_name n q ≡ has_name n p)
    → ((key j : ℕ) → slice_get h key ≡ Some j → slice_get more key ≡ Some j) → ((key : ℕ) → has_key key q ≡ true → slice_get more key ≡ Some k) → IsIndex o more (slice_set s k (Some q))
kept_names o h more s k p q i stands serial names kept home =
    let at = standing_at s k p stands in
    let re : Reowned o o k (Some p) (Some q) = record {
      mine = λ n x is has. let same : q ≡ x = same_one q x is in i.known n k p at (sym (names n) ∙ subst (λ y. has_name n y ≡ true) (sym same) has);
      others = λ n j other owns. owns;
      back = λ n j owns. elim (cases_eq j k) [
        | inl same ↦
            let there = i.found n j owns in
            let here : slice_get s j ≡ Some (Some p) = subst (λ m. slice_get s m ≡ Some (Some p)) (sym same) at in
            let who : there.0 ≡ p = same_one _ _ (same_one _ _ (sym there.1 ∙ here)) in
            inr (q, same, refl, names n ∙ subst (λ y. has_name n y ≡ true) who there.2)
        | inr other ↦ inl (other, owns)
      ];
    } in
    put_at o o h more s k (Some p) (Some q) i at re (λ x is. let same : q ≡ x = same_one q x is in ap (λ y. y.serial) (sym same) ∙ serial ∙ i.serial k p at) kept
    (λ x key is has. let same : q ≡ x = same_one q x is in home key (subst (λ y. has_key key y ≡ true) (sym same) has))

-- One is changed and has the same keys and names.
pub kept_all : (o : Owner) (h : Homes) (s : Places) (k : ℕ) (p q : Peer) → IsIndex o h s → standing s k ≡ Some p → q.serial ≡ p.serial → ((n : Name) → has_name n q ≡ has_name n p) → q.slots ≡ p.slots → IsIndex o h (slice_set s k (Some q))
kept_all o h s k p q i stands serial names slots =
    kept_names o h h s k p q i stands serial names (λ key j home. home)
    (λ key has. i.home k key p (standing_at s k p stands) (subst (λ x. is_some (by_key key x) ≡ true) slots has))

-- One is changed and may have other names, which nobody else has.
pub renamed : (o mid new : Owner) (h : Homes) (s : Places) (k : ℕ) (p q : Peer) → IsIndex o h s → standing s k ≡ Some p → q.serial ≡ p.serial → q.slots ≡ p.slots
    → ((n : Name) → has_name n q ≡ true → (o n ≡ None) ⊎ (has_name n p ≡ true)) → ((n : Name) → mid n ≡ cond (has_name n p) None (o n)) → ((n : Name) → new n ≡ cond (has_name n q) (Some q.serial) (mid n)) → IsIndex new h (slice_set s k (Some q))
renamed o mid new h s k p q i stands serial slots nobody out into =
    let at = standing_at s k p stands in
    let own : q.serial ≡ k = serial ∙ i.serial k p at in
    let went : Reowned o mid k (Some p) None = gone o mid h s k p i at out in
    let re : Reowned o new k (Some p) (Some q) = record {
      mine = λ n x is has. let same : q ≡ x = same_one q x is in let its : has_name n q ≡ true = subst (λ y. has_name n y ≡ true) (sym same) has in into n ∙ rw (its, own) refl;
      others = λ n j other owns.
          elim (has_name n q) as (λ b. has_name n q ≡ b → new n ≡ Some j) [
            | true ↦ λ its. elim (nobody n its) [
              | inl none ↦ absurd (let e : ◌≡◌ None (Some j) = sym none ∙ owns in cc)
              | inr old ↦ absurd (other (same_one j k (sym owns ∙ i.known n k p at old)))
            ]
            | false ↦ λ not. into n ∙ rw not (went.others n j other owns)
          ] refl;
      back = λ n j owns.
          elim (has_name n q) as (λ b. has_name n q ≡ b → ((j ≡ k → ⊥) × (o n ≡ Some j)) ⊎ ((x : Peer) × (j ≡ k) × (Some q ≡ Some x) × (has_name n x ≡ true))) [
            | true ↦ λ its. inr (q, (let e : cond (has_name n q) (Some q.serial) (mid n) ≡ Some j = sym (into n) ∙ owns in let f : Some q.serial ≡ Some j = (rw its at e) in sym (same_one _ _ f) ∙ own), refl, its)
            | false ↦ λ not.
                let e : cond (has_name n q) (Some q.serial) (mid n) ≡ Some j = sym (into n) ∙ owns in
                let f : mid n ≡ Some j = (rw not at e) in
                elim (went.back n j f) [ inl old ↦ inl old | inr nobody ↦ absurd (let e : ◌≡◌ None (Some nobody.0) = nobody.2 in cc) ]
          ] refl;
    } in
    put_at o new h h s k (Some p) (Some q) i at re (λ x is. let same : q ≡ x = same_one q x is in ap (λ y. y.serial) (sym same) ∙ own) (λ key j home. home)
    (λ x key is has. let same : q ≡ x = same_one q x is in let its : has_key key q ≡ true = subst (λ y. has_key key y ≡ true) (sym same) has in i.home k key p at (subst (λ z. is_some (by_key key z) ≡ true) slots its))

-- A peer that moved has its old names, or is at a remote that was free.
pub moved_free : (o : Owner) (h : Homes) (s : Places) → IsIndex o h s → (p q : Peer) (t : Transport) → is_some (by_remote t (present s)) ≡ false → q.id ≡ p.id → q.vpn4 ≡ p.vpn4 → q.vpn6 ≡ p.vpn6 → q.remote ≡ t → (n : Name) → has_name n q ≡ true → (o n ≡ None) ⊎ (has_name n p ≡ true)
moved_free o h s i p q t none id vpn4 vpn6 remote (Id m) its = inr (subst (λ x. has_name (Id m) (record p { id = x }) ≡ true) id its)
moved_free o h s i p q t none id vpn4 vpn6 remote (Vpn (V4 a)) its = inr (subst (λ x. has_name (Vpn (V4 a)) (record p { vpn4 = x }) ≡ true) vpn4 its)
moved_free o h s i p q t none id vpn4 vpn6 remote (Vpn (V6 a)) its = inr (subst (λ x. has_name (Vpn (V6 a)) (record p { vpn6 = x }) ≡ true) vpn6 its)
moved_free o h s i p q t none id vpn4 vpn6 remote (Remote g m) its =
    inl (free o h s i (Remote g m) (remote_free t (present s) none g m (subst (λ x. has_name (Remote g m) (record p { remote = x }) ≡ true) remote its)))

-- ---- keys

or_right : (a b : Bool) → b ≡ true → (a || b) ≡ true
or_right true b is = refl
or_right false b is = is

or_left : (a b : Bool) → a ≡ true → (a || b) ≡ true
or_left true b is = refl
or_left false b is = absurd (let e : ◌≡◌ {A = Bool} false true = is in cc)

or_false : (a : Bool) → (a || false) ≡ true → a ≡ true
or_false true is = refl
or_false false is = absurd (let e : ◌≡◌ {A = Bool} false true = is in cc)

pub same_names : (p q : Peer) → q.id ≡ p.id → q.vpn4 ≡ p.vpn4 → q.vpn6 ≡ p.vpn6 → q.remote ≡ p.remote → (n : Name) → has_name n q ≡ has_name n p
same_names p q id vpn4 vpn6 remote (Id m) = ap (λ x. has_name (Id m) (record p { id = x })) id
same_names p q id vpn4 vpn6 remote (Vpn (V4 a)) = ap (λ x. has_name (Vpn (V4 a)) (record p { vpn4 = x })) vpn4
same_names p q id vpn4 vpn6 remote (Vpn (V6 a)) = ap (λ x. has_name (Vpn (V6 a)) (record p { vpn6 = x })) vpn6
same_names p q id vpn4 vpn6 remote (Remote g m) = ap (λ x. has_name (Remote g m) (record p { remote = x })) remote

key_first : (key : ℕ) (a b : Option Key) → is_some (find (λ k. k.serial == key) (key_if_any a ++ key_if_any b)) ≡ (is_key key a || is_key key b)
key_first key None None = refl
key_first key None (Some b) = elim (b.serial == key) as (λ t. is_some (if t then Some b else None) ≡ t) [ true ↦ refl | false ↦ refl ]
key_first key (Some a) None = elim (a.serial == key) as (λ t. is_some (if t then Some a else None) ≡ (t || false)) [ true ↦ refl | false ↦ refl ]
key_first key (Some a) (Some b) = elim (a.serial == key) as (λ t. is_some (if t then Some a else (if b.serial == key then Some b else None)) ≡ (t || (b.serial == key))) [
  | true ↦ refl
  | false ↦ elim (b.serial == key) as (λ t. is_some (if t then Some b else None) ≡ t) [ true ↦ refl | false ↦ refl ]
]

-- A key of a peer that got one is that one or was there.
pub key_got : (key : ℕ) (slot : Slot) (k : Key) (s : Slots) → is_some (by_key key (with_slot slot (Some k) s)) ≡ true → (k.serial ≡ key) ⊎ (is_some (by_key key s) ≡ true)
key_got key Primary k s has =
    let e : ((k.serial == key) || is_key key s.secondary) ≡ true = sym (key_first key (Some k) s.secondary) ∙ has in
    elim (or_cases (k.serial == key) (is_key key s.secondary) e) [
      | inl new ↦ inl (grind (arith, nat_tests))
      | inr old ↦ inr (key_first key s.primary s.secondary ∙ or_right (is_key key s.primary) (is_key key s.secondary) old)
    ]
key_got key Secondary k s has =
    let e : (is_key key s.primary || (k.serial == key)) ≡ true = sym (key_first key s.primary (Some k)) ∙ has in
    elim (or_cases (is_key key s.primary) (k.serial == key) e) [
      | inl old ↦ inr (key_first key s.primary s.secondary ∙ or_left (is_key key s.primary) (is_key key s.secondary) old)
      | inr new ↦ inl (grind (arith, nat_tests))
    ]

-- A key of a peer that lost one was there.
pub key_left : (key gone : ℕ) (s : Slots) → is_some (by_key key (without_key gone s)) ≡ true → is_some (by_key key s) ≡ true
key_left key gone s has =
    elim (is_key gone s.primary) as (λ b. is_some (by_key key (if b then record s { primary = None } else (if is_key gone s.secondary then record s { secondary = None } else s))) ≡ true → is_some (by_key key s) ≡ true) [
      | true ↦ λ has. key_first key s.primary s.secondary ∙ or_right (is_key key s.primary) (is_key key s.secondary) (sym (key_first key None s.secondary) ∙ has)
      | false ↦ elim (is_key gone s.secondary) as (λ b. is_some (by_key key (if b then record s { secondary = None } else s)) ≡ true → is_some (by_key key s) ≡ true) [
        | true ↦ λ has. key_first key s.primary s.secondary ∙ or_left (is_key key s.primary) (is_key key s.secondary) (let e : (is_key key s.primary || false) ≡ true = sym (key_first key s.primary None) ∙ has in or_false (is_key key s.primary) e)
        | false ↦ λ has. has
      ]
    ] has

-- One got a key that was made for it.
pub got_key : (o : Owner) (h : Homes) (s : Places) (k : ℕ) (p q : Peer) (slot : Slot) (key : Key) → IsIndex o h s → standing s k ≡ Some p → q ≡ with_key slot key p → key.serial ≡ length h → IsIndex o (h ++ k ∷ []) (slice_set s k (Some q))
got_key o h s k p q slot key i stands is fresh = rw is
    (kept_names o h (h ++ k ∷ []) s k p (with_key slot key p) i stands refl (same_names p _ refl refl refl refl) (λ x j home. get_more h k j x home)
    (λ x has. elim (key_got x slot key p.slots has) [
      | inl new ↦ let last : slice_get (h ++ k ∷ []) (length h) ≡ Some k = get_last h k in subst (λ m. slice_get (h ++ k ∷ []) m ≡ Some k) (sym fresh ∙ new) last
      | inr old ↦ get_more h k k x (i.home k x p (standing_at s k p stands) old)
    ]))

-- One lost a key.
pub lost_key : (o : Owner) (h : Homes) (s : Places) (k : ℕ) (p q : Peer) (key : ℕ) → IsIndex o h s → standing s k ≡ Some p → q ≡ record p { slots = without_key key p.slots } → IsIndex o h (slice_set s k (Some q))
lost_key o h s k p q key i stands is = rw is
    (kept_names o h h s k p (record p { slots = without_key key p.slots }) i stands refl (same_names p _ refl refl refl refl) (λ x j home. home)
    (λ x has. i.home k x p (standing_at s k p stands) (key_left x key p.slots has)))

-- ---- what a datagram leaves as it was

pub record Alike (p q : Peer) : Type 0 where
  pub serial : q.serial ≡ p.serial
  pub names : (n : Name) → has_name n q ≡ has_name n p
  pub slots : q.slots ≡ p.slots

pub sent_alike : (now inner outer : ℕ) (ping : Bool) (p : Peer) → Alike p (sent_peer now inner outer ping p)
sent_alike now inner outer ping p = record { serial = refl; names = same_names p (sent_peer now inner outer ping p) refl refl refl refl; slots = refl }

pub settled_alike : (now inner outer : ℕ) (s : Settled) (p : Peer) → Alike p (settled_peer s inner (received_peer now outer p))
settled_alike now inner outer settled.Deliver p = record { serial = refl; names = same_names p _ refl refl refl refl; slots = refl }
settled_alike now inner outer settled.NotOwner p = record { serial = refl; names = same_names p _ refl refl refl refl; slots = refl }
settled_alike now inner outer settled.Ping p = record { serial = refl; names = same_names p _ refl refl refl refl; slots = refl }
settled_alike now inner outer settled.NotIp p = record { serial = refl; names = same_names p _ refl refl refl refl; slots = refl }

pub alike_kept : (o : Owner) (h : Homes) (s : Places) (k : ℕ) (p q : Peer) → IsIndex o h s → standing s k ≡ Some p → Alike p q → IsIndex o h (slice_set s k (Some q))
alike_kept o h s k p q i stands a = kept_all o h s k p q i stands a.serial a.names a.slots

-- ---- what commands do to slots

-- One has other slots, and no key that it hadn't.
pub no_more_keys : (o : Owner) (h : Homes) (s : Places) (k : ℕ) (p q : Peer) (change : Slots → Slots) → IsIndex o h s → standing s k ≡ Some p → q ≡ with_slots change p → ((key : ℕ) → is_some (by_key key (change p.slots)) ≡ true → is_some (by_key key p.slots) ≡ true) → IsIndex o h (slice_set s k (Some q))
no_more_keys o h s k p q change i stands is fewer = rw is
    (kept_names o h h s k p (with_slots change p) i stands refl (same_names p _ refl refl refl refl) (λ x j home. home)
    (λ x has. i.home k x p (standing_at s k p stands) (fewer x has)))

-- The keys are the same after a swap.
pub key_swapped : (s : Slots) (key : ℕ) → is_some (by_key key (swapped s)) ≡ true → is_some (by_key key s) ≡ true
key_swapped s key has =
    let e : (is_key key s.secondary || is_key key s.primary) ≡ true = sym (key_first key s.secondary s.primary) ∙ has in
    key_first key s.primary s.secondary ∙ elim (or_cases (is_key key s.secondary) (is_key key s.primary) e) [
      | inl second ↦ or_right (is_key key s.primary) (is_key key s.secondary) second
      | inr first ↦ or_left (is_key key s.primary) (is_key key s.secondary) first
    ]

-- A key that is left where a slot became empty was there.
pub key_of_emptied : (slot : Slot) (s : Slots) (key : ℕ) → is_some (by_key key (with_slot slot None s)) ≡ true → is_some (by_key key s) ≡ true
key_of_emptied Primary s key has = key_first key s.primary s.secondary ∙ or_right (is_key key s.primary) (is_key key s.secondary) (sym (key_first key None s.secondary) ∙ has)
key_of_emptied Secondary s key has = key_first key s.primary s.secondary ∙ or_left (is_key key s.primary) (is_key key s.secondary) (let e : (is_key key s.primary || false) ≡ true = sym (key_first key s.primary None) ∙ has in or_false (is_key key s.primary) e)

-- ---- who has an id is changed where he stands

-- The one with an id is changed.
pub id_changed : (o : Owner) (h : Homes) (s now : Places) → IsIndex o h s → (id : PeerId) (k : ℕ) (p q : Peer) (change : Peer → Peer) → o (Id id.number) ≡ Some k → standing s k ≡ Some p → now ≡ slice_set s k (Some q) → q ≡ change p → present now ≡ change_first (has_id id) change (present s)
id_changed o h s now i id k p q change owns stands is by =
    ap present is ∙ ap (λ x. present (slice_set s k (Some x))) by ∙ sym ((named_at o h s i (Id id.number) k p owns (standing_at s k p stands)).changed change)

-- Nobody has the id.
pub id_nowhere : (o : Owner) (h : Homes) (s : Places) → IsIndex o h s → (id : PeerId) (change : Peer → Peer) → o (Id id.number) ≡ None → present s ≡ change_first (has_id id) change (present s)
id_nowhere o h s i id change none = sym ((named_nowhere o h s i (Id id.number) none).same change)
