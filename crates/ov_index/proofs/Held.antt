-- What the maps of an index say of its places, and that they go on saying it.
use Rattle.std.proofs.Common.{suc, ◌+◌, ℕ, ◌≡◌, ◌∙◌, refl, ap, sym, subst, List, [], ◌∷◌, ◌++◌, length, Bool, true, false, cond, if◌then◌else◌, ◌==◌, ◌&&◌, ◌||◌, arith, inl, inr, ◌⊎◌}
use Rattle.std.specs.Prelude.{Option, Some, None, find, slice_get, slice_set, is_some}
use Rattle.std.specs.List.{list_any}
use Rattle.std.proofs.lemmas.Bool.{cases_eq}
use Rattle.std.proofs.lemmas.Bool.Decides.{nat_tests}
use Rattle.ov_base.specs.declared.address.Addr.{Addr}
use Rattle.ov_base.specs.declared.address.Addr.TheVariants as addr
use Rattle.ov_base.specs.declared.address.Transport.{Transport}
use Rattle.ov_base.specs.Address.{same_addr, same_transport}
use Rattle.std.specs.Cmp.{first_so, second_so}
use Rattle.std.proofs.lemmas.Slice.Eq.{bytes_eq-Decides}
use Rattle.ov_model.specs.declared.command.Attrs.{Attrs}
use Rattle.ov_model.specs.Tables.{Peer, has_serial, has_id, by_id, by_remote, same_vpn, shares_vpn}
use Rattle.ov_model.specs.declared.reply.Settled.{Settled}
use Rattle.ov_model.specs.Tables.{change_first, without_first}
use Rattle.ov_model.specs.Step.{has_key, peer_of, received_peer, settled_peer, floated}
use Rattle.ov_index.specs.declared.name.Host.{Host}
use Rattle.ov_index.specs.declared.name.Host.TheVariants.{V4, V6}
use Rattle.ov_index.specs.declared.name.Name.{Name}
use Rattle.ov_index.specs.declared.name.Name.TheVariants.{Id, Vpn, Remote}
use Rattle.ov_index.specs.Names.{host_of, remote_name, same_host, has_name}
use Rattle.ov_index.specs.Index.{present, standing, IsIndex}
use Rattle.ov_index.proofs.Slots.{get_set_same, get_set_other, get_more, get_last, get_cases, At, at_slot, Nowhere, nowhere, standing_at, standing_is}

abbrev pub Owner : Type 0
Owner = Name → Option ℕ

abbrev pub Homes : Type 0
Homes = List ℕ

abbrev pub Places : Type 0
Places = List (Option Peer)

some_same : {X : Type 0} (x y : X) → Some x ≡ Some y → x ≡ y
some_same x y is = cc

-- ---- looking up

pub named_at : (o : Owner) (h : Homes) (s : Places) → IsIndex o h s → (n : Name) (k : ℕ) (p : Peer) → o n ≡ Some k → slice_get s k ≡ Some (Some p) → At (has_name n) s k p
named_at o h s i n k p owns at =
    let there = i.found n k owns in
    let same : there.0 ≡ p = some_same _ _ (some_same _ _ (sym there.1 ∙ at)) in
    at_slot (has_name n) s k p at (subst (λ q. has_name n q ≡ true) same there.2) (λ j q is its. some_same j k (sym (i.known n j q is its) ∙ owns))

pub named_nowhere : (o : Owner) (h : Homes) (s : Places) → IsIndex o h s → (n : Name) → o n ≡ None → Nowhere (has_name n) s
named_nowhere o h s i n none = nowhere (has_name n) s (λ j q is its. let e : ◌≡◌ (Some j) None = sym (i.known n j q is its) ∙ none in cc)

-- Who owns a name stands at a place.
pub named_there : (o : Owner) (h : Homes) (s : Places) → IsIndex o h s → (n : Name) (k : ℕ) → o n ≡ Some k → (slice_get s k ≡ None → ⊥) × (slice_get s k ≡ Some None → ⊥)
named_there o h s i n k owns =
    let there = i.found n k owns in
    (λ past. let e : ◌≡◌ None (Some (Some there.0)) = sym past ∙ there.1 in cc, λ hole. let e : ◌≡◌ (Some None) (Some (Some there.0)) = sym hole ∙ there.1 in cc)

pub serial_at : (o : Owner) (h : Homes) (s : Places) → IsIndex o h s → (k : ℕ) (p : Peer) → slice_get s k ≡ Some (Some p) → At (has_serial k) s k p
serial_at o h s i k p at =
    let own : p.serial ≡ k = i.serial k p at in
    at_slot (has_serial k) s k p at (rw own (grind (arith, nat_tests))) (λ j q is its. let its : (q.serial == k) ≡ true = its in let mine : q.serial ≡ j = i.serial j q is in grind (arith, nat_tests))

pub serial_nowhere : (o : Owner) (h : Homes) (s : Places) → IsIndex o h s → (k : ℕ) → ((p : Peer) → slice_get s k ≡ Some (Some p) → ⊥) → Nowhere (has_serial k) s
serial_nowhere o h s i k none = nowhere (has_serial k) s (λ j q is its.
    let its : (q.serial == k) ≡ true = its in
    let mine : q.serial ≡ j = i.serial j q is in
    let same : j ≡ k = grind (arith, nat_tests) in
    none q (subst (λ m. slice_get s m ≡ Some (Some q)) same is))

pub key_at : (o : Owner) (h : Homes) (s : Places) → IsIndex o h s → (key k : ℕ) (p : Peer) → slice_get h key ≡ Some k → slice_get s k ≡ Some (Some p) → has_key key p ≡ true → At (has_key key) s k p
key_at o h s i key k p made at has = at_slot (has_key key) s k p at has (λ j q is its. some_same j k (sym (i.home j key q is its) ∙ made))

pub key_nowhere : (o : Owner) (h : Homes) (s : Places) → IsIndex o h s → (key : ℕ) → ((k : ℕ) (p : Peer) → slice_get h key ≡ Some k → slice_get s k ≡ Some (Some p) → has_key key p ≡ true → ⊥) → Nowhere (has_key key) s
key_nowhere o h s i key none = nowhere (has_key key) s (λ j q is its. none j q (i.home j key q is its) is its)

-- ---- names by what they name

host_same : (a b : Addr) → same_host (host_of a) (host_of b) ≡ same_addr a b
host_same (addr.V4 a) (addr.V4 b) = refl
host_same (addr.V4 a) (addr.V6 b) = refl
host_same (addr.V6 a) (addr.V4 b) = refl
host_same (addr.V6 a) (addr.V6 b) = refl

pub remote_same : (t : Transport) → has_name (remote_name t) ≡ (λ p. same_transport p.remote t)
remote_same t = λ i p. host_same p.remote.addr t.addr i && (p.remote.port == t.port)

-- ---- keeping it

-- The owner of a name at one place is who stands there, and other owners stay.
pub record Reowned (o new : Owner) (k : ℕ) (was now : Option Peer) : Type 0 where
  pub mine : (n : Name) (p : Peer) → now ≡ Some p → has_name n p ≡ true → new n ≡ Some k
  pub others : (n : Name) (j : ℕ) → (j ≡ k → ⊥) → o n ≡ Some j → new n ≡ Some j
  pub back : (n : Name) (j : ℕ) → new n ≡ Some j → ((j ≡ k → ⊥) × (o n ≡ Some j)) ⊎ ((p : Peer) × (j ≡ k) × (now ≡ Some p) × (has_name n p ≡ true))

pub put_at : (o new : Owner) (h more : Homes) (s : Places) (k : ℕ) (was now : Option Peer) → IsIndex o h s → slice_get s k ≡ Some was → Reowned o new k was now
    → ((p : Peer) → now ≡ Some p → p.serial ≡ k) → ((key j : ℕ) → slice_get h key ≡ Some j → slice_get more key ≡ Some j)
    → ((p : Peer) (key : ℕ) → now ≡ Some p → has_key key p ≡ true → slice_get more key ≡ Some k) → IsIndex new more (slice_set s k now)
put_at o new h more s k was now i at re serial kept home =
    let here : slice_get (slice_set s k now) k ≡ Some now = get_set_same s k now was at in
    let split : (j : ℕ) (p : Peer) → slice_get (slice_set s k now) j ≡ Some (Some p) → ((j ≡ k) × (now ≡ Some p)) ⊎ ((j ≡ k → ⊥) × (slice_get s j ≡ Some (Some p))) = λ j p is.
    elim (cases_eq j k) [
      | inl same ↦ inl (same, some_same _ _ (sym here ∙ subst (λ m. slice_get (slice_set s k now) m ≡ Some (Some p)) same is))
      | inr other ↦ inr (other, sym (get_set_other s k j now other) ∙ is)
    ] in
    record {
      serial = λ j p is. elim (split j p is) [ inl own ↦ serial p own.1 ∙ sym own.0 | inr old ↦ i.serial j p old.1 ];
      known = λ n j p is has. elim (split j p is) [ inl own ↦ re.mine n p own.1 has ∙ ap Some (sym own.0) | inr old ↦ re.others n j old.0 (i.known n j p old.1 has) ];
      found = λ n j owns. elim (re.back n j owns) [
        | inl old ↦ let there = i.found n j old.1 in (there.0, get_set_other s k j now old.0 ∙ there.1, there.2)
        | inr own ↦ (own.0, ap (λ m. slice_get (slice_set s k now) m) own.1 ∙ here ∙ ap Some own.2, own.3)
      ];
      home = λ j key p is has. elim (split j p is) [ inl own ↦ home p key own.1 has ∙ ap Some (sym own.0) | inr old ↦ kept key j (i.home j key p old.1 has) ];
    }

-- A peer joins at the end.
pub joined : (o new : Owner) (h : Homes) (s : Places) (p : Peer) → IsIndex o h s → p.serial ≡ length s → ((n : Name) → has_name n p ≡ true → o n ≡ None) → ((key : ℕ) → has_key key p ≡ false)
    → ((n : Name) → new n ≡ cond (has_name n p) (Some p.serial) (o n)) → IsIndex new h (s ++ Some p ∷ [])
joined o new h s p i own free bare is =
    let last : slice_get (s ++ Some p ∷ []) (length s) ≡ Some (Some p) = get_last s (Some p) in
    record {
      serial = λ j q at. elim (get_cases s (Some p) (Some q) j at) [ inl old ↦ i.serial j q old | inr here ↦ let same : p ≡ q = some_same _ _ here.1 in sym (ap (λ x. x.serial) same) ∙ own ∙ sym here.0 ];
      known = λ n j q at has. elim (get_cases s (Some p) (Some q) j at) [
        | inl old ↦
            elim (has_name n p) as (λ b. has_name n p ≡ b → new n ≡ Some j) [
              | true ↦ λ its. let e : ◌≡◌ None (Some j) = sym (free n its) ∙ i.known n j q old has in cc
              | false ↦ λ not. is n ∙ rw not (i.known n j q old has)
            ] refl
        | inr here ↦
            let same : p ≡ q = some_same _ _ here.1 in
            let its : has_name n p ≡ true = subst (λ x. has_name n x ≡ true) (sym same) has in
            is n ∙ rw (its, here.0, own) refl
      ];
      found = λ n j owns.
          elim (has_name n p) as (λ b. has_name n p ≡ b → (q : Peer) × (slice_get (s ++ Some p ∷ []) j ≡ Some (Some q)) × (has_name n q ≡ true)) [
            | true ↦ λ its.
                let e : Some p.serial ≡ Some j = (let e : cond (has_name n p) (Some p.serial) (o n) ≡ Some j = sym (is n) ∙ owns in rw its at e) in
                let same : length s ≡ j = sym own ∙ some_same _ _ e in
                (p, subst (λ m. slice_get (s ++ Some p ∷ []) m ≡ Some (Some p)) same last, its)
            | false ↦ λ not.
                let old : o n ≡ Some j = (let e : cond (has_name n p) (Some p.serial) (o n) ≡ Some j = sym (is n) ∙ owns in rw not at e) in
                let there = i.found n j old in
                (there.0, get_more s (Some p) (Some there.0) j there.1, there.2)
          ] refl;
      home = λ j key q at has. elim (get_cases s (Some p) (Some q) j at) [
        | inl old ↦ i.home j key q old has
        | inr here ↦
            let same : p ≡ q = some_same _ _ here.1 in
            let its : has_key key p ≡ true = subst (λ x. has_key key x ≡ true) (sym same) has in
            let no : ◌≡◌ {A = Bool} false true = sym (bare key) ∙ its in absurd (let e : ◌≡◌ {A = Bool} false true = no in cc)
      ];
    }

-- ---- who is found

-- Who is found by a name is who stands where the name leads.
pub named : (o : Owner) (h : Homes) (s : Places) → IsIndex o h s → (n : Name) (k : ℕ) → o n ≡ Some k → find (has_name n) (present s) ≡ standing s k
named o h s i n k owns =
    let there = i.found n k owns in
    (named_at o h s i n k there.0 owns there.1).found ∙ sym (standing_is s k there.0 there.1)

pub named_none : (o : Owner) (h : Homes) (s : Places) → IsIndex o h s → (n : Name) → o n ≡ None → find (has_name n) (present s) ≡ None
named_none o h s i n none = (named_nowhere o h s i n none).found

pub nobody : (s : Places) (k : ℕ) → standing s k ≡ None → (p : Peer) → slice_get s k ≡ Some (Some p) → ⊥
nobody s k none p at = let e : ◌≡◌ None (Some p) = sym none ∙ standing_is s k p at in absurd (let e : ◌≡◌ None (Some p) = e in cc)

pub by_serial_is : (o : Owner) (h : Homes) (s : Places) → IsIndex o h s → (k : ℕ) → find (has_serial k) (present s) ≡ standing s k
by_serial_is o h s i k =
    elim (standing s k) as (λ x. standing s k ≡ x → find (has_serial k) (present s) ≡ x) [
      | None ↦ λ none. (serial_nowhere o h s i k (nobody s k none)).found
      | Some p ↦ λ some. (serial_at o h s i k p (standing_at s k p some)).found
    ] refl

pub any_is : {X : Type 0} (fits : X → Bool) (xs : List X) → list_any fits xs ≡ is_some (find fits xs)
any_is fits [] = refl
any_is fits (x ∷ xs) = elim (fits x) as (λ b. (b || list_any fits xs) ≡ is_some (if b then Some x else find fits xs)) [ true ↦ refl | false ↦ any_is fits xs ]

pub shares_is : (p q : Peer → Bool) (ps : List Peer) → list_any (λ x. p x || q x) ps ≡ (list_any p ps || list_any q ps)
shares_is p q [] = refl
shares_is p q (x ∷ xs) =
    let later : list_any (λ x. p x || q x) xs ≡ (list_any p xs || list_any q xs) = shares_is p q xs in
    elim (p x) as (λ b. (b || q x || list_any (λ x. p x || q x) xs) ≡ ((b || list_any p xs) || (q x || list_any q xs))) [
      | true ↦ refl
      | false ↦ elim (q x) as (λ b. (b || list_any (λ x. p x || q x) xs) ≡ (list_any p xs || (b || list_any q xs))) [
        | true ↦ elim (list_any p xs) as (λ c. true ≡ (c || true)) [ true ↦ refl | false ↦ refl ]
        | false ↦ later
      ]
    ]

pub by_key_none : (o : Owner) (h : Homes) (s : Places) → IsIndex o h s → (key : ℕ) → slice_get h key ≡ None → find (has_key key) (present s) ≡ None
by_key_none o h s i key none = (key_nowhere o h s i key (λ k p made at has. let e : ◌≡◌ None (Some k) = sym none ∙ made in absurd (let e : ◌≡◌ None (Some k) = e in cc))).found

pub by_key_not : (o : Owner) (h : Homes) (s : Places) → IsIndex o h s → (key k : ℕ) → slice_get h key ≡ Some k → ((p : Peer) → standing s k ≡ Some p → has_key key p ≡ false) → find (has_key key) (present s) ≡ None
by_key_not o h s i key k made none = (key_nowhere o h s i key (λ j p home at has.
    let same : k ≡ j = some_same k j (sym made ∙ home) in
    let its : has_key key p ≡ false = none p (standing_is s k p (subst (λ m. slice_get s m ≡ Some (Some p)) (sym same) at)) in
    absurd (let e : ◌≡◌ {A = Bool} false true = sym its ∙ has in cc))).found

pub by_key_is : (o : Owner) (h : Homes) (s : Places) → IsIndex o h s → (key k : ℕ) (p : Peer) → slice_get h key ≡ Some k → standing s k ≡ Some p → has_key key p ≡ true → find (has_key key) (present s) ≡ Some p
by_key_is o h s i key k p made at has = (key_at o h s i key k p made (standing_at s k p at) has).found

-- ---- names that are free

pub free : (o : Owner) (h : Homes) (s : Places) → IsIndex o h s → (n : Name) → list_any (has_name n) (present s) ≡ false → o n ≡ None
free o h s i n none =
    elim (o n) as (λ x. o n ≡ x → x ≡ None) [
      | None ↦ λ is. refl
      | Some k ↦ λ owns.
          let there = i.found n k owns in
          absurd (let e : ◌≡◌ {A = Bool} false true = sym none ∙ (named_at o h s i n k there.0 owns there.1).any in cc)
    ] refl

host_is : (a : Addr) (b : Host) → same_host (host_of a) b ≡ true → host_of a ≡ b
host_is (addr.V4 a) (V4 b) is = ap V4 ((bytes_eq-Decides a b).0 is)
host_is (addr.V4 a) (V6 b) is = absurd (let e : ◌≡◌ {A = Bool} false true = is in cc)
host_is (addr.V6 a) (V4 b) is = absurd (let e : ◌≡◌ {A = Bool} false true = is in cc)
host_is (addr.V6 a) (V6 b) is = ap V6 ((bytes_eq-Decides a b).0 is)

pub vpn_free : (its : Peer → Option (List ℕ)) (v : Option (List ℕ)) (x : List ℕ) (live : List Peer) → list_any (λ q. same_vpn (its q) v) live ≡ false → same_vpn v (Some x) ≡ true → list_any (λ q. same_vpn (its q) (Some x)) live ≡ false
vpn_free its None x live none is = absurd (let e : ◌≡◌ {A = Bool} false true = is in cc)
vpn_free its (Some y) x live none is = subst (λ z. list_any (λ q. same_vpn (its q) (Some z)) live ≡ false) ((bytes_eq-Decides y x).0 is) none

pub neither : (a b : Bool) → (a || b) ≡ false → (a ≡ false) × (b ≡ false)
neither true b is = absurd (let e : ◌≡◌ {A = Bool} true false = is in cc)
neither false b is = (refl, is)

pub remote_free : (t : Transport) (live : List Peer) → is_some (by_remote t live) ≡ false → (g : Host) (m : ℕ) → (same_host (host_of t.addr) g && (t.port == m)) ≡ true → list_any (has_name (Remote g m)) live ≡ false
remote_free t live none g m its =
    let host : host_of t.addr ≡ g = host_is t.addr g (first_so _ _ its) in
    let test : (t.port == m) ≡ true = second_so _ _ its in
    let port : t.port ≡ m = grind (arith, nat_tests) in
    let mine : list_any (has_name (remote_name t)) live ≡ false = rw (remote_same t) (any_is (λ p. same_transport p.remote t) live ∙ none) in
    subst (λ k. list_any (has_name (Remote g k)) live ≡ false) port (subst (λ x. list_any (has_name (Remote x t.port)) live ≡ false) host mine)

pub name_free : (serial now : ℕ) (a : Attrs) (t : Transport) (live : List Peer) → is_some (by_id a.id live) ≡ false → list_any (shares_vpn a) live ≡ false → is_some (by_remote t live) ≡ false → (n : Name) → has_name n (peer_of serial now a t) ≡ true → list_any (has_name n) live ≡ false
name_free serial now a t live id vpn remote (Id m) its =
    let test : (a.id.number == m) ≡ true = its in
    let same : a.id.number ≡ m = grind (arith, nat_tests) in
    subst (λ k. list_any (λ p. p.id.number == k) live ≡ false) same (any_is (has_id a.id) live ∙ id)
name_free serial now a t live id vpn remote (Vpn (V4 x)) its =
    let both = neither (list_any (λ p. same_vpn p.vpn4 a.vpn4) live) (list_any (λ p. same_vpn p.vpn6 a.vpn6) live) (sym (shares_is (λ p. same_vpn p.vpn4 a.vpn4) (λ p. same_vpn p.vpn6 a.vpn6) live) ∙ vpn) in
    vpn_free (λ p. p.vpn4) a.vpn4 x live both.0 its
name_free serial now a t live id vpn remote (Vpn (V6 x)) its =
    let both = neither (list_any (λ p. same_vpn p.vpn4 a.vpn4) live) (list_any (λ p. same_vpn p.vpn6 a.vpn6) live) (sym (shares_is (λ p. same_vpn p.vpn4 a.vpn4) (λ p. same_vpn p.vpn6 a.vpn6) live) ∙ vpn) in
    vpn_free (λ p. p.vpn6) a.vpn6 x live both.1 its
name_free serial now a t live id vpn remote (Remote g m) its = remote_free t live remote g m its

pub same_index : (o new : Owner) (h : Homes) (s : Places) → ((n : Name) → new n ≡ o n) → IsIndex o h s → IsIndex new h s
same_index o new h s same i = subst (λ f. IsIndex f h s) (λ j n. sym (same n) j) i

-- What peer-new adds.
pub added : (o new : Owner) (h : Homes) (s : Places) (serial now : ℕ) (a : Attrs) (t : Transport) → IsIndex o h s → serial ≡ length s → is_some (by_id a.id (present s)) ≡ false → list_any (shares_vpn a) (present s) ≡ false → is_some (by_remote t (present s)) ≡ false
    → ((n : Name) → new n ≡ cond (has_name n (peer_of serial now a t)) (Some serial) (o n)) → IsIndex new h (s ++ Some (peer_of serial now a t) ∷ [])
added o new h s serial now a t i own id vpn remote is =
    joined o new h s (peer_of serial now a t) i own (λ n its. free o h s i n (name_free serial now a t (present s) id vpn remote n its)) (λ key. refl) is

pub key_not_there : (s : Places) (key k : ℕ) (p : Peer) → standing s k ≡ None → standing s k ≡ Some p → has_key key p ≡ false
key_not_there s key k p none at = absurd (let e : ◌≡◌ None (Some p) = sym none ∙ at in cc)

no_vpn : (v : Option (List ℕ)) → same_vpn v None ≡ false
no_vpn None = refl
no_vpn (Some x) = refl

-- Nobody has no address.
pub vpn_nobody : (its : Peer → Option (List ℕ)) (live : List Peer) → list_any (λ q. same_vpn (its q) None) live ≡ false
vpn_nobody its [] = refl
vpn_nobody its (p ∷ live) = rw (no_vpn (its p)) (vpn_nobody its live)

pub key_not_here : (s : Places) (key k : ℕ) (q p : Peer) → standing s k ≡ Some q → has_key key q ≡ false → standing s k ≡ Some p → has_key key p ≡ false
key_not_here s key k q p is not at = subst (λ x. has_key key x ≡ false) (some_same q p (sym is ∙ at)) not

-- Where a name leads, somebody stands.
pub standing_there : (o : Owner) (h : Homes) (s : Places) → IsIndex o h s → (n : Name) (k : ℕ) → o n ≡ Some k → standing s k ≡ None → ⊥
standing_there o h s i n k owns none = let there = i.found n k owns in absurd (let e : ◌≡◌ None (Some there.0) = sym none ∙ standing_is s k there.0 there.1 in cc)

pub not_both : {X : Type 0} (o : Option X) → o ≡ None → is_some o ≡ true → ⊥
not_both o none some = absurd (let e : ◌≡◌ {A = Bool} false true = sym (ap is_some none) ∙ some in cc)

-- ---- changes of a list

pub length_changed : {X : Type 0} (fits : X → Bool) (change : X → X) (xs : List X) → length (change_first fits change xs) ≡ length xs
length_changed fits change [] = refl
length_changed fits change (x ∷ xs) =
    elim (fits x) as (λ b. length (if b then change x ∷ xs else x ∷ change_first fits change xs) ≡ length (x ∷ xs)) [ true ↦ refl | false ↦ ap suc (length_changed fits change xs) ]

pub length_without : {X : Type 0} (fits : X → Bool) (xs : List X) (x : X) → find fits xs ≡ Some x → length (without_first fits xs) + 1 ≡ length xs
length_without fits [] x found = absurd (let e : ◌≡◌ None (Some x) = found in cc)
length_without fits (y ∷ ys) x found =
    elim (fits y) as (λ b. (if b then Some y else find fits ys) ≡ Some x → length (if b then ys else y ∷ without_first fits ys) + 1 ≡ length (y ∷ ys)) [
      | true ↦ λ here. omega arith
      | false ↦ λ later. let rest : length (without_first fits ys) + 1 ≡ length ys = length_without fits ys x later in omega arith
    ] found

pub changed_not : {X : Type 0} (fits : X → Bool) (xs : List X) → change_first fits (λ x. x) xs ≡ xs
changed_not fits [] = refl
changed_not fits (x ∷ xs) = elim (fits x) as (λ b. (if b then x ∷ xs else x ∷ change_first fits (λ y. y) xs) ≡ x ∷ xs) [ true ↦ refl | false ↦ ap (λ ys. x ∷ ys) (changed_not fits xs) ]

pub changed_twice : {X : Type 0} (fits : X → Bool) (f g : X → X) (xs : List X) → ((x : X) → fits (f x) ≡ fits x) → change_first fits g (change_first fits f xs) ≡ change_first fits (λ x. g (f x)) xs
changed_twice fits f g [] same = refl
changed_twice fits f g (x ∷ xs) same =
    elim (fits x) as (λ b. fits x ≡ b → change_first fits g (if b then f x ∷ xs else x ∷ change_first fits f xs) ≡ (if b then g (f x) ∷ xs else x ∷ change_first fits (λ y. g (f y)) xs)) [
      | true ↦ λ here. rw (same x ∙ here) refl
      | false ↦ λ no. rw no (ap (λ ys. x ∷ ys) (changed_twice fits f g xs same))
    ] refl

-- A float is settled before or after the datagram is counted.
float_later : (live : List Peer) (from : Option Transport) (now outer : ℕ) (p : Peer) → received_peer now outer (floated live from p) ≡ floated live from (received_peer now outer p)
float_later live None now outer p = refl
float_later live (Some t) now outer p = elim (is_some (by_remote t live)) as (λ b. received_peer now outer (if b then p else record p { remote = t }) ≡ (if b then received_peer now outer p else record (received_peer now outer p) { remote = t })) [ true ↦ refl | false ↦ refl ]

float_serial : (live : List Peer) (from : Option Transport) (serial : ℕ) (p : Peer) → has_serial serial (floated live from p) ≡ has_serial serial p
float_serial live None serial p = refl
float_serial live (Some t) serial p = elim (is_some (by_remote t live)) as (λ b. has_serial serial (if b then p else record p { remote = t }) ≡ has_serial serial p) [ true ↦ refl | false ↦ refl ]

pub settled_twice : (live : List Peer) (serial now : ℕ) (from : Option Transport) (s : Settled) (inner outer : ℕ)
    → change_first (has_serial serial) (λ p. settled_peer s inner (received_peer now outer p)) (change_first (has_serial serial) (floated live from) live) ≡ change_first (has_serial serial) (λ p. settled_peer s inner (floated live from (received_peer now outer p))) live
settled_twice live serial now from s inner outer =
    changed_twice (has_serial serial) (floated live from) (λ p. settled_peer s inner (received_peer now outer p)) live (float_serial live from serial)
    ∙ (λ i. change_first (has_serial serial) (λ p. settled_peer s inner (float_later live from now outer p i)) live)

any_changed : {X : Type 0} (fits : X → Bool) (f : X → X) (xs : List X) → ((x : X) → fits (f x) ≡ fits x) → list_any fits (change_first fits f xs) ≡ list_any fits xs
any_changed fits f [] same = refl
any_changed fits f (x ∷ xs) same =
    elim (fits x) as (λ b. fits x ≡ b → list_any fits (if b then f x ∷ xs else x ∷ change_first fits f xs) ≡ (b || list_any fits xs)) [
      | true ↦ λ here. rw (same x ∙ here) refl
      | false ↦ λ no. rw no (any_changed fits f xs same)
    ] refl

pub there_changed : (live : List Peer) (serial : ℕ) (from : Option Transport) → list_any (has_serial serial) (change_first (has_serial serial) (floated live from) live) ≡ list_any (has_serial serial) live
there_changed live serial from = any_changed (has_serial serial) (floated live from) live (float_serial live from serial)

-- Nobody floats to a transport that is taken, and else the one with the serial does.
pub stays : (live : List Peer) (serial : ℕ) (t : Transport) → is_some (by_remote t live) ≡ true → change_first (has_serial serial) (floated live (Some t)) live ≡ live
stays live serial t taken = (λ i. change_first (has_serial serial) (λ p. if taken i then p else record p { remote = t }) live) ∙ changed_not (has_serial serial) live
