-- What the other live peers have: the maps say it, and what they haven't a peer may take.
use Rattle.std.proofs.Common.{ℕ, ◌≡◌, ◌∙◌, refl, ap, sym, subst, List, Bool, true, false, cond, ◌==◌, inl, inr, ◌⊎◌}
use Rattle.std.specs.Prelude.{Option, Some, None, find, slice_get, slice_set, is_some, not, unwrap_or}
use Rattle.std.specs.List.{list_any}
use Rattle.std.specs.Option.{option_or}
use Rattle.ov_model.specs.declared.ident.PeerId.{PeerId}
use Rattle.ov_model.specs.declared.command.Attrs.{Attrs}
use Rattle.ov_model.specs.Tables.{Peer, same_vpn, shares_vpn}
use Rattle.ov_model.specs.Step.{others, set_peer, takes_remote}
use Rattle.ov_index.specs.declared.name.Host.TheVariants.{V4, V6}
use Rattle.ov_index.specs.declared.name.Name.{Name}
use Rattle.ov_index.specs.declared.name.Name.TheVariants.{Id, Vpn, Remote}
use Rattle.ov_index.specs.Names.{has_name}
use Rattle.ov_index.specs.Index.{present, standing, IsIndex}
use Rattle.ov_index.proofs.Slots.{standing_at, standing_is}
use Rattle.ov_index.proofs.Held.{Owner, Homes, Places, named_at, named_nowhere, shares_is, neither, vpn_free, remote_free}
use Rattle.ov_index.proofs.Changed.{taken_out, same_one}

-- Whether a live peer has a name is whether the name leads anywhere.
pub any_name : (o : Owner) (h : Homes) (s : Places) → IsIndex o h s → (n : Name) → list_any (has_name n) (present s) ≡ is_some (o n)
any_name o h s i n =
    elim (o n) as (λ x. o n ≡ x → list_any (has_name n) (present s) ≡ is_some x) [
      | None ↦ λ none. (named_nowhere o h s i n none).any
      | Some k ↦ λ owns. let there = i.found n k owns in (named_at o h s i n k there.0 owns there.1).any
    ] refl

-- The other live peers have a name that leads somewhere, and not to the one with the id.
pub any_other : (o : Owner) (h : Homes) (s : Places) → IsIndex o h s → (id : PeerId) (k : ℕ) (p : Peer) → o (Id id.number) ≡ Some k → standing s k ≡ Some p → (n : Name) → list_any (has_name n) (others id (present s)) ≡ is_some (cond (has_name n p) None (o n))
any_other o h s i id k p owns stands n =
    let left : others id (present s) ≡ present (slice_set s k None) = (named_at o h s i (Id id.number) k p owns (standing_at s k p stands)).without in
    ap (list_any (has_name n)) left ∙ any_name (λ m. cond (has_name m p) None (o m)) h (slice_set s k None) (taken_out o (λ m. cond (has_name m p) None (o m)) h s k p i stands (λ m. refl)) n

-- Where nobody has the id, all live peers are others.
pub all_others : (o : Owner) (h : Homes) (s : Places) → IsIndex o h s → (id : PeerId) → o (Id id.number) ≡ None → others id (present s) ≡ present s
all_others o h s i id none = (named_nowhere o h s i (Id id.number) none).without

-- Whether a peer was found and has another id.
abbrev pub is_other : PeerId → Option Peer → Bool
is_other id None = false
is_other id (Some p) = not (p.id.number == id.number)

id_leads : (o : Owner) (h : Homes) (s : Places) → IsIndex o h s → (id : PeerId) (k : ℕ) (p : Peer) → slice_get s k ≡ Some (Some p) → (p.id.number == id.number) ≡ true → o (Id id.number) ≡ Some k
id_leads o h s i id k p at is = i.known (Id id.number) k p at is

other_where : (o : Owner) (h : Homes) (s : Places) → IsIndex o h s → (id : PeerId) (n : Name) (k : ℕ) → o (Id id.number) ≡ Some k → list_any (has_name n) (others id (present s)) ≡ is_other id (find (has_name n) (present s))
other_where o h s i id n k leads =
    let p = i.found (Id id.number) k leads in
    let stands : standing s k ≡ Some p.0 = standing_is s k p.0 p.1 in
    let its : (p.0.id.number == id.number) ≡ true = p.2 in
    any_other o h s i id k p.0 leads stands n
    ∙ elim (o n) as (λ x. o n ≡ x → is_some (cond (has_name n p.0) None (o n)) ≡ is_other id (find (has_name n) (present s))) [
      | None ↦ λ none. rw (none, (named_nowhere o h s i n none).found) (elim (has_name n p.0) as (λ b. is_some (cond {A = Option ℕ} b None None) ≡ false) [ true ↦ refl | false ↦ refl ])
      | Some j ↦ λ owns.
          let q = i.found n j owns in
          let found : find (has_name n) (present s) ≡ Some q.0 = (named_at o h s i n j q.0 owns q.1).found in
          rw (owns, found)
          (elim (has_name n p.0) as (λ b. has_name n p.0 ≡ b → is_some (cond b None (Some j)) ≡ not (q.0.id.number == id.number)) [
            | true ↦ λ has.
                let here : j ≡ k = same_one j k (sym owns ∙ i.known n k p.0 p.1 has) in
                let who : q.0 ≡ p.0 = same_one _ _ (same_one _ _ (sym q.1 ∙ subst (λ m. slice_get s m ≡ Some (Some p.0)) (sym here) p.1)) in
                let same : (q.0.id.number == id.number) ≡ true = subst (λ x. (x.id.number == id.number) ≡ true) (sym who) its in
                rw same refl
            | false ↦ λ has.
                elim (q.0.id.number == id.number) as (λ b. (q.0.id.number == id.number) ≡ b → true ≡ not b) [
                  | true ↦ λ same.
                      let here : j ≡ k = same_one j k (sym (id_leads o h s i id j q.0 q.1 same) ∙ leads) in
                      let who : q.0 ≡ p.0 = same_one _ _ (same_one _ _ (sym q.1 ∙ subst (λ m. slice_get s m ≡ Some (Some p.0)) (sym here) p.1)) in
                      let no : has_name n p.0 ≡ true = subst (λ x. has_name n x ≡ true) who q.2 in
                      absurd (let e : ◌≡◌ {A = Bool} false true = sym has ∙ no in cc)
                  | false ↦ λ other. refl
                ] refl
          ] refl)
    ] refl

-- Whether another live peer has a name: who is found by it, if it isn't the one with the id.
pub other_named : (o : Owner) (h : Homes) (s : Places) → IsIndex o h s → (id : PeerId) (n : Name) → list_any (has_name n) (others id (present s)) ≡ is_other id (find (has_name n) (present s))
other_named o h s i id n =
    elim (o (Id id.number)) as (λ x. o (Id id.number) ≡ x → list_any (has_name n) (others id (present s)) ≡ is_other id (find (has_name n) (present s))) [
      | Some k ↦ λ leads. other_where o h s i id n k leads
      | None ↦ λ none.
          ap (list_any (has_name n)) (all_others o h s i id none) ∙ any_name o h s i n
          ∙ elim (o n) as (λ x. o n ≡ x → is_some (o n) ≡ is_other id (find (has_name n) (present s))) [
            | None ↦ λ nobody. rw (nobody, (named_nowhere o h s i n nobody).found) refl
            | Some j ↦ λ owns.
                let q = i.found n j owns in
                rw (owns, (named_at o h s i n j q.0 owns q.1).found)
                (elim (q.0.id.number == id.number) as (λ b. (q.0.id.number == id.number) ≡ b → true ≡ not b) [
                  | true ↦ λ same. absurd (let e : ◌≡◌ None (Some j) = sym none ∙ id_leads o h s i id j q.0 q.1 same in cc)
                  | false ↦ λ other. refl
                ] refl)
          ] refl
    ] refl

-- ---- what peer-set may give

-- A name that no other peer has is free, or is the peer's own.
free_or_own : (o : Owner) (h : Homes) (s : Places) → IsIndex o h s → (id : PeerId) (k : ℕ) (p : Peer) → o (Id id.number) ≡ Some k → standing s k ≡ Some p → (n : Name) → list_any (has_name n) (others id (present s)) ≡ false → (o n ≡ None) ⊎ (has_name n p ≡ true)
free_or_own o h s i id k p owns stands n none =
    let e : is_some (cond (has_name n p) None (o n)) ≡ false = sym (any_other o h s i id k p owns stands n) ∙ none in
    elim (has_name n p) as (λ b. is_some (cond b None (o n)) ≡ false → (o n ≡ None) ⊎ (b ≡ true)) [
      | true ↦ λ is. inr refl
      | false ↦ λ is. inl (elim (o n) as (λ x. is_some x ≡ false → x ≡ None) [ None ↦ λ is. refl | Some j ↦ λ is. absurd (let e : ◌≡◌ {A = Bool} true false = is in cc) ] is)
    ] e

vpn_set : (its : Peer → Option (List ℕ)) (v : Option (List ℕ)) (x : List ℕ) (p : Peer) (left : List Peer) → list_any (λ q. same_vpn (its q) v) left ≡ false → same_vpn (option_or v (its p)) (Some x) ≡ true → (list_any (λ q. same_vpn (its q) (Some x)) left ≡ false) ⊎ (same_vpn (its p) (Some x) ≡ true)
vpn_set its None x p left none is = inr is
vpn_set its (Some y) x p left none is = inl (vpn_free its (Some y) x left none is)

-- The names that a peer has after peer-set are its own, or no other peer has them.
pub set_names : (now : ℕ) (a : Attrs) (p : Peer) (left : List Peer) → list_any (shares_vpn a) left ≡ false → takes_remote a.remote left ≡ false → (n : Name) → has_name n (set_peer now a p) ≡ true → (list_any (has_name n) left ≡ false) ⊎ (has_name n p ≡ true)
set_names now a p left vpn remote (Id m) its = inr its
set_names now a p left vpn remote (Vpn (V4 x)) its =
    let both = neither (list_any (λ p. same_vpn p.vpn4 a.vpn4) left) (list_any (λ p. same_vpn p.vpn6 a.vpn6) left) (sym (shares_is (λ p. same_vpn p.vpn4 a.vpn4) (λ p. same_vpn p.vpn6 a.vpn6) left) ∙ vpn) in
    vpn_set (λ q. q.vpn4) a.vpn4 x p left both.0 its
set_names now a p left vpn remote (Vpn (V6 x)) its =
    let both = neither (list_any (λ p. same_vpn p.vpn4 a.vpn4) left) (list_any (λ p. same_vpn p.vpn6 a.vpn6) left) (sym (shares_is (λ p. same_vpn p.vpn4 a.vpn4) (λ p. same_vpn p.vpn6 a.vpn6) left) ∙ vpn) in
    vpn_set (λ q. q.vpn6) a.vpn6 x p left both.1 its
set_names now a p left vpn remote (Remote g m) its =
    elim a.remote as (λ t. takes_remote t left ≡ false → has_name (Remote g m) (record p { remote = unwrap_or t p.remote }) ≡ true → (list_any (has_name (Remote g m)) left ≡ false) ⊎ (has_name (Remote g m) p ≡ true)) [
      | None ↦ λ none its. inr its
      | Some r ↦ λ none its. inl (remote_free r left none g m its)
    ] remote its

pub set_free : (o : Owner) (h : Homes) (s : Places) → IsIndex o h s → (now : ℕ) (a : Attrs) (k : ℕ) (p : Peer) → o (Id a.id.number) ≡ Some k → standing s k ≡ Some p → list_any (shares_vpn a) (others a.id (present s)) ≡ false → takes_remote a.remote (others a.id (present s)) ≡ false → (n : Name) → has_name n (set_peer now a p) ≡ true → (o n ≡ None) ⊎ (has_name n p ≡ true)
set_free o h s i now a k p owns stands vpn remote n its =
    elim (set_names now a p (others a.id (present s)) vpn remote n its) [
      | inl none ↦ free_or_own o h s i a.id k p owns stands n none
      | inr own ↦ inr own
    ]
