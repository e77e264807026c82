-- What a command leaves to the seat: once all of it is linked and unlinked, the releases of what nobody holds.
use Rattle.std.proofs.Common.{ℕ, zero, suc, ◌≡◌, ◌+◌, ◌<◌, ◌≤◌, List, [], ◌∷◌, ◌++◌, length, length-append, refl, sym, ap, ◌∙◌, subst, arith, if◌then◌else◌, ◌==◌, nat_lt}
use Rattle.std.specs.Prelude.{map}
use Rattle.std.specs.List.{AllByRecursion}
use Rattle.std.proofs.lemmas.Bool.{eq-eqb}
use Rattle.std.proofs.lemmas.Bool.Decides.{nat_tests}
use Rattle.std.proofs.lemmas.List.{map-append, length-map}
use Rattle.ov_base.specs.Sums.{total, count_of}
use Rattle.ov_base.proofs.Sums.{total_append}
use Rattle.ov_turn.specs.declared.inside.Inside.{Inside}
use Rattle.ov_turn.specs.Lists.{has, still}
use Rattle.ov_turn.specs.Insides.{IsSteady, kept_of, holds_in, owes_in, to_link_in, to_unlink_in}
use Rattle.ov_turn.proofs.Members.{has_le}
use Rattle.ov_hold.proofs.Fitting.{unlink_small}
use Rattle.ov_model.specs.declared.act.Act.TheVariants as act
use Rattle.ov_model.specs.declared.act.Call.{Call}
use Rattle.ov_model.specs.declared.command.Command.{Command}
use Rattle.ov_model.specs.declared.entry.Entry.{Entry}
use Rattle.ov_model.specs.declared.hold.Owed.{Owed}
use Rattle.ov_model.specs.declared.hold.Owed.TheVariants as kind
use Rattle.ov_model.specs.declared.place.Place.{Place}
use Rattle.ov_model.specs.declared.reply.Reply.{Reply}
use Rattle.ov_model.specs.Tables.{Table, serials_of, key_serials}
use Rattle.ov_model.specs.Step.{step}
use Rattle.ov_model.specs.Path.{SomeOf, none, kept, passed, SomeOwed, removed}
use Rattle.ov_model.specs.Removals.{times}
use Rattle.ov_model.proofs.Times.{times_first}
use Rattle.ov_model.proofs.Freed.{Balance, act_balance}
use Rattle.ov_table.specs.Recorded.{Recorded, IsTold, entry_of}
use Rattle.ov_table.specs.Cells.{key_cell, live_cells, dying_cells, gone_cells}
use Rattle.ov_table.proofs.Becoming.{count_times}
use Rattle.ov_ticket.specs.Within.{cell_of, cells_as, IsSettled, IsCounted, IsAnswered, IsUnlinked, MayUnlink, IsOut, IsReleasing, HasMade, IsServed, entries_of}
use Rattle.ov_ticket.proofs.Releasing.{made_more}
use Rattle.ov_model.specs.Events.{releases}
use Rattle.ov_ticket.proofs.Stepping.{none_has, steady_again}

-- ---- a command's step

pub answered : (old new : Inside Recorded Entry) (place : Place) (at : ℕ) (command : Command) → IsSettled old → owes_in old ≡ [] → IsCounted old new place (record { at = at; act = act.Do command })
    → IsAnswered new command (step (kept_of old).now (record { at = at; act = act.Do command })).reply
answered old new place at command settled free is =
    let t : Table = (kept_of old).now in
    let call : Call = record { at = at; act = act.Do command } in
    let now : (kept_of new).now ≡ (step t call).after = ap (λ (k : Recorded). k.now) is.kept in
    let taken : (kept_of new).taken ≡ (step t call).taken = ap (λ (k : Recorded). k.taken) is.kept in
    let balance : (x : ℕ) → Balance x t call.act (step t call) = λ x. act_balance x t _ call.act refl in
    record {
      cells = is.same.2 ∙ settled.cells;
      told = is.told;
      history = is.history;
      live = is.live;
      dying = is.dying;
      owes = is.owes ∙ ap (still _) free;
      made = is.made;
      gone = λ c. is.gone c ∙ ap (λ ks. count_of c (gone_cells ks (step t call).reply)) (sym taken);
      peers = λ x. (let both = (balance x).peers in let here = ap (λ (q : Table). times x (serials_of q.dying)) now in omega arith);
      keys = λ x. (let both = (balance x).keys in let here = ap (λ (q : Table). times x (key_serials q.retired)) now in let same = ap (times x) taken in omega arith);
    }

-- ---- how many there can be

below : ℕ → List ℕ → ℕ
below m l = total (λ x. if nat_lt x m then 1 else 0) l

below_more : (m : ℕ) (l : List ℕ) → below (suc m) l ≡ below m l + count_of m l
unfolding below
below_more m [] = refl
below_more m (x ∷ xs) = omega (arith, below_more m xs, one m x)
  where
    one : (m x : ℕ) → (if nat_lt x (suc m) then 1 else 0) ≡ (if nat_lt x m then 1 else 0) + (if x == m then 1 else 0)
    one m x = grind (arith, nat_tests)

below_zero : (l : List ℕ) → below 0 l ≡ 0
unfolding below
below_zero [] = refl
below_zero (x ∷ xs) = omega (arith, below_zero xs, first x)
  where
    first : (x : ℕ) → ◌≡◌ {A = ℕ} (if nat_lt x 0 then 1 else 0) 0
    first x = grind (arith, nat_tests)

below_few : (m : ℕ) (l : List ℕ) → ((c : ℕ) → count_of c l ≤ 1) → below m l ≤ m
below_few zero l once = omega (arith, below_zero l)
below_few (suc m) l once = omega (arith, below_more m l, below_few m l once, once m)

below_all : (m : ℕ) (l : List ℕ) → ((c : ℕ) → 0 < count_of c l → c < m) → below m l ≡ length l
unfolding below
below_all m [] within = refl
below_all m (x ∷ xs) within =
    let here : 0 < count_of x (x ∷ xs) = rw (eq-eqb x x refl) (omega arith) in
    omega (arith, is x (within x here), below_all m xs (λ c some. within c (omega arith)))
  where
    is : (y : ℕ) → y < m → ◌≡◌ {A = ℕ} (if nat_lt y m then 1 else 0) 1
    is y lt = grind (arith, nat_tests)

-- Numbers below m, each once, are at most m.
few : (m : ℕ) (l : List ℕ) → ((c : ℕ) → count_of c l ≤ 1) → ((c : ℕ) → 0 < count_of c l → c < m) → length l ≤ m
few m l once within = omega (arith, below_few m l once, below_all m l within)

same_cells : (ps : List ℕ) → cells_as kind.Peer ps ≡ ps
same_cells [] = refl
same_cells (p ∷ ps) = ap (λ l. p ∷ l) (same_cells ps)

count_gone : (c : ℕ) (taken : List ℕ) (r : Reply) → count_of c (gone_cells taken r) ≡ count_of c (cells_as kind.Key taken) + count_of c (cells_as kind.Peer (removed r))
count_gone c taken r = omega (arith, total_append (λ x. if x == c then 1 else 0) (removed r) (map key_cell taken), ap (count_of c) (same_cells (removed r)))

pub gone_few : (it : Inside Recorded Entry) (command : Command) (r : Reply) → IsAnswered it command r → length (kept_of it).taken + length (removed r) ≤ 69632
gone_few it command r is =
    let all : List ℕ = gone_cells (kept_of it).taken r in
    let once : (c : ℕ) → count_of c all ≤ 1 = λ c. omega (arith, is.gone c, has_le c (to_unlink_in it)) in
    let within : (c : ℕ) → 0 < count_of c all → c < 69632 = λ c some. (let lt = unlink_small it.seat.me.0 c it.fit.1 (omega (arith, is.gone c, once c)) in let n = is.cells in omega arith) in
    omega (arith, few 69632 all once within, length-append (removed r) (map key_cell (kept_of it).taken), length-map (kept_of it).taken key_cell)

-- ---- all is unlinked

some_count : (cell : ℕ → ℕ) (c : ℕ) (xs ys : List ℕ) → SomeOf xs ys → count_of c (map cell ys) ≤ count_of c (map cell xs)
some_count cell c _ _ none = omega arith
some_count cell c _ _ (kept x xs ys some) = omega (arith, some_count cell c xs ys some)
some_count cell c _ _ (passed x xs ys some) = omega (arith, some_count cell c xs ys some)

some_times : (x : ℕ) (xs ys : List ℕ) → SomeOf xs ys → times x ys ≤ times x xs
some_times x xs ys some = omega (arith, count_times x xs, count_times x ys, ap (count_of x) (same_cells xs), ap (count_of x) (same_cells ys), some_count (λ s. s) x xs ys some)

cells_map : (kind : ℕ → Owed) (xs : List ℕ) → map cell_of (map kind xs) ≡ cells_as kind xs
cells_map kind [] = refl
cells_map kind (x ∷ xs) = ap (λ l. cell_of (kind x) ∷ l) (cells_map kind xs)

own_times : (x : ℕ) (xs : List ℕ) → 0 < times x (x ∷ xs)
own_times x xs = let one : times x (x ∷ []) ≡ 1 = rw (eq-eqb x x refl) refl in omega (arith, times_first x x xs)

later_times : (x y : ℕ) (xs : List ℕ) → times x xs ≤ times x (y ∷ xs)
later_times x y xs = omega (arith, times_first x y xs)

keys_out : (t : Table) (ks : List ℕ) → ((x : ℕ) → times x ks ≤ times x (key_serials t.retired)) → AllByRecursion (IsOut t) (map kind.Key ks)
keys_out t [] each = tt
keys_out t (k ∷ ks) each = ((let here = each k in let own = own_times k ks in omega arith), keys_out t ks (λ x. let here = each x in let later = later_times x k ks in omega arith))

peers_out : (t : Table) (ps : List ℕ) → ((x : ℕ) → times x ps ≤ times x (serials_of t.dying)) → AllByRecursion (IsOut t) (map kind.Peer ps)
peers_out t [] each = tt
peers_out t (p ∷ ps) each = ((let here = each p in let own = own_times p ps in omega arith), peers_out t ps (λ x. let here = each x in let later = later_times x p ps in omega arith))

pub both_all : (P : Owed → Type 0) (xs ys : List Owed) → AllByRecursion P xs → AllByRecursion P ys → AllByRecursion P (xs ++ ys)
both_all P [] ys p q = q
both_all P (x ∷ xs) ys p q = (p.0, both_all P xs ys p.1 q)

-- What links and unlinks change of what a command left.
pub record IsLinked (it a : Inside Recorded Entry) : Type 0 where
  pub steady : IsSteady it a
  pub link : to_link_in a ≡ []
  pub unlink : to_unlink_in a ≡ to_unlink_in it
  pub owes : owes_in a ≡ owes_in it

pub may_keys : (it a : Inside Recorded Entry) (command : Command) (r : Reply) (l : List Owed) (room : ℕ) → IsAnswered it command r → IsLinked it a → l ≡ [] → 69632 ≤ room → MayUnlink kind.Key (kept_of a).taken a l room
may_keys it a command r l room is linked nothing enough =
    let same : (kept_of a).taken ≡ (kept_of it).taken = ap (λ (k : Recorded). k.taken) linked.steady.1 in
    subst (λ ks. MayUnlink kind.Key ks a l room) (sym same) record {
      cells = linked.steady.0.2 ∙ is.cells;
      left = λ c. omega (arith, count_gone c (kept_of it).taken r, is.gone c, ap (has c) linked.unlink);
      fits = omega (arith, gone_few it command r is, ap length nothing);
    }

pub may_peers : (it a b : Inside Recorded Entry) (command : Command) (r : Reply) (l l1 : List Owed) (room : ℕ) → IsAnswered it command r → IsLinked it a → l ≡ [] → 69632 ≤ room → IsUnlinked kind.Key (kept_of a).taken a b l l1 → MayUnlink kind.Peer (removed r) b l1 room
may_peers it a b command r l l1 room is linked nothing enough keys =
    let same : (kept_of a).taken ≡ (kept_of it).taken = ap (λ (k : Recorded). k.taken) linked.steady.1 in
    record {
      cells = keys.steady.0.2 ∙ linked.steady.0.2 ∙ is.cells;
      left = λ c. omega (arith, count_gone c (kept_of it).taken r, is.gone c, ap (has c) linked.unlink, keys.unlink c, ap (λ ks. count_of c (cells_as kind.Key ks)) same);
      fits = omega (arith, gone_few it command r is, keys.few, ap length nothing, ap length same);
    }

pub record IsAllLeft (it d : Inside Recorded Entry) (r : Reply) (os : List Owed) : Type 0 where
  pub releasing : IsReleasing os d
  pub some : SomeOwed (kept_of it).taken (removed r) os
  pub steady : IsSteady it d

pub all_left : (it a b d : Inside Recorded Entry) (command : Command) (r : Reply) (l l1 l2 : List Owed) → IsAnswered it command r → IsLinked it a → l ≡ [] → IsUnlinked kind.Key (kept_of a).taken a b l l1 → IsUnlinked kind.Peer (removed r) b d l1 l2 → IsAllLeft it d r l2
all_left it a b d command r l l1 l2 is linked nothing keys peers =
    let same : (kept_of a).taken ≡ (kept_of it).taken = ap (λ (k : Recorded). k.taken) linked.steady.1 in
    let of_keys : SomeOf (kept_of it).taken keys.owes.some = subst (λ ks. SomeOf ks keys.owes.some) same keys.owes.of in
    let steady : IsSteady it d = steady_again it b d (steady_again it a b linked.steady keys.steady) peers.steady in
    let kept_is : kept_of d ≡ kept_of it = steady.1 in
    let some_keys : List ℕ = keys.owes.some in
    let some_peers : List ℕ = peers.owes.some in
    let listed : l2 ≡ map kind.Key some_keys ++ map kind.Peer some_peers = peers.owes.listed_are ∙ ap (λ q. q ++ map kind.Peer some_peers) (keys.owes.listed_are ∙ ap (λ q. q ++ map kind.Key some_keys) nothing) in
    let owed : owes_in d ≡ cells_as kind.Key some_keys ++ cells_as kind.Peer some_peers =
    peers.owes.owes_are ∙ ap (λ q. q ++ cells_as kind.Peer some_peers) (keys.owes.owes_are ∙ ap (λ q. q ++ cells_as kind.Key some_keys) (linked.owes ∙ is.owes)) in
    let cells_are : map cell_of l2 ≡ cells_as kind.Key some_keys ++ cells_as kind.Peer some_peers =
    ap (map cell_of) listed ∙ map-append cell_of (map kind.Key some_keys) (map kind.Peer some_peers) ∙ ap (λ q. q ++ map cell_of (map kind.Peer some_peers)) (cells_map kind.Key some_keys) ∙ ap (λ q. cells_as kind.Key some_keys ++ q) (cells_map kind.Peer some_peers) in
    let key_count : (c : ℕ) → count_of c (cells_as kind.Key some_keys) ≤ count_of c (cells_as kind.Key (kept_of it).taken) = λ c. some_count (λ s. cell_of (kind.Key s)) c (kept_of it).taken some_keys of_keys in
    let peer_count : (c : ℕ) → count_of c (cells_as kind.Peer some_peers) ≤ count_of c (cells_as kind.Peer (removed r)) = λ c. some_count (λ s. cell_of (kind.Peer s)) c (removed r) some_peers peers.owes.of in
    record {
      releasing = record {
        settled = record {
          cells = steady.0.2 ∙ is.cells;
          told = subst IsTold (sym kept_is) is.told;
          history = ap (λ (k : Recorded). k.journal) kept_is ∙ is.history ∙ sym steady.2;
          live = ap (λ (k : Recorded). live_cells k.now) kept_is ∙ is.live ∙ sym steady.4;
          dying = ap (λ (k : Recorded). dying_cells k.now) kept_is ∙ is.dying ∙ sym steady.5;
          linked = peers.link ∙ keys.link ∙ linked.link;
          unlinked = none_has (to_unlink_in d) (λ c. omega (arith, peers.unlink c, keys.unlink c, ap (has c) linked.unlink, is.gone c, count_gone c (kept_of it).taken r, ap (λ ks. count_of c (cells_as kind.Key ks)) same));
        };
        owes = owed ∙ sym cells_are;
        once = λ c. omega (arith, ap (count_of c) owed, total_append (λ x. if x == c then 1 else 0) (cells_as kind.Key some_keys) (cells_as kind.Peer some_peers), key_count c, peer_count c, count_gone c (kept_of it).taken r, is.gone c, has_le c (to_unlink_in it));
        out = subst (AllByRecursion (IsOut (kept_of d).now)) (sym listed) (subst (λ (k : Recorded). AllByRecursion (IsOut k.now) (map kind.Key some_keys ++ map kind.Peer some_peers)) (sym kept_is)
            (both_all (IsOut (kept_of it).now) (map kind.Key some_keys) (map kind.Peer some_peers)
            (keys_out (kept_of it).now some_keys (λ x. omega (arith, some_times x (kept_of it).taken some_keys of_keys, is.keys x)))
            (peers_out (kept_of it).now some_peers (λ x. omega (arith, some_times x (removed r) some_peers peers.owes.of, is.peers x)))));
      };
      some = record { some_keys = some_keys; some_peers = some_peers; of_keys = of_keys; of_peers = peers.owes.of; are = listed };
      steady = steady;
    }

-- ---- a command is served

pub served : (a b d e : Inside Recorded Entry) (place : Place) (at : ℕ) (command : Command) (r : Reply) (os : List Owed) → IsCounted a b place (record { at = at; act = act.Do command }) → r ≡ (step (kept_of a).now (record { at = at; act = act.Do command })).reply
    → SomeOwed (kept_of b).taken (removed r) os → IsSteady b d → holds_in d ≡ holds_in b → IsReleasing [] e → HasMade (entries_of (releases place at os)) d e → IsServed a e place at command r
served a b d e place at command r os is reply some steady holds done made =
    let t : Table = (kept_of a).now in
    let taken : (kept_of b).taken ≡ (step t (record { at = at; act = act.Do command })).taken = ap (λ (k : Recorded). k.taken) is.kept in
    let entry : Entry = entry_of t place (record { at = at; act = act.Do command }) in
    let first : HasMade (entry ∷ []) a d = record {
      same = (steady.0.0 ∙ is.same.0, steady.0.1 ∙ is.same.1, steady.0.2 ∙ is.same.2);
      holds = holds ∙ is.holds;
      seen = steady.2 ∙ is.seen;
      own = steady.3 ∙ is.own;
    } in
    record {
      os = os;
      settled = done.settled;
      owes = done.owes;
      reply = reply;
      some = subst (λ ks. SomeOwed ks (removed r) os) taken some;
      made = made_more a d e (entry ∷ []) (entries_of (releases place at os)) first made;
    }
