-- What a map's own test of its keys says of names.
use Rattle.std.proofs.Common.{ℕ, ◌≡◌, refl, subst, cond}
use Rattle.std.specs.Prelude.{Option}
use Rattle.std.specs.HashMap.{HashMap, get}
use Rattle.ov_index.specs.declared.name.Host.TheVariants.{V4, V6}
use Rattle.ov_index.specs.declared.name.Name.{Name}
use Rattle.ov_index.specs.declared.name.Name.TheVariants.{Id, Vpn, Remote}
use Rattle.ov_index.specs.contracts.name.NamePartialEq.TheImpl as own
use Rattle.ov_index.specs.Names.{same_name}

agrees : (a b : Name) → own.ghosts.eq a b ≡ same_name a b
agrees (Id m) (Id n) = refl
agrees (Id m) (Vpn b) = refl
agrees (Id m) (Remote b n) = refl
agrees (Vpn a) (Id n) = refl
agrees (Vpn (V4 a)) (Vpn (V4 b)) = refl
agrees (Vpn (V4 a)) (Vpn (V6 b)) = refl
agrees (Vpn (V6 a)) (Vpn (V4 b)) = refl
agrees (Vpn (V6 a)) (Vpn (V6 b)) = refl
agrees (Vpn a) (Remote b n) = refl
agrees (Remote a m) (Id n) = refl
agrees (Remote a m) (Vpn b) = refl
agrees (Remote (V4 a) m) (Remote (V4 b) n) = refl
agrees (Remote (V4 a) m) (Remote (V6 b) n) = refl
agrees (Remote (V6 a) m) (Remote (V4 b) n) = refl
agrees (Remote (V6 a) m) (Remote (V6 b) n) = refl

test_is : own.ghosts.eq ≡ same_name
test_is = λ i a b. agrees a b i

pub updated : {S : Type 0} (m n : HashMap Name ℕ S) (k : Name) (w : Option ℕ) → ((q : Name) → get own.ghosts.eq n q ≡ cond (own.ghosts.eq k q) w (get own.ghosts.eq m q)) → (q : Name) → get same_name n q ≡ cond (same_name k q) w (get same_name m q)
updated m n k w is = subst (λ e. (q : Name) → get e n q ≡ cond (e k q) w (get e m q)) test_is is

pub reordered : {S : Type 0} (m n : HashMap Name ℕ S) → ((q : Name) → get own.ghosts.eq n q ≡ get own.ghosts.eq m q) → (q : Name) → get same_name n q ≡ get same_name m q
reordered m n is = subst (λ e. (q : Name) → get e n q ≡ get e m q) test_is is
