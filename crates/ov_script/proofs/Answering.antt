-- What holds of an answer holds of the one that hands it on.
use Rattle.std.proofs.Common.{◌≡◌, Result, Ok, Err, subst, sym}
use Rattle.std.specs.Prelude.{IsErr, IsErrAnd, IfErr, OnOk}

-- What holds of a cause holds of the answer that hands it on.
pub handed_on : {T E : Type 0} → (r : Result T E) (why : E) (P : E → Type 0) → IsErr r × IsErrAnd r (λ s. s ≡ why) → P why → IfErr r P
handed_on (Ok x) why P h p = tt
handed_on (Err s) why P h p = subst P (sym h.1) p

-- And what holds of an answer with that cause.
pub answered : {T E : Type 0} → (r : Result T E) (why : E) (P : Result T E → Type 0) → IsErr r × IsErrAnd r (λ s. s ≡ why) → P (Err why) → P r
answered (Ok x) why P h p = absurd h.1
answered (Err s) why P h p = subst (λ e. P (Err e)) (sym h.1) p

-- What two facts of an answer give.
pub both_ok : {T E : Type 0} → (r : Result T E) (A B C : Type 0) → OnOk r A → OnOk r B → (A → B → C) → OnOk r C
both_ok (Ok x) A B C a b f = f a b
both_ok (Err s) A B C a b f = tt

-- What a fact of a cause gives.
pub cause_gives : {T E : Type 0} → (r : Result T E) (P Q : E → Type 0) → IfErr r P → ((why : E) → P why → Q why) → IfErr r Q
cause_gives (Ok x) P Q p f = tt
cause_gives (Err s) P Q p f = f s p
