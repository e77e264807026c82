-- A nonce tells its packet id and its tail; and where an id of a key counts once at most, it stands at one place.
use Rattle.std.proofs.Common.{ℕ, ◌≡◌, ◌+◌, ◌/◌, ◌%◌, ◌<◌, ◌≤◌, zero, suc, List, [], ◌∷◌, ◌++◌, refl, ◌∙◌, ap, arith, ◌==◌, inl, inr}
use Rattle.std.specs.Prelude.{filter, map, Some, slice_get}
use Rattle.std.proofs.lemmas.Bool.{eq-eqb}
use Rattle.std.proofs.lemmas.List.{map-append}
use Rattle.std.proofs.lemmas.List.Elements.{filter-append}
use Rattle.ov_model.specs.declared.answer.Answer.{Answer}
use Rattle.ov_model.specs.declared.answer.SealedOut.{SealedOut}
use Rattle.ov_model.specs.declared.report.LaneLog.{LaneLog}
use Rattle.ov_model.specs.Events.{DrawnId}
use Rattle.ov_model.specs.Packets.{nonce_of}
use Rattle.ov_model.specs.Removals.{times}
use Rattle.ov_model.specs.Keys.{id_of, sealed_ids, sealed_in, ids_under, ids_of, ids_in}
use Rattle.ov_model.proofs.ReplayLaw.{cases_order}
use Rattle.ov_model.proofs.Times.{times-append}

-- ---- nonces

four_bytes : (a b : ℕ) → a < 4294967296 → b < 4294967296
    → a / 16777216 % 256 ≡ b / 16777216 % 256 → a / 65536 % 256 ≡ b / 65536 % 256 → a / 256 % 256 ≡ b / 256 % 256 → a % 256 ≡ b % 256 → a ≡ b
four_bytes a b small_a small_b third second first last = omega arith

pub nonce_ids : (a b : ℕ) (s t : List ℕ) → a < 4294967296 → b < 4294967296 → nonce_of a s ≡ nonce_of b t → a ≡ b
nonce_ids a b s t small_a small_b same =
    let third : a / 16777216 % 256 ≡ b / 16777216 % 256 = cc in
    let second : a / 65536 % 256 ≡ b / 65536 % 256 = cc in
    let first : a / 256 % 256 ≡ b / 256 % 256 = cc in
    let last : a % 256 ≡ b % 256 = cc in
    four_bytes a b small_a small_b third second first last

pub nonce_tails : (a b : ℕ) (s t : List ℕ) → nonce_of a s ≡ nonce_of b t → s ≡ t
nonce_tails a b s t same = cc

-- ---- ids under a key

under-append : (key : ℕ) (xs ys : List DrawnId) → ids_under key (xs ++ ys) ≡ ids_under key xs ++ ids_under key ys
under-append key xs ys = rw (filter-append (λ (d : DrawnId). d.key == key) xs ys) (map-append (λ (d : DrawnId). d.id) (filter (λ d. d.key == key) xs) (filter (λ d. d.key == key) ys))

pub answers_first : (n key : ℕ) (x : Answer) (xs : List Answer) → times n (ids_of (x ∷ xs) key) ≡ times n (ids_under key (sealed_ids x)) + times n (ids_of xs key)
answers_first n key x xs = ap (times n) (under-append key (sealed_ids x) (sealed_in xs)) ∙ times-append n (ids_under key (sealed_ids x)) (ids_of xs key)

-- How often a packet id of a key stands in what is sealed: in one datagram, and in one answer.
abbrev pub out_times : ℕ → ℕ → SealedOut → ℕ
out_times n key s = times n (ids_under key (id_of s ∷ []))

abbrev pub answer_times : ℕ → ℕ → Answer → ℕ
answer_times n key x = times n (ids_under key (sealed_ids x))

pub outs_first : (n key : ℕ) (s : SealedOut) (ss : List SealedOut) → times n (ids_under key (map id_of (s ∷ ss))) ≡ out_times n key s + times n (ids_under key (map id_of ss))
outs_first n key s ss = ap (times n) (under-append key (id_of s ∷ []) (map id_of ss)) ∙ times-append n (ids_under key (id_of s ∷ [])) (ids_under key (map id_of ss))

pub own_once : (n key : ℕ) (s : SealedOut) → s.key ≡ key → s.id ≡ n → out_times n key s ≡ 1
own_once n key s key_is id_is = rw (eq-eqb s.key key key_is, eq-eqb s.id n id_is) refl

pub lanes_first : (n key : ℕ) (log : LaneLog) (logs : List LaneLog) → times n (ids_in (log ∷ logs) key) ≡ times n (ids_of log.answers key) + times n (ids_in logs key)
lanes_first n key log logs = times-append n (ids_of log.answers key) (ids_in logs key)

-- ---- a whole that is counted by its members

-- A member counts at most what all count.
pub one_part : {X : Type 0} (part : X → ℕ) (whole : List X → ℕ) → ((x : X) (xs : List X) → whole (x ∷ xs) ≡ part x + whole xs) → (xs : List X) (i : ℕ) (x : X) → slice_get xs i ≡ Some x → part x ≤ whole xs
one_part part whole adds [] i x at = cc
one_part part whole adds (y ∷ ys) zero x at = let its : y ≡ x = cc in rw (adds y ys, its) (omega arith)
one_part part whole adds (y ∷ ys) (suc i) x at =
    let later : part x ≤ whole ys = one_part part whole adds ys i x at in
    rw (adds y ys) (omega arith)

-- And so do two.
two_parts : {X : Type 0} (part : X → ℕ) (whole : List X → ℕ) → ((x : X) (xs : List X) → whole (x ∷ xs) ≡ part x + whole xs) → (xs : List X) (i j : ℕ) (x y : X) → i < j → slice_get xs i ≡ Some x → slice_get xs j ≡ Some y → part x + part y ≤ whole xs
two_parts part whole adds [] i j x y before at later = cc
two_parts part whole adds (z ∷ zs) i zero x y before at later = absurd (omega arith)
two_parts part whole adds (z ∷ zs) zero (suc j) x y before at later =
    let its : z ≡ x = cc in
    let rest : part y ≤ whole zs = one_part part whole adds zs j y later in
    rw (adds z zs, its) (omega arith)
two_parts part whole adds (z ∷ zs) (suc i) (suc j) x y before at later =
    let rest : part x + part y ≤ whole zs = two_parts part whole adds zs i j x y (omega arith) at later in
    rw (adds z zs) (omega arith)

-- Where all count one at most, two members that count stand at one place.
pub one_at : {X : Type 0} (part : X → ℕ) (whole : List X → ℕ) → ((x : X) (xs : List X) → whole (x ∷ xs) ≡ part x + whole xs) → (xs : List X) (i j : ℕ) (x y : X) → whole xs ≤ 1 → slice_get xs i ≡ Some x → slice_get xs j ≡ Some y → 1 ≤ part x → 1 ≤ part y → i ≡ j
one_at part whole adds xs i j x y most at_i at_j first second =
    elim (cases_order i j) [
      | inl before ↦ absurd (let two : part x + part y ≤ whole xs = two_parts part whole adds xs i j x y before at_i at_j in omega arith)
      | inr rest ↦ elim rest [
        | inl same ↦ same
        | inr after ↦ absurd (let two : part y + part x ≤ whole xs = two_parts part whole adds xs j i y x after at_j at_i in omega arith)
      ]
    ]
