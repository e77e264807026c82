-- What the removal of one peer by its serial, where there is one, and of the rest of them make of the lists.
use Rattle.std.proofs.Common.{ℕ, ◌+◌, ◌≤◌, ◌≡◌, ◌∙◌, refl, ap, sym, List, [], ◌∷◌, ◌++◌, length, length-append, append_assoc, append-nil, Bool, true, false, if◌then◌else◌, arith}
use Rattle.std.specs.Prelude.{map, find, Option, Some, None, option_to_list}
use Rattle.std.proofs.lemmas.List.{map-append}
use Rattle.ov_base.specs.Sums.{total}
use Rattle.ov_model.specs.declared.command.Reason.{Reason}
use Rattle.ov_model.specs.declared.note.Note.{Note}
use Rattle.ov_model.specs.declared.note.NoteBody.{NoteBody}
use Rattle.ov_model.specs.declared.note.NoteBody.TheVariants as note
use Rattle.ov_model.specs.Tables.{Peer, Key, without_first, has_serial, by_serial, bare, serials_of, keys_in, key_if_any, keys_of, key_serials}
use Rattle.ov_model.specs.Runs.{numbered}
use Rattle.ov_model.specs.Removals.{times}
use Rattle.ov_model.proofs.Firsts.{times_total}
use Rattle.ov_model.proofs.Times.{times-append}
use Rattle.ov_table.specs.Apart.{Apart}
use Rattle.ov_table.specs.Picked.{del_notes}
use Rattle.ov_table.proofs.Apart.{fewer}

-- ---- one that is taken out, where there is one

out_total : {X : Type 0} (f : X → ℕ) (fits : X → Bool) (xs : List X) → total f (without_first fits xs) + total f (option_to_list (find fits xs)) ≡ total f xs
out_total f fits [] = refl
out_total f fits (x ∷ xs) =
    let later : total f (without_first fits xs) + total f (option_to_list (find fits xs)) ≡ total f xs = out_total f fits xs in
    elim (fits x) as (λ b. total f (if b then xs else x ∷ without_first fits xs) + total f (option_to_list (if b then Some x else find fits xs)) ≡ f x + total f xs) [
      | true ↦ omega arith
      | false ↦ omega arith
    ]

bare_serials : (ps : List Peer) → serials_of (map bare ps) ≡ serials_of ps
bare_serials [] = refl
bare_serials (p ∷ ps) = ap (λ ns. p.serial ∷ ns) (bare_serials ps)

serial_total : (x : ℕ) (ps : List Peer) → times x (serials_of ps) ≡ total (λ (p : Peer). times x (p.serial ∷ [])) ps
serial_total x ps = times_total (λ (p : Peer). p.serial) x ps

key_total : (x : ℕ) (ps : List Peer) → times x (key_serials (keys_of ps)) ≡ total (λ (p : Peer). times x (key_serials (keys_in p.slots))) ps
key_total x [] = refl
key_total x (p ∷ ps) =
    ap (times x) (map-append (λ (k : Key). k.serial) (keys_in p.slots) (keys_of ps))
    ∙ times-append x (key_serials (keys_in p.slots)) (key_serials (keys_of ps))
    ∙ ap (λ n. times x (key_serials (keys_in p.slots)) + n) (key_total x ps)

-- Its serial stands nowhere else.
pub dying_apart : (serial : ℕ) (live dying now : List Peer) (made : ℕ) → now ≡ dying ++ map bare (option_to_list (by_serial serial live)) → Apart (serials_of live) (serials_of dying) made → Apart (serials_of (without_first (has_serial serial) live)) (serials_of now) made
dying_apart serial live dying now made is apart =
    let out : List Peer = option_to_list (by_serial serial live) in
    let rest : List Peer = without_first (has_serial serial) live in
    let same : serials_of now ≡ serials_of dying ++ serials_of out = ap serials_of is ∙ map-append (λ (p : Peer). p.serial) dying (map bare out) ∙ ap (λ ns. serials_of dying ++ ns) (bare_serials out) in
    fewer (serials_of live) (serials_of dying) (serials_of rest) (serials_of now) made apart (λ x.
    let all : total (λ (p : Peer). times x (p.serial ∷ [])) rest + total (λ (p : Peer). times x (p.serial ∷ [])) out ≡ total (λ (p : Peer). times x (p.serial ∷ [])) live = out_total (λ (p : Peer). times x (p.serial ∷ [])) (has_serial serial) live in
    let here : times x (serials_of live) ≡ total (λ (p : Peer). times x (p.serial ∷ [])) live = serial_total x live in
    let stay : times x (serials_of rest) ≡ total (λ (p : Peer). times x (p.serial ∷ [])) rest = serial_total x rest in
    let went : times x (serials_of out) ≡ total (λ (p : Peer). times x (p.serial ∷ [])) out = serial_total x out in
    let both : times x (serials_of now) ≡ times x (serials_of dying) + times x (serials_of out) = ap (times x) same ∙ times-append x (serials_of dying) (serials_of out) in
    omega arith)

-- Nor do those of its keys.
pub keys_apart : (serial : ℕ) (live : List Peer) (retired now : List Key) (made : ℕ) → now ≡ retired ++ keys_of (option_to_list (by_serial serial live)) → Apart (key_serials (keys_of live)) (key_serials retired) made → Apart (key_serials (keys_of (without_first (has_serial serial) live))) (key_serials now) made
keys_apart serial live retired now made is apart =
    let out : List Peer = option_to_list (by_serial serial live) in
    let rest : List Peer = without_first (has_serial serial) live in
    let same : key_serials now ≡ key_serials retired ++ key_serials (keys_of out) = ap key_serials is ∙ map-append (λ (k : Key). k.serial) retired (keys_of out) in
    fewer (key_serials (keys_of live)) (key_serials retired) (key_serials (keys_of rest)) (key_serials now) made apart (λ x.
    let keys : Peer → ℕ = λ p. times x (key_serials (keys_in p.slots)) in
    let all : total keys rest + total keys out ≡ total keys live = out_total keys (has_serial serial) live in
    let here : times x (key_serials (keys_of live)) ≡ total keys live = key_total x live in
    let stay : times x (key_serials (keys_of rest)) ≡ total keys rest = key_total x rest in
    let went : times x (key_serials (keys_of out)) ≡ total keys out = key_total x out in
    let both : times x (key_serials now) ≡ times x (key_serials retired) + times x (key_serials (keys_of out)) = ap (times x) same ∙ times-append x (key_serials retired) (key_serials (keys_of out)) in
    omega arith)

lengths : {X : Type 0} (xs : List X) → total (λ x. 1) xs ≡ length xs
lengths [] = refl
lengths (x ∷ xs) = (let later : total (λ x. 1) xs ≡ length xs = lengths xs in omega arith)

bare_length : (ps : List Peer) → length (map bare ps) ≡ length ps
bare_length [] = refl
bare_length (p ∷ ps) = (let later : length (map bare ps) ≡ length ps = bare_length ps in omega arith)

-- It is one fewer here and one more there.
pub dying_length : (serial : ℕ) (live dying now : List Peer) → now ≡ dying ++ map bare (option_to_list (by_serial serial live)) → length (without_first (has_serial serial) live) + length now ≡ length live + length dying
dying_length serial live dying now is =
    let out : List Peer = option_to_list (by_serial serial live) in
    let rest : List Peer = without_first (has_serial serial) live in
    let all : total (λ (p : Peer). 1) rest + total (λ (p : Peer). 1) out ≡ total (λ (p : Peer). 1) live = out_total (λ (p : Peer). 1) (has_serial serial) live in
    let here : total (λ (p : Peer). 1) live ≡ length live = lengths live in
    let stay : total (λ (p : Peer). 1) rest ≡ length rest = lengths rest in
    let went : total (λ (p : Peer). 1) out ≡ length out = lengths out in
    let both : length now ≡ length dying + length out = ap length is ∙ length-append dying (map bare out) ∙ ap (λ n. length dying + n) (bare_length out) in
    omega arith

keys_few : (a b : Option Key) → length (key_if_any a ++ key_if_any b) ≤ 2
keys_few None None = omega arith
keys_few None (Some b) = omega arith
keys_few (Some a) None = omega arith
keys_few (Some a) (Some b) = omega arith

few_of : (o : Option Peer) → length (keys_of (option_to_list o)) ≤ 2
few_of None = omega arith
few_of (Some p) = (let few : length (keys_in p.slots) ≤ 2 = keys_few p.slots.primary p.slots.secondary in let all : length (keys_in p.slots ++ []) ≡ length (keys_in p.slots) = ap length (append-nil (keys_in p.slots)) in omega arith)

-- At most two keys are retired.
pub keys_more : (serial : ℕ) (live : List Peer) (retired now : List Key) → now ≡ retired ++ keys_of (option_to_list (by_serial serial live)) → length now ≤ length retired + 2
keys_more serial live retired now is =
    let few : length (keys_of (option_to_list (by_serial serial live))) ≤ 2 = few_of (by_serial serial live) in
    let both : length now ≡ length retired + length (keys_of (option_to_list (by_serial serial live))) = ap length is ∙ length-append retired (keys_of (option_to_list (by_serial serial live))) in
    omega arith

-- ---- what was done and what is left to do

pub bare_step : (dying now all out rest : List Peer) → now ≡ dying ++ map bare out → dying ++ map bare (out ++ rest) ≡ all → now ++ map bare rest ≡ all
bare_step dying now all out rest is whole = ap (λ ps. ps ++ map bare rest) is ∙ append_assoc dying (map bare out) (map bare rest) ∙ ap (λ ps. dying ++ ps) (sym (map-append bare out rest)) ∙ whole

keys_of-append : (ps qs : List Peer) → keys_of (ps ++ qs) ≡ keys_of ps ++ keys_of qs
keys_of-append [] qs = refl
keys_of-append (p ∷ ps) qs = ap (λ ks. keys_in p.slots ++ ks) (keys_of-append ps qs) ∙ sym (append_assoc (keys_in p.slots) (keys_of ps) (keys_of qs))

pub keys_step : (retired now all : List Key) (out rest : List Peer) → now ≡ retired ++ keys_of out → retired ++ keys_of (out ++ rest) ≡ all → now ++ keys_of rest ≡ all
keys_step retired now all out rest is whole = ap (λ ks. ks ++ keys_of rest) is ∙ append_assoc retired (keys_of out) (keys_of rest) ∙ ap (λ ks. retired ++ ks) (sym (keys_of-append out rest)) ∙ whole

pub map_step : {X Y : Type 0} (f : X → Y) (was now all : List Y) (out rest : List X) → now ≡ was ++ map f out → was ++ map f (out ++ rest) ≡ all → now ++ map f rest ≡ all
map_step f was now all out rest is whole = ap (λ ys. ys ++ map f rest) is ∙ append_assoc was (map f out) (map f rest) ∙ ap (λ ys. was ++ ys) (sym (map-append f out rest)) ∙ whole

pub taken_step : (was now all : List ℕ) (out rest : List Peer) → now ≡ was ++ key_serials (keys_of out) → was ++ key_serials (keys_of (out ++ rest)) ≡ all → now ++ key_serials (keys_of rest) ≡ all
taken_step was now all out rest is whole = map_step (λ (k : Key). k.serial) was now all (keys_of out) (keys_of rest) is (ap (λ ks. was ++ key_serials ks) (sym (keys_of-append out rest)) ∙ whole)

pub notes_step : (entry : ℕ) (reason : Reason) (was now all : List Note) (out rest : List Peer) → now ≡ was ++ numbered entry (del_notes reason out) → was ++ numbered entry (del_notes reason (out ++ rest)) ≡ all → now ++ numbered entry (del_notes reason rest) ≡ all
notes_step entry reason was now all out rest is whole =
    map_step (λ (b : NoteBody). record { entry = entry; body = b }) was now all (del_notes reason out) (del_notes reason rest) is
    (ap (λ bs. was ++ numbered entry bs) (sym (map-append (λ (p : Peer). note.PeerDel p.id reason) out rest)) ∙ whole)

-- Where nobody is taken out, nothing is added.
pub none_more : {X Y : Type 0} (f : List X → List Y) (ys : List Y) (o : Option X) → o ≡ None → f [] ≡ [] → ys ≡ ys ++ f (option_to_list o)
none_more f ys o none nil = sym (ap (λ x. ys ++ f (option_to_list x)) none ∙ ap (λ zs. ys ++ zs) nil ∙ append-nil ys)

-- Nothing is left to do at the end.
pub none_left : {X Y : Type 0} (f : List X → List Y) (ys all : List Y) (rest : List X) → rest ≡ [] → f [] ≡ [] → ys ++ f rest ≡ all → ys ≡ all
none_left f ys all rest none nil whole = sym (append-nil ys) ∙ ap (λ zs. ys ++ zs) (sym nil) ∙ ap (λ xs. ys ++ f xs) (sym none) ∙ whole
