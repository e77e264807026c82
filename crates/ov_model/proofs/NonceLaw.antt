-- No nonce is used twice under the same bytes of a key, where no two keys seal with the same bytes and tail.
use Rattle.std.proofs.Common.{ℕ, ◌≡◌, ◌≢◌, ◌+◌, ◌<◌, ◌≤◌, List, [], ◌∷◌, ◌++◌, length, refl, sym, ◌∙◌, subst, ap, true, false, arith, if◌then◌else◌, ◌==◌, ◌⊎◌, inl, inr}
use Rattle.std.specs.Prelude.{Option, Some, None, map, slice_get}
use Rattle.std.specs.Option.{option_or, option_and_then}
use Rattle.std.specs.Str.{bytes_eq}
use Rattle.std.specs.List.{AllByRecursion, IsDistinct}
use Rattle.std.proofs.lemmas.Bool.{cases_eq, eq-eqb, ne_eqb, both_ways}
use Rattle.std.proofs.lemmas.Bool.Decides.{nat_tests}
use Rattle.std.proofs.lemmas.Slice.Eq.{bytes_eq-Decides}
use Rattle.ov_base.specs.Sums.{between}
use Rattle.ov_aes.specs.Aes.{key_list}
use Rattle.ov_model.specs.declared.command.Command.TheVariants as command
use Rattle.ov_model.specs.declared.command.KeyConf.{KeyConf}
use Rattle.ov_model.specs.declared.command.KeyDir.{KeyDir}
use Rattle.ov_model.specs.declared.act.Act.{Act}
use Rattle.ov_model.specs.declared.act.Act.TheVariants as act
use Rattle.ov_model.specs.declared.entry.Entry.{Entry}
use Rattle.ov_model.specs.declared.reply.Reply.{Reply}
use Rattle.ov_model.specs.declared.reply.Reply.TheVariants as reply
use Rattle.ov_model.specs.declared.answer.Answer.{Answer}
use Rattle.ov_model.specs.declared.answer.SealedOut.{SealedOut}
use Rattle.ov_model.specs.declared.line.Script.{Script}
use Rattle.ov_model.specs.declared.report.LaneLog.{LaneLog}
use Rattle.ov_model.specs.declared.report.Report.{Report}
use Rattle.ov_model.specs.Tables.{Material}
use Rattle.ov_model.specs.Removals.{times}
use Rattle.ov_model.specs.Keys.{conf_made, material_of, key_by, key_of, sealing_in, same_dir, KeysDiffer, sealed_outs, id_of, ids_under, ids_of, ids_in, IdsCount}
use Rattle.ov_model.specs.Legal.{Legal}
use Rattle.ov_model.specs.Laws.{answer_at, sealed_at, IsSealed, NoncesDiffer}
use Rattle.ov_model.proofs.Nonces.{nonce_ids, nonce_tails, out_times, answer_times, answers_first, outs_first, own_once, lanes_first, one_part, one_at}

-- ---- which key has which bytes

-- An entry makes no key, or one.
record MakesNone (a : Act) (r : Reply) : Type 0 where
  confs : conf_made a r ≡ []
  key : (k : ℕ) → key_by a r k ≡ None

record MakesOne (a : Act) (r : Reply) : Type 0 where
  conf : KeyConf
  serial : ℕ
  confs : conf_made a r ≡ conf ∷ []
  key : (k : ℕ) → key_by a r k ≡ (if serial == k then Some (material_of conf) else None)

key_new_makes : (c : KeyConf) (r : Reply) → MakesNone (act.Do (command.KeyNew c)) r ⊎ MakesOne (act.Do (command.KeyNew c)) r
key_new_makes c (reply.Made serial) = inr (record { conf = c; serial = serial; confs = refl; key = λ k. refl })
key_new_makes c _ = inl (record { confs = refl; key = λ k. refl })

makes : (a : Act) (r : Reply) → MakesNone a r ⊎ MakesOne a r
makes (act.Do (command.KeyNew c)) r = key_new_makes c r
makes _ r = inl (record { confs = refl; key = λ k. refl })

here : (e : Entry) (one : MakesOne e.call.act e.reply) (k : ℕ) → one.serial ≡ k → key_by e.call.act e.reply k ≡ Some (material_of one.conf)
here e one k same = rw (one.key k, eq-eqb one.serial k same) refl

elsewhere : (e : Entry) (one : MakesOne e.call.act e.reply) (k : ℕ) → one.serial ≢ k → key_by e.call.act e.reply k ≡ None
elsewhere e one k other = rw (one.key k, ne_eqb one.serial k other) refl

-- What holds of all that a journal's keys seal with holds of each of its keys.
sealing_has : (P : KeyDir → Type 0) (es : List Entry) (k : ℕ) (m : Material) → key_of es k ≡ Some m → AllByRecursion P (sealing_in es) → P m.encrypt
sealing_has P [] k m is all = cc
sealing_has P (e ∷ es) k m is all =
    elim (makes e.call.act e.reply) [
      | inl none ↦
          let rest : key_of es k ≡ Some m = sym (ap (λ o. option_or o (key_of es k)) (none.key k)) ∙ is in
          let others : AllByRecursion P (sealing_in es) = subst (λ (cs : List KeyConf). AllByRecursion P (map (λ c. c.encrypt) cs ++ sealing_in es)) none.confs all in
          sealing_has P es k m rest others
      | inr one ↦
          let both : AllByRecursion P (one.conf.encrypt ∷ sealing_in es) = subst (λ (cs : List KeyConf). AllByRecursion P (map (λ c. c.encrypt) cs ++ sealing_in es)) one.confs all in
          elim (cases_eq one.serial k) [
            | inl same ↦
                let found : Some (material_of one.conf) ≡ Some m = sym (ap (λ o. option_or o (key_of es k)) (here e one k same)) ∙ is in
                let material : material_of one.conf ≡ m = cc in
                subst (λ (n : Material). P n.encrypt) material both.0
            | inr other ↦
                let rest : key_of es k ≡ Some m = sym (ap (λ o. option_or o (key_of es k)) (elsewhere e one k other)) ∙ is in
                sealing_has P es k m rest both.1
          ]
    ]

same_dir_is : (d e : KeyDir) → key_list d.key ≡ key_list e.key → d.tail ≡ e.tail → same_dir d e ≡ true
same_dir_is d e keys tails =
    let first : bytes_eq (key_list d.key) (key_list e.key) ≡ true = (bytes_eq-Decides (key_list d.key) (key_list e.key)).1 keys in
    let second : bytes_eq d.tail e.tail ≡ true = (bytes_eq-Decides d.tail e.tail).1 tails in
    rw (first, second) refl

-- Two serials under which a journal installed the same bytes and tail are the same.
same_serial : (es : List Entry) (k l : ℕ) (m n : Material) → KeysDiffer es → key_of es k ≡ Some m → key_of es l ≡ Some n
    → key_list m.encrypt.key ≡ key_list n.encrypt.key → m.encrypt.tail ≡ n.encrypt.tail → k ≡ l
unfolding IsDistinct
same_serial [] k l m n differ is_m is_n keys tails = cc
same_serial (e ∷ es) k l m n differ is_m is_n keys tails =
    elim (makes e.call.act e.reply) [
      | inl none ↦
          let m_later : key_of es k ≡ Some m = sym (ap (λ o. option_or o (key_of es k)) (none.key k)) ∙ is_m in
          let n_later : key_of es l ≡ Some n = sym (ap (λ o. option_or o (key_of es l)) (none.key l)) ∙ is_n in
          let rest : KeysDiffer es = subst (λ (cs : List KeyConf). IsDistinct same_dir (map (λ c. c.encrypt) cs ++ sealing_in es)) none.confs differ in
          same_serial es k l m n rest m_later n_later keys tails
      | inr one ↦
          let both : IsDistinct same_dir (one.conf.encrypt ∷ sealing_in es) = subst (λ (cs : List KeyConf). IsDistinct same_dir (map (λ c. c.encrypt) cs ++ sealing_in es)) one.confs differ in
          let other_dir : KeyDir → Type 0 = λ d. same_dir one.conf.encrypt d ≡ false in
          elim (cases_eq one.serial k) [
            | inl first_k ↦ elim (cases_eq one.serial l) [
              | inl first_l ↦ sym first_k ∙ first_l
              | inr later_l ↦
                  let own : Material = material_of one.conf in
                  let is_own : Some own ≡ Some m = sym (ap (λ o. option_or o (key_of es k)) (here e one k first_k)) ∙ is_m in
                  let same : own ≡ m = cc in
                  let n_later : key_of es l ≡ Some n = sym (ap (λ o. option_or o (key_of es l)) (elsewhere e one l later_l)) ∙ is_n in
                  let apart : same_dir one.conf.encrypt n.encrypt ≡ false = sealing_has other_dir es l n n_later both.0 in
                  absurd (both_ways _ apart (same_dir_is one.conf.encrypt n.encrypt (ap (λ (w : Material). key_list w.encrypt.key) same ∙ keys) (ap (λ (w : Material). w.encrypt.tail) same ∙ tails)))
            ]
            | inr later_k ↦
                let m_later : key_of es k ≡ Some m = sym (ap (λ o. option_or o (key_of es k)) (elsewhere e one k later_k)) ∙ is_m in
                elim (cases_eq one.serial l) [
                  | inl first_l ↦
                      let own : Material = material_of one.conf in
                      let is_own : Some own ≡ Some n = sym (ap (λ o. option_or o (key_of es l)) (here e one l first_l)) ∙ is_n in
                      let same : own ≡ n = cc in
                      let apart : same_dir one.conf.encrypt m.encrypt ≡ false = sealing_has other_dir es k m m_later both.0 in
                      absurd (both_ways _ apart (same_dir_is one.conf.encrypt m.encrypt (ap (λ (w : Material). key_list w.encrypt.key) same ∙ sym keys) (ap (λ (w : Material). w.encrypt.tail) same ∙ sym tails)))
                  | inr later_l ↦
                      let n_later : key_of es l ≡ Some n = sym (ap (λ o. option_or o (key_of es l)) (elsewhere e one l later_l)) ∙ is_n in
                      same_serial es k l m n both.1 m_later n_later keys tails
                ]
          ]
    ]

-- ---- one id, one place

one_at_most : (first end id n : ℕ) → n ≡ between first end id → n ≤ 1
one_at_most first end id n is = grind (arith, nat_tests)

within_range : (first end id n : ℕ) → n ≡ between first end id → 1 ≤ n → id < end
within_range first end id n is some = grind (arith, nat_tests)

-- The lane's log with an answer in it.
pub record InLane (lanes : List LaneLog) (lane line : ℕ) (a : Answer) : Type 0 where
  pub log : LaneLog
  pub log_is : slice_get lanes lane ≡ Some log
  pub at : slice_get log.answers line ≡ Some a

in_lane_of : (lanes : List LaneLog) (lane line : ℕ) (a : Answer) (log : Option LaneLog) → slice_get lanes lane ≡ log → answer_at lanes lane line ≡ Some a → InLane lanes lane line a
in_lane_of lanes lane line a None is at = absurd (let none : answer_at lanes lane line ≡ None = rw is refl in cc)
in_lane_of lanes lane line a (Some log) is at = let its : answer_at lanes lane line ≡ slice_get log.answers line = rw is refl in record { log = log; log_is = is; at = sym its ∙ at }

pub in_lane : (lanes : List LaneLog) (lane line : ℕ) (a : Answer) → answer_at lanes lane line ≡ Some a → InLane lanes lane line a
in_lane lanes lane line a at = in_lane_of lanes lane line a (slice_get lanes lane) refl at

-- The answer with a sealed datagram in it.
pub record SealedIn (lanes : List LaneLog) (lane line n : ℕ) (s : SealedOut) : Type 0 where
  pub answer : Answer
  pub at : answer_at lanes lane line ≡ Some answer
  pub inside : InLane lanes lane line answer
  pub out : slice_get (sealed_outs answer) n ≡ Some s

sealed_in_of : (lanes : List LaneLog) (lane line n : ℕ) (s : SealedOut) (a : Option Answer) → answer_at lanes lane line ≡ a → sealed_at lanes lane line n ≡ Some s → SealedIn lanes lane line n s
sealed_in_of lanes lane line n s None is at = absurd (let none : sealed_at lanes lane line n ≡ None = ap (option_and_then (λ (x : Answer). slice_get (sealed_outs x) n)) is in cc)
sealed_in_of lanes lane line n s (Some a) is at =
    let its : sealed_at lanes lane line n ≡ slice_get (sealed_outs a) n = ap (option_and_then (λ (x : Answer). slice_get (sealed_outs x) n)) is in
    record { answer = a; at = is; inside = in_lane lanes lane line a is; out = sym its ∙ at }

pub sealed_inside : (lanes : List LaneLog) (lane line n : ℕ) (s : SealedOut) → sealed_at lanes lane line n ≡ Some s → SealedIn lanes lane line n s
sealed_inside lanes lane line n s at = sealed_in_of lanes lane line n s (answer_at lanes lane line) refl at

-- Its packet id counts in its answer, in its lane and over all lanes.
record Counted (lanes : List LaneLog) (id key : ℕ) (a : Answer) (log : LaneLog) : Type 0 where
  answer : 1 ≤ answer_times id key a
  lane : 1 ≤ times id (ids_of log.answers key)
  all : 1 ≤ times id (ids_in lanes key)

counted : (lanes : List LaneLog) (lane line n id key : ℕ) (s : SealedOut) (x : SealedIn lanes lane line n s) → s.key ≡ key → s.id ≡ id → Counted lanes id key x.answer x.inside.log
counted lanes lane line n id key s x key_is id_is =
    let own : out_times id key s ≡ 1 = own_once id key s key_is id_is in
    let out : out_times id key s ≤ answer_times id key x.answer = one_part (out_times id key) (λ ss. times id (ids_under key (map id_of ss))) (λ o os. outs_first id key o os) (sealed_outs x.answer) n s x.out in
    let line_counts : answer_times id key x.answer ≤ times id (ids_of x.inside.log.answers key) = one_part (answer_times id key) (λ ws. times id (ids_of ws key)) (λ w ws. answers_first id key w ws) x.inside.log.answers line x.answer x.inside.at in
    let lane_counts : times id (ids_of x.inside.log.answers key) ≤ times id (ids_in lanes key) = one_part (λ (l : LaneLog). times id (ids_of l.answers key)) (λ ls. times id (ids_in ls key)) (λ l ls. lanes_first id key l ls) lanes lane x.inside.log x.inside.log_is in
    record { answer = omega arith; lane = omega arith; all = omega arith }

-- A packet id of a key is sealed at one place.
one_place : (first : ℕ) (report : Report) (lane other line later i j : ℕ) (a b : SealedOut) → IdsCount first report → IsSealed report lane line i a → IsSealed report other later j b → a.key ≡ b.key → a.id ≡ b.id → (lane ≡ other) × (line ≡ later) × (i ≡ j)
one_place first report lane other line later i j a b counts at_a at_b same_key same_id =
    let id : ℕ = a.id in
    let key : ℕ = a.key in
    let x : SealedIn report.lanes lane line i a = sealed_inside report.lanes lane line i a at_a in
    let y : SealedIn report.lanes other later j b = sealed_inside report.lanes other later j b at_b in
    let of_x : Counted report.lanes id key x.answer x.inside.log = counted report.lanes lane line i id key a x refl refl in
    let of_y : Counted report.lanes id key y.answer y.inside.log = counted report.lanes other later j id key b y (sym same_key) (sym same_id) in
    let most : times id (ids_in report.lanes key) ≤ 1 = one_at_most first (first + length (ids_in report.lanes key)) id (times id (ids_in report.lanes key)) ((counts.each key).once id) in
    let lanes : lane ≡ other = one_at (λ (l : LaneLog). times id (ids_of l.answers key)) (λ ls. times id (ids_in ls key)) (λ l ls. lanes_first id key l ls) report.lanes lane other x.inside.log y.inside.log most x.inside.log_is y.inside.log_is of_x.lane of_y.lane in
    let logs : Some y.inside.log ≡ Some x.inside.log = sym y.inside.log_is ∙ ap (λ k. slice_get report.lanes k) (sym lanes) ∙ x.inside.log_is in
    let log : y.inside.log ≡ x.inside.log = cc in
    let at : slice_get x.inside.log.answers later ≡ Some y.answer = subst (λ (l : LaneLog). slice_get l.answers later ≡ Some y.answer) log y.inside.at in
    let in_lane_once : times id (ids_of x.inside.log.answers key) ≤ 1 = (let all : times id (ids_of x.inside.log.answers key) ≤ times id (ids_in report.lanes key) = one_part (λ (l : LaneLog). times id (ids_of l.answers key)) (λ ls. times id (ids_in ls key)) (λ l ls. lanes_first id key l ls) report.lanes lane x.inside.log x.inside.log_is in omega arith) in
    let lines : line ≡ later = one_at (answer_times id key) (λ ws. times id (ids_of ws key)) (λ w ws. answers_first id key w ws) x.inside.log.answers line later x.answer y.answer in_lane_once x.inside.at at of_x.answer of_y.answer in
    let answers : Some y.answer ≡ Some x.answer = sym at ∙ ap (λ k. slice_get x.inside.log.answers k) (sym lines) ∙ x.inside.at in
    let answer : y.answer ≡ x.answer = cc in
    let out : slice_get (sealed_outs x.answer) j ≡ Some b = subst (λ (w : Answer). slice_get (sealed_outs w) j ≡ Some b) answer y.out in
    let in_answer_once : answer_times id key x.answer ≤ 1 = (let all : answer_times id key x.answer ≤ times id (ids_of x.inside.log.answers key) = one_part (answer_times id key) (λ ws. times id (ids_of ws key)) (λ w ws. answers_first id key w ws) x.inside.log.answers line x.answer x.inside.at in omega arith) in
    let own_a : out_times id key a ≡ 1 = own_once id key a refl refl in
    let own_b : out_times id key b ≡ 1 = own_once id key b (sym same_key) (sym same_id) in
    (lanes, lines, one_at (out_times id key) (λ ss. times id (ids_under key (map id_of ss))) (λ o os. outs_first id key o os) (sealed_outs x.answer) i j a b in_answer_once x.out out (omega arith) (omega arith))

-- A sealed id is below 2 to the 32nd.
small_id : (first : ℕ) (report : Report) (lane line n : ℕ) (a : SealedOut) → IdsCount first report → IsSealed report lane line n a → a.id < 4294967296
small_id first report lane line n a counts at =
    let x : SealedIn report.lanes lane line n a = sealed_inside report.lanes lane line n a at in
    let all : 1 ≤ times a.id (ids_in report.lanes a.key) = (counted report.lanes lane line n a.id a.key a x refl refl).all in
    let below : a.id < first + length (ids_in report.lanes a.key) = within_range first (first + length (ids_in report.lanes a.key)) a.id (times a.id (ids_in report.lanes a.key)) ((counts.each a.key).once a.id) all in
    let most : first + length (ids_in report.lanes a.key) < 4294967297 = (counts.each a.key).most in
    omega arith

pub nonces_differ : (script : Script) (first : ℕ) (report : Report) → Legal script first report → KeysDiffer report.journal → NoncesDiffer report
nonces_differ script first report legal differ lane other line later i j a b at_a at_b m n is_m is_n keys nonces =
    let small_a : a.id < 4294967296 = small_id first report lane line i a legal.ids at_a in
    let small_b : b.id < 4294967296 = small_id first report other later j b legal.ids at_b in
    let id : a.id ≡ b.id = nonce_ids a.id b.id m.encrypt.tail n.encrypt.tail small_a small_b nonces in
    let tails : m.encrypt.tail ≡ n.encrypt.tail = nonce_tails a.id b.id m.encrypt.tail n.encrypt.tail nonces in
    let key : a.key ≡ b.key = same_serial report.journal a.key b.key m n differ is_m is_n keys tails in
    one_place first report lane other line later i j a b legal.ids at_a at_b key id
