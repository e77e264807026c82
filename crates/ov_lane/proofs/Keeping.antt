-- What a call keeps of a pass, and a table with one pass.
use Rattle.std.proofs.Common.{◌≡◌, ℕ, List, [], ◌∷◌, ◌++◌, length, length-append, refl, sym, ap, ◌∙◌, subst, arith, Ok, Err}
use Rattle.std.specs.Prelude.{Result, IfOk, OnErr}
use Rattle.ov_base.specs.declared.memory.Memory.{Memory}
use Rattle.ov_model.specs.declared.command.Command.{Command}
use Rattle.ov_model.specs.declared.reply.Reply.{Reply}
use Rattle.ov_replay.specs.Desk.{part_at}
use Rattle.ov_share.specs.Shares.{Common, Sharing, IsShareOf}
use Rattle.ov_share.specs.Passings.{Passing}
use Rattle.ov_lane.specs.Passes.{Shared, IsFree, AreAllPasses, CallDone, OnlySaw}

-- A call keeps whose the pass is, its number and its shares, and a pass that holds nothing.
pub record Keeps (old new : Passing) : Type 0 where
  pub of : (w : Common) → IsShareOf w old.share → IsShareOf w new.share
  pub number : new.number ≡ old.number
  pub table : new.share.sight.share ≡ old.share.sight.share
  pub parts : new.share.parts ≡ old.share.parts
  pub drawer : new.share.drawer ≡ old.share.drawer
  pub free : IsFree old → IsFree new

same_of : (w : Common) (old new : Sharing) → new ≡ record old { sight = new.sight } → IsShareOf w old → IsShareOf w new
same_of w old new same of = subst (IsShareOf w) (sym same) (record { table = of.table; shards = of.shards; counters = of.counters })

pub kept_by : (old new : Passing) (at : ℕ) (command : Command) (res : Result Reply Memory) → IfOk res (λ r. CallDone old new at command r) → OnErr res (OnlySaw old new) → Keeps old new
kept_by old new at command (Ok r) done saw =
    let share : new.share ≡ record old.share { sight = new.share.sight } = ap (λ (p : Passing). p.share) done.same in
    record {
      of = λ w of. same_of w old.share new.share share of;
      number = ap (λ (p : Passing). p.number) done.same;
      table = done.called.share;
      parts = ap (λ (s : Sharing). s.parts) share;
      drawer = ap (λ (s : Sharing). s.drawer) share;
      free = λ free. record { holds = done.called.holds ∙ free.holds; owes = done.called.owes };
    }
kept_by old new at command (Err e) done saw =
    let sight = saw.seen.seen.same in
    record {
      of = λ w of. same_of w old.share new.share saw.seen.same of;
      number = ap (λ (p : Passing). p.number) saw.same;
      table = ap (λ s. s.share) sight;
      parts = ap (λ (s : Sharing). s.parts) saw.seen.same;
      drawer = ap (λ (s : Sharing). s.drawer) saw.seen.same;
      free = λ free. record { holds = ap (λ s. s.holds) sight ∙ free.holds; owes = ap (λ s. s.owes) sight ∙ free.owes };
    }

pub keeps_on : (a b c : Passing) → Keeps a b → Keeps b c → Keeps a c
keeps_on a b c p q = record {
  of = λ w of. q.of w (p.of w of);
  number = q.number ∙ p.number;
  table = q.table ∙ p.table;
  parts = q.parts ∙ p.parts;
  drawer = q.drawer ∙ p.drawer;
  free = λ free. q.free (p.free free);
}

pub no_others : (l : List Passing) → length l ≡ 0 → l ≡ []
no_others [] e = refl
no_others (p ∷ l) e = absurd (omega arith)

-- A table's one pass, taken out of its list and put back after calls, is all passes.
pub one_all : (o : Shared) (passes rest : List Passing) (old new : Passing) → length passes ≡ 1 → AreAllPasses o passes → passes ≡ rest ++ old ∷ [] → Keeps old new → AreAllPasses o (rest ++ new ∷ [])
one_all o passes rest old new long all split keeps =
    let none : rest ≡ [] = no_others rest (omega (arith, ap length split, length-append rest (old ∷ []))) in
    let was : AreAllPasses o (old ∷ []) = subst (AreAllPasses o) (split ∙ ap (λ l. l ++ old ∷ []) none) all in
    let now : AreAllPasses o (new ∷ []) = record {
      of = (keeps.of o.words was.of.0, tt);
      free = (keeps.free was.free.0, tt);
      numbers = (omega arith, tt);
      table = (let same = keeps.table in let whole = was.table in omega arith);
      parts = λ i lt. (let same = ap (λ ps. (part_at ps i).share) keeps.parts in let whole = was.parts i lt in omega arith);
      counters = (let same = ap (λ d. d.share) keeps.drawer in let whole = was.counters in omega arith);
    } in
    subst (λ (l : List Passing). AreAllPasses o (l ++ new ∷ [])) (sym none) now
