-- Clap has matches exactly where it finds no fault, and what it found for the numbers lies in their bounds.
use Rattle.std.proofs.Common.{◌≡◌, ◌∙◌, inl, inr, ap, map, refl, true, codes, sym, [], ◌∷◌}
use Rattle.std.specs.Prelude.{string_bytes}
use Rattle.clap.specs.Words.{App, HasKind, Kinds, fault_of, is_simple, is_simple_and_free, kind_of, matches_of}
use Rattle.clap.specs.declared.error.Error.{Error}
use Rattle.clap.specs.declared.error.kind.ErrorKind.TheVariants.{OutOfMemory}
use Rattle.clap.proofs.OnLiterals.{clap_on_literals}
use Rattle.ov_plan.specs.Command.{command}
use Rattle.ov_plan.proofs.Numbers.{number_found}
use Rattle.ov_plan.proofs.command.matched.Goals as goal

is_free : is_simple_and_free command ≡ true
unfolding command clap_on_literals
is_free = refl

simple : is_simple command ≡ true
unfolding command clap_on_literals
simple = refl

-- An error that isn't want of memory has one of the kinds, so there is one.
some_kind : (kinds : Kinds) (e : Error) → HasKind kinds e → (kind_of e ≡ OutOfMemory → ⊥) → kinds ≡ [] → ⊥
some_kind [] e (inl memory) other is = other memory
some_kind [] e (inr among) other is = among
some_kind (k ∷ ks) e found other is = cc

pub returns-in-Ok-try_get_matches_from-clause-fault : goal.returns-in-Ok-try_get_matches_from-clause-fault
returns-in-Ok-try_get_matches_from-clause-fault c =
    ap (λ (a : App). fault_of a (map string_bytes c.args.words.now)) (sym c.in-Ok.ensures)
    ∙ c.in-Ok-try_get_matches_from.ensures.kinds (ap is_simple_and_free c.in-Ok.ensures ∙ is_free)

pub returns-in-Ok-try_get_matches_from-clause-rows : goal.returns-in-Ok-try_get_matches_from-clause-rows
returns-in-Ok-try_get_matches_from-clause-rows c =
    (c.in-Ok-try_get_matches_from.ensures.matches (ap is_simple c.in-Ok.ensures ∙ simple)).0
    ∙ ap (λ (a : App). matches_of a (map string_bytes c.args.words.now)) c.in-Ok.ensures

pub returns-in-Err-try_get_matches_from-clause-usage : goal.returns-in-Err-try_get_matches_from-clause-usage
returns-in-Err-try_get_matches_from-clause-usage c = λ is none.
    let why = c.in-Err-try_get_matches_from.ensures.kinds (ap is_simple_and_free c.in-Ok.ensures ∙ is_free) in
    some_kind _ c.in-Err-try_get_matches_from.error why (λ memory. c.stop_of.ensures is (c.kind.ensures ∙ memory))
    (ap (λ (a : App). fault_of a (map string_bytes c.args.words.now)) c.in-Ok.ensures ∙ none)

pub returns-in-Ok-try_get_matches_from-clause-numbers : goal.returns-in-Ok-try_get_matches_from-clause-numbers
returns-in-Ok-try_get_matches_from-clause-numbers c =
    let found = number_found c.in-Ok.command c.in-Ok-try_get_matches_from.matches c.in-Ok.ensures c.in-Ok-try_get_matches_from.ensures.parsed in
    record {
      lanes = found 1 (codes "lanes") 1 64 refl refl;
      head = found 2 (codes "head") 0 262144 refl refl;
      first_id = found 3 (codes "first-id") 1 4294967295 refl refl;
      seed = found 5 (codes "seed") 0 4294967295 refl refl;
      count = found 6 (codes "count") 1 100000 refl refl;
      turns = found 7 (codes "turns") 1 4294967295 refl refl;
      port = found 8 (codes "port") 1 65344 refl refl;
    }
