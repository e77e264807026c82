-- The passes of a shared table: what contracts see of the table, and what a call makes of a pass.
use Rattle.std.specs.Prelude.{◌≡◌, ⊤, ℕ, suc, ◌+◌, ◌<◌, List, [], ◌∷◌, Some, length, map, slice_get, take}
use Rattle.std.specs.List.{AllByRecursion}
use Rattle.ov_base.specs.Sums.{total}
use Rattle.ov_model.specs.declared.act.Call.{Call}
use Rattle.ov_model.specs.declared.command.Command.{Command}
use Rattle.ov_model.specs.declared.entry.Entry.{Entry}
use Rattle.ov_model.specs.declared.reply.Reply.{Reply}
use Rattle.ov_model.specs.declared.line.Route.{Route}
use Rattle.ov_model.specs.Step.{step}
use Rattle.ov_model.specs.Path.{removed}
use Rattle.ov_model.specs.Limits.{shard_count}
use Rattle.ov_model.specs.Runs.{last_table}
use Rattle.ov_model.specs.Tables.{Table, serials_of, key_serials}
use Rattle.ov_model.specs.Removals.{AllReleased, EachReleasedOnce, released_by, key_released_by, times}
use Rattle.ov_model.specs.Lifetime.{PeersStayReleased, KeysStayReleased}
use Rattle.ov_model.specs.Own.{RiseFrom}
use Rattle.ov_replay.specs.Desk.{part_at}
use Rattle.ov_share.specs.Shares as shares
use Rattle.ov_share.specs.Shares.{Common, Sharing, IsShareOf}
use Rattle.ov_share.specs.Passings.{Passing}
use Rattle.ov_ticket.specs.Tickets.{IsCalled}

-- A shared table: the words that its passes share, and the routes of its lines.
pub record Shared : Type 0 where
  pub words : Common
  pub routes : List Route

-- A pass is the table's.
abbrev pub IsPassOf : Shared → Passing → Type 0
IsPassOf o p = IsShareOf o.words p.share

-- It holds nothing and owes no release.
abbrev pub IsFree : Passing → Type 0
IsFree p = shares.IsFree p.share

-- The pass's next line was answered.
pub record CallDone (old new : Passing) (at : ℕ) (command : Command) (r : Reply) : Type 0 where
  pub called : IsCalled old.share.sight new.share.sight (record { lane = old.number; line = old.lines }) at command r
  pub same : new ≡ record old { lines = old.lines + 1; share = record old.share { sight = new.share.sight } }

-- More may have been seen, and all else is as it was: after a call for which there was no memory, and where two passes
-- met.
pub record OnlySaw (old new : Passing) : Type 0 where
  pub seen : shares.OnlySaw old.share new.share
  pub same : new ≡ record old { share = new.share }

-- It has seen, made and drawn nothing, and holds and owes nothing.
pub record HasNothing (s : Sharing) : Type 0 where
  pub seen : s.sight.seen ≡ []
  pub own : s.sight.own ≡ []
  pub free : shares.IsFree s
  pub parts_seen : (i : ℕ) → i < shard_count → (part_at s.parts i).seen ≡ []
  pub parts_own : (i : ℕ) → i < shard_count → (part_at s.parts i).own ≡ []
  pub drawn : s.drawer.drawn ≡ []
  pub spent : s.drawer.spent ≡ []

-- A pass of the table before its first line.
pub record IsFresh (o : Shared) (number : ℕ) (p : Passing) : Type 0 where
  pub of : IsPassOf o p
  pub number_is : p.number ≡ number
  pub lines : p.lines ≡ 0
  pub nothing : HasNothing p.share

-- Passes before their first lines, numbered from a number on.
abbrev pub AreFreshFrom : Shared → ℕ → List Passing → Type 0
AreFreshFrom o number [] = ⊤
AreFreshFrom o number (p ∷ passes) = IsFresh o number p × AreFreshFrom o (suc number) passes

-- The passes that a table begins with, numbered from 0.
pub record AreFresh (o : Shared) (count : ℕ) (passes : List Passing) : Type 0 where
  pub counted : length passes ≡ count
  pub each : AreFreshFrom o 0 passes

-- These are all passes of the table, and each holds nothing and owes no release.
pub record AreAllPasses (o : Shared) (passes : List Passing) : Type 0 where
  pub of : AllByRecursion (IsPassOf o) passes
  pub free : AllByRecursion IsFree passes
  pub numbers : RiseFrom 0 (map (λ p. p.number) passes)
  pub table : total (λ p. p.share.sight.share) passes ≡ 4294967296
  pub parts : (i : ℕ) → i < shard_count → total (λ p. (part_at p.share.parts i).share) passes ≡ 4294967296
  pub counters : total (λ p. p.share.drawer.share) passes ≡ 4294967296

-- At an entry a peer joins the dying ones exactly where the entry removes it, and leaves them exactly where the entry lets it go; and so does a key the retired ones, where it leaves its slot and where it is let go.
pub record LeavesOnly (before : Table) (call : Call) : Type 0 where
  pub peers : (p : ℕ) → times p (serials_of (step before call).after.dying) + times p (released_by call.act) ≡ times p (serials_of before.dying) + times p (removed (step before call).reply)
  pub keys : (k : ℕ) → times k (key_serials (step before call).after.retired) + times k (key_released_by call.act) ≡ times k (key_serials before.retired) + times k (step before call).taken

-- At each entry of a journal.
abbrev pub EachLeavesOnly : List Entry → Type 0
EachLeavesOnly journal = (n : ℕ) (e : Entry) → slice_get journal n ≡ Some e → LeavesOnly (last_table (take n journal)) e.call

-- A peer leaves the dying ones, and a key the retired ones, exactly by the entry that lets it go. Every peer that was removed and every key that left its slot is let go, exactly once, and named no more behind that.
pub record LastReleases (journal : List Entry) : Type 0 where
  pub only : EachLeavesOnly journal
  pub all : AllReleased journal
  pub once : EachReleasedOnce journal
  pub peers : PeersStayReleased journal
  pub keys : KeysStayReleased journal
