-- What sources and sinks in memory hold, and what each of their calls does to it.
use Rattle.std.specs.Prelude.{ℕ, Bool, List, ◌≡◌, ◌==◌, ◌++◌, if◌then◌else◌, ⊤, length, min, take, drop}
use Rattle.std.specs.List.{list_any}
use Rattle.ov_base.specs.Outside.{one_more}
use Rattle.ov_base.specs.declared.failures.Failures.{Failures}
use Rattle.ov_base.specs.declared.source.Got.{Got}
use Rattle.ov_base.specs.declared.source.Got.TheVariants as got
use Rattle.ov_base.specs.declared.sink.Took.{Took}
use Rattle.ov_base.specs.declared.sink.Took.TheVariants as took

-- whether the next call is one that is to fail
abbrev pub is_planned : Failures → Bool
is_planned f = list_any (λ number. number == f.calls) f.planned

-- after one call, which failed where that was planned
abbrev pub after_call : Failures → Failures
after_call f = record f { calls = one_more f.calls; faults = (if is_planned f then one_more f.faults else f.faults) }

-- after a fault that wasn't planned
abbrev pub after_fault : Failures → Failures
after_fault f = record f { faults = one_more f.faults }

-- a source that never fails: what it will still give, and the most bytes of one call
pub record SteadyState : Type 0 where
  pub left : List ℕ
  pub piece : ℕ

-- the answer of a read that doesn't fail, into a buffer with this room
abbrev pub gives : SteadyState → ℕ → Got
gives s room = if length s.left == 0 then got.End else got.Bytes (min s.piece (min room (length s.left)))

-- what is held after a read with this answer
abbrev pub after_read : SteadyState → Got → SteadyState
after_read s (got.Bytes n) = record s { left = drop n s.left }
after_read s got.End = s
after_read s got.Failed = s

-- a source that fails where planned
pub record SourceState : Type 0 where
  pub steady : SteadyState
  pub failures : Failures

-- the answer of a read, into a buffer with this room: a planned fault, or what the source gives
abbrev pub got_of : SourceState → ℕ → Got
got_of s room = if is_planned s.failures then got.Failed else gives s.steady room

-- what is held after a read with this answer: a failed call gives nothing
abbrev pub source_after : SourceState → Got → SourceState
source_after s result = record { steady = after_read s.steady result; failures = after_call s.failures }

-- a sink that keeps what it takes: the most bytes of one call, and which calls fail
pub record SinkState : Type 0 where
  pub written : List ℕ
  pub piece : ℕ
  pub failures : Failures

-- a write that didn't fail took as much as one call may
abbrev pub TakesMost : ℕ → List ℕ → Took → Type 0
TakesMost most bytes (took.Bytes n) = n ≡ min most (length bytes)
TakesMost most bytes took.Failed = ⊤

-- what is held after a write with this answer: a call that failed unplanned found no memory
abbrev pub sink_after : SinkState → List ℕ → Took → SinkState
sink_after s bytes (took.Bytes n) = record s { written = s.written ++ take n bytes; failures = after_call s.failures }
sink_after s bytes took.Failed = record s { failures = (if is_planned s.failures then after_call s.failures else after_fault (after_call s.failures)) }
