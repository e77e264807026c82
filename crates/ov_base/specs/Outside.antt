-- What one read of a source and one write of a sink may answer, by the cases of the answer.
-- Consumes, Appends, Keeps and IsAtEnd are std's words on bytes that are told or not.
use Rattle.std.specs.Prelude.{ℕ, List, Option, ◌≡◌, ◌+◌, ◌-◌, ◌^◌, ◌≤◌, ◌==◌, if◌then◌else◌, Result, Ok, Err, ⊤, length, min, take}
use Rattle.std.specs.Io.KnownBytes.{Appends, Consumes, IsAtEnd, Keeps}
use Rattle.ov_base.specs.declared.source.Got.{Got}
use Rattle.ov_base.specs.declared.source.Got.TheVariants as got
use Rattle.ov_base.specs.declared.sink.Took.{Took}
use Rattle.ov_base.specs.declared.sink.Took.TheVariants as took

-- a count of u64, one higher: it stops at the greatest u64
abbrev pub one_more : ℕ → ℕ
one_more count = min (count + 1) (2 ^ 64 - 1)

-- the count rose, or it stands at the greatest u64
abbrev pub Rose : ℕ → ℕ → Type 0
Rose before now = one_more before ≤ now

-- a read gave at least one byte, and no more than the buffer has room for
abbrev pub GotFits : Got → List ℕ → Type 0
GotFits (got.Bytes n) buffer = (1 ≤ n) × (n ≤ length buffer)
GotFits got.End buffer = ⊤
GotFits got.Failed buffer = ⊤

-- the bytes given are a prefix of what was left, and the rest is left; End comes only where none is
abbrev pub ReadTakes : Option (List ℕ) → Option (List ℕ) → Got → List ℕ → Type 0
ReadTakes old new (got.Bytes n) buffer = Consumes old new (take n buffer)
ReadTakes old new got.End buffer = Keeps old new × IsAtEnd new
ReadTakes old new got.Failed buffer = Keeps old new

-- the count of faults rose where a read failed, and stands where it didn't: a fault is exactly what was counted
abbrev pub GotCause : ℕ → ℕ → Got → Type 0
GotCause before now (got.Bytes n) = now ≡ before
GotCause before now got.End = now ≡ before
GotCause before now got.Failed = (before ≤ now) × Rose before now

-- a write took at least one byte, and no more than there were
abbrev pub TookFits : Took → List ℕ → Type 0
TookFits (took.Bytes n) piece = (1 ≤ n) × (n ≤ length piece)
TookFits took.Failed piece = ⊤

-- the bytes taken are appended, and none where the write failed
abbrev pub WriteAdds : Option (List ℕ) → Option (List ℕ) → Took → List ℕ → Type 0
WriteAdds old new (took.Bytes n) piece = Appends old new (take n piece)
WriteAdds old new took.Failed piece = Keeps old new

-- the count of faults rose where a write failed, and stands where it didn't
abbrev pub TookCause : ℕ → ℕ → Took → Type 0
TookCause before now (took.Bytes n) = now ≡ before
TookCause before now took.Failed = (before ≤ now) × Rose before now

-- what an answer of a reader of std says: no byte is the end, and each error is a failed read
abbrev pub got_of_read : {E : Type 0} → Result ℕ E → Got
got_of_read (Ok n) = if n == 0 then got.End else got.Bytes n
got_of_read (Err e) = got.Failed

-- what an answer of a writer of std says: a write that takes nothing failed, and so is each error
abbrev pub took_of_write : {E : Type 0} → Result ℕ E → Took
took_of_write (Ok n) = if n == 0 then took.Failed else took.Bytes n
took_of_write (Err e) = took.Failed

-- the count of faults after a read, of a source that counts each failed one
abbrev pub faults_after_read : ℕ → Got → ℕ
faults_after_read before (got.Bytes n) = before
faults_after_read before got.End = before
faults_after_read before got.Failed = one_more before

-- the count of faults after a write, of a sink that counts each failed one
abbrev pub faults_after_write : ℕ → Took → ℕ
faults_after_write before (took.Bytes n) = before
faults_after_write before took.Failed = one_more before

-- what is known of a source or a sink over std: what is left or written, where told, and the faults
pub record Adapter : Type 0 where
  pub bytes : Option (List ℕ)
  pub faults : ℕ
