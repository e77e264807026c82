-- What is told on standard error of how a run ended, and the words that a run is given.
use Rattle.std.specs.Prelude.{ℕ, List, [], ◌∷◌, ◌++◌, ◌≡◌, codes, decimal, drop, Result, Ok, Err, String}
use Rattle.std.specs.Vec.Iter.{into_iter_items}
use Rattle.std.specs.IoError.{error_kind}
use Rattle.std.specs.declared.alloc.Global.{Global}
use Rattle.std.specs.declared.io.ErrorKind.{ErrorKind}
use Rattle.std.specs.declared.io.ErrorKind.TheVariants.{OutOfMemory}
use Rattle.std.specs.declared.io.Error.{Error}
use Rattle.std.specs.declared.vec.IntoIter.{IntoIter}
use Rattle.std.specs.declared.vec.Vec.{Vec}
use Rattle.ov_script.specs.declared.script.Limit.{Limit}
use Rattle.ov_script.specs.declared.script.Limit.TheVariants.{LineBytes, Lines, Bytes, Wide}
use Rattle.ov_run.specs.declared.ended.Cause.{Cause}
use Rattle.ov_run.specs.declared.ended.Cause.TheVariants as cause

-- One line that begins with the program's name.
abbrev pub told_line : List ℕ → List ℕ
told_line text = codes "ovpn: " ++ text ++ 10 ∷ []

-- The name of a limit.
abbrev pub limit_name : Limit → List ℕ
limit_name LineBytes = codes "line-bytes"
limit_name Lines = codes "lines"
limit_name Bytes = codes "bytes"
limit_name Wide = codes "wide"

-- The text of a cause: nothing of a run that ended well, and else one line.
abbrev pub text_of : Cause → List ℕ
text_of cause.Fine = []
text_of cause.Usage = told_line (codes "usage: ovpn MODE [options]")
text_of (cause.BadLine n) = told_line (codes "line " ++ decimal n ++ codes " is not in the grammar")
text_of (cause.Limit l) = told_line (codes "limit " ++ limit_name l)
text_of cause.ReadFault = told_line (codes "read fault")
text_of cause.WriteFault = told_line (codes "write fault")
text_of cause.Memory = told_line (codes "want of memory")

-- What ends a run whose words can't be taken: want of memory, or else a word or the program's name that isn't
-- UTF-8, which is no use of the program.
abbrev pub cause_of_words : ErrorKind → Cause
cause_of_words OutOfMemory = cause.Memory
cause_of_words _ = cause.Usage

-- The words of a run are those that the system gives behind the program's name. For want of memory there may
-- be none.
abbrev pub AreWords : Result (IntoIter (String Global) Global) Error → Result (Vec (String Global) Global) Cause → Type 0
AreWords (Ok given) (Ok words) = words.items ≡ drop 1 (into_iter_items given)
AreWords (Ok given) (Err why) = why ≡ cause.Memory
AreWords (Err e) (Ok words) = ⊥
AreWords (Err e) (Err why) = why ≡ cause_of_words (error_kind e)
