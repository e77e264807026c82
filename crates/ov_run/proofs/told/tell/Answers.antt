-- Each cause is told in its own words.
use Rattle.std.proofs.Common.{◌≡◌, List, ℕ, OnOk, OnErr, codes, ap, sym, subst}
use Rattle.std.specs.Io.KnownBytes.{Appends}
use Rattle.ov_base.specs.Loops.{AppendsPart}
use Rattle.ov_script.specs.declared.script.Limit.{Limit}
use Rattle.ov_script.specs.declared.script.Limit.TheVariants.{Bytes}
use Rattle.ov_run.specs.declared.ended.Cause.{Cause}
use Rattle.ov_run.specs.declared.ended.Cause.TheVariants as cause
use Rattle.ov_run.specs.Told.{text_of}
use Rattle.ov_run.proofs.told.tell.Goals as goal

pub returns-in-Usage-clause-whole : goal.returns-in-Usage-clause-whole
returns-in-Usage-clause-whole g c = rw c.in-Usage.is c.write_all.ensures.whole

pub returns-in-Usage-clause-part : goal.returns-in-Usage-clause-part
returns-in-Usage-clause-part g c = rw c.in-Usage.is c.write_all.ensures.part

pub returns-in-Limit-clause-whole : goal.returns-in-Limit-clause-whole
returns-in-Limit-clause-whole g c =
    let P : List ℕ → Type 0 = λ t. OnOk c.write_all-in-Limit.result (Appends (g.K.Sink.written c.args.sink.now) (g.K.Sink.written c.write_all-in-Limit.new.sink) t) in
    rw c.in-Limit.is (subst P c.limit_line.ensures c.write_all-in-Limit.ensures.whole)

pub returns-in-Limit-clause-part : goal.returns-in-Limit-clause-part
returns-in-Limit-clause-part g c =
    let P : List ℕ → Type 0 = λ t. OnErr c.write_all-in-Limit.result (AppendsPart (g.K.Sink.written c.args.sink.now) (g.K.Sink.written c.write_all-in-Limit.new.sink) t) in
    rw c.in-Limit.is (subst P c.limit_line.ensures c.write_all-in-Limit.ensures.part)

pub returns-in-ReadFault-clause-whole : goal.returns-in-ReadFault-clause-whole
returns-in-ReadFault-clause-whole g c = rw c.in-ReadFault.is c.write_all-in-ReadFault.ensures.whole

pub returns-in-ReadFault-clause-part : goal.returns-in-ReadFault-clause-part
returns-in-ReadFault-clause-part g c = rw c.in-ReadFault.is c.write_all-in-ReadFault.ensures.part

pub returns-in-WriteFault-clause-whole : goal.returns-in-WriteFault-clause-whole
returns-in-WriteFault-clause-whole g c = rw c.in-WriteFault.is c.write_all-in-WriteFault.ensures.whole

pub returns-in-WriteFault-clause-part : goal.returns-in-WriteFault-clause-part
returns-in-WriteFault-clause-part g c = rw c.in-WriteFault.is c.write_all-in-WriteFault.ensures.part

pub returns-in-Memory-clause-whole : goal.returns-in-Memory-clause-whole
returns-in-Memory-clause-whole g c = rw c.in-Memory.is c.write_all-in-Memory.ensures.whole

pub returns-in-Memory-clause-part : goal.returns-in-Memory-clause-part
returns-in-Memory-clause-part g c = rw c.in-Memory.is c.write_all-in-Memory.ensures.part
