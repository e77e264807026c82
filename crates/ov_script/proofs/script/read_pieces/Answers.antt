-- How reading ends: at an event in a piece, past the most bytes, at the source's end, or at a failed read.
use Rattle.std.proofs.Common.{◌≤◌, length, take, ap, arith}
use Rattle.ov_base.specs.Outside.{Rose}
use Rattle.ov_script.specs.Reading.{most_piece}
use Rattle.ov_script.specs.Steps as steps
use Rattle.ov_script.proofs.Answering.{answered}
use Rattle.ov_script.proofs.Streaming.{piece_halted, piece_past, finished, read_failed}
use Rattle.ov_script.proofs.script.read_pieces.Goals as goal

pub returns-in_err-take-in-Bytes-clause-read : goal.returns-in_err-take-in-Bytes-clause-read
returns-in_err-take-in-Bytes-clause-read g c =
    let small : length c.read.new.buf ≤ most_piece = omega arith in
    answered c.from_residual.result c.in_err-take-in-Bytes.field-0.0
    (λ r. steps.HasRead c.args.lanes (g.S.Source.left c.args.source.now) (g.S.Source.left c.read.new.self) (g.S.Source.faults c.args.source.now) (g.S.Source.faults c.read.new.self) c.take.new.self.good.lines.items r)
    c.from_residual.ensures
    (piece_halted _ _ _ _ _ _ _ _ _ _ c.pieces.invariant.seen c.in-Bytes.count c.read.new.buf _ c.take.new.self.good.lines.items _ c.in-Bytes.ensures.bytes
    (ap (λ n. take n c.read.new.buf) c.min.ensures) c.in-Bytes.ensures.fits.1 small c.in_err-take-in-Bytes.ensures.halted)

pub returns-then-count-room-clause-read : goal.returns-then-count-room-clause-read
returns-then-count-room-clause-read g c =
    let small : length c.read.new.buf ≤ most_piece = omega arith in
    piece_past _ _ _ _ _ _ _ _ _ _ c.pieces.invariant.seen c.in-Bytes.count c.read.new.buf _ c.take.new.self.good.lines.items _ _ c.in-Bytes.ensures.bytes
    (ap (λ n. take n c.read.new.buf) c.min.ensures) c.in-Bytes.ensures.fits.1 small c.if-count-room.true c.in_ok-take-in-Bytes.ensures.ok

pub returns-in-End-clause-read : goal.returns-in-End-clause-read
returns-in-End-clause-read g c = finished _ _ _ _ _ _ _ _ _ _ c.pieces.invariant.seen c.finish.new.self.good.lines.items _ c.finish.result c.in-End.ensures.bytes.0 c.in-End.ensures.bytes.1
    c.finish.ensures.ok c.finish.ensures.err c.finish.ensures.refused

pub returns-in-Failed-clause-read : goal.returns-in-Failed-clause-read
returns-in-Failed-clause-read g c =
    let rose : Rose (g.S.Source.faults c.pieces.source) (g.S.Source.faults c.read.new.self) = c.in-Failed.ensures.cause.1 in
    read_failed _ _ _ _ _ _ _ _ _ _ c.pieces.invariant.seen c.in-Failed.ensures.bytes (omega (arith, c.pieces.invariant.kept, rose))
