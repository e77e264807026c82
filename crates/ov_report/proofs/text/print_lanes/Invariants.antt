use Rattle.std.proofs.Common.{◌≡◌, ◌≤◌, ◌<◌, length, take}
use Rattle.ov_report.specs.Printing.{Passed, full_page, texts}
use Rattle.ov_report.proofs.Texts.{log_text}
use Rattle.ov_report.proofs.text.print_lanes.Given as goal

abbrev pub invariant-loop-log : goal.invariant-loop-log
invariant-loop-log g l = record {
  passed : Passed (g.K.Sink.written l.fn.sink) (g.K.Sink.written l.sink) l.fn.page.items (texts log_text 0 (take l.log-index l.lanes)) l.page.items;
  bound : length l.fn.page.items < full_page → length l.page.items < full_page;
  later : g.K.Sink.faults l.fn.sink ≤ g.K.Sink.faults l.sink;
  kept : g.K.Sink.faults l.sink ≡ g.K.Sink.faults l.fn.sink;
  number : l.number ≡ l.log-index;
}
