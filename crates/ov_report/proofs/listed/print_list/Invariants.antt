use Rattle.std.proofs.Common.{◌≡◌, ◌≤◌, ◌<◌, length, take}
use Rattle.ov_report.specs.Printing.{Passed, full_page, texts}
use Rattle.ov_report.proofs.listed.print_list.Given as goal

abbrev pub invariant-loop-member : goal.invariant-loop-member
invariant-loop-member g l = record {
  passed : Passed (g.K.Sink.written l.fn.sink) (g.K.Sink.written l.sink) l.fn.page.items (texts (g.T.Listed.text l.owner) 0 (take l.member-index l.list)) l.page.items;
  bound : length l.fn.page.items < full_page → length l.page.items < full_page;
  later : g.K.Sink.faults l.fn.sink ≤ g.K.Sink.faults l.sink;
  kept : g.K.Sink.faults l.sink ≡ g.K.Sink.faults l.fn.sink;
  number : l.number ≡ l.member-index;
}
