-- The report of a run of lanes.
use Rattle.std.specs.Prelude.{◌≡◌, List, []}
use Rattle.std.specs.List.{AllByRecursion}
use Rattle.ov_model.specs.declared.report.LaneLog.{LaneLog}
use Rattle.ov_model.specs.declared.report.Report.{Report}
use Rattle.ov_lanes.specs.declared.run.Ran.{Ran}

-- The logs of the lanes, and what the shared table ends with.
abbrev pub report_of : Ran → Report
report_of ran = record { lanes = ran.logs; journal = ran.closed.journal; notes = ran.closed.notes; shards = ran.closed.shards }

-- No line of these logs came from a link, and no link refused a part.
abbrev pub ArePlain : List LaneLog → Type 0
ArePlain logs = AllByRecursion (λ log. (log.recorded ≡ 0) × (log.unsent ≡ [])) logs
