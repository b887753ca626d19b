use Rattle.std.proofs.Common.{◌++◌, take}
use Rattle.std.specs.Fmt.{HasWritten, IsPlainFormatter}
use Rattle.std.specs.List.{flat_map}
use Rattle.packed_log.specs.Shown.{log_shown}
use Rattle.reports.specs.Fields.{shown}
use Rattle.replies.specs.Replies.{verdict, indented, report_line}
use Rattle.replies.proofs.reply.LogLinesDisplay.fmt.Given as goal

abbrev pub invariant-loop-report : goal.invariant-loop-report
invariant-loop-report g l =
    IsPlainFormatter l.fn.f → HasWritten g.W.Write.write_str_gives l.fn.f (indented (verdict (log_shown l.self.0.now)) ++ flat_map (λ r. indented (report_line (shown r))) (take l.report-index l.report-items)) l.f
