use Rattle.std.proofs.Common.{◌++◌, sym, ap, ◌∙◌, arith, vec_items}
use Rattle.std.specs.List.{flat_map}
use Rattle.std.proofs.Output.{has_written_of_eq}
use Rattle.std.proofs.lemmas.List.{take_all}
use Rattle.std.proofs.lemmas.List.Folds.{flat_map-map}
use Rattle.packed_log.specs.Shown.{log_shown}
use Rattle.reports.specs.Fields.{shown}
use Rattle.replies.specs.Replies.{verdict, indented, report_line}
use Rattle.replies.proofs.reply.LogLinesDisplay.fmt.Goals as goal

pub returns-clause-writes : goal.returns-clause-writes
returns-clause-writes g c = λ plain ok.
    let log = c.args.self.now.0.now in
    has_written_of_eq _ _ _ _ _
    (ap (λ l. indented (verdict (log_shown log)) ++ l)
    (ap (flat_map (λ r. indented (report_line (shown r)))) (take_all _ c.deref-report-items.result.now (omega arith) ∙ c.deref-report-items.ensures.value)
    ∙ sym (flat_map-map (λ f. indented (report_line f)) shown (vec_items log.reports))))
    (c.loop-report.invariant plain)
