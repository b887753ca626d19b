use Rattle.std.proofs.Common.{ap, ◌∙◌}
use Rattle.reports.specs.Bounds.{making}
use Rattle.outcomes.specs.Outcomes.{packing_of}
use Rattle.outcomes.proofs.outcome.making.pack.Goals as goal

pub returns-in-Err : goal.returns-in-Err
returns-in-Err c = ap packing_of (c.in-Err.ensures ∙ ap making c.raw.ensures)
