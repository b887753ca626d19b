use Rattle.model.proofs.Ordering.{reports_in_order}
use Rattle.model.proofs.theorems.reports_in_order.Goals as goal

pub returns : goal.returns
returns c = reports_in_order
