use Rattle.model.proofs.Exacting.{one_row_at_most}
use Rattle.model.proofs.theorems.one_row_at_most.Goals as goal

pub returns : goal.returns
returns c = one_row_at_most
