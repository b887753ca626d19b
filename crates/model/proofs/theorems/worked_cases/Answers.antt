use Rattle.model.proofs.Working.{worked_cases}
use Rattle.model.proofs.theorems.worked_cases.Goals as goal

pub returns : goal.returns
returns c = worked_cases
