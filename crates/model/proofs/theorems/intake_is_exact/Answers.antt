use Rattle.model.proofs.Intaking.{intake_is_exact}
use Rattle.model.proofs.theorems.intake_is_exact.Goals as goal

pub returns : goal.returns
returns c = intake_is_exact
