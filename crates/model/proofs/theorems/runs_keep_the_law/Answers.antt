use Rattle.model.proofs.Running.{runs_keep_the_law}
use Rattle.model.proofs.theorems.runs_keep_the_law.Goals as goal

pub returns : goal.returns
returns c = runs_keep_the_law
