use Rattle.model.proofs.Exacting.{ten_is_exact}
use Rattle.model.proofs.theorems.ten_is_exact.Goals as goal

pub returns : goal.returns
returns c = ten_is_exact
