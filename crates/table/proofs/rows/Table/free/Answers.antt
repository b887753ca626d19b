use Rattle.table.proofs.Frees.{free-position, full-position}
use Rattle.table.proofs.rows.Table.free.Goals as goal

pub returns-clause-exact : goal.returns-clause-exact
returns-clause-exact g c = rw c.first_free.ensures (free-position c.args.self.now.rows.now)

pub returns-clause-full : goal.returns-clause-full
returns-clause-full g c = rw c.first_free.ensures (full-position c.args.self.now.rows.now)
