use Rattle.table.proofs.Changes.{vacate_once, vacate_others, vacate_own}
use Rattle.table.proofs.rows.Table.vacate.Goals as goal

pub returns-clause-own : goal.returns-clause-own
returns-clause-own g c = rw c.write.ensures.rows (vacate_own _ _ g.R.Key.Key.exact c.args.self.now.rows.now c.args.i)

pub returns-clause-others : goal.returns-clause-others
returns-clause-others g c = rw c.write.ensures.rows (vacate_others _ _ g.R.Key.Key.exact c.args.self.now.rows.now c.args.i)

pub returns-clause-once : goal.returns-clause-once
returns-clause-once g c = rw c.write.ensures.rows (vacate_once _ _ g.R.Key.Key.exact c.args.self.now.rows.now c.args.i)
