use Rattle.table.proofs.Changes.{inserted_once, inserted_others, inserted_own}
use Rattle.table.proofs.rows.Table.insert.Goals as goal

pub returns-clause-own : goal.returns-clause-own
returns-clause-own g c = rw c.write.ensures.rows (λ _. inserted_own _ _ g.R.Key.Key.exact c.args.self.now.rows.now c.in_ok-free.free c.args.row c.in_ok-free.ensures.exact.0)

pub returns-clause-others : goal.returns-clause-others
returns-clause-others g c = rw c.write.ensures.rows (inserted_others _ _ g.R.Key.Key.exact c.args.self.now.rows.now c.in_ok-free.free c.args.row c.in_ok-free.ensures.exact.1)

pub returns-clause-once : goal.returns-clause-once
returns-clause-once g c = rw c.write.ensures.rows (inserted_once _ _ g.R.Key.Key.exact c.args.self.now.rows.now c.in_ok-free.free c.args.row)
