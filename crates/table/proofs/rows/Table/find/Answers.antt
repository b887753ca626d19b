use Rattle.table.specs.Lookup.{says}
use Rattle.table.proofs.Keys.{first-position, lookup-position, none-position}
use Rattle.table.proofs.rows.Table.find.Goals as goal

pub returns-clause-exact : goal.returns-clause-exact
returns-clause-exact g c = rw c.first_with.ensures (first-position _ _ g.R.Key.Key.exact c.args.self.now.rows.now _)

pub returns-clause-row : goal.returns-clause-row
returns-clause-row g c = rw c.first_with.ensures (lookup-position (says g.R.Row.named g.R.Key.Key.meaning) g.R.Key.Key.tells c.args.self.now.rows.now (g.R.Key.Key.meaning c.args.key.now))

pub returns-clause-none : goal.returns-clause-none
returns-clause-none g c = rw c.first_with.ensures (none-position (says g.R.Row.named g.R.Key.Key.meaning) g.R.Key.Key.tells c.args.self.now.rows.now (g.R.Key.Key.meaning c.args.key.now))
