use Rattle.std.proofs.Common.{length, rules}
use Rattle.table.specs.Lookup.{says}
use Rattle.table.proofs.Changes.{unknown}
use Rattle.table.proofs.rows.Table.cleared.Goals as goal

pub returns-clause-rows : goal.returns-clause-rows
returns-clause-rows g c = search rules

pub returns-clause-unknown : goal.returns-clause-unknown
returns-clause-unknown g c = rw (returns-clause-rows g c) (unknown (says g.R.Row.named g.R.Key.Key.meaning) g.R.Key.Key.tells (length c.args.rows.now))
