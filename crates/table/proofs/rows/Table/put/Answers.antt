use Rattle.std.proofs.Common.{refl}
use Rattle.table.proofs.Changes.{put_once, put_others, put_own}
use Rattle.table.proofs.rows.Table.put.Goals as goal

pub returns-clause-own : goal.returns-clause-own
returns-clause-own g c = rw c.write.ensures.rows (put_own _ _ g.R.Key.Key.exact c.args.self.now.rows.now c.args.i c.args.row)

pub returns-clause-others : goal.returns-clause-others
returns-clause-others g c = rw c.write.ensures.rows (put_others _ _ g.R.Key.Key.exact c.args.self.now.rows.now c.args.i c.args.row _ refl)

pub returns-clause-once : goal.returns-clause-once
returns-clause-once g c = rw c.write.ensures.rows (put_once _ _ g.R.Key.Key.exact c.args.self.now.rows.now c.args.i c.args.row _ refl)
