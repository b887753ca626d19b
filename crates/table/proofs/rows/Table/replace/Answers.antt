use Rattle.table.proofs.Changes.{put_once, put_others, replaced_own}
use Rattle.table.proofs.rows.Table.replace.Goals as goal

pub returns-clause-own : goal.returns-clause-own
returns-clause-own g c = rw c.write.ensures.rows (λ _. replaced_own _ _ g.R.Key.Key.exact c.args.self.now.rows.now c.in_ok-found.found c.args.row _ c.in_ok-found.ensures.exact)

pub returns-clause-others : goal.returns-clause-others
returns-clause-others g c = rw c.write.ensures.rows (λ e. put_others _ _ g.R.Key.Key.exact c.args.self.now.rows.now c.in_ok-found.found c.args.row _ e c.in_ok-found.ensures.exact.0)

pub returns-clause-once : goal.returns-clause-once
returns-clause-once g c = rw c.write.ensures.rows (λ e. put_once _ _ g.R.Key.Key.exact c.args.self.now.rows.now c.in_ok-found.found c.args.row _ e c.in_ok-found.ensures.exact.0)
