use Rattle.std.proofs.Common.{sym, ◌∙◌}
use Rattle.wafers.proofs.Plans.{plan-index}
use Rattle.cabinet.proofs.cabinet.Cabinet.position.Goals as goal

pub returns : goal.returns
returns g c = c.find.ensures.value ∙ sym (plan-index {N = g.row.N.Denot} c.args.self.now.places.rows.now c.args.code)
