use Rattle.std.proofs.Common.{◌∙◌}
use Rattle.values.specs.Values.{coded}
use Rattle.cabinet.proofs.Vacating.{vacated_shows}
use Rattle.cabinet.proofs.cabinet.Cabinet.vacate.Goals as goal

pub returns-clause-view : goal.returns-clause-view
returns-clause-view g c = c.occupy.ensures.view ∙ vacated_shows {N = g.row.N.Denot} c.args.self.now.wafers.rows.now c.args.self.now.places.rows.now (coded c.args.code)
