use Rattle.std.proofs.Common.{not, ap, ◌∙◌}
use Rattle.texts.specs.Meaning.{called, spelled}
use Rattle.cabinet.proofs.Showing.{absent, inserted_shows}
use Rattle.cabinet.proofs.cabinet.Cabinet.insert.Goals as goal

pub invariant_of-self : goal.invariant_of-self
invariant_of-self g c =
    let a = c.args.self.now in
    let n = absent a.wafers.rows.now (called c.args.wafer.id) _ _ (ap spelled c.text.ensures) c.find.ensures.none (c.is_none.ensures ∙ ap not c.if-is_none.true) in
    record { ids = c.insert.ensures.once n a.ids; codes = a.codes }

pub returns-then-is_none-clause-view : goal.returns-then-is_none-clause-view
returns-then-is_none-clause-view g c =
    let a = c.args.self.now in
    let n = absent a.wafers.rows.now (called c.args.wafer.id) _ _ (ap spelled c.text.ensures) c.find.ensures.none (c.is_none.ensures ∙ ap not c.if-is_none.true) in
    inserted_shows a.wafers.rows.now c.insert.new.self.rows.now a.places.rows.now c.args.wafer c.insert.result n
    c.insert.ensures.value c.insert.ensures.rows c.insert.ensures.used c.insert.ensures.own c.insert.ensures.others
