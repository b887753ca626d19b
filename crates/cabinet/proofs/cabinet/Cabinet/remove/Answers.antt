use Rattle.std.proofs.Common.{sym, ap, ◌∙◌, subst}
use Rattle.std.specs.Str.{bytes_eq}
use Rattle.table.specs.Laws.{Others}
use Rattle.table.specs.Lookup.{bears}
use Rattle.std.specs.List.{position}
use Rattle.texts.specs.Meaning.{called, spelled}
use Rattle.wafers.specs.Views.{wafer_row}
use Rattle.cabinet.proofs.Showing.{removed_shows}
use Rattle.cabinet.proofs.cabinet.Cabinet.remove.Goals as goal

pub invariant_of-self : goal.invariant_of-self
invariant_of-self g c = let a = c.args.self.now in record { ids = c.remove.ensures.once a.ids; codes = a.codes }

pub returns-clause-view : goal.returns-clause-view
returns-clause-view g c =
    let k = c.text.ensures in
    let a = c.args.self.now in
    let before = a.wafers.rows.now in
    let after = c.remove.new.self.rows.now in
    removed_shows before after a.places.rows.now (called c.args.id.now) c.remove.result (position (bears (λ v. called v.id) bytes_eq (spelled c.text.result)) before)
    (c.remove.ensures.value ∙ ap (λ t. wafer_row before (spelled t)) k)
    c.remove.ensures.rows c.remove.ensures.used
    (sym (ap (λ t. wafer_row after (spelled t)) k) ∙ c.remove.ensures.own a.ids)
    (subst (λ t. Others (λ v. called v.id) bytes_eq (spelled t) before after) k c.remove.ensures.others)
