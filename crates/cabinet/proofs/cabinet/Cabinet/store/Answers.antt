use Rattle.std.proofs.Common.{sym, ap, ◌∙◌, subst}
use Rattle.std.specs.Str.{bytes_eq}
use Rattle.table.specs.Lookup.{bears}
use Rattle.std.specs.List.{position}
use Rattle.table.specs.Laws.{Others}
use Rattle.texts.specs.Meaning.{called, spelled}
use Rattle.wafers.specs.Views.{wafer_row}
use Rattle.cabinet.proofs.Showing.{stored_shows}
use Rattle.cabinet.proofs.cabinet.Cabinet.store.Goals as goal

pub invariant_of-self : goal.invariant_of-self
invariant_of-self g c =
    let a = c.args.self.now in
    record { ids = c.replace.ensures.once (ap spelled (sym c.text.ensures)) a.ids; codes = a.codes }

pub returns-clause-view : goal.returns-clause-view
returns-clause-view g c =
    let k = c.text.ensures in
    let w = c.args.wafer in
    let before = c.args.self.now.wafers.rows.now in
    let after = c.replace.new.self.rows.now in
    stored_shows before after c.args.self.now.places.rows.now w c.replace.result
    (c.replace.ensures.value ∙ ap (λ t. position (bears (λ v. called v.id) bytes_eq (spelled t)) before) k)
    c.replace.ensures.rows c.replace.ensures.used
    (λ h. sym (ap (λ t. wafer_row after (spelled t)) k) ∙ c.replace.ensures.own h (ap spelled (sym k)))
    (subst (λ t. Others (λ v. called v.id) bytes_eq (spelled t) before after) k (c.replace.ensures.others (ap spelled (sym k))))
