use Rattle.std.proofs.Common.{◌≡◌, ℕ, eqb, sym, ap, ◌∙◌, subst}
use Rattle.std.specs.List.{position}
use Rattle.table.specs.Laws.{Others}
use Rattle.table.specs.Lookup.{bears}
use Rattle.values.specs.Values.{coded}
use Rattle.wafers.specs.declared.place.Place.{Place}
use Rattle.wafers.specs.Views.{place_row}
use Rattle.cabinet.proofs.Showing.{changed_shows, unchanged_shows, replaced_key, there}
use Rattle.cabinet.proofs.cabinet.Cabinet.change.Goals as goal

pub invariant_of-self : goal.invariant_of-self
invariant_of-self g c =
    let a = c.args.self.now in
    let same = c.requires.same c.in-Some.place c.change.result c.change.ensures in
    let found = replaced_key {N = g.row.N.Denot} a.places.rows.now c.number-number.result _ c.in-Some.place c.change.result c.lookup.ensures.value c.in-Some.is same in
    record { ids = a.ids; codes = c.replace.ensures.once found.1 a.codes }

pub returns-in-Some-clause-view : goal.returns-in-Some-clause-view
returns-in-Some-clause-view g c =
    let a = c.args.self.now in
    let before = a.places.rows.now in
    let same = c.requires.same c.in-Some.place c.change.result c.change.ensures in
    let found = replaced_key {N = g.row.N.Denot} before c.number-number.result _ c.in-Some.place c.change.result c.lookup.ensures.value c.in-Some.is same in
    let after = c.replace.new.self.rows.now in
    let k : c.number-number.result ≡ coded c.args.code = c.number-number.ensures in
    changed_shows {N = g.row.N.Denot} _ a.wafers.rows.now before after (coded c.args.code) c.in-Some.place c.change.result c.replace.result c.change.ensures
    (c.replace.ensures.value ∙ ap (λ (p : ℕ). position (bears (λ (q : Place g.row.N.Denot). coded q.code) eqb p) before) k)
    (sym (ap (place_row {N = g.row.N.Denot} before) k) ∙ found.0)
    c.replace.ensures.rows
    (sym (ap (place_row {N = g.row.N.Denot} after) k) ∙ c.replace.ensures.own (there {N = g.row.N.Denot} before c.number-number.result c.in-Some.place c.replace.result found.0 c.replace.ensures.value) found.1)
    (subst (λ (p : ℕ). Others (λ (q : Place g.row.N.Denot). coded q.code) eqb p before after) k (c.replace.ensures.others found.1))
    same

pub returns-in_default-clause-view : goal.returns-in_default-clause-view
returns-in_default-clause-view g c =
    let a = c.args.self.now in
    unchanged_shows {N = g.row.N.Denot} _ a.wafers.rows.now a.places.rows.now (coded c.args.code) (sym (ap (place_row {N = g.row.N.Denot} a.places.rows.now) c.number-number.ensures) ∙ sym c.lookup.ensures.value ∙ c.in_default.is)
