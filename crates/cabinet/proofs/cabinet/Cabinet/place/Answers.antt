use Rattle.std.proofs.Common.{◌≡◌, Option, sym, ap, ◌∙◌}
use Rattle.std.specs.Option.{option_map, option_flatten}
use Rattle.wafers.specs.declared.place.Place.{Place}
use Rattle.wafers.specs.Spots.{spot_of, occupant_of}
use Rattle.wafers.specs.Views.{place_row}
use Rattle.wafers.proofs.Plans.{plan-sites}
use Rattle.cabinet.proofs.cabinet.Cabinet.place.Goals as goal

pub returns : goal.returns
returns g c =
    let rows = c.args.self.now.places.rows.now in
    let e : place_row {N = g.row.N.Denot} rows c.args.code ≡ c.lookup.result = sym c.lookup.ensures.value in
    record {
      spot = plan-sites {N = g.row.N.Denot} rows c.args.code ∙ ap (option_map spot_of) e;
      occupant = ap (λ (o : Option (Place g.row.N.Denot)). option_flatten (option_map occupant_of o)) e;
      note = ap (option_map (λ (p : Place g.row.N.Denot). p.note)) e;
    }
