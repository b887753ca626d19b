-- What place rows stand for: the plan of the cabinet, and who is at a place.
use Rattle.std.specs.Prelude.{ℕ, List, map, Option}
use Rattle.std.specs.Option.{option_map}
use Rattle.model.specs.Calls.{Promise as Pledge}
use Rattle.model.specs.Places.{Plan, Spot}
use Rattle.model.specs.Wafers.{Text}
use Rattle.texts.specs.Meaning.{called}
use Rattle.values.specs.Values.{coded}
use Rattle.rows.specs.Kinds.{kind_number}
use Rattle.wafers.specs.declared.place.Place.{Place}
use Rattle.wafers.specs.declared.place.Promise.{Promise}

abbrev pub listed_as : ℕ → ℕ → Spot
listed_as c k = record { code = c; kind = k }

abbrev pub spot_of : {N : Type 0} → Place N → Spot
spot_of p = listed_as (coded p.code) (kind_number p.kind)

abbrev pub occupant_of : {N : Type 0} → Place N → Option Text
occupant_of p = option_map called p.occupant

-- the rows in order; a row that is not in use is none
abbrev pub plan : {N : Type 0} → List (Option (Place N)) → Plan
plan rows = map (option_map spot_of) rows

-- what a tracker notes: the wafer that is to come
abbrev pub pledge : Promise → Pledge
pledge q = record { wafer = called q.wafer }

abbrev pub promise_of : Place (Option Promise) → Option Pledge
promise_of p = option_map pledge p.note
