-- What the rows of a table show: wafers by ID, occupants and promises by the places' codes.
use Rattle.std.specs.Prelude.{ℕ, List, Option, nat_eq}
use Rattle.std.specs.Option.{option_flatten, option_map}
use Rattle.std.specs.Str.{bytes_eq}
use Rattle.table.specs.Lookup.{in_use, lookup}
use Rattle.model.specs.Calls.{Promise as Pledge}
use Rattle.model.specs.Places.{Contents}
use Rattle.model.specs.Wafers.{Text, Wafer as Kept}
use Rattle.texts.specs.Meaning.{called}
use Rattle.values.specs.Values.{coded}
use Rattle.wafers.specs.Held.{held}
use Rattle.wafers.specs.Spots.{occupant_of, promise_of}
use Rattle.wafers.specs.declared.place.Place.{Place}
use Rattle.wafers.specs.declared.place.Promise.{Promise}
use Rattle.wafers.specs.declared.wafer.Wafer.{Wafer}

-- the row of a wafer, and of a place
abbrev pub wafer_row : List (Option Wafer) → Text → Option Wafer
wafer_row rows id = lookup (λ w. called w.id) bytes_eq rows id

abbrev pub place_row : {N : Type 0} → List (Option (Place N)) → ℕ → Option (Place N)
place_row rows p = lookup (λ r. coded r.code) nat_eq rows p

abbrev pub wafers_of : List (Option Wafer) → Text → Option Kept
wafers_of rows id = option_map held (wafer_row rows id)

abbrev pub occupants_of : {N : Type 0} → List (Option (Place N)) → ℕ → Option Text
occupants_of rows p = option_flatten (option_map occupant_of (place_row rows p))

abbrev pub promises_of : List (Option (Place (Option Promise))) → ℕ → Option Pledge
promises_of rows p = option_flatten (option_map promise_of (place_row rows p))

abbrev pub contents_of : {N : Type 0} → List (Option Wafer) → List (Option (Place N)) → Contents
contents_of wafers places = record { wafer = wafers_of wafers; used = in_use wafers; occupant = occupants_of places }
