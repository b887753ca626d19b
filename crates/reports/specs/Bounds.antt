-- The bounds of a report's fields, and what becomes of fields that are to make a report.
use Rattle.std.specs.Prelude.{◌≡◌, ℕ, ◌+◌, Bool, true, false, cond, ◌&&◌, List, [], ◌∷◌, length, Ok, Err, Option, Result, ◌==◌, nat_le}
use Rattle.texts.specs.Form.{formed, named}
use Rattle.texts.specs.declared.id.Id.{Id}
use Rattle.values.specs.declared.report.Occupancy.{Occupancy}
use Rattle.values.specs.declared.report.Occupancy.TheVariants as occupancy
use Rattle.values.specs.declared.field.Field.{Field}
use Rattle.values.specs.declared.field.Field.TheVariants as field
use Rattle.values.specs.Numbers.{field_number, occupancy_number, is_transition, is_transport, is_processing, is_reading}
use Rattle.values.specs.Values.{is_moment, is_code}
use Rattle.reports.specs.Fields.{Fields, location_row, occupant_id}

-- a refusal by its number and the values that go with it
pub record Refusal : Type 0 where
  pub number : ℕ
  pub values : List ℕ

-- a field outside its bounds, by its place from 1 to 12
abbrev pub out_of_bounds : ℕ → Refusal
out_of_bounds n = record { number = 15; values = n ∷ [] }

-- no bytes
abbrev pub blank : List ℕ → Bool
blank bs = length bs == 0

-- each field in its place: is it within its bounds?
abbrev pub substrate_bounds : Fields → List Bool
substrate_bounds f =
    true
    ∷ is_transition f.row
    ∷ is_transport f.transport
    ∷ is_processing f.processing
    ∷ is_reading f.reading
    ∷ (f.spare == 0)
    ∷ is_moment f.time
    ∷ is_code f.place
    ∷ is_code f.source
    ∷ is_code f.destination
    ∷ named f.id
    ∷ formed f.acquired
    ∷ []

abbrev pub location_bounds : Fields → List Bool
location_bounds f =
    (f.family == 1)
    ∷ (nat_le 1 f.row && nat_le f.row 2)
    ∷ (f.transport == 0)
    ∷ (f.processing == 0)
    ∷ (f.reading == 0)
    ∷ (f.spare == 0)
    ∷ is_moment f.time
    ∷ is_code f.place
    ∷ (f.source == 0)
    ∷ (f.destination == 0)
    ∷ cond (f.row == 1) (named f.id) (blank f.id)
    ∷ blank f.acquired
    ∷ []

abbrev pub bounds : Fields → List Bool
bounds f = cond (f.family == 0) (substrate_bounds f) (location_bounds f)

-- the value, or the refusal of the first test that fails, counted from n
abbrev pub checked : {X : Type 0} → ℕ → List Bool → X → Result X Refusal
checked n [] x = Ok x
checked n (t ∷ ts) x = cond t (checked (n + 1) ts x) (Err (out_of_bounds n))

-- the fields themselves, or the place of the first outside its bounds
abbrev pub making : Fields → Result Fields Refusal
making f = checked 1 (bounds f) f

-- every field is within its bounds
abbrev pub Within : Fields → Type 0
Within f = making f ≡ Ok f

-- an answer by what it shows, or by the refusal
abbrev pub told : {X Y : Type 0} → (X → Y) → Result X Field → Result Y Refusal
told see (Ok x) = Ok (see x)
told see (Err e) = Err (out_of_bounds (field_number e))

-- one field: what its conversion gives, and the field in the place of an error
abbrev pub Converted : {A X E : Type 0} → (A → Result X E → Type 0) → A → Field → Result X Field → Type 0
Converted gives a f (Ok x) = gives a (Ok x)
Converted {E = E} gives a f (Err d) = (d ≡ f) × ((e : E) × gives a (Err e))

-- a test that has to pass, and the field where it fails
abbrev pub Holds : Bool → Field → Result Unit Field → Type 0
Holds t f (Ok x) = t ≡ true
Holds t f (Err d) = (t ≡ false) × (d ≡ f)

-- the ID of an occupant where there is one, and no bytes where not
abbrev pub occupant_bounds : Occupancy → List ℕ → Bool
occupant_bounds occupancy.Occupied bs = named bs
occupant_bounds occupancy.Unoccupied bs = blank bs

abbrev pub Occupies : Occupancy → List ℕ → Result (Option Id) Field → Type 0
Occupies o bs (Ok x) = (occupant_bounds o bs ≡ true) × (location_row x ≡ occupancy_number o) × (occupant_id x ≡ bs)
Occupies o bs (Err d) = (occupant_bounds o bs ≡ false) × (d ≡ field.Id)
