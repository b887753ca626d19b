-- The names of fields.
use Rattle.std.specs.Prelude.{ℕ, List, codes}
use Rattle.values.specs.declared.field.Field.{Field}
use Rattle.values.specs.declared.field.Field.TheVariants as field

-- a field's word in the rules
abbrev pub field_name : Field → List ℕ
field_name field.Family = codes "FAMILY"
field_name field.Row = codes "ROW"
field_name field.Transport = codes "TRANSPORT"
field_name field.Processing = codes "PROCESSING"
field_name field.Reading = codes "READING"
field_name field.Spare = codes "SPARE"
field_name field.Time = codes "TIME"
field_name field.Place = codes "PLACE"
field_name field.Source = codes "SOURCE"
field_name field.Destination = codes "DESTINATION"
field_name field.Id = codes "ID"
field_name field.Acquired = codes "ACQUIRED"
