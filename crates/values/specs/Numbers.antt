-- The numbers of states, rows and fields, and the numbers that are one.
use Rattle.std.specs.Prelude.{◌≡◌, ℕ, Bool, cond, ◌&&◌, ◌||◌, Some, None, Option, Result, ◌==◌, nat_le}
use Rattle.std.specs.Option.{option_map}
use Rattle.std.specs.Result.{result_ok}
use Rattle.values.specs.declared.states.Transport.{Transport}
use Rattle.values.specs.declared.states.Transport.TheVariants as transport
use Rattle.values.specs.declared.states.Processing.{Processing}
use Rattle.values.specs.declared.states.Processing.TheVariants as processing
use Rattle.values.specs.declared.states.Reading.{Reading}
use Rattle.values.specs.declared.states.Reading.TheVariants as reading
use Rattle.values.specs.declared.transition.Transition.{Transition}
use Rattle.values.specs.declared.transition.Transition.TheVariants as transition
use Rattle.values.specs.declared.report.Family.{Family}
use Rattle.values.specs.declared.report.Family.TheVariants as family
use Rattle.values.specs.declared.report.Occupancy.{Occupancy}
use Rattle.values.specs.declared.report.Occupancy.TheVariants as occupancy
use Rattle.values.specs.declared.field.Field.{Field}
use Rattle.values.specs.declared.field.Field.TheVariants as field

-- a value, where it passes
abbrev pub passed : {X : Type 0} → Bool → X → Option X
passed t x = cond t (Some x) None

-- what a conversion gives: the value that shows what is there, or an error where nothing is
abbrev pub Yields : {X Y E : Type 0} → (X → Y) → Option Y → Result X E → Type 0
Yields see there r = option_map see (result_ok r) ≡ there

abbrev pub transport_number : Transport → ℕ
transport_number transport.AtSource = 0
transport_number transport.AtWork = 1
transport_number transport.AtDestination = 2

abbrev pub processing_number : Processing → ℕ
processing_number processing.NeedsProcessing = 0
processing_number processing.InProcess = 1
processing_number processing.Processed = 2
processing_number processing.Aborted = 3
processing_number processing.Stopped = 4
processing_number processing.Rejected = 5
processing_number processing.Lost = 6
processing_number processing.Skipped = 7
processing_number processing.NoneYet = 15

abbrev pub reading_number : Reading → ℕ
reading_number reading.NotUsed = 0
reading_number reading.NotConfirmed = 1
reading_number reading.WaitingForHost = 2
reading_number reading.Confirmed = 3
reading_number reading.ConfirmationFailed = 4

abbrev pub transition_number : Transition → ℕ
transition_number transition.Registered = 1
transition_number transition.LeftSource = 2
transition_number transition.BackAtSource = 3
transition_number transition.MovedAtWork = 4
transition_number transition.ReachedDestination = 5
transition_number transition.LeftDestination = 6
transition_number transition.Unloaded = 7
transition_number transition.Corrected = 8
transition_number transition.Removed = 9
transition_number transition.NeedsProcessing = 10
transition_number transition.Started = 11
transition_number transition.Ended = 12
transition_number transition.Returned = 13
transition_number transition.GivenUp = 14
transition_number transition.ReadSame = 17
transition_number transition.ReadFailed = 18
transition_number transition.ReadOther = 19
transition_number transition.Proceeded = 20
transition_number transition.Cancelled = 21

abbrev pub family_number : Family → ℕ
family_number family.Substrate = 0
family_number family.Location = 1

abbrev pub occupancy_number : Occupancy → ℕ
occupancy_number occupancy.Occupied = 1
occupancy_number occupancy.Unoccupied = 2

abbrev pub field_number : Field → ℕ
field_number field.Family = 1
field_number field.Row = 2
field_number field.Transport = 3
field_number field.Processing = 4
field_number field.Reading = 5
field_number field.Spare = 6
field_number field.Time = 7
field_number field.Place = 8
field_number field.Source = 9
field_number field.Destination = 10
field_number field.Id = 11
field_number field.Acquired = 12

-- the numbers of transport states: 0 to 2
abbrev pub is_transport : ℕ → Bool
is_transport n = nat_le n 2

-- of processing states: 0 to 7, and 15
abbrev pub is_processing : ℕ → Bool
is_processing n = nat_le n 7 || n == 15

-- of reading states: 0 to 4
abbrev pub is_reading : ℕ → Bool
is_reading n = nat_le n 4

-- of rows: 1 to 14, and 17 to 21
abbrev pub is_transition : ℕ → Bool
is_transition n = (nat_le 1 n && nat_le n 14) || (nat_le 17 n && nat_le n 21)

-- of families: 0 and 1
abbrev pub is_family : ℕ → Bool
is_family n = nat_le n 1

-- of the rows of a location report: 1 and 2
abbrev pub is_occupancy : ℕ → Bool
is_occupancy n = nat_le 1 n && nat_le n 2

abbrev pub transport_of : ℕ → Option ℕ
transport_of n = passed (is_transport n) n

abbrev pub processing_of : ℕ → Option ℕ
processing_of n = passed (is_processing n) n

abbrev pub reading_of : ℕ → Option ℕ
reading_of n = passed (is_reading n) n

abbrev pub transition_of : ℕ → Option ℕ
transition_of n = passed (is_transition n) n

abbrev pub family_of : ℕ → Option ℕ
family_of n = passed (is_family n) n

abbrev pub occupancy_of : ℕ → Option ℕ
occupancy_of n = passed (is_occupancy n) n
