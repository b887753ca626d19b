-- Services, and the rows that they take.
use Rattle.std.specs.Prelude.{◌≡◌, ℕ, Bool, true, false, cond, List, [], ◌∷◌, ◌++◌, Some, None, Option}
use Rattle.std.specs.Option.{option_map}
use Rattle.model.specs.Wafers.{Text, Wafer}
use Rattle.model.specs.Places.{Sites}
use Rattle.model.specs.Rows.{Change as Row, Exit as Gone, change, may_change, changed, may_leave}
use Rattle.model.specs.Steps.{Step, takes}
use Rattle.model.specs.Calls.{Service as Asked, start, skip, read_failed, proceed, cancel, unload, correct, missing, end, read, is_outcome, ending_row, leaving, served, well_ended}
use Rattle.transitions.specs.Meant.{change_meant, exit_meant}
use Rattle.tracker.specs.declared.service.Service.{Service}
use Rattle.tracker.specs.declared.service.Service.TheVariants as service
use Rattle.tracker.specs.declared.service.Serving.{Serving}

abbrev pub service_meant : Service → Asked
service_meant service.Start = start
service_meant (service.End o) = end o
service_meant service.Skip = skip
service_meant (service.Read a) = read a.now
service_meant service.ReadFailed = read_failed
service_meant service.Proceed = proceed
service_meant service.Cancel = cancel
service_meant service.Unload = unload
service_meant service.Correct = correct
service_meant service.Missing = missing

-- the acquired ID of a read
abbrev pub read_text : Asked → Text
read_text start = []
read_text skip = []
read_text read_failed = []
read_text proceed = []
read_text cancel = []
read_text unload = []
read_text correct = []
read_text missing = []
read_text (end o) = []
read_text (read a) = a

-- the row of an outcome that end takes
abbrev pub ended_by : ℕ → Option Row
ended_by o = cond (is_outcome o) (Some (ending_row o)) None

-- the wafer after a change that is open to it
abbrev pub went : Sites → Text → Wafer → Option Row → Option Wafer
went at id w None = Some w
went at id w (Some g) = cond (may_change at id g w) (Some (changed g w)) None

abbrev pub free_to_go : Wafer → Option Gone → Bool
free_to_go w None = true
free_to_go w (Some e) = may_leave e w

-- the steps of a serving
abbrev pub change_steps : Text → Option Row → List Step
change_steps id None = []
change_steps id (Some g) = takes id (change g) ∷ []

abbrev pub exit_steps : Text → ℕ → Option Gone → List Step
exit_steps id from None = []
exit_steps id from (Some e) = leaving id from e

abbrev pub serving_steps : Text → ℕ → Serving → List Step
serving_steps id from v = change_steps id (option_map change_meant v.first) ++ (change_steps id (option_map change_meant v.second) ++ exit_steps id from (option_map exit_meant v.exit))

-- the plan of a service for a wafer: none if end has no such outcome, else its steps
abbrev pub Planned : Asked → Text → Wafer → Option Serving → Type 0
Planned s id w None = well_ended s ≡ false
Planned s id w (Some v) = (well_ended s ≡ true) × (serving_steps id w.place v ≡ served s id (Some w))
