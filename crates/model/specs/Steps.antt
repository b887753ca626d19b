-- The steps of a call: rows that wafers take, and location reports, in the order in which they are reported.
use Rattle.std.specs.Prelude.{ℕ, Bool, true, cond, ◌&&◌, List, [], ◌∷◌, ◌++◌, Option}
use Rattle.reports.specs.Fields.{Fields}
use Rattle.model.specs.Wafers.{Text, Times}
use Rattle.model.specs.Places.{Sites, Contents}
use Rattle.model.specs.Reporting.{substrate_report, location_report}
use Rattle.model.specs.Rows.{Row, row_number, can, effect, told}

pub data Step : Type 0 where
  -- the wafer takes the row
  takes : (id : Text) → Row → Step
  -- the place has this occupant, or none
  tells : (place : ℕ) → (occupant : Option Text) → Step

abbrev pub step_effect : Times → Step → Contents → Contents
step_effect t (takes id r) c = effect t id r c
step_effect t (tells p o) c = c

-- a location report is left out where the place is silenced
abbrev pub step_reports : (ℕ → Bool) → Times → Contents → Step → List Fields
step_reports hush t c (takes id r) = substrate_report (row_number r) t id (told t (c.wafer id) r) ∷ []
step_reports hush t c (tells p o) = cond (hush p) [] (location_report t p o ∷ [])

abbrev pub can_step : Sites → Contents → Step → Bool
can_step at c (takes id r) = can at c id r
can_step at c (tells p o) = true

-- all steps, one after the other: whether the rows can be taken, what they do, what is reported
abbrev pub can_all : Sites → Times → Contents → List Step → Bool
can_all at t c [] = true
can_all at t c (s ∷ ss) = can_step at c s && can_all at t (step_effect t s c) ss

abbrev pub perform : Times → Contents → List Step → Contents
perform t c [] = c
perform t c (s ∷ ss) = perform t (step_effect t s c) ss

abbrev pub reports_of : (ℕ → Bool) → Times → Contents → List Step → List Fields
reports_of hush t c [] = []
reports_of hush t c (s ∷ ss) = step_reports hush t c s ++ reports_of hush t (step_effect t s c) ss
