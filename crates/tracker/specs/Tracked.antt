-- What a tracker stands for.
use Rattle.std.specs.Prelude.{ℕ, Option}
use Rattle.std.specs.Option.{option_map, option_flatten}
use Rattle.model.specs.Places.{Plan}
use Rattle.model.specs.Calls.{Tracker as Held, Promise as Pledge}
use Rattle.values.specs.Values.{moment}
use Rattle.wafers.specs.declared.place.Promise.{Promise}
use Rattle.wafers.specs.Spots.{pledge}
use Rattle.cabinet.specs.Views.{View, view}
use Rattle.tracker.specs.declared.tracker.Tracker.{Tracker}

-- the promises that are noted
abbrev pub pledges : (ℕ → Option (Option Promise)) → ℕ → Option Pledge
pledges notes p = option_flatten (option_map (option_map pledge) (notes p))

abbrev pub tables : Tracker → View (Option Promise)
tables t = view t.cabinet

abbrev pub tracked : Tracker → Held
tracked t = record { contents = (tables t).contents; promise = pledges (tables t).notes; latest = moment t.latest }

abbrev pub plan_of : Tracker → Plan
plan_of t = (tables t).plan

-- how many wafer rows there are
abbrev pub rows_of : Tracker → ℕ
rows_of t = (tables t).rows
