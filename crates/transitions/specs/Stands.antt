-- Whether a wafer stands at a station.
use Rattle.std.specs.Prelude.{◌≡◌}
use Rattle.model.specs.Places.{Sites, station}
use Rattle.wafers.specs.Held.{held}
use Rattle.transitions.specs.declared.standing.Standing.{Standing}

-- at these sites it does, or does not, as is said
abbrev pub Stands : Sites → Standing → Type 0
Stands at s = station at (held s.wafer).place ≡ s.at_station
