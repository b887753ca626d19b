-- The history of a wafer as the stays that it stands for.
use Rattle.std.specs.Prelude.{List, map, take}
use Rattle.std.specs.Option.{option_map}
use Rattle.model.specs.Wafers.{Stay}
use Rattle.values.specs.Values.{coded, moment}
use Rattle.wafers.specs.declared.entry.Entry.{Entry}
use Rattle.wafers.specs.declared.history.History.{History}

abbrev pub stay : Entry → Stay
stay e = record { place = coded e.place; entered = moment e.time_in; left = option_map moment e.time_out }

-- oldest first
abbrev pub stays : History → List Stay
stays h = map stay (take h.count h.entries)
