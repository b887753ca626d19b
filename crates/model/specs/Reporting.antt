-- The reports of a row and of a place.
use Rattle.std.specs.Prelude.{ℕ, [], Some, None, Option}
use Rattle.reports.specs.Fields.{Fields}
use Rattle.model.specs.Wafers.{Text, Times, Wafer}

-- the wafer as it stands, by the number of the row
abbrev pub substrate_report : ℕ → Times → Text → Wafer → Fields
substrate_report n t id w = record {
  family = 0;
  row = n;
  transport = w.transport;
  processing = w.processing;
  reading = w.reading;
  spare = 0;
  time = t.at;
  place = w.place;
  source = w.source;
  destination = w.destination;
  id = id;
  acquired = w.acquired;
}

-- row 1 says that a place became occupied, row 2 unoccupied
abbrev pub occupancy_row : Option Text → ℕ
occupancy_row (Some id) = 1
occupancy_row None = 2

abbrev pub occupancy_id : Option Text → Text
occupancy_id (Some id) = id
occupancy_id None = []

abbrev pub location_report : Times → ℕ → Option Text → Fields
location_report t p o = record {
  family = 1;
  row = occupancy_row o;
  transport = 0;
  processing = 0;
  reading = 0;
  spare = 0;
  time = t.at;
  place = p;
  source = 0;
  destination = 0;
  id = occupancy_id o;
  acquired = [];
}
