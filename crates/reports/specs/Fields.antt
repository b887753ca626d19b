-- A report by its twelve fields, as numbers and byte strings.
use Rattle.std.specs.Prelude.{ℕ, List, [], Some, None, Option}
use Rattle.std.specs.Borrow.{Bor}
use Rattle.texts.specs.Meaning.{spelled, called}
use Rattle.texts.specs.declared.id.Id.{Id}
use Rattle.reports.specs.declared.raw.Raw.{Raw}
use Rattle.reports.specs.declared.report.Report.{Report}
use Rattle.reports.specs.declared.report.Report.TheVariants.{OfSubstrate, OfLocation}
use Rattle.reports.specs.declared.report.Substrate.{Substrate}
use Rattle.reports.specs.declared.report.Location.{Location}
use Rattle.values.specs.Numbers.{transition_number, transport_number, processing_number, reading_number}
use Rattle.values.specs.Values.{moment, coded}

pub record Fields : Type 0 where
  pub family : ℕ
  pub row : ℕ
  pub transport : ℕ
  pub processing : ℕ
  pub reading : ℕ
  pub spare : ℕ
  pub time : ℕ
  pub place : ℕ
  pub source : ℕ
  pub destination : ℕ
  pub id : List ℕ
  pub acquired : List ℕ

-- fields by the bytes that their two texts hold
abbrev pub raw_fields : {T : Type 0} → (T → List ℕ) → Raw T → Fields
raw_fields bytes r = record {
  family = r.numbers.family;
  row = r.numbers.row;
  transport = r.numbers.transport;
  processing = r.numbers.processing;
  reading = r.numbers.reading;
  spare = r.numbers.spare;
  time = r.numbers.time;
  place = r.numbers.place;
  source = r.numbers.source;
  destination = r.numbers.destination;
  id = bytes r.id;
  acquired = bytes r.acquired;
}

-- the fields as they are given
abbrev pub given : Raw (Bor (List ℕ)) → Fields
given = raw_fields (λ bs. bs.now)

abbrev pub substrate_fields : Substrate → Fields
substrate_fields s = record {
  family = 0;
  row = transition_number s.transition;
  transport = transport_number s.transport;
  processing = processing_number s.processing;
  reading = reading_number s.reading;
  spare = 0;
  time = moment s.time;
  place = coded s.place;
  source = coded s.source;
  destination = coded s.destination;
  id = called s.id;
  acquired = spelled s.acquired;
}

-- row 1 says that a place became occupied, row 2 unoccupied
abbrev pub location_row : Option Id → ℕ
location_row (Some i) = 1
location_row None = 2

abbrev pub occupant_id : Option Id → List ℕ
occupant_id (Some i) = called i
occupant_id None = []

abbrev pub location_fields : Location → Fields
location_fields l = record {
  family = 1;
  row = location_row l.occupant;
  transport = 0;
  processing = 0;
  reading = 0;
  spare = 0;
  time = moment l.time;
  place = coded l.place;
  source = 0;
  destination = 0;
  id = occupant_id l.occupant;
  acquired = [];
}

-- what a report shows
abbrev pub shown : Report → Fields
shown (OfSubstrate s) = substrate_fields s
shown (OfLocation l) = location_fields l
