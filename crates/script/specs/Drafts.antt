-- A draft by its fields: what it asks for has the bit that is not used off, whatever the draft holds there.
use Rattle.std.specs.Prelude.{ℕ, Vec, vec_items}
use Rattle.std.specs.Global.{Global}
use Rattle.reports.specs.Fields.{Fields}
use Rattle.reports.specs.declared.raw.Raw.{Raw}

abbrev pub drafted : Raw (Vec ℕ Global) → Fields
drafted d = record {
  family = d.numbers.family;
  row = d.numbers.row;
  transport = d.numbers.transport;
  processing = d.numbers.processing;
  reading = d.numbers.reading;
  spare = 0;
  time = d.numbers.time;
  place = d.numbers.place;
  source = d.numbers.source;
  destination = d.numbers.destination;
  id = vec_items d.id;
  acquired = vec_items d.acquired;
}
