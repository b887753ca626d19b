-- What a wafer row holds, by numbers and bytes; its ID is the key beside it.
use Rattle.model.specs.Wafers.{Wafer as Kept}
use Rattle.texts.specs.Meaning.{spelled}
use Rattle.values.specs.Numbers.{transport_number, processing_number, reading_number}
use Rattle.values.specs.Values.{coded}
use Rattle.wafers.specs.Stays.{stays}
use Rattle.wafers.specs.declared.wafer.Wafer.{Wafer}

abbrev pub held : Wafer → Kept
held w = record {
  place = coded w.place;
  source = coded w.source;
  destination = coded w.destination;
  transport = transport_number w.transport;
  processing = processing_number w.processing;
  reading = reading_number w.reading;
  acquired = spelled w.acquired;
  history = stays w.history;
}
