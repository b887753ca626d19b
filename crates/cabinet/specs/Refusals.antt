-- Refusals by their numbers.
use Rattle.std.specs.Prelude.{ℕ}
use Rattle.cabinet.specs.declared.refusal.Refusal.{Refusal}
use Rattle.cabinet.specs.declared.refusal.Refusal.TheVariants as refusal

abbrev pub refusal_number : Refusal → ℕ
refusal_number refusal.PlaceList = 1
refusal_number refusal.RowCount = 2
refusal_number refusal.Time = 3
refusal_number refusal.Text = 4
refusal_number refusal.NotListed = 5
refusal_number refusal.NotRegistered = 6
refusal_number refusal.Registered = 7
refusal_number refusal.NotFree = 8
refusal_number refusal.GrantOpen = 9
refusal_number refusal.NoRowFits = 10
refusal_number refusal.HistoryFull = 11
refusal_number refusal.NoWaferRow = 12
refusal_number refusal.NotPromised = 13
refusal_number refusal.NoRoom = 14
