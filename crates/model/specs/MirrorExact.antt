-- The mirror's intake in the words of the table: which reports it takes, with which number it refuses the others, and what it then holds.
use Rattle.std.specs.Prelude.{◌≡◌, ℕ, suc, pred, ◌<◌, ◌≤◌, cond, ◌||◌, ◌⊎◌, Some, None, Option, ◌==◌}
use Rattle.reports.specs.Fields.{Fields}
use Rattle.model.specs.Wafers.{Text, at_time, Wafer}
use Rattle.model.specs.Places.{Sites}
use Rattle.model.specs.Mirroring.{Mirror, taken, fault, intake, held_after}
use Rattle.model.specs.Transitions.{Other, Listed, Takes, RowTaken, Shows}
use Rattle.model.specs.Runs.{Sound}

-- the report's fields are those of the wafer
pub record Carries (f : Fields) (w : Wafer) : Type 0 where
  pub place : f.place ≡ w.place
  pub source : f.source ≡ w.source
  pub destination : f.destination ≡ w.destination
  pub transport : f.transport ≡ w.transport
  pub processing : f.processing ≡ w.processing
  pub reading : f.reading ≡ w.reading
  pub acquired : f.acquired ≡ w.acquired

-- a substrate report is a step: its row leads from what the mirror holds of the wafer to `next`, its time is not before that of the last, and it shows the wafer
pub record StepsTo (at : Sites) (m : Mirror) (f : Fields) (next : Option Wafer) : Type 0 where
  pub row : Takes at m.contents.occupant (at_time f.time) f.id f.row (m.contents.wafer f.id) next
  pub in_time : m.last ≤ f.time
  pub shown : (w : Wafer) × Shows (m.contents.wafer f.id) next w × Carries f w

abbrev pub AStep : Sites → Mirror → Fields → Type 0
AStep at m f = (next : Option Wafer) × StepsTo at m f next

-- row 1 needs a free wafer row
abbrev pub HasRoom : ℕ → Mirror → Fields → Type 0
HasRoom n m f = f.row ≡ 1 → m.contents.used < n

-- one wafer more by row 1, one less by rows 7 and 9
abbrev pub counted : ℕ → ℕ → ℕ
counted n u = cond (n == 1) (suc u) (cond (n == 7 || n == 9) (pred u) u)

-- the mirror after a substrate report
pub record TookRow (at : Sites) (m : Mirror) (f : Fields) (m' : Mirror) : Type 0 where
  pub step : StepsTo at m f (m'.contents.wafer f.id)
  pub others : (i : Text) → Other i f.id → m'.contents.wafer i ≡ m.contents.wafer i
  pub used : m'.contents.used ≡ counted f.row m.contents.used
  -- where places and wafers named each other: the row is taken in the whole record, occupants too, and they still do
  pub whole : Sound at m.contents → RowTaken at (at_time f.time) f.id f.row m.contents m'.contents
  pub sound : Sound at m.contents → Sound at m'.contents
  pub seen : m'.seen ≡ m.seen
  pub last : m'.last ≡ f.time

-- a substrate report, at a mirror with n wafer rows
pub record SubstrateExact (at : Sites) (n : ℕ) (m : Mirror) (f : Fields) : Type 0 where
  pub is_taken : AStep at m f → HasRoom n m f → (m' : Mirror) × (intake at n m f ≡ taken m')
  pub was_taken : (m' : Mirror) → intake at n m f ≡ taken m' → HasRoom n m f × TookRow at m f m'
  pub is_17 : (AStep at m f → ⊥) → intake at n m f ≡ fault 17
  pub was_17 : intake at n m f ≡ fault 17 → AStep at m f → ⊥
  pub is_18 : AStep at m f → f.row ≡ 1 → n ≤ m.contents.used → intake at n m f ≡ fault 18
  pub was_18 : intake at n m f ≡ fault 18 → AStep at m f × (f.row ≡ 1) × (n ≤ m.contents.used)
  pub no_other : (k : ℕ) → intake at n m f ≡ fault k → (k ≡ 17) ⊎ (k ≡ 18)

-- the mirror after a location report
pub record TookPlace (m : Mirror) (f : Fields) (m' : Mirror) : Type 0 where
  pub occupied : f.row ≡ 1 → m'.seen f.place ≡ Some f.id
  pub unoccupied : Other f.row 1 → m'.seen f.place ≡ None
  pub elsewhere : (p : ℕ) → Other p f.place → m'.seen p ≡ m.seen p
  pub contents : m'.contents ≡ m.contents
  pub last : m'.last ≡ m.last

-- a location report
pub record LocationExact (at : Sites) (n : ℕ) (m : Mirror) (f : Fields) : Type 0 where
  pub is_taken : Listed at f.place → (m' : Mirror) × (intake at n m f ≡ taken m')
  pub was_taken : (m' : Mirror) → intake at n m f ≡ taken m' → Listed at f.place × TookPlace m f m'
  pub is_17 : (Listed at f.place → ⊥) → intake at n m f ≡ fault 17
  pub was_refused : (k : ℕ) → intake at n m f ≡ fault k → (k ≡ 17) × (Listed at f.place → ⊥)

pub record TakesIn (at : Sites) (n : ℕ) (m : Mirror) (f : Fields) : Type 0 where
  pub substrate : f.family ≡ 0 → SubstrateExact at n m f
  pub location : Other f.family 0 → LocationExact at n m f
  -- a refused report changes nothing
  pub refused : (k : ℕ) → intake at n m f ≡ fault k → held_after m (intake at n m f) ≡ m

-- for every list of places, every mirror and every report
abbrev pub IntakeIsExact : Type 0
IntakeIsExact = (at : Sites) (n : ℕ) (m : Mirror) (f : Fields) → TakesIn at n m f
