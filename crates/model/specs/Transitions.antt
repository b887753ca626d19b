-- The table of transitions in its own words: for each row from where it starts, what it asks, and where it leads.
use Rattle.std.specs.Prelude.{◌≡◌, ℕ, ◌<◌, ◌≤◌, ◌⊎◌, List, [], ◌∷◌, ◌++◌, length, Some, None, Option}
use Rattle.reports.specs.Fields.{Fields}
use Rattle.model.specs.Wafers.{Text, Times, Wafer, opened, closed, registered, with_transport, with_processing, with_reading}
use Rattle.model.specs.Places.{Spot, Sites, Contents}
use Rattle.model.specs.Reporting.{substrate_report, location_report}

abbrev pub Other : {A : Type 0} → A → A → Type 0
Other a b = a ≡ b → ⊥

abbrev pub Listed : Sites → ℕ → Type 0
Listed at p = (s : Spot) × (at p ≡ Some s)

abbrev pub Station : Sites → ℕ → Type 0
Station at p = (s : Spot) × (at p ≡ Some s) × (s.kind ≡ 1)

abbrev pub Complete : ℕ → Type 0
Complete p = (2 ≤ p) × (p ≤ 7)

-- the processing state is neither 15 nor LOST
abbrev pub Steady : Wafer → Type 0
Steady w = Other w.processing 15 × Other w.processing 6

-- a wafer and a target: the rows 2 to 6, each with the transport state that it leads to
pub data Way (at : Sites) (w : Wafer) (q : ℕ) : ℕ → ℕ → Type 0 where
  row_2 : w.transport ≡ 0 → Station at q → Other q w.destination → Way at w q 2 1
  row_3 : w.transport ≡ 1 → q ≡ w.source → Other w.destination w.source ⊎ (Complete w.processing → ⊥) → Way at w q 3 0
  row_4 : w.transport ≡ 1 → Station at q → Other q w.source → Other q w.destination → Way at w q 4 1
  row_5 : w.transport ≡ 1 → q ≡ w.destination → Other w.destination w.source ⊎ Complete w.processing → Way at w q 5 2
  row_6 : w.transport ≡ 2 → Station at q → Other q w.source → Way at w q 6 1

-- a row fits, occupancy and number of entries left aside
pub record Goes (at : Sites) (w : Wafer) (q n x : ℕ) : Type 0 where
  pub way : Way at w q n x
  pub idle : Other w.processing 1
  pub steady : Steady w

-- the wafer at the target: the last entry closed and one opened there, at the time of setting down
abbrev pub arrived : Times → ℕ → ℕ → Wafer → Wafer
arrived t x q w = record {
  place = q;
  source = w.source;
  destination = w.destination;
  transport = x;
  processing = w.processing;
  reading = w.reading;
  acquired = w.acquired;
  history = closed t.at w.history ++ (opened q t.at ∷ []);
}

-- the wafer `id` takes a row, by its number, where the occupants are `occ`; none is a wafer that is not registered
pub data Takes (at : Sites) (occ : ℕ → Option Text) (t : Times) (id : Text) : ℕ → Option Wafer → Option Wafer → Type 0 where
  row_1 : (p d : ℕ) → Listed at p → occ p ≡ None → Listed at d → Takes at occ t id 1 None (Some (registered t p d))
  rows_2_to_6 : (w : Wafer) (q n x : ℕ) → Goes at w q n x → Listed at q → occ q ≡ None → length w.history < 16 → Takes at occ t id n (Some w) (Some (arrived t x q w))
  row_7 : (w : Wafer) → w.transport ≡ 2 → Other w.processing 1 → Steady w → Takes at occ t id 7 (Some w) None
  row_8 : (w : Wafer) → w.transport ≡ 2 → w.place ≡ w.source → Steady w → Takes at occ t id 8 (Some w) (Some (with_transport 0 w))
  row_9 : (w : Wafer) → Complete w.processing → Takes at occ t id 9 (Some w) None
  row_10 : (w : Wafer) (r : ℕ) → w.processing ≡ 15 → r ≤ 1 → Takes at occ t id 10 (Some w) (Some (with_processing 0 (with_reading r w.acquired w)))
  row_11 : (w : Wafer) → w.processing ≡ 0 → Station at w.place → (w.reading ≡ 0) ⊎ (w.reading ≡ 3) → Takes at occ t id 11 (Some w) (Some (with_processing 1 w))
  row_12 : (w : Wafer) (p : ℕ) → w.processing ≡ 1 → 2 ≤ p → p ≤ 6 → Takes at occ t id 12 (Some w) (Some (with_processing p w))
  row_13 : (w : Wafer) → w.processing ≡ 1 → Takes at occ t id 13 (Some w) (Some (with_processing 0 w))
  row_14 : (w : Wafer) (p : ℕ) → w.processing ≡ 0 → (p ≡ 6) ⊎ (p ≡ 7) → Takes at occ t id 14 (Some w) (Some (with_processing p w))
  row_17 : (w : Wafer) (a : Text) → w.reading ≡ 1 → a ≡ id → Steady w → Takes at occ t id 17 (Some w) (Some (with_reading 3 a w))
  row_18 : (w : Wafer) → w.reading ≡ 1 → Steady w → Takes at occ t id 18 (Some w) (Some (with_reading 2 [] w))
  row_19 : (w : Wafer) (a : Text) → w.reading ≡ 1 → Other a id → Other a [] → Steady w → Takes at occ t id 19 (Some w) (Some (with_reading 2 a w))
  row_20 : (w : Wafer) → w.reading ≡ 2 → Steady w → Takes at occ t id 20 (Some w) (Some (with_reading 3 w.acquired w))
  row_21 : (w : Wafer) → w.reading ≡ 2 → Steady w → Takes at occ t id 21 (Some w) (Some (with_reading 4 w.acquired w))

-- where a wafer is, if it is registered
abbrev pub home : Option Wafer → Option ℕ
home None = None
home (Some w) = Some w.place

-- the record before and after a row of the wafer `id`
pub record RowTaken (at : Sites) (t : Times) (id : Text) (n : ℕ) (c d : Contents) : Type 0 where
  pub row : Takes at c.occupant t id n (c.wafer id) (d.wafer id)
  -- the other wafers stay as they were
  pub others : (i : Text) → Other i id → d.wafer i ≡ c.wafer i
  -- the place reached has the wafer, the place left has none, every other is as it was
  pub reached : (p : ℕ) → home (d.wafer id) ≡ Some p → d.occupant p ≡ Some id
  pub left : (p : ℕ) → home (c.wafer id) ≡ Some p → Other (home (d.wafer id)) (Some p) → d.occupant p ≡ None
  pub elsewhere : (p : ℕ) → Other (home (c.wafer id)) (Some p) → Other (home (d.wafer id)) (Some p) → d.occupant p ≡ c.occupant p

-- a report shows the wafer as it stands after the row, or before it where the row deletes the wafer
abbrev pub Shows : Option Wafer → Option Wafer → Wafer → Type 0
Shows before (Some w) v = v ≡ w
Shows (Some w) None v = v ≡ w
Shows None None v = ⊥

-- reports that are, in order, rows taken from the record c to the record d; location reports stand among them
pub data Traced (at : Sites) (t : Times) : Contents → List Fields → Contents → Type 0 where
  nothing : (c : Contents) → Traced at t c [] c
  location : (c d : Contents) (p : ℕ) (o : Option Text) (fs : List Fields) → Traced at t c fs d → Traced at t c (location_report t p o ∷ fs) d
  substrate : (c m d : Contents) (id : Text) (n : ℕ) (w : Wafer) (fs : List Fields) → RowTaken at t id n c m → Shows (c.wafer id) (m.wafer id) w → Traced at t m fs d → Traced at t c (substrate_report n t id w ∷ fs) d
