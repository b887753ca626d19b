-- Refusal 10 in the words of the table: it is given exactly if every check before it passes and no row fits.
use Rattle.std.specs.Prelude.{◌≡◌, ℕ, ◌<◌, ◌≤◌, true, ◌⊎◌, List, [], ◌∷◌, Some, None, Option}
use Rattle.model.specs.Wafers.{Text, Times, at_time, Wafer}
use Rattle.model.specs.Places.{Plan, Sites, sites, Contents}
use Rattle.model.specs.Switches.{Switches}
use Rattle.model.specs.Calls.{Tracker, Service, start, skip, read_failed, proceed, cancel, unload, correct, missing, end, read, Call, register, lift, set_down, put_back, serve, refused, Check, checks_of, outcome}
use Rattle.model.specs.Transitions.{Other, Goes, Takes}

-- the checks with a lower number pass
abbrev pub PassesBelow : ℕ → List Check → Type 0
PassesBelow n [] = Unit {0}
PassesBelow n (c ∷ cs) = (c.number < n → c.passes ≡ true) × PassesBelow n cs

-- a row fits the wafer as it stands; and it leads to a processing state, or sets an acquired ID

abbrev pub Fits : Sites → Contents → Text → Times → ℕ → Type 0
Fits at c id t n = (o : Option Wafer) × Takes at c.occupant t id n (c.wafer id) o

abbrev pub FitsTo : Sites → Contents → Text → Times → ℕ → ℕ → Type 0
FitsTo at c id t n p = (w : Wafer) × Takes at c.occupant t id n (c.wafer id) (Some w) × (w.processing ≡ p)

abbrev pub FitsWith : Sites → Contents → Text → Times → ℕ → Text → Type 0
FitsWith at c id t n a = (w : Wafer) × Takes at c.occupant t id n (c.wafer id) (Some w) × (w.acquired ≡ a)

-- the first row that a service takes fits; what it takes after that then fits too
abbrev pub RowFits : Sites → Contents → Text → Times → Service → Type 0
RowFits at c id t start = Fits at c id t 11
RowFits at c id t skip = FitsTo at c id t 14 7
RowFits at c id t read_failed = Fits at c id t 18
RowFits at c id t proceed = Fits at c id t 20
RowFits at c id t cancel = Fits at c id t 21
RowFits at c id t unload = Fits at c id t 7
RowFits at c id t correct = Fits at c id t 8
-- LOST by row 14 or 12 first, or row 9 at once
RowFits at c id t missing = FitsTo at c id t 14 6 ⊎ (FitsTo at c id t 12 6 ⊎ Fits at c id t 9)
-- outcome 0 by row 13, any other by row 12
RowFits at c id t (end o) = ((o ≡ 0) × Fits at c id t 13) ⊎ (Other o 0 × FitsTo at c id t 12 o)
RowFits at c id t (read a) = FitsWith at c id t 17 a ⊎ FitsWith at c id t 19 a

-- an outcome that end does not take
abbrev pub NoOutcome : Service → Type 0
NoOutcome start = ⊥
NoOutcome skip = ⊥
NoOutcome read_failed = ⊥
NoOutcome proceed = ⊥
NoOutcome cancel = ⊥
NoOutcome unload = ⊥
NoOutcome correct = ⊥
NoOutcome missing = ⊥
NoOutcome (end o) = Other o 0 × ((2 ≤ o) × (o ≤ 5) → ⊥)
NoOutcome (read a) = ⊥

-- none of rows 2 to 6 fits the registered wafer, occupancy and number of entries left aside
abbrev pub Stuck : Sites → ℕ → Option Wafer → Type 0
Stuck at q None = ⊥
Stuck at q (Some w) = (n x : ℕ) → Goes at w q n x → ⊥

abbrev pub NoRowFits : Sites → Tracker → Call → Type 0
NoRowFits at t (register id p d x) = ⊥
NoRowFits at t (lift id q x) = Stuck at q (t.contents.wafer id)
NoRowFits at t (set_down g x) = ⊥
NoRowFits at t (put_back g) = ⊥
NoRowFits at t (serve s id x) = NoOutcome s ⊎ (RowFits at t.contents id (at_time x) s → ⊥)

-- at every tracker, with every setting of the switches and every free count
abbrev pub TenIsExact : Type 0
TenIsExact = (ps : Plan) (n : ℕ) (h : Switches) (t : Tracker) (room : ℕ) (k : Call)
    → ((outcome ps n h t room k).answer ≡ refused 10 → PassesBelow 10 (checks_of ps n t k) × NoRowFits (sites ps) t k)
    × (PassesBelow 10 (checks_of ps n t k) → NoRowFits (sites ps) t k → (outcome ps n h t room k).answer ≡ refused 10)

-- at most one of rows 2 to 6 fits a wafer and a target
abbrev pub OneRowAtMost : Type 0
OneRowAtMost = (at : Sites) (w : Wafer) (q n m x y : ℕ) → Goes at w q n x → Goes at w q m y → n ≡ m
