-- A wafer as tracker and mirror both hold it: where it is, its states and where it has been.
use Rattle.std.specs.Prelude.{ℕ, cond, List, [], ◌∷◌, ◌++◌, length, Some, None, Option, nat_lt}

-- the bytes of an ID or of an acquired ID
abbrev pub Text : Type 0
Text = List ℕ

-- the times that a row goes by
pub record Times : Type 0 where
  pub at : ℕ

abbrev pub at_time : ℕ → Times
at_time t = record { at = t }

-- an entry of the history: a place, the time in, and the time out once the wafer has left
pub record Stay : Type 0 where
  pub place : ℕ
  pub entered : ℕ
  pub left : Option ℕ

pub record Wafer : Type 0 where
  pub place : ℕ
  pub source : ℕ
  pub destination : ℕ
  pub transport : ℕ
  pub processing : ℕ
  pub reading : ℕ
  pub acquired : Text
  pub history : List Stay

abbrev pub opened : ℕ → ℕ → Stay
opened p t = record { place = p; entered = t; left = None }

abbrev pub ended : ℕ → Stay → Stay
ended t s = record { place = s.place; entered = s.entered; left = Some t }

-- the last entry gets its time out
abbrev pub closed : ℕ → List Stay → List Stay
closed t [] = []
closed t (s ∷ []) = ended t s ∷ []
closed t (s ∷ r ∷ ss) = s ∷ closed t (r ∷ ss)

-- the last entry is closed and one opened at q; a history of sixteen entries stays as it is
abbrev pub moved_on : Times → ℕ → List Stay → List Stay
moved_on t q ss = cond (nat_lt (length ss) 16) (closed t.at ss ++ (opened q t.at ∷ [])) ss

-- a wafer as row 1 makes it
abbrev pub registered : Times → ℕ → ℕ → Wafer
registered t p d = record { place = p; source = p; destination = d; transport = 0; processing = 15; reading = 0; acquired = []; history = opened p t.at ∷ [] }

abbrev pub with_transport : ℕ → Wafer → Wafer
with_transport x w = record { place = w.place; source = w.source; destination = w.destination; transport = x; processing = w.processing; reading = w.reading; acquired = w.acquired; history = w.history }

abbrev pub with_processing : ℕ → Wafer → Wafer
with_processing x w = record { place = w.place; source = w.source; destination = w.destination; transport = w.transport; processing = x; reading = w.reading; acquired = w.acquired; history = w.history }

abbrev pub with_reading : ℕ → Text → Wafer → Wafer
with_reading x a w = record { place = w.place; source = w.source; destination = w.destination; transport = w.transport; processing = w.processing; reading = x; acquired = a; history = w.history }

-- at the place q, with a transport state
abbrev pub moved_to : Times → ℕ → ℕ → Wafer → Wafer
moved_to t x q w = record { place = q; source = w.source; destination = w.destination; transport = x; processing = w.processing; reading = w.reading; acquired = w.acquired; history = moved_on t q w.history }
