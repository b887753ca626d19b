-- The places of a cabinet, and what tracker and mirror hold of wafers and occupants.
use Rattle.std.specs.Prelude.{ℕ, Bool, false, cond, List, Some, None, Option, ◌==◌, nat_eq, is_some, position}
use Rattle.std.specs.Option.{option_map}
use Rattle.std.specs.Str.{bytes_eq}
use Rattle.table.specs.Lookup.{bears, lookup, row_at}
use Rattle.model.specs.Wafers.{Text, Wafer}

-- a place of the list: its code, and its kind (0 slot, 1 station)
pub record Spot : Type 0 where
  pub code : ℕ
  pub kind : ℕ

-- the place rows in order; a row that is not in use is none
abbrev pub Plan : Type 0
Plan = List (Option Spot)

-- the place with a code
abbrev pub Sites : Type 0
Sites = ℕ → Option Spot

abbrev pub sites : Plan → Sites
sites ps p = lookup (λ s. s.code) nat_eq ps p

abbrev pub listed : Sites → ℕ → Bool
listed at p = is_some (at p)

abbrev pub is_station : Option Spot → Bool
is_station None = false
is_station (Some s) = s.kind == 1

abbrev pub station : Sites → ℕ → Bool
station at p = is_station (at p)

-- the position of the place with a code, counted from 0
abbrev pub index : Plan → ℕ → Option ℕ
index ps p = position (bears (λ s. s.code) nat_eq p) ps

-- the code of the place at a position
abbrev pub code_at : Plan → ℕ → Option ℕ
code_at ps i = option_map (λ s. s.code) (row_at ps i)

-- what a look-up finds, once it is set at one key
abbrev pub put_text : {V : Type 0} → Text → V → (Text → V) → Text → V
put_text k v f x = cond (bytes_eq x k) v (f x)

abbrev pub put_code : {V : Type 0} → ℕ → V → (ℕ → V) → ℕ → V
put_code k v f x = cond (x == k) v (f x)

-- the wafers by ID, how many there are, and the occupants by the places' codes
pub record Contents : Type 0 where
  pub wafer : Text → Option Wafer
  pub used : ℕ
  pub occupant : ℕ → Option Text

abbrev pub nothing_held : Contents
nothing_held = record { wafer = λ _. None; used = 0; occupant = λ _. None }
