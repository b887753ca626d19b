-- A report in short: a row of the table of transitions by its number, or a location row with the place.
use Rattle.std.specs.Prelude.{ℕ, cond, List, [], ◌∷◌, ◌==◌}
use Rattle.reports.specs.Fields.{Fields}

pub data Kind : Type 0 where
  row : (number : ℕ) → Kind
  -- 1: the place became occupied, 2: unoccupied
  location : (number place : ℕ) → Kind

abbrev pub kind_of : Fields → Kind
kind_of f = cond (f.family == 0) (row f.row) (location f.row f.place)

abbrev pub kinds : List Fields → List Kind
kinds [] = []
kinds (f ∷ fs) = kind_of f ∷ kinds fs
