-- A table is a list of rows: `None` is a free row, `Some r` the row r in use.
-- `says` gives what a row's key stands for, and `tells` whether two such are the same.
use Rattle.std.specs.Prelude.{◌≡◌, ℕ, ◌≤◌, Bool, false, cond, List, [], ◌∷◌, Some, None, Option, is_some, count_by, slice_index_or, slice_set}

-- what a row's key stands for, by the row's key and what a key stands for
abbrev pub says : {R K M : Type 0} → (R → K) → (K → M) → R → M
says named meaning row = meaning (named row)

-- whether a row is in use and has the key m
abbrev pub bears : {R M : Type 0} → (R → M) → (M → M → Bool) → M → Option R → Bool
bears says tells m None = false
bears says tells m (Some r) = tells (says r) m

-- how many rows are in use
abbrev pub in_use : {R : Type 0} → List (Option R) → ℕ
in_use rows = count_by is_some rows

-- the row in use at a position; none if it is free or past the end
abbrev pub row_at : {R : Type 0} → List (Option R) → ℕ → Option R
row_at rows i = slice_index_or rows i None

-- the same, of a position that may be missing
abbrev pub row_found : {R : Type 0} → List (Option R) → Option ℕ → Option R
row_found rows None = None
row_found rows (Some i) = row_at rows i

-- the first row with the key m
abbrev pub lookup : {R M : Type 0} → (R → M) → (M → M → Bool) → List (Option R) → M → Option R
lookup says tells [] m = None
lookup says tells (x ∷ rows) m = cond (bears says tells m x) x (lookup says tells rows m)

-- the rows with x at a position; as they were where the position is missing
abbrev pub placed : {X : Type 0} → List X → X → Option ℕ → List X
placed rows x None = rows
placed rows x (Some i) = slice_set rows i x

-- no key stands twice
abbrev pub Once : {R M : Type 0} → (R → M) → (M → M → Bool) → List (Option R) → Type 0
Once {R} {M} says tells rows = (m : M) → count_by (bears says tells m) rows ≤ 1

-- a row with the key m stands at i
abbrev pub Stands : {R M : Type 0} → (R → M) → List (Option R) → ℕ → M → Type 0
Stands {R} says rows i m = (r : R) × (row_at rows i ≡ Some r) × (says r ≡ m)
