-- What the calls of a table keep to, over any rows and keys.
use Rattle.std.specs.Prelude.{◌≡◌, ℕ, ◌+◌, ◌<◌, Bool, true, cond, List, length, is_some, is_none, Some, None, Option, ◌≢◌}
use Rattle.table.specs.Lookup.{in_use, lookup, row_at, Once, Stands}

-- the answer is the position of the first free row, and none if there is none
abbrev pub FirstFree : {R : Type 0} → List (Option R) → Option ℕ → Type 0
FirstFree rows None = (k : ℕ) → k < length rows → row_at rows k ≢ None
FirstFree rows (Some i) = (i < length rows) × (row_at rows i ≡ None) × ((k : ℕ) → k < i → row_at rows k ≢ None)

-- no row is free exactly if all are in use
abbrev pub Full : {R : Type 0} → List (Option R) → Option ℕ → Type 0
Full rows r = (r ≡ None → in_use rows ≡ length rows) × (in_use rows ≡ length rows → r ≡ None)

-- one row more is in use, if the answer names it; else nothing changed
abbrev pub OneMore : {R : Type 0} → List (Option R) → List (Option R) → Option ℕ → Type 0
OneMore rows rows' None = rows' ≡ rows
OneMore rows rows' (Some i) = in_use rows' ≡ in_use rows + 1

-- one row less is in use, if there was one; else nothing changed
abbrev pub OneLess : {R : Type 0} → List (Option R) → List (Option R) → Option R → Type 0
OneLess rows rows' None = rows' ≡ rows
OneLess rows rows' (Some r) = in_use rows' + 1 ≡ in_use rows

-- as many rows are in use, and one more if there was a free row at i
abbrev pub Filled : {R : Type 0} → List (Option R) → List (Option R) → ℕ → Type 0
Filled rows rows' i = i < length rows → in_use rows' ≡ in_use rows + cond (is_none (row_at rows i)) 1 0

module _ {R M : Type 0} (says : R → M) where
  -- the answer is the position of the first row with the key m, and none if there is no such row
  abbrev pub First : M → List (Option R) → Option ℕ → Type 0
  First m rows None = (k : ℕ) → Stands says rows k m → ⊥
  First m rows (Some i) = Stands says rows i m × ((k : ℕ) → k < i → Stands says rows k m → ⊥)

  -- the answer is a row of the table with the key m, and none if there is no such row
  abbrev pub Found : M → List (Option R) → Option R → Type 0
  Found m rows None = (k : ℕ) → Stands says rows k m → ⊥
  Found m rows (Some r) = (says r ≡ m) × ((k : ℕ) × (row_at rows k ≡ Some r))

module _ {R M : Type 0} (says : R → M) (tells : M → M → Bool) where
  -- any key but k is looked up as before
  abbrev pub Others : M → List (Option R) → List (Option R) → Type 0
  Others k rows rows' = (m : M) → (m ≢ k) → lookup says tells rows' m ≡ lookup says tells rows m

  -- if no key stood twice, none does
  abbrev pub KeepsOnce : List (Option R) → List (Option R) → Type 0
  KeepsOnce rows rows' = Once says tells rows → Once says tells rows'

  -- the look-up finds none exactly if no position is found
  abbrev pub NoneFound : M → List (Option R) → Option ℕ → Type 0
  NoneFound m rows r = (lookup says tells rows m ≡ None → r ≡ None) × (r ≡ None → lookup says tells rows m ≡ None)

  -- a row that went into the table is looked up by its key, if no row had the key
  abbrev pub InsertedOwn : R → List (Option R) → List (Option R) → Option ℕ → Type 0
  InsertedOwn row rows rows' r = is_some r ≡ true → lookup says tells rows (says row) ≡ None → lookup says tells rows' (says row) ≡ Some row

  abbrev pub InsertedOnce : R → List (Option R) → List (Option R) → Type 0
  InsertedOnce row rows rows' = lookup says tells rows (says row) ≡ None → KeepsOnce rows rows'

  -- the row that replaced another of its key is looked up by the key
  abbrev pub ReplacedOwn : M → R → List (Option R) → Option ℕ → Type 0
  ReplacedOwn k row rows' r = is_some r ≡ true → says row ≡ k → lookup says tells rows' k ≡ Some row

  abbrev pub ReplacedOthers : M → R → List (Option R) → List (Option R) → Type 0
  ReplacedOthers k row rows rows' = says row ≡ k → Others k rows rows'

  abbrev pub ReplacedOnce : M → R → List (Option R) → List (Option R) → Type 0
  ReplacedOnce k row rows rows' = says row ≡ k → KeepsOnce rows rows'

  -- a row put over one of its key is looked up by the key, if no key stood twice
  abbrev pub PutOwn : ℕ → R → List (Option R) → List (Option R) → Type 0
  PutOwn i row rows rows' = Stands says rows i (says row) → Once says tells rows → lookup says tells rows' (says row) ≡ Some row

  abbrev pub PutOthers : ℕ → R → List (Option R) → List (Option R) → Type 0
  PutOthers i row rows rows' = Stands says rows i (says row) → Others (says row) rows rows'

  abbrev pub PutOnce : ℕ → R → List (Option R) → List (Option R) → Type 0
  PutOnce i row rows rows' = Stands says rows i (says row) → KeepsOnce rows rows'

  -- the key of a row that was removed is looked up no more, if no key stood twice
  abbrev pub RemovedOwn : M → List (Option R) → List (Option R) → Type 0
  RemovedOwn k rows rows' = Once says tells rows → lookup says tells rows' k ≡ None

  abbrev pub VacatedOwn : ℕ → List (Option R) → List (Option R) → Type 0
  VacatedOwn i rows rows' = (k : M) → Stands says rows i k → RemovedOwn k rows rows'

  abbrev pub VacatedOthers : ℕ → List (Option R) → List (Option R) → Type 0
  VacatedOthers i rows rows' = (k : M) → Stands says rows i k → Others k rows rows'

  -- no key is there to be looked up
  abbrev pub Unknown : List (Option R) → Type 0
  Unknown rows = (m : M) → lookup says tells rows m ≡ None
