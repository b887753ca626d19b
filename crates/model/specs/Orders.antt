-- Which rows and location reports an accepted call writes, and in which order, by their numbers.
use Rattle.std.specs.Prelude.{◌≡◌, ℕ, cond, List, [], ◌∷◌, Some, None}
use Rattle.model.specs.Wafers.{Text, Wafer}
use Rattle.model.specs.Places.{Plan, sites}
use Rattle.model.specs.Switches.{Switches, quiet}
use Rattle.model.specs.Calls.{Grant, Tracker, start, skip, read_failed, proceed, cancel, unload, correct, missing, end, read, Call, register, lift, set_down, put_back, serve, refusal, outcome}
use Rattle.model.specs.Transitions.{Other, Goes}
use Rattle.model.specs.Kinds.{Kind, row, location, kinds}

-- where the call is accepted, its reports are these
abbrev pub Writes : Plan → Switches → Tracker → Call → List Kind → Type 0
Writes ps h t k ks = (n room : ℕ) → refusal ps n h t room k ≡ None → kinds (outcome ps n h t room k).reports ≡ ks

-- a location report of the place p, left out where p is silenced; then the others
abbrev pub told : Plan → Switches → ℕ → ℕ → List Kind → List Kind
told ps h n p ks = cond (quiet ps h p) ks (location n p ∷ ks)

-- the wafer with this ID is w
abbrev pub Is : Tracker → Text → Wafer → Type 0
Is t id w = t.contents.wafer id ≡ Some w

pub record Orders (ps : Plan) (h : Switches) (t : Tracker) : Type 0 where
  pub registers : (id : Text) (p d x : ℕ) → Writes ps h t (register id p d x) (told ps h 1 p (row 1 ∷ row 10 ∷ []))
  pub lifts : (id : Text) (q x : ℕ) → Writes ps h t (lift id q x) []
  -- the one row that fits
  pub sets_down : (g : Grant) (x : ℕ) (w : Wafer) (n y : ℕ) → Is t g.wafer w → Goes (sites ps) w g.target n y → Writes ps h t (set_down g x) (told ps h 2 w.place (told ps h 1 g.target (row n ∷ [])))
  pub puts_back : (g : Grant) → Writes ps h t (put_back g) []
  pub starts : (id : Text) (x : ℕ) → Writes ps h t (serve start id x) (row 11 ∷ [])
  pub ends_undone : (id : Text) (x : ℕ) → Writes ps h t (serve (end 0) id x) (row 13 ∷ [])
  pub ends : (id : Text) (o x : ℕ) → Other o 0 → Writes ps h t (serve (end o) id x) (row 12 ∷ [])
  pub skips : (id : Text) (x : ℕ) → Writes ps h t (serve skip id x) (row 14 ∷ [])
  pub reads_own : (id : Text) (x : ℕ) → Writes ps h t (serve (read id) id x) (row 17 ∷ [])
  pub reads_other : (id a : Text) (x : ℕ) → Other a id → Writes ps h t (serve (read a) id x) (row 19 ∷ [])
  pub fails_to_read : (id : Text) (x : ℕ) → Writes ps h t (serve read_failed id x) (row 18 ∷ [])
  pub proceeds : (id : Text) (x : ℕ) → Writes ps h t (serve proceed id x) (row 20 ∷ [])
  -- row 14 exactly if the wafer needs processing
  pub cancels_unprocessed : (id : Text) (x : ℕ) (w : Wafer) → Is t id w → w.processing ≡ 0 → Writes ps h t (serve cancel id x) (row 21 ∷ row 14 ∷ [])
  pub cancels : (id : Text) (x : ℕ) (w : Wafer) → Is t id w → Other w.processing 0 → Writes ps h t (serve cancel id x) (row 21 ∷ [])
  pub unloads : (id : Text) (x : ℕ) (w : Wafer) → Is t id w → Writes ps h t (serve unload id x) (told ps h 2 w.place (row 7 ∷ []))
  pub corrects : (id : Text) (x : ℕ) → Writes ps h t (serve correct id x) (row 8 ∷ [])
  -- LOST first, by row 14 or row 12, where the processing is not complete
  pub misses_unprocessed : (id : Text) (x : ℕ) (w : Wafer) → Is t id w → w.processing ≡ 0 → Writes ps h t (serve missing id x) (row 14 ∷ told ps h 2 w.place (row 9 ∷ []))
  pub misses_in_process : (id : Text) (x : ℕ) (w : Wafer) → Is t id w → w.processing ≡ 1 → Writes ps h t (serve missing id x) (row 12 ∷ told ps h 2 w.place (row 9 ∷ []))
  pub misses : (id : Text) (x : ℕ) (w : Wafer) → Is t id w → Other w.processing 0 → Other w.processing 1 → Writes ps h t (serve missing id x) (told ps h 2 w.place (row 9 ∷ []))

-- for every cabinet, every setting of the switches and every tracker
abbrev pub ReportsInOrder : Type 0
ReportsInOrder = (ps : Plan) (h : Switches) (t : Tracker) → Orders ps h t
