-- The order of the reports of each call.
use Rattle.std.proofs.Common.{◌≡◌, ℕ, Bool, true, false, cond, eqb, List, [], ◌∷◌, ◌++◌, Some, Option, refl, ap, ◌∙◌}
use Rattle.std.proofs.lemmas.Bool.{eq-eqb, ne_eqb, cond-true, cond-false}
use Rattle.model.specs.Wafers.{Text, Times, Wafer}
use Rattle.model.specs.Places.{Plan, sites, Contents}
use Rattle.model.specs.Switches.{Switches, quiet}
use Rattle.model.specs.Reporting.{occupancy_row, location_report}
use Rattle.model.specs.Rows.{Leg, leg_number, to_transport, fits, reads_as, Change, row12, row13, row14, row17, row19, row21, change_number, row9, change, row_number, place_of}
use Rattle.model.specs.Steps.{Step, takes, tells, step_effect, reports_of}
use Rattle.model.specs.Calls.{Grant, Tracker, Service, start, skip, read_failed, proceed, cancel, unload, correct, missing, end, read, Call, register, lift, set_down, put_back, serve, fitting, moving, leaving, served, steps_of, times_of, resolved}
use Rattle.model.specs.Transitions.{Other, Goes}
use Rattle.model.specs.Kinds.{Kind, row, location, kinds}
use Rattle.model.specs.Orders.{Writes, told, Is, ReportsInOrder}
use Rattle.model.proofs.Basics.{same_refl, same_false, occupied_some}
use Rattle.model.proofs.Worded.{goes_from, from_goes}
use Rattle.model.proofs.Promises.{leg_holds, leg_some}
use Rattle.model.proofs.Exacting.{one_row_at_most}

-- the kinds of the reports follow from the steps alone
abbrev step-kinds : (ℕ → Bool) → List Step → List Kind
step-kinds hush [] = []
step-kinds hush (takes id r ∷ ss) = row (row_number r) ∷ step-kinds hush ss
step-kinds hush (tells p o ∷ ss) = cond (hush p) (step-kinds hush ss) (location (occupancy_row o) p ∷ step-kinds hush ss)

kinds_of_steps : (hush : ℕ → Bool) (t : Times) (ss : List Step) (c : Contents) → kinds (reports_of hush t c ss) ≡ step-kinds hush ss
kinds_of_steps hush t [] c = refl
kinds_of_steps hush t (takes id r ∷ ss) c = ap (λ (ks : List Kind). row (row_number r) ∷ ks) (kinds_of_steps hush t ss (step_effect t (takes id r) c))
kinds_of_steps hush t (tells p o ∷ ss) c = go (hush p) (kinds_of_steps hush t ss c)
  where
    go : (b : Bool) → kinds (reports_of hush t c ss) ≡ step-kinds hush ss → kinds (cond b [] (location_report t p o ∷ []) ++ reports_of hush t c ss) ≡ cond b (step-kinds hush ss) (location (occupancy_row o) p ∷ step-kinds hush ss)
    go true e = e
    go false e = ap (λ (ks : List Kind). location (occupancy_row o) p ∷ ks) e

module _ (ps : Plan) (h : Switches) (t : Tracker) where
  writes : (k : Call) (ks : List Kind) → step-kinds (quiet ps h) (steps_of (sites ps) h t k) ≡ ks → Writes ps h t k ks
  writes k ks e n room a = ap (λ (o : Option ℕ). kinds (resolved ps h t k o).reports) a ∙ kinds_of_steps (quiet ps h) (times_of t k) (steps_of (sites ps) h t k) t.contents ∙ e

  -- a service, by the wafer
  by_wafer : (s : Service) (id : Text) (x : ℕ) (w : Wafer) (ks : List Kind) → Is t id w → step-kinds (quiet ps h) (served s id (Some w)) ≡ ks → Writes ps h t (serve s id x) ks
  by_wafer s id x w ks i e = writes (serve s id x) ks (ap (λ (o : Option Wafer). step-kinds (quiet ps h) (served s id o)) i ∙ e)

  -- the row that is found is the one that fits
  moved_by : (w : Wafer) (q n y : ℕ) → Goes (sites ps) w q n y → (l : Leg) × (fitting (sites ps) (Some w) q ≡ Some l) × (leg_number l ≡ n)
  moved_by w q n y g =
      let F : Leg → Bool = λ l. fits (sites ps) l w q in
      let u = from_goes (sites ps) w q n y g in
      let v = occupied_some (fitting (sites ps) (Some w) q) (leg_some F u.0 u.3) in
      (v.0, v.1, one_row_at_most (sites ps) w q (leg_number v.0) n (to_transport v.0) y (goes_from (sites ps) w q v.0 (leg_holds F v.0 v.1)) g)

  set_down_writes : (g : Grant) (x : ℕ) (w : Wafer) (n y : ℕ) → Is t g.wafer w → Goes (sites ps) w g.target n y → Writes ps h t (set_down g x) (told ps h 2 w.place (told ps h 1 g.target (row n ∷ [])))
  set_down_writes g x w n y i go =
      let u = moved_by w g.target n y go in
      writes (set_down g x) _
      (ap (λ (o : Option Wafer). step-kinds (quiet ps h) (moving g.wafer (place_of o) g.target (fitting (sites ps) o g.target))) i
      ∙ ap (λ (l : Option Leg). step-kinds (quiet ps h) (moving g.wafer w.place g.target l)) u.1
      ∙ ap (λ (m : ℕ). told ps h 2 w.place (told ps h 1 g.target (row m ∷ []))) u.2)

  end-writes : (id : Text) (o x : ℕ) → Other o 0 → Writes ps h t (serve (end o) id x) (row 12 ∷ [])
  end-writes id o x n = writes (serve (end o) id x) _ (ap (λ (g : Change). row (change_number g) ∷ []) (cond-false (eqb o 0) row13 (row12 o) (ne_eqb o 0 n)))

  read-writes : (id : Text) (x : ℕ) → Writes ps h t (serve (read id) id x) (row 17 ∷ [])
  read-writes id x = writes (serve (read id) id x) _ (ap (λ (g : Change). row (change_number g) ∷ []) (cond-true (reads_as id id) (row17 id) (row19 id) (same_refl id)))

  other_writes : (id a : Text) (x : ℕ) → Other a id → Writes ps h t (serve (read a) id x) (row 19 ∷ [])
  other_writes id a x n = writes (serve (read a) id x) _ (ap (λ (g : Change). row (change_number g) ∷ []) (cond-false (reads_as a id) (row17 a) (row19 a) (same_false a id n)))

  -- what cancel and missing write, by the tests of the processing state

  abbrev cancelled : Text → Bool → List Kind
  cancelled id b = step-kinds (quiet ps h) (takes id (change row21) ∷ cond b (takes id (change (row14 7)) ∷ []) [])

  abbrev missed : Text → ℕ → Bool → Bool → List Kind
  missed id p a b = step-kinds (quiet ps h) (cond a (takes id (change (row14 6)) ∷ []) (cond b (takes id (change (row12 6)) ∷ []) []) ++ leaving id p row9)

  cancel_writes : (id : Text) (x : ℕ) (w : Wafer) (b : Bool) → Is t id w → eqb w.processing 0 ≡ b → Writes ps h t (serve cancel id x) (cancelled id b)
  cancel_writes id x w b i e = by_wafer cancel id x w _ i (ap (cancelled id) e)

  missing_writes : (id : Text) (x : ℕ) (w : Wafer) (a b : Bool) → Is t id w → eqb w.processing 0 ≡ a → eqb w.processing 1 ≡ b → Writes ps h t (serve missing id x) (missed id w.place a b)
  missing_writes id x w a b i e f = by_wafer missing id x w _ i (ap (λ (y : Bool). missed id w.place y (eqb w.processing 1)) e ∙ ap (missed id w.place a) f)

one_not_zero : (p : ℕ) → p ≡ 1 → eqb p 0 ≡ false
one_not_zero p e = ap (λ (q : ℕ). eqb q 0) e

pub reports_in_order : ReportsInOrder
reports_in_order ps h t = record {
  registers = λ id p d x. writes ps h t (register id p d x) _ refl;
  lifts = λ id q x. writes ps h t (lift id q x) _ refl;
  sets_down = set_down_writes ps h t;
  puts_back = λ g. writes ps h t (put_back g) _ refl;
  starts = λ id x. writes ps h t (serve start id x) _ refl;
  ends_undone = λ id x. writes ps h t (serve (end 0) id x) _ refl;
  ends = end-writes ps h t;
  skips = λ id x. writes ps h t (serve skip id x) _ refl;
  reads_own = read-writes ps h t;
  reads_other = other_writes ps h t;
  fails_to_read = λ id x. writes ps h t (serve read_failed id x) _ refl;
  proceeds = λ id x. writes ps h t (serve proceed id x) _ refl;
  cancels_unprocessed = λ id x w i e. cancel_writes ps h t id x w true i (eq-eqb w.processing 0 e);
  cancels = λ id x w i n. cancel_writes ps h t id x w false i (ne_eqb w.processing 0 n);
  unloads = λ id x w i. by_wafer ps h t unload id x w _ i refl;
  corrects = λ id x. writes ps h t (serve correct id x) _ refl;
  misses_unprocessed = λ id x w i e. missing_writes ps h t id x w true (eqb w.processing 1) i (eq-eqb w.processing 0 e) refl;
  misses_in_process = λ id x w i e. missing_writes ps h t id x w false true i (one_not_zero w.processing e) (eq-eqb w.processing 1 e);
  misses = λ id x w i n m. missing_writes ps h t id x w false false i (ne_eqb w.processing 0 n) (ne_eqb w.processing 1 m);
}
