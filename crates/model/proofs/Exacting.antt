-- Refusal 10 is given exactly if every check before it passes and no row fits.
use Rattle.std.proofs.Common.{◌≡◌, ℕ, ◌<◌, ◌≤◌, Bool, true, false, cond, not, ◌&&◌, ◌||◌, eqb, ltb, leb, ◌⊎◌, List, [], ◌∷◌, ◌++◌, length, Some, None, Option, sym, refl, ap, ◌∙◌, subst, subst₂, inl, inr, ⊎_elim, arith, is_some}
use Rattle.std.proofs.lemmas.Bool.{false≢true, both_ways, not-true, and_parts, and_from, and_cases, and_left, and_right, eqb-true, eqb-false, eq-eqb, ne_eqb, cond-true, cond-false}
use Rattle.std.proofs.lemmas.Bool.Decides.{nat_tests as testing}
use Rattle.std.proofs.lemmas.Option.{none-some, same_Some}
use Rattle.reports.specs.Bounds.{blank}
use Rattle.texts.specs.Form.{named}
use Rattle.model.specs.Wafers.{Text, at_time, Wafer}
use Rattle.model.specs.Places.{Plan, Sites, sites, listed, Contents}
use Rattle.model.specs.Switches.{Switches}
use Rattle.model.specs.Reporting.{substrate_report}
use Rattle.model.specs.Rows.{leg_number, to_transport, fits, steady, reads_as, Change, row8, row11, row12, row13, row14, row17, row18, row19, row20, row21, change_number, changed, row7, row9, Row, leave, change, row_number, can, can_from, after, place_of, effect, standing}
use Rattle.model.specs.Mirroring.{row_of}
use Rattle.model.specs.Steps.{Step, takes, can_all}
use Rattle.model.specs.Calls.{Tracker, Service, start, skip, read_failed, proceed, cancel, unload, correct, missing, end, read, Call, register, lift, set_down, put_back, serve, done, refused, fitting, processing_of, entries_of, granted, leaving, reading_row, ending_row, served, Check, check, first_failed, timely, open_at, needs_no_grant, well_read, is_outcome, well_ended, checks_of, due, room_refused, or_else, refusal, answer_of, resolved, outcome}
use Rattle.model.specs.Transitions.{Other, Complete, Way, row_2, row_3, row_4, row_5, row_6, Takes}
use Rattle.model.specs.Exact.{PassesBelow, Fits, FitsTo, FitsWith, RowFits, NoOutcome, Stuck, TenIsExact, OneRowAtMost}
use Rattle.model.proofs.Single.{row_read}
use Rattle.model.proofs.Worded.{goes_from, from_goes, can-takes, takes-can}
use Rattle.model.proofs.Performing.{own_wafer}
use Rattle.model.proofs.Promises.{leg_found, leg_some}

-- a check among others, those before it with lower numbers and those after it with higher ones

abbrev Lower : ℕ → List Check → Type 0
Lower n [] = Unit {0}
Lower n (c ∷ cs) = (c.number < n) × Lower n cs

abbrev Higher : ℕ → List Check → Type 0
Higher n [] = Unit {0}
Higher n (c ∷ cs) = (n < c.number) × Higher n cs

higher_never : (n : ℕ) (cs : List Check) → Higher n cs → first_failed cs ≡ Some n → ⊥
higher_never n [] h e = none-some n e
higher_never n (c ∷ cs) h e = go c.passes (λ x. higher_never n cs h.1 x) h.0 e
  where
    go : (b : Bool) → (first_failed cs ≡ Some n → ⊥) → n < c.number → cond b (first_failed cs) (Some c.number) ≡ Some n → ⊥
    go true again l e = again e
    go false again l e = let z : c.number ≡ n = same_Some c.number n e in omega arith

higher_passes : (n : ℕ) (cs : List Check) → Higher n cs → PassesBelow n cs
higher_passes n [] h = tt
higher_passes n (c ∷ cs) h = ((λ l. never h.0 l), higher_passes n cs h.1)
  where
    never : n < c.number → c.number < n → c.passes ≡ true
    never a b = absurd (omega arith)

fails_at : (n : ℕ) (b : Bool) (post pre : List Check) → Lower n pre → Higher n post → first_failed (pre ++ (check n b ∷ post)) ≡ Some n → PassesBelow n (pre ++ (check n b ∷ post)) × (b ≡ false)
fails_at n b post [] l h e = ((λ (x : n < n). absurd (omega arith), higher_passes n post h), go b e)
  where
    go : (b : Bool) → cond b (first_failed post) (Some n) ≡ Some n → b ≡ false
    go true e = absurd (higher_never n post h e)
    go false e = refl
fails_at n b post (c ∷ pre) l h e = go c.passes refl (λ x. fails_at n b post pre l.1 h x) l.0 e
  where
    rest : List Check
    rest = pre ++ (check n b ∷ post)

    go : (a : Bool) → c.passes ≡ a → (first_failed rest ≡ Some n → PassesBelow n rest × (b ≡ false)) → c.number < n → cond a (first_failed rest) (Some c.number) ≡ Some n
        → ((c.number < n → c.passes ≡ true) × PassesBelow n rest) × (b ≡ false)
    go true x again k e = let u = again e in ((λ y. x, u.0), u.1)
    go false x again k e = let z : c.number ≡ n = same_Some c.number n e in absurd (omega arith)

at_fails : (n : ℕ) (b : Bool) (post pre : List Check) → Lower n pre → PassesBelow n (pre ++ (check n b ∷ post)) → b ≡ false → first_failed (pre ++ (check n b ∷ post)) ≡ Some n
at_fails n b post [] l p e = cond-false b (first_failed post) (Some n) e
at_fails n b post (c ∷ pre) l p e = cond-true c.passes _ _ (p.0 l.0) ∙ at_fails n b post pre l.1 p.1 e

-- a call answers with a number exactly if a check with that number is the first that fails, or the room does not do

answer-refused : (ps : Plan) (h : Switches) (t : Tracker) (k : Call) (m : ℕ) (o : Option ℕ) → (resolved ps h t k o).answer ≡ refused m → o ≡ Some m
answer-refused ps h t k m (Some n) e = ap Some (number_same n m e)
  where
    number_same : (n m : ℕ) → refused n ≡ refused m → n ≡ m
    number_same n m e = cc
answer-refused ps h t k m None e = absurd (accepted k e)
  where
    not_done : done ≡ refused m → ⊥
    not_done e = let z : ◌≡◌ {A = ℕ} 0 1 = cc in omega arith

    accepted : (k : Call) → answer_of k ≡ refused m → ⊥
    accepted (register id p d x) e = not_done e
    accepted (lift id q x) e = let z : ◌≡◌ {A = ℕ} 0 1 = cc in omega arith
    accepted (set_down g x) e = not_done e
    accepted (put_back g) e = not_done e
    accepted (serve s id x) e = not_done e

not_by_room : (n room : ℕ) → room_refused n room ≡ Some 10 → ⊥
not_by_room n room e = go (leb n room) e
  where
    go : (b : Bool) → cond {A = Option ℕ} b None (Some 14) ≡ Some 10 → ⊥
    go true e = none-some 10 e
    go false e = let z : ◌≡◌ {A = ℕ} 14 10 = same_Some 14 10 e in omega arith

by_check : (a : Option ℕ) (n room : ℕ) → or_else a (room_refused n room) ≡ Some 10 → a ≡ Some 10
by_check None n room e = absurd (not_by_room n room e)
by_check (Some m) n room e = e

module _ (ps : Plan) (n : ℕ) (h : Switches) (t : Tracker) (room : ℕ) (k : Call) where
  ten_failed : (outcome ps n h t room k).answer ≡ refused 10 → first_failed (checks_of ps n t k) ≡ Some 10
  ten_failed e = by_check (first_failed (checks_of ps n t k)) (length (due ps h t k)) room (answer-refused ps h t k 10 (refusal ps n h t room k) e)

  failed_ten : first_failed (checks_of ps n t k) ≡ Some 10 → (outcome ps n h t room k).answer ≡ refused 10
  failed_ten e = ap (λ (o : Option ℕ). (resolved ps h t k (or_else o (room_refused (length (due ps h t k)) room))).answer) e

-- rows

-- the row that a step of the table takes, found by its number
pub row_named : (at : Sites) (occ : ℕ → Option Text) (id : Text) (x n : ℕ) (o o' : Option Wafer) → Takes at occ (at_time x) id n o o'
    → (r : Row) × (can_from at occ id o r ≡ true) × (after (at_time x) o r ≡ o') × (row_of n (substrate_report n (at_time x) id (standing o' o)) ≡ Some r)
row_named at occ id x n o o' k =
    let u = takes-can at occ (at_time x) id n o o' k in
    (u.0, u.2, u.3, subst₂ (λ (m : ℕ) (v : Option Wafer). row_of m (substrate_report m (at_time x) id (standing v o)) ≡ Some u.0) u.1 u.3 (row_read at occ id x o u.0 u.2))

row-can : (at : Sites) (occ : ℕ → Option Text) (id : Text) (x n : ℕ) (o o' : Option Wafer) (r : Row) → Takes at occ (at_time x) id n o o' → row_of n (substrate_report n (at_time x) id (standing o' o)) ≡ Some r → can_from at occ id o r ≡ true
row-can at occ id x n o o' r k e =
    let u = row_named at occ id x n o o' k in
    ap (can_from at occ id o) (same_Some r u.0 (sym e ∙ u.3)) ∙ u.1

alone : (b : Bool) → b ≡ true → (b && true) ≡ true
alone b e = and_from b true e refl

alone_from : (b : Bool) → (b && true) ≡ true → b ≡ true
alone_from b e = (and_parts b true e).0

module _ (at : Sites) (c : Contents) (id : Text) (x : ℕ) where
  fits-can : (n : ℕ) (r : Row) → ((o' : Option Wafer) → row_of n (substrate_report n (at_time x) id (standing o' (c.wafer id))) ≡ Some r) → Fits at c id (at_time x) n → can at c id r ≡ true
  fits-can n r e f = row-can at c.occupant id x n (c.wafer id) f.0 r f.1 (e f.0)

  to-can : (n p : ℕ) (g : ℕ → Change) → ((w : Wafer) → row_of n (substrate_report n (at_time x) id w) ≡ Some (change (g w.processing))) → FitsTo at c id (at_time x) n p → can at c id (change (g p)) ≡ true
  to-can n p g e f = subst (λ (q : ℕ). can at c id (change (g q)) ≡ true) f.2 (row-can at c.occupant id x n (c.wafer id) (Some f.0) (change (g f.0.processing)) f.1 (e f.0))

  with_can : (n : ℕ) (a : Text) (g : Text → Change) → ((w : Wafer) → row_of n (substrate_report n (at_time x) id w) ≡ Some (change (g w.acquired))) → FitsWith at c id (at_time x) n a → can at c id (change (g a)) ≡ true
  with_can n a g e f = subst (λ (b : Text). can at c id (change (g b)) ≡ true) f.2 (row-can at c.occupant id x n (c.wafer id) (Some f.0) (change (g f.0.acquired)) f.1 (e f.0))

  can-fits : (r : Row) → can at c id r ≡ true → Fits at c id (at_time x) (row_number r)
  can-fits r h = (after (at_time x) (c.wafer id) r, can-takes at c.occupant (at_time x) id (c.wafer id) r h)

  can_changes : (g : Change) → can at c id (change g) ≡ true → (w : Wafer) × Takes at c.occupant (at_time x) id (change_number g) (c.wafer id) (Some (changed g w))
  can_changes g h = go (c.wafer id) h
    where
      go : (o : Option Wafer) → can_from at c.occupant id o (change g) ≡ true → (w : Wafer) × Takes at c.occupant (at_time x) id (change_number g) o (Some (changed g w))
      go None h = absurd (false≢true h)
      go (Some w) h = (w, can-takes at c.occupant (at_time x) id (Some w) (change g) h)

  -- a second row, after a change
  then-can : (g : Change) (r : Row) → can_from at c.occupant id (after (at_time x) (c.wafer id) (change g)) r ≡ true → can at (effect (at_time x) id (change g) c) id r ≡ true
  then-can g r h = ap (λ (o : Option Wafer). can_from at c.occupant id o r) (own_wafer (at_time x) id (change g) c) ∙ h

  -- start, skip and the others with one row
  one_row : (r : Row) → can at c id r ≡ true → can_all at (at_time x) c (takes id r ∷ []) ≡ true
  one_row r h = alone (can at c id r) h

  row_one : (r : Row) → can_all at (at_time x) c (takes id r ∷ []) ≡ true → can at c id r ≡ true
  row_one r h = alone_from (can at c id r) h

  -- an acquired ID that row 18 takes is empty
  read-nothing : (o : Option Wafer) (a : Text) → can_from at c.occupant id o (change (row18 a)) ≡ true → can_from at c.occupant id o (change (row18 [])) ≡ true
  read-nothing None a h = absurd (false≢true h)
  read-nothing (Some w) a h = middle (eqb w.reading 1) (blank a) (steady w.processing) h
    where
      middle : (a b c : Bool) → (a && (b && c)) ≡ true → (a && c) ≡ true
      middle a b c h = grind arith

  failed_can : Fits at c id (at_time x) 18 → can at c id (change (row18 [])) ≡ true
  failed_can f = read-nothing (c.wafer id) _ (row-can at c.occupant id x 18 (c.wafer id) f.0 (change (row18 (standing f.0 (c.wafer id)).acquired)) f.1 refl)

  same_read : (o : Option Wafer) (a : Text) → can_from at c.occupant id o (change (row17 a)) ≡ true → reads_as a id ≡ true
  same_read None a h = absurd (false≢true h)
  same_read (Some w) a h = (and_parts _ _ (and_parts _ _ h).1).0

  other_read : (o : Option Wafer) (a : Text) → can_from at c.occupant id o (change (row19 a)) ≡ true → reads_as a id ≡ false
  other_read None a h = absurd (false≢true h)
  other_read (Some w) a h = not-true _ (and_parts _ _ (and_parts _ _ (and_parts _ _ h).1).0).0

  read-can : (a : Text) → FitsWith at c id (at_time x) 17 a ⊎ FitsWith at c id (at_time x) 19 a → can at c id (change (reading_row id a)) ≡ true
  read-can a (inl f) =
      let k : can at c id (change (row17 a)) ≡ true = with_can 17 a row17 (λ w. refl) f in
      ap (λ (g : Change). can at c id (change g)) (cond-true (reads_as a id) (row17 a) (row19 a) (same_read (c.wafer id) a k)) ∙ k
  read-can a (inr f) =
      let k : can at c id (change (row19 a)) ≡ true = with_can 19 a row19 (λ w. refl) f in
      ap (λ (g : Change). can at c id (change g)) (cond-false (reads_as a id) (row17 a) (row19 a) (other_read (c.wafer id) a k)) ∙ k

  can-read : (a : Text) → can at c id (change (reading_row id a)) ≡ true → FitsWith at c id (at_time x) 17 a ⊎ FitsWith at c id (at_time x) 19 a
  can-read a h = go (reads_as a id) h
    where
      go : (b : Bool) → can at c id (change (cond b (row17 a) (row19 a))) ≡ true → FitsWith at c id (at_time x) 17 a ⊎ FitsWith at c id (at_time x) 19 a
      go true h = let u = can_changes (row17 a) h in inl (changed (row17 a) u.0, u.1, refl)
      go false h = let u = can_changes (row19 a) h in inr (changed (row19 a) u.0, u.1, refl)

  end-can : (p : ℕ) → ((p ≡ 0) × Fits at c id (at_time x) 13) ⊎ (Other p 0 × FitsTo at c id (at_time x) 12 p) → can at c id (change (ending_row p)) ≡ true
  end-can p (inl f) = ap (λ (g : Change). can at c id (change g)) (cond-true (eqb p 0) row13 (row12 p) (eq-eqb p 0 f.0)) ∙ fits-can 13 (change row13) (λ v. refl) f.1
  end-can p (inr f) = ap (λ (g : Change). can at c id (change g)) (cond-false (eqb p 0) row13 (row12 p) (ne_eqb p 0 f.0)) ∙ to-can 12 p row12 (λ w. refl) f.1

  can-end : (p : ℕ) → can at c id (change (ending_row p)) ≡ true → ((p ≡ 0) × Fits at c id (at_time x) 13) ⊎ (Other p 0 × FitsTo at c id (at_time x) 12 p)
  can-end p h = go (eqb p 0) refl h
    where
      go : (b : Bool) → eqb p 0 ≡ b → can at c id (change (cond b row13 (row12 p))) ≡ true → ((p ≡ 0) × Fits at c id (at_time x) 13) ⊎ (Other p 0 × FitsTo at c id (at_time x) 12 p)
      go true e h = inl (eqb-true p 0 e, can-fits (change row13) h)
      go false e h = let u = can_changes (row12 p) h in inr (eqb-false p 0 e, (changed (row12 p) u.0, u.1, refl))

  -- row 14 fits after row 21 where the wafer needs processing
  then-skips : (o : Option Wafer) → can_from at c.occupant id o (change row21) ≡ true → eqb (processing_of o) 0 ≡ true → can_from at c.occupant id (after (at_time x) o (change row21)) (change (row14 7)) ≡ true
  then-skips None h e = absurd (false≢true h)
  then-skips (Some w) h e = and_from _ _ e refl

  cancel_can : can at c id (change row21) ≡ true → can_all at (at_time x) c (served cancel id (c.wafer id)) ≡ true
  cancel_can h = and_from _ _ h (go (eqb (processing_of (c.wafer id)) 0) refl)
    where
      go : (b : Bool) → eqb (processing_of (c.wafer id)) 0 ≡ b → can_all at (at_time x) (effect (at_time x) id (change row21) c) (cond b (takes id (change (row14 7)) ∷ []) []) ≡ true
      go true e = alone _ (then-can row21 (change (row14 7)) (then-skips (c.wafer id) h e))
      go false e = refl

  -- row 9 fits a wafer that is LOST
  then_goes_14 : (o : Option Wafer) → can_from at c.occupant id o (change (row14 6)) ≡ true → can_from at c.occupant id (after (at_time x) o (change (row14 6))) (leave row9) ≡ true
  then_goes_14 None h = absurd (false≢true h)
  then_goes_14 (Some w) h = refl

  then_goes_12 : (o : Option Wafer) → can_from at c.occupant id o (change (row12 6)) ≡ true → can_from at c.occupant id (after (at_time x) o (change (row12 6))) (leave row9) ≡ true
  then_goes_12 None h = absurd (false≢true h)
  then_goes_12 (Some w) h = refl

  needs_processing : (o : Option Wafer) → can_from at c.occupant id o (change (row14 6)) ≡ true → eqb (processing_of o) 0 ≡ true
  needs_processing None h = absurd (false≢true h)
  needs_processing (Some w) h = (and_parts _ _ h).0

  is_in_process : (o : Option Wafer) → can_from at c.occupant id o (change (row12 6)) ≡ true → (eqb (processing_of o) 0 ≡ false) × (eqb (processing_of o) 1 ≡ true)
  is_in_process None h = absurd (false≢true h)
  is_in_process (Some w) h = let e : eqb w.processing 1 ≡ true = (and_parts _ _ h).0 in (grind (arith, testing), e)

  is_complete : (o : Option Wafer) → can_from at c.occupant id o (leave row9) ≡ true → (eqb (processing_of o) 0 ≡ false) × (eqb (processing_of o) 1 ≡ false)
  is_complete None h = absurd (false≢true h)
  is_complete (Some w) h = let e : (leb 2 w.processing && leb w.processing 7) ≡ true = h in (grind (arith, testing), grind (arith, testing))

  -- what missing takes, by the tests of the processing state
  abbrev missed : Bool → Bool → List Step
  missed a b = cond a (takes id (change (row14 6)) ∷ []) (cond b (takes id (change (row12 6)) ∷ []) []) ++ leaving id (place_of (c.wafer id)) row9

  missing_can : RowFits at c id (at_time x) missing → can_all at (at_time x) c (served missing id (c.wafer id)) ≡ true
  missing_can (inl f) =
      let k : can at c id (change (row14 6)) ≡ true = to-can 14 6 row14 (λ w. refl) f in
      ap (λ (a : Bool). can_all at (at_time x) c (missed a (eqb (processing_of (c.wafer id)) 1))) (needs_processing (c.wafer id) k)
      ∙ and_from _ _ k (alone _ (then-can (row14 6) (leave row9) (then_goes_14 (c.wafer id) k)))
  missing_can (inr (inl f)) =
      let k : can at c id (change (row12 6)) ≡ true = to-can 12 6 row12 (λ w. refl) f in
      let u = is_in_process (c.wafer id) k in
      ap (λ (a : Bool). can_all at (at_time x) c (missed a (eqb (processing_of (c.wafer id)) 1))) u.0
      ∙ ap (λ (b : Bool). can_all at (at_time x) c (missed false b)) u.1
      ∙ and_from _ _ k (alone _ (then-can (row12 6) (leave row9) (then_goes_12 (c.wafer id) k)))
  missing_can (inr (inr f)) =
      let k : can at c id (leave row9) ≡ true = fits-can 9 (leave row9) (λ v. refl) f in
      let u = is_complete (c.wafer id) k in
      ap (λ (a : Bool). can_all at (at_time x) c (missed a (eqb (processing_of (c.wafer id)) 1))) u.0
      ∙ ap (λ (b : Bool). can_all at (at_time x) c (missed false b)) u.1
      ∙ alone _ k

  can_missing : can_all at (at_time x) c (served missing id (c.wafer id)) ≡ true → RowFits at c id (at_time x) missing
  can_missing h = go (eqb (processing_of (c.wafer id)) 0) (eqb (processing_of (c.wafer id)) 1) h
    where
      go : (a b : Bool) → can_all at (at_time x) c (cond a (takes id (change (row14 6)) ∷ []) (cond b (takes id (change (row12 6)) ∷ []) []) ++ leaving id (place_of (c.wafer id)) row9) ≡ true → RowFits at c id (at_time x) missing
      go true b h = let u = can_changes (row14 6) (and_parts _ _ h).0 in inl (changed (row14 6) u.0, u.1, refl)
      go false true h = let u = can_changes (row12 6) (and_parts _ _ h).0 in inr (inl (changed (row12 6) u.0, u.1, refl))
      go false false h = inr (inr (can-fits (leave row9) (alone_from _ h)))

  fits-serve : (s : Service) → RowFits at c id (at_time x) s → can_all at (at_time x) c (served s id (c.wafer id)) ≡ true
  fits-serve start f = one_row (change row11) (fits-can 11 (change row11) (λ v. refl) f)
  fits-serve skip f = one_row (change (row14 7)) (to-can 14 7 row14 (λ w. refl) f)
  fits-serve read_failed f = one_row (change (row18 [])) (failed_can f)
  fits-serve proceed f = one_row (change row20) (fits-can 20 (change row20) (λ v. refl) f)
  fits-serve cancel f = cancel_can (fits-can 21 (change row21) (λ v. refl) f)
  fits-serve unload f = one_row (leave row7) (fits-can 7 (leave row7) (λ v. refl) f)
  fits-serve correct f = one_row (change row8) (fits-can 8 (change row8) (λ v. refl) f)
  fits-serve missing f = missing_can f
  fits-serve (end p) f = one_row (change (ending_row p)) (end-can p f)
  fits-serve (read a) f = one_row (change (reading_row id a)) (read-can a f)

  serve-fits : (s : Service) → can_all at (at_time x) c (served s id (c.wafer id)) ≡ true → RowFits at c id (at_time x) s
  serve-fits start h = can-fits (change row11) (row_one (change row11) h)
  serve-fits skip h = let u = can_changes (row14 7) (row_one (change (row14 7)) h) in (changed (row14 7) u.0, u.1, refl)
  serve-fits read_failed h = can-fits (change (row18 [])) (row_one (change (row18 [])) h)
  serve-fits proceed h = can-fits (change row20) (row_one (change row20) h)
  serve-fits cancel h = can-fits (change row21) (and_parts _ _ h).0
  serve-fits unload h = can-fits (leave row7) (row_one (leave row7) h)
  serve-fits correct h = can-fits (change row8) (row_one (change row8) h)
  serve-fits missing h = can_missing h
  serve-fits (end p) h = can-end p (row_one (change (ending_row p)) h)
  serve-fits (read a) h = can-read a (row_one (change (reading_row id a)) h)

-- outcomes

not_ended : (s : Service) → well_ended s ≡ false → NoOutcome s
not_ended start h = false≢true (sym h)
not_ended skip h = false≢true (sym h)
not_ended read_failed h = false≢true (sym h)
not_ended proceed h = false≢true (sym h)
not_ended cancel h = false≢true (sym h)
not_ended unload h = false≢true (sym h)
not_ended correct h = false≢true (sym h)
not_ended missing h = false≢true (sym h)
not_ended (end o) h = ((λ e. grind (arith, testing)), (λ u. grind (arith, testing)))
not_ended (read a) h = false≢true (sym h)

ended_not : (s : Service) → NoOutcome s → well_ended s ≡ false
ended_not start h = absurd h
ended_not skip h = absurd h
ended_not read_failed h = absurd h
ended_not proceed h = absurd h
ended_not cancel h = absurd h
ended_not unload h = absurd h
ended_not correct h = absurd h
ended_not missing h = absurd h
ended_not (end o) h = go (is_outcome o) refl
  where
    zero_or : (eqb o 0 || (leb 2 o && leb o 5)) ≡ true → (o ≡ 0) ⊎ ((2 ≤ o) × (o ≤ 5))
    zero_or e = grind (arith, testing)

    go : (b : Bool) → is_outcome o ≡ b → b ≡ false
    go true e = absurd (⊎_elim (λ z. h.0 z) (λ z. h.1 z) (zero_or e))
    go false e = refl
ended_not (read a) h = absurd h

-- the check of a service, and of a lift

serve_ten : (at : Sites) (c : Contents) (id : Text) (x : ℕ) (s : Service) → (well_ended s && can_all at (at_time x) c (served s id (c.wafer id))) ≡ false → NoOutcome s ⊎ (RowFits at c id (at_time x) s → ⊥)
serve_ten at c id x s h = ⊎_elim (λ e. inl (not_ended s e)) (λ e. inr (λ f. both_ways _ e (fits-serve at c id x s f))) (and_cases _ _ h)

ten_serve : (at : Sites) (c : Contents) (id : Text) (x : ℕ) (s : Service) → NoOutcome s ⊎ (RowFits at c id (at_time x) s → ⊥) → (well_ended s && can_all at (at_time x) c (served s id (c.wafer id))) ≡ false
ten_serve at c id x s (inl e) = and_left _ _ (ended_not s e)
ten_serve at c id x s (inr n) = go (can_all at (at_time x) c (served s id (c.wafer id))) refl
  where
    go : (b : Bool) → can_all at (at_time x) c (served s id (c.wafer id)) ≡ b → (well_ended s && b) ≡ false
    go true e = absurd (n (serve-fits at c id x s e))
    go false e = and_right (well_ended s) false refl

lift_ten : (at : Sites) (q : ℕ) (o : Option Wafer) → is_some o ≡ true → is_some (fitting at o q) ≡ false → Stuck at q o
lift_ten at q None e h = false≢true e
lift_ten at q (Some w) e h = λ n x g. let u = from_goes at w q n x g in both_ways _ h (leg_some (λ l. fits at l w q) u.0 u.3)

ten_lift : (at : Sites) (q : ℕ) (o : Option Wafer) → Stuck at q o → is_some (fitting at o q) ≡ false
ten_lift at q None s = absurd s
ten_lift at q (Some w) s = go (is_some (fitting at (Some w) q)) refl
  where
    go : (b : Bool) → is_some (fitting at (Some w) q) ≡ b → b ≡ false
    go true e = let u = leg_found (λ l. fits at l w q) e in absurd (s (leg_number u.0) (to_transport u.0) (goes_from at w q u.0 u.1))
    go false e = refl

-- the checks before 10 and after it

pub ten_is_exact : TenIsExact
ten_is_exact ps n h t room (register id p d x) = ((λ e. absurd (never (ten_failed ps n h t room (register id p d x) e))), λ b r. absurd r)
  where
    never : first_failed (checks_of ps n t (register id p d x)) ≡ Some 10 → ⊥
    never e = grind arith
ten_is_exact ps n h t room (lift id q x) = (
  (λ e. let u = fails_at 10 fit post pre low high (ten_failed ps n h t room (lift id q x) e) in (u.0, lift_ten (sites ps) q (t.contents.wafer id) (u.0.1.1.1.0 (omega arith)) u.1)),
  λ b r. failed_ten ps n h t room (lift id q x) (at_fails 10 fit post pre low b (ten_lift (sites ps) q (t.contents.wafer id) r)),
)
  where
    pre : List Check
    pre = check 3 (timely t x) ∷ (check 4 (named id) ∷ (check 5 (listed (sites ps) q) ∷ (check 6 (is_some (t.contents.wafer id)) ∷ (check 8 (open_at t q) ∷ (check 9 (not (granted ps t.promise id)) ∷ [])))))

    fit : Bool
    fit = is_some (fitting (sites ps) (t.contents.wafer id) q)

    post : List Check
    post = check 11 (ltb (entries_of (t.contents.wafer id)) 16) ∷ []

    low : Lower 10 pre
    low = (omega arith, (omega arith, (omega arith, (omega arith, (omega arith, (omega arith, tt))))))

    high : Higher 10 post
    high = (omega arith, tt)
ten_is_exact ps n h t room (set_down g x) = ((λ e. absurd (never (ten_failed ps n h t room (set_down g x) e))), λ b r. absurd r)
  where
    never : first_failed (checks_of ps n t (set_down g x)) ≡ Some 10 → ⊥
    never e = grind arith
ten_is_exact ps n h t room (put_back g) = ((λ e. absurd (never (ten_failed ps n h t room (put_back g) e))), λ b r. absurd r)
  where
    never : first_failed (checks_of ps n t (put_back g)) ≡ Some 10 → ⊥
    never e = grind arith
ten_is_exact ps n h t room (serve s id x) = (
  (λ e. let u = fails_at 10 fit [] pre low tt (ten_failed ps n h t room (serve s id x) e) in (u.0, serve_ten (sites ps) t.contents id x s u.1)),
  λ b r. failed_ten ps n h t room (serve s id x) (at_fails 10 fit [] pre low b (ten_serve (sites ps) t.contents id x s r)),
)
  where
    pre : List Check
    pre = check 3 (timely t x) ∷ (check 4 (named id && well_read s) ∷ (check 6 (is_some (t.contents.wafer id)) ∷ (check 9 (not (needs_no_grant s && granted ps t.promise id)) ∷ [])))

    fit : Bool
    fit = well_ended s && can_all (sites ps) (at_time x) t.contents (served s id (t.contents.wafer id))

    low : Lower 10 pre
    low = (omega arith, (omega arith, (omega arith, (omega arith, tt))))

-- one of rows 2 to 6

-- where source and destination are the same place, the processing state tells rows 3 and 5 apart
home_twice : (w : Wafer) (q : ℕ) → q ≡ w.source → q ≡ w.destination → Other w.destination w.source ⊎ (Complete w.processing → ⊥) → Other w.destination w.source ⊎ Complete w.processing → ⊥
home_twice w q a b (inl n) k = n (sym b ∙ a)
home_twice w q a b (inr n) (inl k) = k (sym b ∙ a)
home_twice w q a b (inr n) (inr k) = n k

one_way : (at : Sites) (w : Wafer) (q n m x y : ℕ) → Way at w q n x → Way at w q m y → n ≡ m
one_way at w q n m x y (row_2 a b c) (row_2 d e f) = refl
one_way at w q n m x y (row_2 a b c) (row_3 d e f) = absurd (omega arith)
one_way at w q n m x y (row_2 a b c) (row_4 d e f g) = absurd (omega arith)
one_way at w q n m x y (row_2 a b c) (row_5 d e f) = absurd (omega arith)
one_way at w q n m x y (row_2 a b c) (row_6 d e f) = absurd (omega arith)
one_way at w q n m x y (row_3 a b c) (row_2 d e f) = absurd (omega arith)
one_way at w q n m x y (row_3 a b c) (row_3 d e f) = refl
one_way at w q n m x y (row_3 a b c) (row_4 d e f g) = absurd (f b)
one_way at w q n m x y (row_3 a b c) (row_5 d e f) = absurd (home_twice w q b e c f)
one_way at w q n m x y (row_3 a b c) (row_6 d e f) = absurd (omega arith)
one_way at w q n m x y (row_4 a b c k) (row_2 d e f) = absurd (omega arith)
one_way at w q n m x y (row_4 a b c k) (row_3 d e f) = absurd (c e)
one_way at w q n m x y (row_4 a b c k) (row_4 d e f g) = refl
one_way at w q n m x y (row_4 a b c k) (row_5 d e f) = absurd (k e)
one_way at w q n m x y (row_4 a b c k) (row_6 d e f) = absurd (omega arith)
one_way at w q n m x y (row_5 a b c) (row_2 d e f) = absurd (omega arith)
one_way at w q n m x y (row_5 a b c) (row_3 d e f) = absurd (home_twice w q e b f c)
one_way at w q n m x y (row_5 a b c) (row_4 d e f g) = absurd (g b)
one_way at w q n m x y (row_5 a b c) (row_5 d e f) = refl
one_way at w q n m x y (row_5 a b c) (row_6 d e f) = absurd (omega arith)
one_way at w q n m x y (row_6 a b c) (row_2 d e f) = absurd (omega arith)
one_way at w q n m x y (row_6 a b c) (row_3 d e f) = absurd (omega arith)
one_way at w q n m x y (row_6 a b c) (row_4 d e f g) = absurd (omega arith)
one_way at w q n m x y (row_6 a b c) (row_5 d e f) = absurd (omega arith)
one_way at w q n m x y (row_6 a b c) (row_6 d e f) = refl

pub one_row_at_most : OneRowAtMost
one_row_at_most at w q n m x y a b = one_way at w q n m x y a.way b.way
