-- The tests of the rows say what the table of transitions says.
use Rattle.std.proofs.Common.{◌≡◌, ℕ, Bool, true, false, not, ◌&&◌, eqb, ltb, leb, ◌⊎◌, List, [], ◌∷◌, length, Some, None, Option, sym, refl, ap, ◌∙◌, subst, inl, inr, ⊎_elim, arith, is_some}
use Rattle.std.proofs.lemmas.Bool.{false≢true, both_ways, not-true, not_from_false, and_parts, and_from, or_cases, or_left, or_right, eqb-true, eq-eqb, ne_eqb, leb-true, le-leb, ltb-true, lt-ltb, cond-true}
use Rattle.std.proofs.lemmas.Bool.Decides.{nat_tests}
use Rattle.reports.specs.Bounds.{blank}
use Rattle.table.proofs.Places.{vacant-none}
use Rattle.model.specs.Wafers.{Text, Times, Stay, Wafer, with_reading, moved_to}
use Rattle.model.specs.Places.{Spot, Sites, listed, is_station, station}
use Rattle.model.specs.Rows.{Leg, row2, row3, row4, row5, row6, leg_number, from_transport, to_transport, leads, fits, complete, steady, reads_as, Change, row8, row10, row11, row12, row13, row14, row17, row18, row19, row20, row21, change_number, may_change, changed, row7, row9, Row, enter, move, leave, change, row_number, can_from, after}
use Rattle.model.specs.Transitions.{Other, Listed, Station, Complete, Steady, Way, row_2, row_3, row_4, row_5, row_6, Goes, arrived, Takes, row_1, rows_2_to_6, row_7, row_8, row_9, row_10, row_11, row_12, row_13, row_14, row_17, row_18, row_19, row_20, row_21}
use Rattle.model.proofs.Basics.{same_true, same_false, same_refl, none-vacant, occupied_some}

-- a test and the words for it, both ways

other_from : (a b : ℕ) → not (eqb a b) ≡ true → Other a b
other_from a b h e = both_ways _ (not-true _ h) (eq-eqb a b e)

from_other : (a b : ℕ) → Other a b → not (eqb a b) ≡ true
from_other a b h = not_from_false _ (ne_eqb a b h)

listed_from : (at : Sites) (p : ℕ) → Listed at p → listed at p ≡ true
listed_from at p h = ap is_some h.1

station-at : (o : Option Spot) → is_station o ≡ true → (s : Spot) × (o ≡ Some s) × (s.kind ≡ 1)
station-at None h = absurd (false≢true h)
station-at (Some s) h = (s, refl, eqb-true s.kind 1 h)

from_station : (at : Sites) (p : ℕ) → Station at p → station at p ≡ true
from_station at p h = ap is_station h.1 ∙ eq-eqb h.0.kind 1 h.2

complete_from : (p : ℕ) → complete p ≡ true → Complete p
complete_from p h = let u = and_parts _ _ h in (leb-true 2 p u.0, leb-true p 7 u.1)

from_complete : (p : ℕ) → Complete p → complete p ≡ true
from_complete p h = and_from _ _ (le-leb 2 p h.0) (le-leb p 7 h.1)

steady_from : (w : Wafer) → steady w.processing ≡ true → Steady w
steady_from w h = let u = and_parts _ _ h in (other_from w.processing 15 u.0, other_from w.processing 6 u.1)

from_steady : (w : Wafer) → Steady w → steady w.processing ≡ true
from_steady w h = and_from _ _ (from_other w.processing 15 h.0) (from_other w.processing 6 h.1)

blank_from : (a : Text) → blank a ≡ true → a ≡ []
blank_from [] h = refl
blank_from (x ∷ xs) h = let e : length (x ∷ xs) ≡ 0 = eqb-true (length (x ∷ xs)) 0 h in absurd (omega arith)

-- rows 2 to 6

way_from : (at : Sites) (w : Wafer) (q : ℕ) (l : Leg) → w.transport ≡ from_transport l → leads at l w q ≡ true → Way at w q (leg_number l) (to_transport l)
way_from at w q row2 e h = let u = and_parts _ _ h in row_2 e (station-at (at q) u.0) (other_from q w.destination u.1)
way_from at w q row3 e h =
    let u = and_parts _ _ h in
    row_3 e (eqb-true q w.source u.0)
    (⊎_elim (λ a. inl (other_from w.destination w.source a)) (λ a. inr (λ c. both_ways _ (not-true _ a) (from_complete w.processing c))) (or_cases _ _ u.1))
way_from at w q row4 e h =
    let u = and_parts _ _ h in
    let v = and_parts _ _ u.1 in
    row_4 e (station-at (at q) u.0) (other_from q w.source v.0) (other_from q w.destination v.1)
way_from at w q row5 e h =
    let u = and_parts _ _ h in
    row_5 e (eqb-true q w.destination u.0)
    (⊎_elim (λ a. inl (other_from w.destination w.source a)) (λ a. inr (complete_from w.processing a)) (or_cases _ _ u.1))
way_from at w q row6 e h = let u = and_parts _ _ h in row_6 e (station-at (at q) u.0) (other_from q w.source u.1)

pub goes_from : (at : Sites) (w : Wafer) (q : ℕ) (l : Leg) → fits at l w q ≡ true → Goes at w q (leg_number l) (to_transport l)
goes_from at w q l h =
    let u = and_parts _ _ h in
    let v = and_parts _ _ u.1 in
    let k = and_parts _ _ v.1 in
    record { way = way_from at w q l (eqb-true w.transport (from_transport l) u.0) v.0; idle = other_from w.processing 1 k.0; steady = steady_from w k.1 }

-- the leg of a way
abbrev LegOf : Sites → Wafer → ℕ → ℕ → ℕ → Type 0
LegOf at w q n x = (l : Leg) × (leg_number l ≡ n) × (to_transport l ≡ x) × (eqb w.transport (from_transport l) ≡ true) × (leads at l w q ≡ true)

way_leg : (at : Sites) (w : Wafer) (q n x : ℕ) → Way at w q n x → LegOf at w q n x
way_leg at w q n x (row_2 e s d) = (row2, refl, refl, eq-eqb _ _ e, and_from _ _ (from_station at q s) (from_other q w.destination d))
way_leg at w q n x (row_3 e s d) =
    (row3, refl, refl, eq-eqb _ _ e, and_from _ _ (eq-eqb _ _ s) (⊎_elim (λ a. or_left _ _ (from_other w.destination w.source a)) (λ a. or_right _ _ (not_from_false _ (not_complete (complete w.processing) refl a))) d))
  where
    not_complete : (b : Bool) → complete w.processing ≡ b → (Complete w.processing → ⊥) → b ≡ false
    not_complete true e a = absurd (a (complete_from w.processing e))
    not_complete false e a = refl
way_leg at w q n x (row_4 e s a d) = (row4, refl, refl, eq-eqb _ _ e, and_from _ _ (from_station at q s) (and_from _ _ (from_other q w.source a) (from_other q w.destination d)))
way_leg at w q n x (row_5 e s d) =
    (row5, refl, refl, eq-eqb _ _ e, and_from _ _ (eq-eqb _ _ s) (⊎_elim (λ a. or_left _ _ (from_other w.destination w.source a)) (λ a. or_right _ _ (from_complete w.processing a)) d))
way_leg at w q n x (row_6 e s a) = (row6, refl, refl, eq-eqb _ _ e, and_from _ _ (from_station at q s) (from_other q w.source a))

pub from_goes : (at : Sites) (w : Wafer) (q n x : ℕ) → Goes at w q n x → (l : Leg) × (leg_number l ≡ n) × (to_transport l ≡ x) × (fits at l w q ≡ true)
from_goes at w q n x g =
    let u = way_leg at w q n x g.way in
    (u.0, u.1, u.2, and_from _ _ u.3 (and_from _ _ u.4 (and_from _ _ (from_other w.processing 1 g.idle) (from_steady w g.steady))))

-- below sixteen entries the history grows as the table says
moved_arrived : (t : Times) (x q : ℕ) (w : Wafer) → ltb (length w.history) 16 ≡ true → moved_to t x q w ≡ arrived t x q w
moved_arrived t x q w h =
    ap (λ (ss : List Stay). record { place = q; source = w.source; destination = w.destination; transport = x; processing = w.processing; reading = w.reading; acquired = w.acquired; history = ss })
    (cond-true (ltb (length w.history) 16) _ _ h)

module _ (at : Sites) (occ : ℕ → Option Text) (t : Times) (id : Text) where
  takes-change : (w : Wafer) (g : Change) → may_change at id g w ≡ true → Takes at occ t id (change_number g) (Some w) (Some (changed g w))
  takes-change w row8 h =
      let u = and_parts _ _ h in
      let v = and_parts _ _ u.1 in
      row_8 w (eqb-true w.transport 2 u.0) (eqb-true w.place w.source v.0) (steady_from w v.1)
  takes-change w (row10 r) h = let u = and_parts _ _ h in row_10 w r (eqb-true w.processing 15 u.0) (leb-true r 1 u.1)
  takes-change w row11 h =
      let u = and_parts _ _ h in
      let v = and_parts _ _ u.1 in
      row_11 w (eqb-true w.processing 0 u.0) (station-at (at w.place) v.0) (⊎_elim (λ a. inl (eqb-true w.reading 0 a)) (λ a. inr (eqb-true w.reading 3 a)) (or_cases _ _ v.1))
  takes-change w (row12 p) h =
      let u = and_parts _ _ h in
      let v = and_parts _ _ u.1 in
      row_12 w p (eqb-true w.processing 1 u.0) (leb-true 2 p v.0) (leb-true p 6 v.1)
  takes-change w row13 h = row_13 w (eqb-true w.processing 1 h)
  takes-change w (row14 p) h =
      let u = and_parts _ _ h in
      row_14 w p (eqb-true w.processing 0 u.0) (six_or_seven p u.1)
    where
      six_or_seven : (p : ℕ) → (leb 6 p && leb p 7) ≡ true → (p ≡ 6) ⊎ (p ≡ 7)
      six_or_seven p h = grind (arith, nat_tests)
  takes-change w (row17 a) h =
      let u = and_parts _ _ h in
      let v = and_parts _ _ u.1 in
      row_17 w a (eqb-true w.reading 1 u.0) (same_true a id v.0) (steady_from w v.1)
  takes-change w (row18 a) h =
      let u = and_parts _ _ h in
      let v = and_parts _ _ u.1 in
      let e : a ≡ [] = blank_from a v.0 in
      let y : Takes at occ t id 18 (Some w) (Some (with_reading 2 [] w)) = row_18 w (eqb-true w.reading 1 u.0) (steady_from w v.1) in
      subst (λ (b : Text). Takes at occ t id 18 (Some w) (Some (with_reading 2 b w))) (sym e) y
  takes-change w (row19 a) h =
      let u = and_parts _ _ h in
      let v = and_parts _ _ u.1 in
      let k = and_parts _ _ v.0 in
      row_19 w a (eqb-true w.reading 1 u.0) (λ e. both_ways _ (not-true _ k.0) (ap (λ b. reads_as b id) e ∙ same_refl id)) (λ e. both_ways _ (not-true _ k.1) (ap blank e)) (steady_from w v.1)
  takes-change w row20 h = let u = and_parts _ _ h in row_20 w (eqb-true w.reading 2 u.0) (steady_from w u.1)
  takes-change w row21 h = let u = and_parts _ _ h in row_21 w (eqb-true w.reading 2 u.0) (steady_from w u.1)

  -- a row that can be taken is a row of the table
  pub can-takes : (o : Option Wafer) (r : Row) → can_from at occ id o r ≡ true → Takes at occ t id (row_number r) o (after t o r)
  can-takes None (enter p d) h =
      let u = and_parts _ _ h in
      let v = and_parts _ _ u.1 in
      row_1 p d (occupied_some (at p) u.0) (vacant-none (occ p) v.0) (occupied_some (at d) v.1)
  can-takes None (move l q) h = absurd (false≢true h)
  can-takes None (leave e) h = absurd (false≢true h)
  can-takes None (change g) h = absurd (false≢true h)
  can-takes (Some w) (enter p d) h = absurd (false≢true h)
  can-takes (Some w) (move l q) h =
      let u = and_parts _ _ h in
      let v = and_parts _ _ u.1 in
      let k = and_parts _ _ v.1 in
      let y : Takes at occ t id (leg_number l) (Some w) (Some (arrived t (to_transport l) q w)) =
      rows_2_to_6 w q (leg_number l) (to_transport l) (goes_from at w q l u.0) (occupied_some (at q) v.0) (vacant-none (occ q) k.0) (ltb-true (length w.history) 16 k.1) in
      subst (λ (v : Wafer). Takes at occ t id (leg_number l) (Some w) (Some v)) (sym (moved_arrived t (to_transport l) q w k.1)) y
  can-takes (Some w) (leave row7) h =
      let u = and_parts _ _ h in
      let v = and_parts _ _ u.1 in
      row_7 w (eqb-true w.transport 2 u.0) (other_from w.processing 1 v.0) (steady_from w v.1)
  can-takes (Some w) (leave row9) h = row_9 w (complete_from w.processing h)
  can-takes (Some w) (change g) h = takes-change w g h

  -- and a row of the table can be taken
  pub takes-can : (n : ℕ) (o o' : Option Wafer) → Takes at occ t id n o o' → (r : Row) × (row_number r ≡ n) × (can_from at occ id o r ≡ true) × (after t o r ≡ o')
  takes-can n o o' (row_1 p d l v k) = (enter p d, refl, and_from _ _ (listed_from at p l) (and_from _ _ (none-vacant (occ p) v) (listed_from at d k)), refl)
  takes-can n o o' (rows_2_to_6 w q m x g l v k) =
      let u = from_goes at w q m x g in
      let z : ltb (length w.history) 16 ≡ true = lt-ltb (length w.history) 16 k in (
        move u.0 q,
        u.1,
        and_from _ _ u.3 (and_from _ _ (listed_from at q l) (and_from _ _ (none-vacant (occ q) v) z)),
        ap Some (moved_arrived t (to_transport u.0) q w z ∙ ap (λ y. arrived t y q w) u.2),
      )
  takes-can n o o' (row_7 w e i s) = (leave row7, refl, and_from _ _ (eq-eqb _ _ e) (and_from _ _ (from_other w.processing 1 i) (from_steady w s)), refl)
  takes-can n o o' (row_8 w e p s) = (change row8, refl, and_from _ _ (eq-eqb _ _ e) (and_from _ _ (eq-eqb _ _ p) (from_steady w s)), refl)
  takes-can n o o' (row_9 w c) = (leave row9, refl, from_complete w.processing c, refl)
  takes-can n o o' (row_10 w r e l) = (change (row10 r), refl, and_from _ _ (eq-eqb _ _ e) (le-leb r 1 l), refl)
  takes-can n o o' (row_11 w e s r) =
      (change row11, refl, and_from _ _ (eq-eqb _ _ e) (and_from _ _ (from_station at w.place s) (⊎_elim (λ a. or_left _ _ (eq-eqb _ _ a)) (λ a. or_right _ _ (eq-eqb _ _ a)) r)), refl)
  takes-can n o o' (row_12 w p e a b) = (change (row12 p), refl, and_from _ _ (eq-eqb _ _ e) (and_from _ _ (le-leb 2 p a) (le-leb p 6 b)), refl)
  takes-can n o o' (row_13 w e) = (change row13, refl, eq-eqb _ _ e, refl)
  takes-can n o o' (row_14 w p e d) =
      (change (row14 p), refl, and_from _ _ (eq-eqb _ _ e) (⊎_elim (λ a. and_from _ _ (le-leb 6 p (omega arith)) (le-leb p 7 (omega arith))) (λ a. and_from _ _ (le-leb 6 p (omega arith)) (le-leb p 7 (omega arith))) d), refl)
  takes-can n o o' (row_17 w a e s k) = (change (row17 a), refl, and_from _ _ (eq-eqb _ _ e) (and_from _ _ (ap (λ b. reads_as b id) s ∙ same_refl id) (from_steady w k)), refl)
  takes-can n o o' (row_18 w e k) = (change (row18 []), refl, and_from _ _ (eq-eqb _ _ e) (and_from _ _ refl (from_steady w k)), refl)
  takes-can n o o' (row_19 w a e s b k) =
      (change (row19 a), refl, and_from _ _ (eq-eqb _ _ e) (and_from _ _ (and_from _ _ (not_from_false _ (same_false a id s)) (not_blank a b)) (from_steady w k)), refl)
    where
      not_blank : (a : Text) → Other a [] → not (blank a) ≡ true
      not_blank [] h = absurd (h refl)
      not_blank (x ∷ xs) h = from_other (length (x ∷ xs)) 0 (λ e. omega arith)
  takes-can n o o' (row_20 w e k) = (change row20, refl, and_from _ _ (eq-eqb _ _ e) (from_steady w k), refl)
  takes-can n o o' (row_21 w e k) = (change row21, refl, and_from _ _ (eq-eqb _ _ e) (from_steady w k), refl)
