-- A promised place stays one to which its wafer can go.
use Rattle.std.proofs.Common.{◌≡◌, ℕ, Bool, true, false, not, ◌&&◌, ◌||◌, eqb, ltb, List, [], ◌∷◌, length, Some, None, Option, sym, refl, ap, ◌∙◌, arith, is_some}
use Rattle.std.specs.Str.{bytes_eq}
use Rattle.std.proofs.lemmas.Bool.{false≢true, and_parts, and_from, or_left, or_right, eqb-true, cond-false}
use Rattle.std.proofs.lemmas.Bool.Decides.{nat_tests as testing}
use Rattle.model.specs.Wafers.{Text, Times, Wafer, with_processing}
use Rattle.model.specs.Places.{Plan, Sites, sites, listed, Contents}
use Rattle.model.specs.Rows.{Leg, row2, row3, row4, row5, row6, from_transport, leads, fits, complete, steady, Change, row8, row10, row11, row12, row13, row14, row17, row18, row19, row20, row21, may_change, changed, Row, enter, move, leave, change, can, can_from, after, place_of, occupant_after, effect}
use Rattle.model.specs.Steps.{Step, takes, tells, can_all, perform}
use Rattle.model.specs.Calls.{Promise, first_leg, fitting, entries_of, promised_to, granted, moving}
use Rattle.model.proofs.Basics.{same_true, same_refl, none-vacant, occupied_some, neither, changed_stays}
use Rattle.model.proofs.Performing.{own_wafer}

abbrev pub to : Text → Option Promise
to id = Some (record { wafer = id })

pub leg_holds : (F : Leg → Bool) (l : Leg) → first_leg F ≡ Some l → F l ≡ true
leg_holds F l e = grind arith

pub leg_found : (F : Leg → Bool) → is_some (first_leg F) ≡ true → (l : Leg) × (F l ≡ true)
leg_found F h = let u = occupied_some (first_leg F) h in (u.0, leg_holds F u.0 u.1)

pub leg_some : (F : Leg → Bool) (l : Leg) → F l ≡ true → is_some (first_leg F) ≡ true
leg_some F row2 h = grind arith
leg_some F row3 h = grind arith
leg_some F row4 h = grind arith
leg_some F row5 h = grind arith
leg_some F row6 h = grind arith

-- another processing state may ask for another row, but there is one

goes_by : (at : Sites) (w : Wafer) (q : ℕ) (l : Leg) → eqb w.transport (from_transport l) ≡ true → leads at l w q ≡ true → not (eqb w.processing 1) ≡ true → steady w.processing ≡ true → is_some (fitting at (Some w) q) ≡ true
goes_by at w q l a b n k = leg_some (λ l. fits at l w q) l (and_from _ _ a (and_from _ _ b (and_from _ _ n k)))

to-source : (q a b : ℕ) (c d : Bool) → (eqb q a && (not (eqb b a) || not c)) ≡ true → (eqb q a && (not (eqb b a) || not d)) ≡ false → (eqb q b && (not (eqb b a) || d)) ≡ true
to-source q a b c d h k = grind (arith, testing)

to-destination : (q a b : ℕ) (c d : Bool) → (eqb q b && (not (eqb b a) || c)) ≡ true → (eqb q b && (not (eqb b a) || d)) ≡ false → (eqb q a && (not (eqb b a) || not d)) ≡ true
to-destination q a b c d h k = grind (arith, testing)

still_goes : (at : Sites) (w : Wafer) (p q : ℕ) (l : Leg) → not (eqb p 1) ≡ true → steady p ≡ true → fits at l w q ≡ true → is_some (fitting at (Some (with_processing p w)) q) ≡ true
still_goes at w p q l n k h = let u = and_parts _ _ h in go l u.0 (and_parts _ _ u.1).0
  where
    v : Wafer
    v = with_processing p w

    go : (l : Leg) → eqb w.transport (from_transport l) ≡ true → leads at l w q ≡ true → is_some (fitting at (Some v) q) ≡ true
    go row2 a b = goes_by at v q row2 a b n k
    go row3 a b = or_else (leads at row3 v q) refl
      where
        or_else : (t : Bool) → leads at row3 v q ≡ t → is_some (fitting at (Some v) q) ≡ true
        or_else true c = goes_by at v q row3 a c n k
        or_else false c = goes_by at v q row5 a (to-source q w.source w.destination (complete w.processing) (complete p) b c) n k
    go row4 a b = goes_by at v q row4 a b n k
    go row5 a b = or_else (leads at row5 v q) refl
      where
        or_else : (t : Bool) → leads at row5 v q ≡ t → is_some (fitting at (Some v) q) ≡ true
        or_else true c = goes_by at v q row5 a c n k
        or_else false c = goes_by at v q row3 a (to-destination q w.source w.destination (complete w.processing) (complete p) b c) n k
    go row6 a b = goes_by at v q row6 a b n k

-- what the promise of the place q to the wafer id needs
pub record Ready (at : Sites) (c : Contents) (id : Text) (q : ℕ) : Type 0 where
  pub free : c.occupant q ≡ None
  pub goes : is_some (fitting at (c.wafer id) q) ≡ true
  pub short : ltb (entries_of (c.wafer id)) 16 ≡ true

pub record Kept (at : Sites) (c : Contents) (promise : ℕ → Option Promise) : Type 0 where
  pub target : (q : ℕ) (id : Text) → promise q ≡ to id → listed at q ≡ true
  pub ready : (q : ℕ) (id : Text) → promise q ≡ to id → Ready at c id q
  pub once : (q r : ℕ) (id : Text) → promise q ≡ to id → promise r ≡ to id → q ≡ r

-- set down: the row that fits can be taken
pub moving-can : (at : Sites) (c : Contents) (id : Text) (q from : ℕ) (t : Times) → Ready at c id q → listed at q ≡ true → can_all at t c (moving id from q (fitting at (c.wafer id) q)) ≡ true
moving-can at c id q from t r h = go (c.wafer id) refl r.short
  where
    go : (o : Option Wafer) → c.wafer id ≡ o → ltb (entries_of o) 16 ≡ true → can_all at t c (moving id from q (fitting at o q)) ≡ true
    go None e s = refl
    go (Some w) e s = by_leg (fitting at (Some w) q) refl
      where
        by_leg : (l : Option Leg) → fitting at (Some w) q ≡ l → can_all at t c (moving id from q l) ≡ true
        by_leg None x = refl
        by_leg (Some l) x =
            let y : can_from at c.occupant id (Some w) (move l q) ≡ true = and_from _ _ (leg_holds (λ l. fits at l w q) l x) (and_from _ _ h (and_from _ _ (none-vacant (c.occupant q) r.free) s)) in
            and_from _ _ (ap (λ (o : Option Wafer). can_from at c.occupant id o (move l q)) e ∙ y) refl

-- steps of one wafer that leave the place q alone
abbrev pub avoids : ℕ → Row → Bool
avoids q (enter p d) = not (eqb q p)
avoids q (move l p) = not (eqb q p)
avoids q (leave e) = true
avoids q (change g) = true

abbrev pub avoid_all : Text → ℕ → List Step → Bool
avoid_all id q [] = true
avoid_all id q (takes i r ∷ ss) = (bytes_eq i id && avoids q r) && avoid_all id q ss
avoid_all id q (tells p o ∷ ss) = avoid_all id q ss

avoid_row : (id : Text) (from q : ℕ) (r : Row) (occ : ℕ → Option Text) → avoids q r ≡ true → occ q ≡ None → occupant_after id from r occ q ≡ None
avoid_row id from q (enter p d) occ h e = grind (arith, testing)
avoid_row id from q (move l p) occ h e = grind (arith, testing)
avoid_row id from q (leave x) occ h e = grind (arith, testing)
avoid_row id from q (change g) occ h e = e

stays_free : (id : Text) (t : Times) (q : ℕ) (ss : List Step) (c : Contents) → avoid_all id q ss ≡ true → c.occupant q ≡ None → (perform t c ss).occupant q ≡ None
stays_free id t q [] c h e = e
stays_free id t q (takes i r ∷ ss) c h e =
    let u = and_parts (bytes_eq i id && avoids q r) (avoid_all id q ss) h in
    let v = and_parts (bytes_eq i id) (avoids q r) u.0 in
    stays_free id t q ss (effect t i r c) u.1 (avoid_row i (place_of (c.wafer i)) q r c.occupant v.1 e)
stays_free id t q (tells p o ∷ ss) c h e = stays_free id t q ss c h e

others-stay : (id i : Text) (t : Times) (q : ℕ) (ss : List Step) (c : Contents) → bytes_eq i id ≡ false → avoid_all id q ss ≡ true → (perform t c ss).wafer i ≡ c.wafer i
others-stay id i t q [] c n h = refl
others-stay id i t q (takes j r ∷ ss) c n h =
    let u = and_parts (bytes_eq j id && avoids q r) (avoid_all id q ss) h in
    let v = and_parts (bytes_eq j id) (avoids q r) u.0 in
    let e : j ≡ id = same_true j id v.0 in
    let k : bytes_eq i j ≡ false = ap (bytes_eq i) e ∙ n in
    others-stay id i t q ss (effect t j r c) n u.1 ∙ cond-false (bytes_eq i j) _ _ k
others-stay id i t q (tells p o ∷ ss) c n h = others-stay id i t q ss c n h

ready_with : (at : Sites) (c d : Contents) (i : Text) (q : ℕ) → d.occupant q ≡ None → d.wafer i ≡ c.wafer i → Ready at c i q → Ready at d i q
ready_with at c d i q f e r =
    record { free = f; goes = ap (λ (o : Option Wafer). is_some (fitting at o q)) e ∙ r.goes; short = ap (λ (o : Option Wafer). ltb (entries_of o) 16) e ∙ r.short }

-- the promise of another wafer
pub ready_other : (at : Sites) (id i : Text) (t : Times) (q : ℕ) (ss : List Step) (c : Contents) → bytes_eq i id ≡ false → avoid_all id q ss ≡ true → Ready at c i q → Ready at (perform t c ss) i q
ready_other at id i t q ss c n h r = ready_with at c (perform t c ss) i q (stays_free id t q ss c h r.free) (others-stay id i t q ss c n h) r

-- changes that a wafer may go through between lift and set down
abbrev pub mild_change : Change → Bool
mild_change row8 = false
mild_change (row10 r) = false
mild_change row11 = false
mild_change (row12 p) = not (eqb p 6)
mild_change row13 = true
mild_change (row14 p) = not (eqb p 6)
mild_change (row17 a) = true
mild_change (row18 a) = true
mild_change (row19 a) = true
mild_change row20 = true
mild_change row21 = true

abbrev pub mild : Row → Bool
mild (enter p d) = false
mild (move l q) = false
mild (leave e) = false
mild (change g) = mild_change g

abbrev pub mild_all : Text → List Step → Bool
mild_all id [] = true
mild_all id (takes i r ∷ ss) = (bytes_eq i id && mild r) && mild_all id ss
mild_all id (tells p o ∷ ss) = mild_all id ss

mild_goes : (at : Sites) (id : Text) (w : Wafer) (q : ℕ) (g : Change) → mild_change g ≡ true → may_change at id g w ≡ true → is_some (fitting at (Some w) q) ≡ true → is_some (fitting at (Some (changed g w)) q) ≡ true
mild_goes at id w q row8 m h k = absurd (false≢true m)
mild_goes at id w q (row10 r) m h k = absurd (false≢true m)
mild_goes at id w q row11 m h k = absurd (false≢true m)
mild_goes at id w q (row12 p) m h k =
    let l = leg_found (λ l. fits at l w q) k in
    still_goes at w p q l.0 (grind (arith, testing)) (grind (arith, testing)) l.1
mild_goes at id w q row13 m h k = let l = leg_found (λ l. fits at l w q) k in still_goes at w 0 q l.0 refl refl l.1
mild_goes at id w q (row14 p) m h k =
    let l = leg_found (λ l. fits at l w q) k in
    still_goes at w p q l.0 (grind (arith, testing)) (grind (arith, testing)) l.1
mild_goes at id w q (row17 a) m h k = k
mild_goes at id w q (row18 a) m h k = k
mild_goes at id w q (row19 a) m h k = k
mild_goes at id w q row20 m h k = k
mild_goes at id w q row21 m h k = k

ready_change : (at : Sites) (occ : ℕ → Option Text) (id : Text) (t : Times) (q : ℕ) (g : Change) (o : Option Wafer) → mild_change g ≡ true → can_from at occ id o (change g) ≡ true → is_some (fitting at o q) ≡ true → ltb (entries_of o) 16 ≡ true
    → (is_some (fitting at (after t o (change g)) q) ≡ true) × (ltb (entries_of (after t o (change g))) 16 ≡ true)
ready_change at occ id t q g None m h a b = absurd (false≢true h)
ready_change at occ id t q g (Some w) m h a b = (mild_goes at id w q g m h a, ap (λ hs. ltb (length hs) 16) (changed_stays g w).1 ∙ b)

-- the promise of the wafer itself
pub ready_mild : (at : Sites) (id : Text) (t : Times) (q : ℕ) (ss : List Step) (c : Contents) → mild_all id ss ≡ true → can_all at t c ss ≡ true → Ready at c id q → Ready at (perform t c ss) id q
ready_mild at id t q [] c m h r = r
ready_mild at id t q (takes i (enter p d) ∷ ss) c m h r = absurd (neither _ _ m)
ready_mild at id t q (takes i (move l p) ∷ ss) c m h r = absurd (neither _ _ m)
ready_mild at id t q (takes i (leave e) ∷ ss) c m h r = absurd (neither _ _ m)
ready_mild at id t q (takes i (change g) ∷ ss) c m h r =
    let u = and_parts (bytes_eq i id && mild_change g) (mild_all id ss) m in
    let x = and_parts (bytes_eq i id) (mild_change g) u.0 in
    let v = and_parts (can at c i (change g)) (can_all at t (effect t i (change g) c) ss) h in
    let e : i ≡ id = same_true i id x.0 in
    let own : (effect t i (change g) c).wafer id ≡ after t (c.wafer id) (change g) = ap (effect t i (change g) c).wafer (sym e) ∙ own_wafer t i (change g) c ∙ ap (λ (j : Text). after t (c.wafer j) (change g)) e in
    let able : can_from at c.occupant id (c.wafer id) (change g) ≡ true = sym (ap (λ (j : Text). can_from at c.occupant j (c.wafer j) (change g)) e) ∙ v.0 in
    let y = ready_change at c.occupant id t q g (c.wafer id) x.1 able r.goes r.short in
    ready_mild at id t q ss (effect t i (change g) c) u.1 v.1
    (record { free = r.free; goes = ap (λ (o : Option Wafer). is_some (fitting at o q)) own ∙ y.0; short = ap (λ (o : Option Wafer). ltb (entries_of o) 16) own ∙ y.1 })
ready_mild at id t q (tells p o ∷ ss) c m h r = ready_mild at id t q ss c m h r

-- a promise of a listed place is one that the wafer has
pub granted-listed : (ps : Plan) (f : ℕ → Option Promise) (q : ℕ) (id : Text) → listed (sites ps) q ≡ true → f q ≡ to id → granted ps f id ≡ true
granted-listed [] f q id h e = absurd (false≢true h)
granted-listed (None ∷ ps) f q id h e = granted-listed ps f q id h e
granted-listed (Some s ∷ ps) f q id h e = go (eqb s.code q) refl (λ x. granted-listed ps f q id x e)
  where
    go : (b : Bool) → eqb s.code q ≡ b → (listed (sites ps) q ≡ true → granted ps f id ≡ true) → granted (Some s ∷ ps) f id ≡ true
    go true x again =
        let z : f s.code ≡ to id = ap f (eqb-true s.code q x) ∙ e in
        or_left _ _ (ap (λ (o : Option Promise). promised_to o id) z ∙ same_refl id)
    go false x again = or_right _ _ (again (sym (ap is_some (cond-false (eqb s.code q) _ _ x)) ∙ h))
