-- What an accepted call brings: rows that can be taken, room for them at the mirror, and promises that still stand.
use Rattle.std.proofs.Common.{◌≡◌, ℕ, pred, ◌<◌, ◌≤◌, Bool, true, false, cond, not, ◌&&◌, eqb, leb, List, [], ◌∷◌, ◌++◌, length, Some, None, Option, sym, refl, ap, ◌∙◌, subst, subst₂, le_refl, arith, is_none, is_some}
use Rattle.std.specs.Str.{bytes_eq}
use Rattle.std.proofs.lemmas.Bool.{false≢true, both_ways, not-true, and_parts, and_from, eqb-true, leb-true, ltb-true, lt-ltb}
use Rattle.std.proofs.lemmas.Bool.Decides.{nat_tests as testing}
use Rattle.std.proofs.lemmas.Option.{none-some, same_Some}
use Rattle.table.proofs.Places.{vacant-none}
use Rattle.model.specs.Wafers.{Text, Times, at_time, Wafer}
use Rattle.model.specs.Places.{Plan, Sites, sites, listed, Contents, put_code}
use Rattle.model.specs.Switches.{Switches}
use Rattle.model.specs.Rows.{Leg, Change, row10, row12, row13, row14, row17, row19, row21, Exit, row7, row9, Row, enter, move, leave, change, can_from, after, place_of, effect}
use Rattle.model.specs.Steps.{Step, takes, tells, can_all, perform}
use Rattle.model.specs.Calls.{Promise, Grant, Tracker, Service, start, skip, read_failed, proceed, cancel, unload, correct, missing, end, read, Call, register, lift, set_down, put_back, serve, fitting, processing_of, promised_to, granted, initial_reading, destination_of, registering, moving, losing, leaving, ending_row, serving, served, steps_of, time_of, times_of, promise_after, Check, first_failed, needs_no_grant, well_ended, checks_of, room_refused, or_else, refusal, due}
use Rattle.model.specs.Runs.{Each, Housed, Sound}
use Rattle.model.proofs.Basics.{same_true, same_refl, same_false, neither, changed_stays}
use Rattle.model.proofs.Performing.{own_wafer, told_places, tells-listed, rooms}
use Rattle.model.proofs.Promises.{to, Ready, Kept, moving-can, avoid_all, ready_other, mild_change, mild_all, ready_mild, granted-listed}

-- no refusal: every check passes
abbrev Passes : List Check → Type 0
Passes [] = Unit {0}
Passes (c ∷ cs) = (c.passes ≡ true) × Passes cs

passes : (cs : List Check) → first_failed cs ≡ None → Passes cs
passes [] e = tt
passes (c ∷ cs) e = go c.passes refl (λ x. passes cs x) e
  where
    go : (b : Bool) → c.passes ≡ b → (first_failed cs ≡ None → Passes cs) → cond b (first_failed cs) (Some c.number) ≡ None → (c.passes ≡ true) × Passes cs
    go true x again e = (x, again e)
    go false x again e = absurd (none-some c.number (sym e))

none_failed : (a b : Option ℕ) → or_else a b ≡ None → a ≡ None
none_failed None b e = refl
none_failed (Some n) b e = absurd (none-some n (sym e))

-- steps that neither register nor move
abbrev plain : Row → Bool
plain (enter p d) = false
plain (move l q) = false
plain (leave e) = true
plain (change g) = true

abbrev plain_all : Text → List Step → Bool
plain_all id [] = true
plain_all id (takes i r ∷ ss) = (bytes_eq i id && plain r) && plain_all id ss
plain_all id (tells p o ∷ ss) = plain_all id ss

plain_avoids : (id : Text) (q : ℕ) (ss : List Step) → plain_all id ss ≡ true → avoid_all id q ss ≡ true
plain_avoids id q [] h = refl
plain_avoids id q (takes i (enter p d) ∷ ss) h = absurd (neither _ _ h)
plain_avoids id q (takes i (move l p) ∷ ss) h = absurd (neither _ _ h)
plain_avoids id q (takes i (leave e) ∷ ss) h = let u = and_parts _ _ h in and_from _ _ u.0 (plain_avoids id q ss u.1)
plain_avoids id q (takes i (change g) ∷ ss) h = let u = and_parts _ _ h in and_from _ _ u.0 (plain_avoids id q ss u.1)
plain_avoids id q (tells p o ∷ ss) h = plain_avoids id q ss h

plain_rooms : (id : Text) (m u : ℕ) (ss : List Step) → plain_all id ss ≡ true → rooms m u ss ≡ true
plain_rooms id m u [] h = refl
plain_rooms id m u (takes i (enter p d) ∷ ss) h = absurd (neither _ _ h)
plain_rooms id m u (takes i (move l p) ∷ ss) h = absurd (neither _ _ h)
plain_rooms id m u (takes i (leave e) ∷ ss) h = plain_rooms id m (pred u) ss (and_parts _ _ h).1
plain_rooms id m u (takes i (change g) ∷ ss) h = plain_rooms id m u ss (and_parts _ _ h).1
plain_rooms id m u (tells p o ∷ ss) h = plain_rooms id m u ss h

own : (id : Text) → (bytes_eq id id && true) ≡ true
own id = and_from _ _ (same_refl id) refl

one : (id : Text) (b : Bool) → b ≡ true → ((bytes_eq id id && true) && b) ≡ true
one id b e = and_from _ _ (own id) e

plain_leaving : (id : Text) (from : ℕ) (e : Exit) → plain_all id (leaving id from e) ≡ true
plain_leaving id from e = one id true refl

plain_losing : (id : Text) (pr from : ℕ) → plain_all id (losing id pr ++ leaving id from row9) ≡ true
plain_losing id pr from = go (eqb pr 0) (eqb pr 1)
  where
    go : (a b : Bool) → plain_all id (cond a (takes id (change (row14 6)) ∷ []) (cond b (takes id (change (row12 6)) ∷ []) []) ++ leaving id from row9) ≡ true
    go true b = one id _ (plain_leaving id from row9)
    go false true = one id _ (plain_leaving id from row9)
    go false false = plain_leaving id from row9

plain_cancel : (id : Text) (pr : ℕ) → plain_all id (cond (eqb pr 0) (takes id (change (row14 7)) ∷ []) []) ≡ true
plain_cancel id pr = go (eqb pr 0)
  where
    go : (b : Bool) → plain_all id (cond b (takes id (change (row14 7)) ∷ []) []) ≡ true
    go true = one id true refl
    go false = refl

plain_serving : (s : Service) (id : Text) (pr from : ℕ) → plain_all id (serving s id pr from) ≡ true
plain_serving start id pr from = one id true refl
plain_serving skip id pr from = one id true refl
plain_serving read_failed id pr from = one id true refl
plain_serving proceed id pr from = one id true refl
plain_serving cancel id pr from = one id _ (plain_cancel id pr)
plain_serving unload id pr from = plain_leaving id from row7
plain_serving correct id pr from = one id true refl
plain_serving missing id pr from = plain_losing id pr from
plain_serving (end o) id pr from = one id true refl
plain_serving (read a) id pr from = one id true refl

mild_cancel : (id : Text) (pr : ℕ) → mild_all id (cond (eqb pr 0) (takes id (change (row14 7)) ∷ []) []) ≡ true
mild_cancel id pr = go (eqb pr 0)
  where
    go : (b : Bool) → mild_all id (cond b (takes id (change (row14 7)) ∷ []) []) ≡ true
    go true = one id true refl
    go false = refl

mild_ending : (o : ℕ) → well_ended (end o) ≡ true → mild_change (ending_row o) ≡ true
mild_ending o v = go (eqb o 0) refl
  where
    go : (b : Bool) → eqb o 0 ≡ b → mild_change (cond b row13 (row12 o)) ≡ true
    go true e = refl
    go false e = grind (arith, testing)

-- the services that can be made while a grant is open
mild_serving : (s : Service) (id : Text) (pr from : ℕ) → needs_no_grant s ≡ false → well_ended s ≡ true → mild_all id (serving s id pr from) ≡ true
mild_serving start id pr from g v = absurd (false≢true (sym g))
mild_serving skip id pr from g v = one id true refl
mild_serving read_failed id pr from g v = one id true refl
mild_serving proceed id pr from g v = one id true refl
mild_serving cancel id pr from g v = one id _ (mild_cancel id pr)
mild_serving unload id pr from g v = absurd (false≢true (sym g))
mild_serving correct id pr from g v = absurd (false≢true (sym g))
mild_serving missing id pr from g v = absurd (false≢true (sym g))
mild_serving (end o) id pr from g v = and_from _ _ (and_from _ _ (same_refl id) (mild_ending o v)) refl
mild_serving (read a) id pr from g v = go (bytes_eq a id)
  where
    go : (b : Bool) → mild_all id (takes id (change (cond b (row17 a) (row19 a))) ∷ []) ≡ true
    go true = one id true refl
    go false = one id true refl

-- promises after a call

kept-with : (at : Sites) (c d : Contents) (f : ℕ → Option Promise) → ((q : ℕ) (i : Text) → f q ≡ to i → Ready at c i q → Ready at d i q) → Kept at c f → Kept at d f
kept-with at c d f h k = record { target = k.target; ready = λ q i e. h q i e (k.ready q i e); once = k.once }

-- the promise of q ends
kept_less : (at : Sites) (c : Contents) (f : ℕ → Option Promise) (q : ℕ) → Kept at c f → Kept at c (put_code q None f)
kept_less at c f q k = record {
  target = λ r i e. k.target r i (back r i e);
  ready = λ r i e. k.ready r i (back r i e);
  once = λ r s i e x. k.once r s i (back r i e) (back s i x);
}
  where
    back : (r : ℕ) (i : Text) → put_code q None f r ≡ to i → f r ≡ to i
    back r i e = go (eqb r q) e
      where
        go : (b : Bool) → cond b None (f r) ≡ to i → f r ≡ to i
        go true e = absurd (none-some _ e)
        go false e = e

wafer_same : (a b : Text) → to a ≡ to b → a ≡ b
wafer_same a b e = ap (λ (p : Promise). p.wafer) (same_Some (record { wafer = a }) (record { wafer = b }) e)

-- q becomes promised to id, to which nothing was
kept_more : (ps : Plan) (c : Contents) (f : ℕ → Option Promise) (id : Text) (q : ℕ) → Kept (sites ps) c f → listed (sites ps) q ≡ true → Ready (sites ps) c id q → granted ps f id ≡ false → Kept (sites ps) c (put_code q (to id) f)
kept_more ps c f id q k l r ng = record {
  target = λ s i e. by_place s i (λ s i. listed (sites ps) s ≡ true) l (k.target s i) (eqb s q) refl e;
  ready = λ s i e. by_place s i (λ s i. Ready (sites ps) c i s) r (k.ready s i) (eqb s q) refl e;
  once = λ s u i e x. alone s u i (eqb s q) refl (eqb u q) refl e x;
}
  where
    by_place : (s : ℕ) (i : Text) (P : ℕ → Text → Type 0) → P q id → (f s ≡ to i → P s i) → (b : Bool) → eqb s q ≡ b → cond b (to id) (f s) ≡ to i → P s i
    by_place s i P y z true e h = subst₂ P (sym (eqb-true s q e)) (wafer_same id i h) y
    by_place s i P y z false e h = z h

    free_of : (s : ℕ) → f s ≡ to id → ⊥
    free_of s e = both_ways _ ng (granted-listed ps f s id (k.target s id e) e)

    alone : (s u : ℕ) (i : Text) (a : Bool) → eqb s q ≡ a → (b : Bool) → eqb u q ≡ b → cond a (to id) (f s) ≡ to i → cond b (to id) (f u) ≡ to i → s ≡ u
    alone s u i true x true y e g = eqb-true s q x ∙ sym (eqb-true u q y)
    alone s u i true x false y e g = absurd (free_of u (g ∙ sym e))
    alone s u i false x true y e g = absurd (free_of s (e ∙ sym g))
    alone s u i false x false y e g = k.once s u i e g

-- a wafer that is not registered has no promise
ready_known : (at : Sites) (c : Contents) (i id : Text) (q : ℕ) → Ready at c i q → c.wafer id ≡ None → bytes_eq i id ≡ false
ready_known at c i id q r e = same_false i id (λ x. both_ways _ (ap (λ (o : Option Wafer). is_some (fitting at o q)) (ap c.wafer x ∙ e)) r.goes)

pub record Accepted (ps : Plan) (m : ℕ) (h : Switches) (t : Tracker) (k : Call) : Type 0 where
  pub cans : can_all (sites ps) (times_of t k) t.contents (steps_of (sites ps) h t k) ≡ true
  pub places : tells-listed (sites ps) (steps_of (sites ps) h t k)
  pub has_rooms : rooms m t.contents.used (steps_of (sites ps) h t k) ≡ true
  pub later : t.latest ≤ time_of t.latest k
  pub told : (p : ℕ) → told_places (steps_of (sites ps) h t k) t.contents.occupant p ≡ (perform (times_of t k) t.contents (steps_of (sites ps) h t k)).occupant p
  pub kept : Kept (sites ps) (perform (times_of t k) t.contents (steps_of (sites ps) h t k)) (promise_after k t.promise)

abbrev Answered : Call → Type 0
Answered k = (ps : Plan) (n m : ℕ) (h : Switches) (t : Tracker) → n ≤ m → Sound (sites ps) t.contents → Kept (sites ps) t.contents t.promise → Passes (checks_of ps n t k) → Accepted ps m h t k

below : (u n m : ℕ) → u < n → n ≤ m → u < m
below u n m a b = omega arith

reading_small : (b : Bool) → leb (initial_reading b) 1 ≡ true
reading_small true = refl
reading_small false = refl

register_ok : (id : Text) (p d x : ℕ) → Answered (register id p d x)
register_ok id p d x ps n m h t nm s k c =
    let at : Sites = sites ps in
    let c5 = and_parts _ _ c.1.1.0 in
    let c8 = and_parts _ _ c.1.1.1.1.0 in
    let c12 : t.contents.used < n = ltb-true _ _ c.1.1.1.1.1.0 in
    let e : t.contents.wafer id ≡ None = vacant-none _ c.1.1.1.0 in
    let r : Row = enter p (destination_of p d) in
    let g : Row = change (row10 (initial_reading h.reader)) in
    let w : (effect (at_time x) id r t.contents).wafer id ≡ after (at_time x) None r = own_wafer (at_time x) id r t.contents ∙ ap (λ (v : Option Wafer). after (at_time x) v r) e in
    record {
      cans = and_from _ _ (ap (λ (v : Option Wafer). can_from at t.contents.occupant id v r) e ∙ and_from _ _ c5.0 (and_from _ _ c8.0 c5.1))
          (and_from _ _ (ap (λ (v : Option Wafer). can_from at (effect (at_time x) id r t.contents).occupant id v g) w ∙ reading_small h.reader) refl);
      places = (c5.0, tt);
      has_rooms = and_from _ _ (lt-ltb _ _ (below t.contents.used n m c12 nm)) refl;
      later = leb-true _ _ (and_parts _ _ c.0).1;
      told = λ q. refl;
      kept = kept-with at t.contents _ t.promise (λ q i a y. ready_other at id i (at_time x) q (registering h id p d) t.contents (ready_known at t.contents i id q y e) (and_from _ _ (and_from _ _ (same_refl id) (apart q i a c8.1)) (and_from _ _ (own id) refl)) y) k;
    }
  where
    apart : (q : ℕ) (i : Text) → t.promise q ≡ to i → is_none (t.promise p) ≡ true → not (eqb q p) ≡ true
    apart q i a v = go (eqb q p) refl
      where
        go : (b : Bool) → eqb q p ≡ b → not b ≡ true
        go true z = absurd (none-some _ (sym (sym a ∙ ap t.promise (eqb-true q p z) ∙ vacant-none (t.promise p) v)))
        go false z = refl

lift_ok : (id : Text) (q x : ℕ) → Answered (lift id q x)
lift_ok id q x ps n m h t nm s k c =
    let c8 = and_parts _ _ c.1.1.1.1.0 in
    let ng : granted ps t.promise id ≡ false = not-true _ c.1.1.1.1.1.0 in
    let rd : Ready (sites ps) t.contents id q = record { free = vacant-none _ c8.0; goes = c.1.1.1.1.1.1.0; short = c.1.1.1.1.1.1.1.0 } in
    record {
      cans = refl;
      places = tt;
      has_rooms = refl;
      later = leb-true _ _ (and_parts _ _ c.0).1;
      told = λ p. refl;
      kept = kept_more ps t.contents t.promise id q k c.1.1.0 rd ng;
    }

-- the wafer that is there is at a listed place
at_listed : (at : Sites) (o : Option Wafer) → is_some o ≡ true → Each (Housed at) o → listed at (place_of o) ≡ true
at_listed at None e h = absurd (false≢true e)
at_listed at (Some w) e h = ap is_some h.listed_place.1

promised : (o : Option Promise) (id : Text) → promised_to o id ≡ true → o ≡ to id
promised None id e = absurd (false≢true e)
promised (Some p) id e = ap to (same_true p.wafer id e)

set_down_ok : (g : Grant) (x : ℕ) → Answered (set_down g x)
set_down_ok g x ps n m h t nm s k c =
    let at : Sites = sites ps in
    let l = and_parts _ _ c.1.0 in
    let a : t.promise q ≡ to id = promised (t.promise q) id l.1 in
    let rd : Ready at t.contents id q = k.ready q id a in
    let leg : Option Leg = fitting at (t.contents.wafer id) q in
    record {
      cans = moving-can at t.contents id q from (at_time x) rd l.0;
      places = moving-listed at leg (at_listed at (t.contents.wafer id) (wafer_there at (t.contents.wafer id) rd.goes) (s.housed id)) l.0;
      has_rooms = moving_rooms leg;
      later = leb-true _ _ (and_parts _ _ c.0).1;
      told = moving-told leg;
      kept = kept-with at t.contents _ (put_code q None t.promise) (λ r i b y. ready_other at id i (at_time x) r (moving id from q leg) t.contents (apart r i a b).0 (moving_avoids leg r (apart r i a b).1) y) (kept_less at t.contents t.promise q k);
    }
  where
    id : Text
    id = g.wafer

    q : ℕ
    q = g.target

    from : ℕ
    from = place_of (t.contents.wafer id)

    wafer_there : (at : Sites) (o : Option Wafer) → is_some (fitting at o q) ≡ true → is_some o ≡ true
    wafer_there at None e = e
    wafer_there at (Some w) e = refl

    moving-listed : (at : Sites) (l : Option Leg) → listed at from ≡ true → listed at q ≡ true → tells-listed at (moving id from q l)
    moving-listed at None a b = tt
    moving-listed at (Some l) a b = (a, (b, tt))

    moving_rooms : (l : Option Leg) → rooms m t.contents.used (moving id from q l) ≡ true
    moving_rooms None = refl
    moving_rooms (Some l) = refl

    moving-told : (l : Option Leg) (p : ℕ) → told_places (moving id from q l) t.contents.occupant p ≡ (perform (at_time x) t.contents (moving id from q l)).occupant p
    moving-told None p = refl
    moving-told (Some l) p = refl

    moving_avoids : (l : Option Leg) (r : ℕ) → not (eqb r q) ≡ true → avoid_all id r (moving id from q l) ≡ true
    moving_avoids None r h = refl
    moving_avoids (Some l) r h = and_from _ _ (and_from _ _ (same_refl id) h) refl

    apart : (r : ℕ) (i : Text) → t.promise q ≡ to id → put_code q None t.promise r ≡ to i → (bytes_eq i id ≡ false) × (not (eqb r q) ≡ true)
    apart r i a b = go (eqb r q) refl b
      where
        go : (z : Bool) → eqb r q ≡ z → cond z None (t.promise r) ≡ to i → (bytes_eq i id ≡ false) × (not z ≡ true)
        go true z b = absurd (none-some _ b)
        go false z b = (same_false i id (λ y. both_ways _ z (same_place (k.once r q id (b ∙ ap to y) a))), refl)
          where
            same_place : r ≡ q → eqb r q ≡ true
            same_place y = grind (arith, testing)

put_back_ok : (g : Grant) → Answered (put_back g)
put_back_ok g ps n m h t nm s k c = record { cans = refl; places = tt; has_rooms = refl; later = le_refl _; told = λ p. refl; kept = kept_less (sites ps) t.contents t.promise g.target k }

-- a change leaves the wafer where it is
change-place : (t : Times) (id : Text) (g : Change) (c : Contents) → place_of ((effect t id (change g) c).wafer id) ≡ place_of (c.wafer id)
change-place t id g c = ap place_of (own_wafer t id (change g) c) ∙ stays (c.wafer id) g
  where
    stays : (o : Option Wafer) (g : Change) → place_of (after t o (change g)) ≡ place_of o
    stays None g = refl
    stays (Some w) g = (changed_stays g w).0

leaving-told : (t : Times) (id : Text) (from : ℕ) (e : Exit) (c : Contents) (occ : ℕ → Option Text) (p : ℕ) → place_of (c.wafer id) ≡ from → c.occupant p ≡ occ p → told_places (leaving id from e) occ p ≡ (perform t c (leaving id from e)).occupant p
leaving-told t id from e c occ p a b = ap (λ o. cond (eqb p from) None o) (sym b) ∙ ap (λ (f : ℕ). cond (eqb p f) None (c.occupant p)) (sym a)

losing-told : (t : Times) (id : Text) (pr : ℕ) (c : Contents) (p : ℕ) → told_places (losing id pr ++ leaving id (place_of (c.wafer id)) row9) c.occupant p ≡ (perform t c (losing id pr ++ leaving id (place_of (c.wafer id)) row9)).occupant p
losing-told t id pr c p = go (eqb pr 0) (eqb pr 1)
  where
    from : ℕ
    from = place_of (c.wafer id)

    go : (a b : Bool) → told_places (cond a (takes id (change (row14 6)) ∷ []) (cond b (takes id (change (row12 6)) ∷ []) []) ++ leaving id from row9) c.occupant p ≡ (perform t c (cond a (takes id (change (row14 6)) ∷ []) (cond b (takes id (change (row12 6)) ∷ []) []) ++ leaving id from row9)).occupant p
    go true b = leaving-told t id from row9 (effect t id (change (row14 6)) c) c.occupant p (change-place t id (row14 6) c) refl
    go false true = leaving-told t id from row9 (effect t id (change (row12 6)) c) c.occupant p (change-place t id (row12 6) c) refl
    go false false = refl

cancel_told : (t : Times) (id : Text) (pr : ℕ) (c : Contents) (p : ℕ) → told_places (serving cancel id pr 0) c.occupant p ≡ (perform t c (serving cancel id pr 0)).occupant p
cancel_told t id pr c p = go (eqb pr 0)
  where
    go : (b : Bool) → told_places (takes id (change row21) ∷ cond b (takes id (change (row14 7)) ∷ []) []) c.occupant p ≡ (perform t c (takes id (change row21) ∷ cond b (takes id (change (row14 7)) ∷ []) [])).occupant p
    go true = refl
    go false = refl

serving-told : (s : Service) (t : Times) (id : Text) (pr : ℕ) (c : Contents) (p : ℕ) → told_places (serving s id pr (place_of (c.wafer id))) c.occupant p ≡ (perform t c (serving s id pr (place_of (c.wafer id)))).occupant p
serving-told start t id pr c p = refl
serving-told skip t id pr c p = refl
serving-told read_failed t id pr c p = refl
serving-told proceed t id pr c p = refl
serving-told cancel t id pr c p = cancel_told t id pr c p
serving-told unload t id pr c p = refl
serving-told correct t id pr c p = refl
serving-told missing t id pr c p = losing-told t id pr c p
serving-told (end o) t id pr c p = refl
serving-told (read a) t id pr c p = refl

losing-listed : (at : Sites) (id : Text) (pr from : ℕ) → listed at from ≡ true → tells-listed at (losing id pr ++ leaving id from row9)
losing-listed at id pr from h = go (eqb pr 0) (eqb pr 1)
  where
    go : (a b : Bool) → tells-listed at (cond a (takes id (change (row14 6)) ∷ []) (cond b (takes id (change (row12 6)) ∷ []) []) ++ leaving id from row9)
    go true b = (h, tt)
    go false true = (h, tt)
    go false false = (h, tt)

cancel_listed : (at : Sites) (id : Text) (b : Bool) → tells-listed at (cond b (takes id (change (row14 7)) ∷ []) [])
cancel_listed at id true = tt
cancel_listed at id false = tt

serving-listed : (at : Sites) (s : Service) (id : Text) (pr from : ℕ) → listed at from ≡ true → tells-listed at (serving s id pr from)
serving-listed at start id pr from h = tt
serving-listed at skip id pr from h = tt
serving-listed at read_failed id pr from h = tt
serving-listed at proceed id pr from h = tt
serving-listed at cancel id pr from h = cancel_listed at id (eqb pr 0)
serving-listed at unload id pr from h = (h, tt)
serving-listed at correct id pr from h = tt
serving-listed at missing id pr from h = losing-listed at id pr from h
serving-listed at (end o) id pr from h = tt
serving-listed at (read a) id pr from h = tt

serve_ok : (s : Service) (id : Text) (x : ℕ) → Answered (serve s id x)
serve_ok s id x ps n m h t nm sound k c =
    let at : Sites = sites ps in
    let v = and_parts _ _ c.1.1.1.1.0 in
    let plain : plain_all id steps ≡ true = plain_serving s id (processing_of o) (place_of o) in
    record {
      cans = v.1;
      places = serving-listed at s id (processing_of o) (place_of o) (at_listed at o c.1.1.0 (sound.housed id));
      has_rooms = plain_rooms id m t.contents.used steps plain;
      later = leb-true _ _ (and_parts _ _ c.0).1;
      told = serving-told s (at_time x) id (processing_of o) t.contents;
      kept = kept-with at t.contents _ t.promise (λ q i a y. still at q i a y v.0 v.1 c.1.1.1.0 plain (bytes_eq i id) refl) k;
    }
  where
    o : Option Wafer
    o = t.contents.wafer id

    steps : List Step
    steps = served s id o

    still : (at : Sites) (q : ℕ) (i : Text) → t.promise q ≡ to i → Ready (sites ps) t.contents i q → well_ended s ≡ true → can_all (sites ps) (at_time x) t.contents steps ≡ true
        → not (needs_no_grant s && granted ps t.promise id) ≡ true → plain_all id steps ≡ true → (b : Bool) → bytes_eq i id ≡ b → Ready (sites ps) (perform (at_time x) t.contents steps) i q
    still at q i a y v c g plain true z =
        let e = same_true i id z in
        let gr : granted ps t.promise id ≡ true = granted-listed ps t.promise q id (k.target q i a) (a ∙ ap to e) in
        let ng : needs_no_grant s ≡ false = grind arith in
        let r : Ready (sites ps) t.contents id q = subst (λ (j : Text). Ready (sites ps) t.contents j q) e y in
        subst (λ (j : Text). Ready (sites ps) (perform (at_time x) t.contents steps) j q) (sym e) (ready_mild (sites ps) id (at_time x) q steps t.contents (mild_serving s id (processing_of o) (place_of o) ng v) c r)
    still at q i a y v c g plain false z = ready_other (sites ps) id i (at_time x) q steps t.contents z (plain_avoids id q steps plain) y

answered : (k : Call) → Answered k
answered (register id p d x) = register_ok id p d x
answered (lift id q x) = lift_ok id q x
answered (set_down g x) = set_down_ok g x
answered (put_back g) = put_back_ok g
answered (serve s id x) = serve_ok s id x

pub accepted : (k : Call) (ps : Plan) (n m : ℕ) (h : Switches) (t : Tracker) (room : ℕ) → n ≤ m → Sound (sites ps) t.contents → Kept (sites ps) t.contents t.promise → refusal ps n h t room k ≡ None → Accepted ps m h t k
accepted k ps n m h t room nm s p e = answered k ps n m h t nm s p (passes (checks_of ps n t k) (none_failed (first_failed (checks_of ps n t k)) (room_refused (length (due ps h t k)) room) e))
