-- One row: the mirror takes what is reported of it, and the record stays sound.
use Rattle.std.proofs.Common.{◌≡◌, ℕ, ◌≤◌, Bool, true, false, cond, ltb, List, [], ◌∷◌, ◌++◌, length, Some, None, Option, sym, refl, ap, ◌∙◌, subst, subst₂, arith}
use Rattle.std.specs.Str.{bytes_eq}
use Rattle.std.proofs.lemmas.Bool.{false≢true, and_parts, and_from, eq-eqb, le-leb, cond-true}
use Rattle.std.proofs.lemmas.Bool.Decides.{nat_tests}
use Rattle.reports.specs.Fields.{Fields}
use Rattle.table.proofs.Places.{vacant-none}
use Rattle.model.specs.Wafers.{Text, Times, at_time, Stay, Wafer, opened, closed, moved_on}
use Rattle.model.specs.Places.{Sites, Contents, put_text, put_code}
use Rattle.model.specs.Reporting.{substrate_report}
use Rattle.model.specs.Rows.{row2, row3, row4, row5, row6, row8, row10, row11, row12, row13, row14, row17, row18, row19, row20, row21, changed, row7, row9, Row, enter, move, leave, change, row_number, can, can_from, after, used_after, place_of, occupant_after, effect, told}
use Rattle.model.specs.Mirroring.{Mirror, taken, row_of, matches, has_row, is_step, take_row, intake}
use Rattle.model.specs.Transitions.{Listed, home}
use Rattle.model.specs.Runs.{OpenOnlyAt, Housed, Each, NameEachOther, Sound}
use Rattle.model.proofs.Basics.{same_refl, same_tells, occupied_some, changed_stays}

-- the row is read back out of its report
pub row_read : (at : Sites) (occ : ℕ → Option Text) (id : Text) (x : ℕ) (o : Option Wafer) (r : Row) → can_from at occ id o r ≡ true → row_of (row_number r) (substrate_report (row_number r) (at_time x) id (told (at_time x) o r)) ≡ Some r
row_read at occ id x None (enter p d) h = refl
row_read at occ id x None (move l q) h = absurd (false≢true h)
row_read at occ id x None (leave e) h = absurd (false≢true h)
row_read at occ id x None (change g) h = absurd (false≢true h)
row_read at occ id x (Some w) (enter p d) h = absurd (false≢true h)
row_read at occ id x (Some w) (move row2 q) h = refl
row_read at occ id x (Some w) (move row3 q) h = refl
row_read at occ id x (Some w) (move row4 q) h = refl
row_read at occ id x (Some w) (move row5 q) h = refl
row_read at occ id x (Some w) (move row6 q) h = refl
row_read at occ id x (Some w) (leave row7) h = refl
row_read at occ id x (Some w) (leave row9) h = refl
row_read at occ id x (Some w) (change row8) h = refl
row_read at occ id x (Some w) (change (row10 r)) h = refl
row_read at occ id x (Some w) (change row11) h = refl
row_read at occ id x (Some w) (change (row12 p)) h = refl
row_read at occ id x (Some w) (change row13) h = refl
row_read at occ id x (Some w) (change (row14 p)) h = refl
row_read at occ id x (Some w) (change (row17 a)) h = refl
row_read at occ id x (Some w) (change (row18 a)) h = refl
row_read at occ id x (Some w) (change (row19 a)) h = refl
row_read at occ id x (Some w) (change row20) h = refl
row_read at occ id x (Some w) (change row21) h = refl

-- a report matches the wafer that it shows
pub matches_own : (n : ℕ) (t : Times) (id : Text) (w : Wafer) → matches w (substrate_report n t id w) ≡ true
matches_own n t id w =
    and_from _ _ (eq-eqb w.place _ refl)
    (and_from _ _ (eq-eqb w.source _ refl)
    (and_from _ _ (eq-eqb w.destination _ refl)
    (and_from _ _ (eq-eqb w.transport _ refl)
    (and_from _ _ (eq-eqb w.processing _ refl)
    (and_from _ _ (eq-eqb w.reading _ refl)
    (same_refl w.acquired))))))

-- in the same state the mirror takes the report of a row, and comes to the same state
pub mirror-row : (at : Sites) (n : ℕ) (c : Contents) (seen : ℕ → Option Text) (last : ℕ) (id : Text) (x : ℕ) (r : Row) → can at c id r ≡ true → last ≤ x → has_row n r c.used ≡ true
    → intake at n (record { contents = c; seen = seen; last = last }) (substrate_report (row_number r) (at_time x) id (told (at_time x) (c.wafer id) r)) ≡ taken (record { contents = effect (at_time x) id r c; seen = seen; last = x })
mirror-row at n c seen last id x r h k room =
    let m : Mirror = record { contents = c; seen = seen; last = last } in
    let f : Fields = substrate_report (row_number r) (at_time x) id (told (at_time x) (c.wafer id) r) in
    let s : is_step at m f r ≡ true = and_from _ _ h (and_from _ _ (le-leb last x k) (matches_own (row_number r) (at_time x) id (told (at_time x) (c.wafer id) r))) in
    ap (take_row at n m f) (row_read at c.occupant id x (c.wafer id) r h)
    ∙ cond-true (is_step at m f r) _ _ s
    ∙ cond-true (has_row n r c.used) _ _ room

-- occupants and places name each other after a row

linked-enter : (occ : ℕ → Option Text) (place : Text → Option ℕ) (id : Text) (p : ℕ) → NameEachOther occ place → place id ≡ None → occ p ≡ None → NameEachOther (put_code p (Some id) occ) (put_text id (Some p) place)
linked-enter occ place id p l a o q i =
    let h = l q i in
    (λ e. grind (arith, nat_tests, same_tells), λ e. grind (arith, nat_tests, same_tells))

linked-leave : (occ : ℕ → Option Text) (place : Text → Option ℕ) (id : Text) (from : ℕ) → NameEachOther occ place → place id ≡ Some from → NameEachOther (put_code from None occ) (put_text id None place)
linked-leave occ place id from l a q i =
    let h = l q i in
    (λ e. grind (arith, nat_tests, same_tells), λ e. grind (arith, nat_tests, same_tells))

linked-move : (occ : ℕ → Option Text) (place : Text → Option ℕ) (id : Text) (from to : ℕ) → NameEachOther occ place → place id ≡ Some from → occ to ≡ None → NameEachOther (put_code to (Some id) (put_code from None occ)) (put_text id (Some to) place)
linked-move occ place id from to l a o q i =
    let h = l q i in
    (λ e. grind (arith, nat_tests, same_tells), λ e. grind (arith, nat_tests, same_tells))

linked_like : (occ : ℕ → Option Text) (place place' : Text → Option ℕ) → ((i : Text) → place i ≡ place' i) → NameEachOther occ place → NameEachOther occ place'
linked_like occ place place' e l q i =
    let h = l q i in
    let k = e i in
    (λ x. cc (h.0 x), λ x. h.1 (k ∙ x))

home_put : (id : Text) (o : Option Wafer) (f : Text → Option Wafer) (i : Text) → put_text id (home o) (λ j. home (f j)) i ≡ home (put_text id o f i)
home_put id o f i = go (bytes_eq i id)
  where
    go : (b : Bool) → cond b (home o) (home (f i)) ≡ home (cond b o (f i))
    go true = refl
    go false = refl

home-kept : (id : Text) (w v : Wafer) (f : Text → Option Wafer) → f id ≡ Some w → w.place ≡ v.place → (i : Text) → home (f i) ≡ home (put_text id (Some v) f i)
home-kept id w v f e k i = grind (arith, same_tells)

each_put : (P : Wafer → Type 0) (id : Text) (o : Option Wafer) (f : Text → Option Wafer) → Each P o → ((i : Text) → Each P (f i)) → (i : Text) → Each P (put_text id o f i)
each_put P id o f h k i = go (bytes_eq i id)
  where
    go : (b : Bool) → Each P (cond b o (f i))
    go true = h
    go false = k i

pub each_at : (P : Wafer → Type 0) (o : Option Wafer) (w : Wafer) → o ≡ Some w → Each P o → P w
each_at P o w e h = rw e at h

open_cons : (q t : ℕ) (s : Stay) (ss : List Stay) → s.left ≡ Some t → OpenOnlyAt q ss → OpenOnlyAt q (s ∷ ss)
open_cons q t s [] v h = absurd h
open_cons q t s (r ∷ ss) v h = ((t, v), h)

open_moved : (p q t : ℕ) (ss : List Stay) → OpenOnlyAt p ss → OpenOnlyAt q (closed t ss ++ (opened q t ∷ []))
open_moved p q t [] h = absurd h
open_moved p q t (s ∷ []) h = ((t, refl), (refl, refl))
open_moved p q t (s ∷ r ∷ ss) h = open_cons q h.0.0 s (closed t (r ∷ ss) ++ (opened q t ∷ [])) h.0.1 (open_moved p q t (r ∷ ss) h.1)

open_on : (p q : ℕ) (t : Times) (ss : List Stay) → ltb (length ss) 16 ≡ true → OpenOnlyAt p ss → OpenOnlyAt q (moved_on t q ss)
open_on p q t ss l h = rw (cond-true (ltb (length ss) 16) (closed t.at ss ++ (opened q t.at ∷ [])) ss l) (open_moved p q t.at ss h)

sound_from : (at : Sites) (c : Contents) (id : Text) (t : Times) (o : Option Wafer) (r : Row) → c.wafer id ≡ o → Sound at c → can_from at c.occupant id o r ≡ true
    → Sound at (record { wafer = put_text id (after t o r) c.wafer; used = used_after r c.used; occupant = occupant_after id (place_of o) r c.occupant })
sound_from at c id t None (enter p d) e s h =
    let u = and_parts _ _ h in
    record {
      linked = linked_like _ _ _ (home_put id _ c.wafer) (linked-enter c.occupant (λ i. home (c.wafer i)) id p s.linked (ap home e) (vacant-none (c.occupant p) (and_parts _ _ u.1).0));
      housed = each_put (Housed at) id _ c.wafer (record { listed_place = occupied_some (at p) u.0; open_there = (refl, refl) }) s.housed;
    }
sound_from at c id t None (move l q) e s h = absurd (false≢true h)
sound_from at c id t None (leave x) e s h = absurd (false≢true h)
sound_from at c id t None (change g) e s h = absurd (false≢true h)
sound_from at c id t (Some w) (enter p d) e s h = absurd (false≢true h)
sound_from at c id t (Some w) (move l q) e s h =
    let u = and_parts _ _ h in
    let v = and_parts _ _ u.1 in
    let k = and_parts _ _ v.1 in
    let y : Housed at w = each_at (Housed at) (c.wafer id) w e (s.housed id) in
    record {
      linked = linked_like _ _ _ (home_put id _ c.wafer) (linked-move c.occupant (λ i. home (c.wafer i)) id w.place q s.linked (ap home e) (vacant-none (c.occupant q) k.0));
      housed = each_put (Housed at) id _ c.wafer (record { listed_place = occupied_some (at q) v.0; open_there = open_on w.place q t w.history k.1 y.open_there }) s.housed;
    }
sound_from at c id t (Some w) (leave x) e s h = record {
  linked = linked_like _ _ _ (home_put id _ c.wafer) (linked-leave c.occupant (λ i. home (c.wafer i)) id w.place s.linked (ap home e));
  housed = each_put (Housed at) id _ c.wafer tt s.housed;
}
sound_from at c id t (Some w) (change g) e s h =
    let y : Housed at w = each_at (Housed at) (c.wafer id) w e (s.housed id) in
    record {
      linked = linked_like _ _ _ (home-kept id w (changed g w) c.wafer e place_kept) s.linked;
      housed = each_put (Housed at) id _ c.wafer (housed-kept y) s.housed;
    }
  where
    place_kept : w.place ≡ (changed g w).place
    place_kept = sym (changed_stays g w).0

    housed-kept : Housed at w → Housed at (changed g w)
    housed-kept y = record {
      listed_place = subst (λ (p : ℕ). Listed at p) place_kept y.listed_place;
      open_there = subst₂ OpenOnlyAt place_kept (sym (changed_stays g w).1) y.open_there;
    }

pub sound-row : (at : Sites) (c : Contents) (id : Text) (t : Times) (r : Row) → Sound at c → can at c id r ≡ true → Sound at (effect t id r c)
sound-row at c id t r s h = sound_from at c id t (c.wafer id) r refl s h
