-- The mirror's intake is exact.
use Rattle.std.proofs.Common.{◌≡◌, ℕ, ◌<◌, ◌≤◌, Bool, true, false, cond, eqb, [], Some, None, Option, sym, refl, ap, ◌∙◌, subst, inl, inr, arith, is_some}
use Rattle.std.specs.Str.{bytes_eq}
use Rattle.std.proofs.lemmas.Bool.{true≢false, both_ways, and_parts, and_from, eqb-true, eq-eqb, ne_eqb, leb-true, le-leb, ltb-true, ltb-false, cond-true, cond-false}
use Rattle.std.proofs.lemmas.Option.{none-some, same_Some}
use Rattle.reports.specs.Fields.{Fields}
use Rattle.model.specs.Wafers.{Text, at_time, Wafer}
use Rattle.model.specs.Places.{Sites, listed, Contents}
use Rattle.model.specs.Rows.{Leg, row2, row3, row4, row5, row6, leg_number, Change, row8, row10, row11, row12, row13, row14, row17, row18, row19, row20, row21, change_number, Exit, row7, row9, exit_number, Row, enter, move, leave, change, row_number, can, after, used_after, effect, standing, told}
use Rattle.model.specs.Mirroring.{Mirror, when, row_of, matches, has_row, taken, fault, is_step, taken_row, take_row, occupant_told, taken_place, intake, held_after}
use Rattle.model.specs.Transitions.{Other, Listed, Takes, RowTaken, Shows}
use Rattle.model.specs.MirrorExact.{Carries, StepsTo, AStep, HasRoom, counted, TookRow, SubstrateExact, TookPlace, LocationExact, IntakeIsExact}
use Rattle.model.proofs.Basics.{same_true, same_refl, occupied_some}
use Rattle.model.proofs.Single.{sound-row}
use Rattle.model.proofs.Worded.{can-takes}
use Rattle.model.proofs.Performing.{own_wafer, other_wafer, row-taken, shows_told}
use Rattle.model.proofs.Exacting.{row_named}

-- the row of a number has that number

numbered_next : (n k : ℕ) (r s : Row) (other : Option Row) → row_number r ≡ k → (other ≡ Some s → row_number s ≡ n) → when (eqb n k) r other ≡ Some s → row_number s ≡ n
numbered_next n k r s other e rest h = go (eqb n k) refl h
  where
    go : (b : Bool) → eqb n k ≡ b → cond b (Some r) other ≡ Some s → row_number s ≡ n
    go true x h = ap row_number (sym (same_Some r s h)) ∙ e ∙ sym (eqb-true n k x)
    go false x h = rest h

numbered : (n : ℕ) (f : Fields) (s : Row) → row_of n f ≡ Some s → row_number s ≡ n
numbered n f s =
    numbered_next n 1 (enter f.place f.destination) s _ refl
    (numbered_next n 2 (move row2 f.place) s _ refl
    (numbered_next n 3 (move row3 f.place) s _ refl
    (numbered_next n 4 (move row4 f.place) s _ refl
    (numbered_next n 5 (move row5 f.place) s _ refl
    (numbered_next n 6 (move row6 f.place) s _ refl
    (numbered_next n 7 (leave row7) s _ refl
    (numbered_next n 8 (change row8) s _ refl
    (numbered_next n 9 (leave row9) s _ refl
    (numbered_next n 10 (change (row10 f.reading)) s _ refl
    (numbered_next n 11 (change row11) s _ refl
    (numbered_next n 12 (change (row12 f.processing)) s _ refl
    (numbered_next n 13 (change row13) s _ refl
    (numbered_next n 14 (change (row14 f.processing)) s _ refl
    (numbered_next n 17 (change (row17 f.acquired)) s _ refl
    (numbered_next n 18 (change (row18 f.acquired)) s _ refl
    (numbered_next n 19 (change (row19 f.acquired)) s _ refl
    (numbered_next n 20 (change row20) s _ refl
    (numbered_next n 21 (change row21) s None refl (λ e. absurd (none-some s e))))))))))))))))))))

-- it goes by these fields of the report alone
abbrev row_by : ℕ → ℕ → ℕ → ℕ → ℕ → Text → Option Row
row_by n p d pr rd a = row_of n (record { family = 0; row = n; transport = 0; processing = pr; reading = rd; spare = 0; time = 0; place = p; source = 0; destination = d; id = []; acquired = a })

same_row : (n : ℕ) (f : Fields) (w : Wafer) → Carries f w → row_by n f.place f.destination f.processing f.reading f.acquired ≡ row_by n w.place w.destination w.processing w.reading w.acquired
same_row n f w c =
    ap (λ (y : ℕ). row_by n y f.destination f.processing f.reading f.acquired) c.place
    ∙ ap (λ (y : ℕ). row_by n w.place y f.processing f.reading f.acquired) c.destination
    ∙ ap (λ (y : ℕ). row_by n w.place w.destination y f.reading f.acquired) c.processing
    ∙ ap (λ (y : ℕ). row_by n w.place w.destination w.processing y f.acquired) c.reading
    ∙ ap (λ (y : Text). row_by n w.place w.destination w.processing w.reading y) c.acquired

-- the report shows the wafer

carries_from : (w : Wafer) (f : Fields) → matches w f ≡ true → Carries f w
carries_from w f h =
    let a = and_parts _ _ h in
    let b = and_parts _ _ a.1 in
    let c = and_parts _ _ b.1 in
    let d = and_parts _ _ c.1 in
    let e = and_parts _ _ d.1 in
    let g = and_parts _ _ e.1 in
    record {
      place = sym (eqb-true w.place f.place a.0);
      source = sym (eqb-true w.source f.source b.0);
      destination = sym (eqb-true w.destination f.destination c.0);
      transport = sym (eqb-true w.transport f.transport d.0);
      processing = sym (eqb-true w.processing f.processing e.0);
      reading = sym (eqb-true w.reading f.reading g.0);
      acquired = sym (same_true w.acquired f.acquired g.1);
    }

from_carries : (w : Wafer) (f : Fields) → Carries f w → matches w f ≡ true
from_carries w f c =
    and_from _ _ (eq-eqb w.place f.place (sym c.place))
    (and_from _ _ (eq-eqb w.source f.source (sym c.source))
    (and_from _ _ (eq-eqb w.destination f.destination (sym c.destination))
    (and_from _ _ (eq-eqb w.transport f.transport (sym c.transport))
    (and_from _ _ (eq-eqb w.processing f.processing (sym c.processing))
    (and_from _ _ (eq-eqb w.reading f.reading (sym c.reading))
    (ap (bytes_eq w.acquired) c.acquired ∙ same_refl w.acquired))))))

shows_standing : (o next : Option Wafer) (w : Wafer) → Shows o next w → w ≡ standing next o
shows_standing o (Some v) w s = s
shows_standing (Some v) None w s = s
shows_standing None None w s = absurd s

-- a row other than row 1 needs no room

later_leg : (l : Leg) → 2 ≤ leg_number l
later_leg row2 = omega arith
later_leg row3 = omega arith
later_leg row4 = omega arith
later_leg row5 = omega arith
later_leg row6 = omega arith

later_exit : (e : Exit) → 2 ≤ exit_number e
later_exit row7 = omega arith
later_exit row9 = omega arith

later-change : (g : Change) → 2 ≤ change_number g
later-change row8 = omega arith
later-change (row10 r) = omega arith
later-change row11 = omega arith
later-change (row12 p) = omega arith
later-change row13 = omega arith
later-change (row14 p) = omega arith
later-change (row17 a) = omega arith
later-change (row18 a) = omega arith
later-change (row19 a) = omega arith
later-change row20 = omega arith
later-change row21 = omega arith

has_room : (n u : ℕ) (r : Row) → has_row n r u ≡ true → row_number r ≡ 1 → u < n
has_room n u (enter p d) h e = ltb-true u n h
has_room n u (move l q) h e = let k = later_leg l in absurd (omega arith)
has_room n u (leave x) h e = let k = later_exit x in absurd (omega arith)
has_room n u (change g) h e = let k = later-change g in absurd (omega arith)

no_room : (n u : ℕ) (r : Row) → has_row n r u ≡ false → (row_number r ≡ 1) × (n ≤ u)
no_room n u (enter p d) h = (refl, ltb-false u n h)
no_room n u (move l q) h = absurd (true≢false h)
no_room n u (leave x) h = absurd (true≢false h)
no_room n u (change g) h = absurd (true≢false h)

counted-after : (r : Row) (u : ℕ) → used_after r u ≡ counted (row_number r) u
counted-after (enter p d) u = refl
counted-after (move row2 q) u = refl
counted-after (move row3 q) u = refl
counted-after (move row4 q) u = refl
counted-after (move row5 q) u = refl
counted-after (move row6 q) u = refl
counted-after (leave row7) u = refl
counted-after (leave row9) u = refl
counted-after (change row8) u = refl
counted-after (change (row10 r)) u = refl
counted-after (change row11) u = refl
counted-after (change (row12 p)) u = refl
counted-after (change row13) u = refl
counted-after (change (row14 p)) u = refl
counted-after (change (row17 a)) u = refl
counted-after (change (row18 a)) u = refl
counted-after (change (row19 a)) u = refl
counted-after (change row20) u = refl
counted-after (change row21) u = refl

-- answers differ

taken-fault : (B : Type 0) (m : Mirror) (k : ℕ) → taken m ≡ fault k → B
taken-fault B m k e = let z : ◌≡◌ {A = ℕ} 0 1 = cc in absurd (let y : ⊥ = omega arith in y)

taken_same : (m m' : Mirror) → taken m ≡ taken m' → m ≡ m'
taken_same m m' e = cc

fault_same : (j k : ℕ) → fault j ≡ fault k → j ≡ k
fault_same j k e = cc

module _ (at : Sites) (n : ℕ) (m : Mirror) (f : Fields) where
  -- a row that the report names and the mirror can take is a step in words, and the other way round

  step_words : (r : Row) → row_of f.row f ≡ Some r → is_step at m f r ≡ true → StepsTo at m f (after (at_time f.time) (m.contents.wafer f.id) r)
  step_words r e h =
      let u = and_parts _ _ h in
      let v = and_parts _ _ u.1 in
      let o : Option Wafer = m.contents.wafer f.id in
      record {
        row = subst (λ (k : ℕ). Takes at m.contents.occupant (at_time f.time) f.id k o (after (at_time f.time) o r)) (numbered f.row f r e) (can-takes at m.contents.occupant (at_time f.time) f.id o r u.0);
        in_time = leb-true m.last f.time v.0;
        shown = (told (at_time f.time) o r, shows_told at m.contents.occupant f.id (at_time f.time) o r u.0, carries_from (told (at_time f.time) o r) f v.1);
      }

  words_step : (next : Option Wafer) → StepsTo at m f next → (r : Row) × (row_of f.row f ≡ Some r) × (is_step at m f r ≡ true)
  words_step next s =
      let o : Option Wafer = m.contents.wafer f.id in
      let u = row_named at m.contents.occupant f.id f.time f.row o next s.row in
      let w : Wafer = s.shown.0 in
      let e : w ≡ standing next o = shows_standing o next w s.shown.1 in
      let c : Carries f (standing next o) = subst (Carries f) e s.shown.2 in
      let told-so : told (at_time f.time) o u.0 ≡ standing next o = ap (λ (v : Option Wafer). standing v o) u.2 in (
        u.0,
        same_row f.row f (standing next o) c ∙ u.3,
        and_from _ _ u.1 (and_from _ _ (le-leb m.last f.time s.in_time) (ap (λ (v : Wafer). matches v f) told-so ∙ from_carries (standing next o) f c)),
      )

  took_row : (r : Row) → row_of f.row f ≡ Some r → is_step at m f r ≡ true → TookRow at m f (taken_row m f r)
  took_row r e h =
      let c : Contents = m.contents in
      let x = at_time f.time in
      let k : row_number r ≡ f.row = numbered f.row f r e in
      let can-do : can at c f.id r ≡ true = (and_parts _ _ h).0 in
      record {
        step = subst (StepsTo at m f) (sym (own_wafer x f.id r c)) (step_words r e h);
        others = λ i a. other_wafer x f.id i r c a;
        used = counted-after r c.used ∙ ap (λ (j : ℕ). counted j c.used) k;
        whole = λ s. subst (λ (j : ℕ). RowTaken at x f.id j c (effect x f.id r c)) k (row-taken at c f.id x r s can-do);
        sound = λ s. sound-row at c f.id x r s can-do;
        seen = refl;
        last = refl;
      }

  intake-row : (o : Option Row) → f.family ≡ 0 → row_of f.row f ≡ o → intake at n m f ≡ take_row at n m f o
  intake-row o z e = cond-true (eqb f.family 0) _ _ (eq-eqb f.family 0 z) ∙ ap (take_row at n m f) e

  no_step : intake at n m f ≡ fault 17 → (AStep at m f → ⊥) → SubstrateExact at n m f
  no_step e never = record {
    is_taken = λ s h. absurd (never s);
    was_taken = λ m' g. taken-fault _ m' 17 (sym g ∙ e);
    is_17 = λ s. e;
    was_17 = λ g. never;
    is_18 = λ s h l. absurd (never s);
    was_18 = λ g. absurd (unlike (fault_same 17 18 (sym e ∙ g)));
    no_other = λ k g. inl (fault_same k 17 (sym g ∙ e));
  }
    where
      unlike : ◌≡◌ {A = ℕ} 17 18 → ⊥
      unlike z = omega arith

  a_step : (r : Row) → row_of f.row f ≡ Some r → is_step at m f r ≡ true → intake at n m f ≡ cond (has_row n r m.contents.used) (taken (taken_row m f r)) (fault 18) → SubstrateExact at n m f
  a_step r e h i = go (has_row n r m.contents.used) refl i
    where
      step : AStep at m f
      step = (after (at_time f.time) (m.contents.wafer f.id) r, step_words r e h)

      first : row_number r ≡ f.row
      first = numbered f.row f r e

      unlike : ◌≡◌ {A = ℕ} 18 17 → ⊥
      unlike z = omega arith

      go : (b : Bool) → has_row n r m.contents.used ≡ b → intake at n m f ≡ cond b (taken (taken_row m f r)) (fault 18) → SubstrateExact at n m f
      go true x i = record {
        is_taken = λ s y. (taken_row m f r, i);
        was_taken = λ m' g. subst (λ (k : Mirror). HasRoom n m f × TookRow at m f k) (taken_same (taken_row m f r) m' (sym i ∙ g)) (room, took_row r e h);
        is_17 = λ never. absurd (never step);
        was_17 = λ g. taken-fault _ (taken_row m f r) 17 (sym i ∙ g);
        is_18 = λ s y l. absurd (full y l);
        was_18 = λ g. taken-fault _ (taken_row m f r) 18 (sym i ∙ g);
        no_other = λ k g. taken-fault _ (taken_row m f r) k (sym i ∙ g);
      }
        where
          room : f.row ≡ 1 → m.contents.used < n
          room y = has_room n m.contents.used r x (first ∙ y)

          full : f.row ≡ 1 → n ≤ m.contents.used → ⊥
          full y l = let k = room y in omega arith
      go false x i = record {
        is_taken = λ s y. absurd (full y);
        was_taken = λ m' g. taken-fault _ m' 18 (sym g ∙ i);
        is_17 = λ never. absurd (never step);
        was_17 = λ g s. unlike (fault_same 18 17 (sym i ∙ g));
        is_18 = λ s y l. i;
        was_18 = λ g. (step, sym first ∙ none.0, none.1);
        no_other = λ k g. inr (fault_same k 18 (sym g ∙ i));
      }
        where
          none : (row_number r ≡ 1) × (n ≤ m.contents.used)
          none = no_room n m.contents.used r x

          full : HasRoom n m f → ⊥
          full y = let k : m.contents.used < n = y (sym first ∙ none.0) in let l : n ≤ m.contents.used = none.1 in omega arith

  substrate_exact : f.family ≡ 0 → SubstrateExact at n m f
  substrate_exact z = go (row_of f.row f) refl
    where
      go : (o : Option Row) → row_of f.row f ≡ o → SubstrateExact at n m f
      go None e = no_step (intake-row None z e) (λ s. let u = words_step s.0 s.1 in none-some u.0 (sym e ∙ u.1))
      go (Some r) e = by (is_step at m f r) refl
        where
          by : (b : Bool) → is_step at m f r ≡ b → SubstrateExact at n m f
          by true h = a_step r e h (intake-row (Some r) z e ∙ cond-true (is_step at m f r) _ _ h)
          by false h = no_step (intake-row (Some r) z e ∙ cond-false (is_step at m f r) _ _ h)
              (λ s. let u = words_step s.0 s.1 in both_ways _ h (ap (is_step at m f) (same_Some r u.0 (sym e ∙ u.1)) ∙ u.2))

  took_place : TookPlace m f (taken_place m f)
  took_place = record {
    occupied = λ e. here ∙ cond-true (eqb f.row 1) _ _ (eq-eqb f.row 1 e);
    unoccupied = λ a. here ∙ cond-false (eqb f.row 1) _ _ (ne_eqb f.row 1 a);
    elsewhere = λ p a. cond-false (eqb p f.place) _ _ (ne_eqb p f.place a);
    contents = refl;
    last = refl;
  }
    where
      here : (taken_place m f).seen f.place ≡ occupant_told f
      here = cond-true (eqb f.place f.place) _ _ (eq-eqb f.place f.place refl)

  location_exact : Other f.family 0 → LocationExact at n m f
  location_exact z = go (listed at f.place) refl (cond-false (eqb f.family 0) _ _ (ne_eqb f.family 0 z))
    where
      go : (b : Bool) → listed at f.place ≡ b → intake at n m f ≡ cond b (taken (taken_place m f)) (fault 17) → LocationExact at n m f
      go true x i = record {
        is_taken = λ l. (taken_place m f, i);
        was_taken = λ m' g. subst (λ (k : Mirror). Listed at f.place × TookPlace m f k) (taken_same (taken_place m f) m' (sym i ∙ g)) (occupied_some (at f.place) x, took_place);
        is_17 = λ never. absurd (never (occupied_some (at f.place) x));
        was_refused = λ k g. taken-fault _ (taken_place m f) k (sym i ∙ g);
      }
      go false x i = record {
        is_taken = λ l. absurd (unlisted l);
        was_taken = λ m' g. taken-fault _ m' 17 (sym g ∙ i);
        is_17 = λ never. i;
        was_refused = λ k g. (fault_same k 17 (sym g ∙ i), unlisted);
      }
        where
          unlisted : Listed at f.place → ⊥
          unlisted l = both_ways _ x (ap is_some l.1)

pub intake_is_exact : IntakeIsExact
intake_is_exact at n m f = record {
  substrate = substrate_exact at n m f;
  location = location_exact at n m f;
  refused = λ k e. ap (held_after m) e;
}
