-- The steps of a call: they are rows of the table, the mirror takes their reports, and the record stays sound.
use Rattle.std.proofs.Common.{◌≡◌, ℕ, ◌≤◌, Bool, true, false, cond, ◌&&◌, eqb, List, [], ◌∷◌, ◌++◌, Some, None, Option, sym, refl, ap, ◌∙◌, subst, le_refl, arith}
use Rattle.std.specs.Str.{bytes_eq}
use Rattle.std.proofs.lemmas.Bool.{false≢true, and_parts, cond-true, cond-false}
use Rattle.std.proofs.lemmas.Bool.Decides.{nat_tests as testing}
use Rattle.std.proofs.lemmas.Option.{none-some, same_Some}
use Rattle.reports.specs.Fields.{Fields}
use Rattle.model.specs.Wafers.{Text, Times, at_time, Wafer}
use Rattle.model.specs.Places.{Sites, listed, Contents, put_code}
use Rattle.model.specs.Reporting.{location_report}
use Rattle.model.specs.Rows.{Row, enter, move, leave, change, row_number, can, can_from, after, used_after, effect, told}
use Rattle.model.specs.Steps.{Step, takes, tells, step_effect, can_step, can_all, perform, reports_of}
use Rattle.model.specs.Mirroring.{Mirror, Intake, taken, fault, has_row, intake, intake_all, hears, held_after}
use Rattle.model.specs.Transitions.{Other, home, Takes, RowTaken, Shows, Traced, nothing, location, substrate}
use Rattle.model.specs.Runs.{NameEachOther, Sound}
use Rattle.model.proofs.Basics.{same_refl, same_false}
use Rattle.model.proofs.Single.{mirror-row, sound-row}
use Rattle.model.proofs.Worded.{can-takes}

pub own_wafer : (t : Times) (id : Text) (r : Row) (c : Contents) → (effect t id r c).wafer id ≡ after t (c.wafer id) r
own_wafer t id r c = cond-true (bytes_eq id id) _ _ (same_refl id)

pub other_wafer : (t : Times) (id i : Text) (r : Row) (c : Contents) → Other i id → (effect t id r c).wafer i ≡ c.wafer i
other_wafer t id i r c n = cond-false (bytes_eq i id) _ _ (same_false i id n)

-- which places change their occupant follows from who is where before and after
module _ (id : Text) (occ occ' : ℕ → Option Text) (place place' : Text → Option ℕ) (l : NameEachOther occ place) (l' : NameEachOther occ' place') (others : (i : Text) → Other i id → place' i ≡ place i) where
  left-none : (p : ℕ) → place id ≡ Some p → Other (place' id) (Some p) → occ' p ≡ None
  left-none p e n = go (occ' p) refl
    where
      go : (o : Option Text) → occ' p ≡ o → o ≡ None
      go None h = refl
      go (Some i) h =
          let there : place' i ≡ Some p = (l' p i).0 h in
          let apart : Other i id = λ x. n (ap place' (sym x) ∙ there) in
          let before : occ p ≡ Some i = (l p i).1 (sym (others i apart) ∙ there) in
          let here : occ p ≡ Some id = (l p id).1 e in
          absurd (apart (same_Some i id (sym before ∙ here)))

  stays_same : (p : ℕ) → Other (place id) (Some p) → Other (place' id) (Some p) → occ' p ≡ occ p
  stays_same p n n' = go (occ' p) refl (occ p) refl
    where
      go : (o : Option Text) → occ' p ≡ o → (u : Option Text) → occ p ≡ u → o ≡ u
      go None h None k = refl
      go None h (Some i) k =
          let there : place i ≡ Some p = (l p i).0 k in
          let apart : Other i id = λ x. n (ap place (sym x) ∙ there) in
          let now : occ' p ≡ Some i = (l' p i).1 (others i apart ∙ there) in
          absurd (none-some i (sym h ∙ now))
      go (Some i) h u k =
          let there : place' i ≡ Some p = (l' p i).0 h in
          let apart : Other i id = λ x. n' (ap place' (sym x) ∙ there) in
          let before : occ p ≡ Some i = (l p i).1 (sym (others i apart) ∙ there) in
          sym before ∙ k

-- a row that can be taken is a row taken, of the whole record
pub row-taken : (at : Sites) (c : Contents) (id : Text) (t : Times) (r : Row) → Sound at c → can at c id r ≡ true → RowTaken at t id (row_number r) c (effect t id r c)
row-taken at c id t r s h =
    let d : Contents = effect t id r c in
    let s' : Sound at d = sound-row at c id t r s h in
    let others : (i : Text) → Other i id → d.wafer i ≡ c.wafer i = λ i n. other_wafer t id i r c n in
    let places : (i : Text) → Other i id → home (d.wafer i) ≡ home (c.wafer i) = λ i n. ap home (others i n) in
    record {
      row = subst (Takes at c.occupant t id (row_number r) (c.wafer id)) (sym (own_wafer t id r c)) (can-takes at c.occupant t id (c.wafer id) r h);
      others = others;
      reached = λ p e. (s'.linked p id).1 e;
      left = left-none id c.occupant d.occupant (λ i. home (c.wafer i)) (λ i. home (d.wafer i)) s.linked s'.linked places;
      elsewhere = stays_same id c.occupant d.occupant (λ i. home (c.wafer i)) (λ i. home (d.wafer i)) s.linked s'.linked places;
    }

pub shows_told : (at : Sites) (occ : ℕ → Option Text) (id : Text) (t : Times) (o : Option Wafer) (r : Row) → can_from at occ id o r ≡ true → Shows o (after t o r) (told t o r)
shows_told at occ id t None (enter p d) h = refl
shows_told at occ id t None (move l q) h = absurd (false≢true h)
shows_told at occ id t None (leave e) h = absurd (false≢true h)
shows_told at occ id t None (change g) h = absurd (false≢true h)
shows_told at occ id t (Some w) (enter p d) h = refl
shows_told at occ id t (Some w) (move l q) h = refl
shows_told at occ id t (Some w) (leave e) h = refl
shows_told at occ id t (Some w) (change g) h = refl

-- the record after each step
pub sound-step : (at : Sites) (c : Contents) (t : Times) (s : Step) → Sound at c → can_step at c s ≡ true → Sound at (step_effect t s c)
sound-step at c t (takes id r) s h = sound-row at c id t r s h
sound-step at c t (tells p o) s h = s

pub sound_all : (at : Sites) (t : Times) (ss : List Step) (c : Contents) → Sound at c → can_all at t c ss ≡ true → Sound at (perform t c ss)
sound_all at t [] c s h = s
sound_all at t (x ∷ ss) c s h =
    let u = and_parts (can_step at c x) (can_all at t (step_effect t x c) ss) h in
    sound_all at t ss (step_effect t x c) (sound-step at c t x s u.0) u.1

-- the reports are rows of the table, in order
pub traced : (at : Sites) (hush : ℕ → Bool) (t : Times) (ss : List Step) (c : Contents) → Sound at c → can_all at t c ss ≡ true → Traced at t c (reports_of hush t c ss) (perform t c ss)
traced at hush t [] c s h = nothing c
traced at hush t (takes id r ∷ ss) c s h =
    let u = and_parts (can at c id r) (can_all at t (effect t id r c) ss) h in
    let m : Contents = effect t id r c in
    let w : Wafer = told t (c.wafer id) r in
    let shown : Shows (c.wafer id) (m.wafer id) w = subst (λ (o : Option Wafer). Shows (c.wafer id) o w) (sym (own_wafer t id r c)) (shows_told at c.occupant id t (c.wafer id) r u.0) in
    substrate c m (perform t m ss) id (row_number r) w (reports_of hush t m ss) (row-taken at c id t r s u.0) shown (traced at hush t ss m (sound-row at c id t r s u.0) u.1)
traced at hush t (tells p o ∷ ss) c s h = go (hush p) (traced at hush t ss c s h)
  where
    go : (b : Bool) → Traced at t c (reports_of hush t c ss) (perform t c ss) → Traced at t c (cond b [] (location_report t p o ∷ []) ++ reports_of hush t c ss) (perform t c ss)
    go true rest = rest
    go false rest = location c (perform t c ss) p o (reports_of hush t c ss) rest

-- what the mirror hears of places: all location reports, or those that are not left out

abbrev pub told_places : List Step → (ℕ → Option Text) → ℕ → Option Text
told_places [] occ = occ
told_places (takes id r ∷ ss) occ = told_places ss occ
told_places (tells p o ∷ ss) occ = told_places ss (put_code p o occ)

abbrev pub heard_places : (ℕ → Bool) → List Step → (ℕ → Option Text) → ℕ → Option Text
heard_places hush [] seen = seen
heard_places hush (takes id r ∷ ss) seen = heard_places hush ss seen
heard_places hush (tells p o ∷ ss) seen = heard_places hush ss (cond (hush p) seen (put_code p o seen))

pub heard_told : (hush : ℕ → Bool) (ss : List Step) (seen occ : ℕ → Option Text) (p : ℕ) → hush p ≡ false → seen p ≡ occ p → heard_places hush ss seen p ≡ told_places ss occ p
heard_told hush [] seen occ p h e = e
heard_told hush (takes id r ∷ ss) seen occ p h e = heard_told hush ss seen occ p h e
heard_told hush (tells q o ∷ ss) seen occ p h e = heard_told hush ss (cond (hush q) seen (put_code q o seen)) (put_code q o occ) p h (go (hush q) refl)
  where
    go : (b : Bool) → hush q ≡ b → cond b seen (put_code q o seen) p ≡ put_code q o occ p
    go true x = grind (arith, testing)
    go false x = ap (cond (eqb p q) o) e

-- the places that are told of are listed
abbrev pub tells-listed : Sites → List Step → Type 0
tells-listed at [] = Unit {0}
tells-listed at (takes id r ∷ ss) = tells-listed at ss
tells-listed at (tells p o ∷ ss) = (listed at p ≡ true) × tells-listed at ss

-- the mirror has a row free for each wafer that is registered
abbrev pub rooms : ℕ → ℕ → List Step → Bool
rooms n u [] = true
rooms n u (takes id r ∷ ss) = has_row n r u && rooms n (used_after r u) ss
rooms n u (tells p o ∷ ss) = rooms n u ss

pub record Mirrored (at : Sites) (n : ℕ) (hush : ℕ → Bool) (x : ℕ) (c : Contents) (seen : ℕ → Option Text) (last : ℕ) (ss : List Step) : Type 0 where
  pub now_last : ℕ
  pub accepted : intake_all at n (taken (record { contents = c; seen = seen; last = last })) (reports_of hush (at_time x) c ss) ≡ taken (record { contents = perform (at_time x) c ss; seen = heard_places hush ss seen; last = now_last })
  pub in_time : now_last ≤ x

intake-place : (at : Sites) (n x p : ℕ) (o : Option Text) (c : Contents) (seen : ℕ → Option Text) (last : ℕ) → listed at p ≡ true → intake at n (record { contents = c; seen = seen; last = last }) (location_report (at_time x) p o) ≡ taken (record { contents = c; seen = put_code p o seen; last = last })
intake-place at n x p None c seen last h = cond-true (listed at p) _ _ h
intake-place at n x p (Some i) c seen last h = cond-true (listed at p) _ _ h

pub mirrored : (at : Sites) (n : ℕ) (hush : ℕ → Bool) (x : ℕ) (ss : List Step) (c : Contents) (seen : ℕ → Option Text) (last : ℕ)
    → can_all at (at_time x) c ss ≡ true → tells-listed at ss → rooms n c.used ss ≡ true → last ≤ x → Mirrored at n hush x c seen last ss
mirrored at n hush x [] c seen last h l k b = record { now_last = last; accepted = refl; in_time = b }
mirrored at n hush x (takes id r ∷ ss) c seen last h l k b =
    let u = and_parts (can at c id r) (can_all at (at_time x) (effect (at_time x) id r c) ss) h in
    let v = and_parts (has_row n r c.used) (rooms n (used_after r c.used) ss) k in
    let rest = mirrored at n hush x ss (effect (at_time x) id r c) seen x u.1 l v.1 (le_refl x) in
    record {
      now_last = rest.now_last;
      accepted = ap (λ (y : Intake). intake_all at n y (reports_of hush (at_time x) (effect (at_time x) id r c) ss)) (mirror-row at n c seen last id x r u.0 b v.0) ∙ rest.accepted;
      in_time = rest.in_time;
    }
mirrored at n hush x (tells p o ∷ ss) c seen last h l k b =
    let rest = mirrored at n hush x ss c (cond (hush p) seen (put_code p o seen)) last h l.1 k b in
    record { now_last = rest.now_last; accepted = go (hush p) _ rest.accepted; in_time = rest.in_time }
  where
    go : (q : Bool) (final : Intake) → intake_all at n (taken (record { contents = c; seen = cond q seen (put_code p o seen); last = last })) (reports_of hush (at_time x) c ss) ≡ final
        → intake_all at n (taken (record { contents = c; seen = seen; last = last })) (cond q [] (location_report (at_time x) p o ∷ []) ++ reports_of hush (at_time x) c ss) ≡ final
    go true final e = e
    go false final e = ap (λ (y : Intake). intake_all at n y (reports_of hush (at_time x) c ss)) (intake-place at n x p o c seen last l.0) ∙ e

-- a list of reports in two parts
pub intake_append : (at : Sites) (n : ℕ) (a b : List Fields) (y : Intake) → intake_all at n y (a ++ b) ≡ intake_all at n (intake_all at n y a) b
intake_append at n [] b (taken m) = refl
intake_append at n [] b (fault k) = refl
intake_append at n (f ∷ a) b (taken m) = intake_append at n a b (intake at n m f)
intake_append at n (f ∷ a) b (fault k) = intake_append at n a b (fault k)

fault-stays : (at : Sites) (n k : ℕ) (fs : List Fields) → intake_all at n (fault k) fs ≡ fault k
fault-stays at n k [] = refl
fault-stays at n k (f ∷ fs) = fault-stays at n k fs

-- a mirror that takes all reports has heard them
pub hears-taken : (at : Sites) (n : ℕ) (fs : List Fields) (m m' : Mirror) → intake_all at n (taken m) fs ≡ taken m' → hears at n m fs ≡ m'
hears-taken at n [] m m' e = taken_same e
  where
    taken_same : taken m ≡ taken m' → m ≡ m'
    taken_same e = cc
hears-taken at n (f ∷ fs) m m' e = go (intake at n m f) (λ k. hears-taken at n fs k m') e
  where
    go : (y : Intake) → ((k : Mirror) → intake_all at n (taken k) fs ≡ taken m' → hears at n k fs ≡ m') → intake_all at n y fs ≡ taken m' → hears at n (held_after m y) fs ≡ m'
    go (taken k) again e = again k e
    go (fault k) again e = absurd (fault-taken (sym (fault-stays at n k fs) ∙ e))
      where
        fault-taken : fault k ≡ taken m' → ⊥
        fault-taken e = let z : ◌≡◌ {A = ℕ} 0 1 = cc in omega arith
