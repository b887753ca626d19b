-- Texts that are the same, places that are there, tests that come apart.
use Rattle.std.proofs.Common.{◌≡◌, Bool, true, false, ◌&&◌, ◌⊎◌, Some, None, Option, refl, ap, inl, inr, is_some, is_none}
use Rattle.std.specs.Str.{bytes_eq}
use Rattle.std.proofs.lemmas.Slice.Eq.{bytes_eq-Decides}
use Rattle.std.proofs.lemmas.Bool.{false≢true, both_ways}
use Rattle.model.specs.Wafers.{Text, Wafer}
use Rattle.model.specs.Rows.{Change, row8, row10, row11, row12, row13, row14, row17, row18, row19, row20, row21, changed}

pub same_true : (a b : Text) → bytes_eq a b ≡ true → a ≡ b
same_true a b e = (bytes_eq-Decides a b).0 e

pub same_refl : (a : Text) → bytes_eq a a ≡ true
same_refl a = (bytes_eq-Decides a a).1 refl

pub same_false : (a b : Text) → (a ≡ b → ⊥) → bytes_eq a b ≡ false
same_false a b n = go (bytes_eq a b) refl
  where
    go : (t : Bool) → bytes_eq a b ≡ t → t ≡ false
    go true e = absurd (n (same_true a b e))
    go false e = refl

pub same_tells : (a b : Text) → ((bytes_eq a b ≡ true) × (a ≡ b)) ⊎ ((bytes_eq a b ≡ false) × (a ≡ b → ⊥))
same_tells a b = go (bytes_eq a b) refl
  where
    go : (t : Bool) → bytes_eq a b ≡ t → ((bytes_eq a b ≡ true) × (a ≡ b)) ⊎ ((bytes_eq a b ≡ false) × (a ≡ b → ⊥))
    go true e = inl (e, same_true a b e)
    go false e = inr (e, λ p. both_ways _ e ((bytes_eq-Decides a b).1 p))

pub none-vacant : {A : Type 0} (o : Option A) → o ≡ None → is_none o ≡ true
none-vacant o e = ap is_none e

pub occupied_some : {A : Type 0} (o : Option A) → is_some o ≡ true → (a : A) × (o ≡ Some a)
occupied_some None e = absurd (false≢true e)
occupied_some (Some a) e = (a, refl)

pub neither : (a b : Bool) → ((a && false) && b) ≡ true → ⊥
neither true b h = false≢true h
neither false b h = false≢true h

-- a change leaves the wafer where it is, and its history as it was
pub changed_stays : (g : Change) (w : Wafer) → ((changed g w).place ≡ w.place) × ((changed g w).history ≡ w.history)
changed_stays row8 w = (refl, refl)
changed_stays (row10 r) w = (refl, refl)
changed_stays row11 w = (refl, refl)
changed_stays (row12 p) w = (refl, refl)
changed_stays row13 w = (refl, refl)
changed_stays (row14 p) w = (refl, refl)
changed_stays (row17 a) w = (refl, refl)
changed_stays (row18 a) w = (refl, refl)
changed_stays (row19 a) w = (refl, refl)
changed_stays row20 w = (refl, refl)
changed_stays row21 w = (refl, refl)
