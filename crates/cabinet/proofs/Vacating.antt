-- A place that changes, and one that loses its occupant.
use Rattle.std.proofs.Common.{◌≡◌, ℕ, Bool, true, false, cond, eqb, List, Some, None, Option, sym, refl, ap, ◌∙◌, is_some}
use mathlib.Core.Path.{fun_ext}
use Rattle.std.specs.Option.{option_map, option_flatten}
use Rattle.std.proofs.lemmas.Bool.{false≢true, eqb-true}
use Rattle.model.specs.Wafers.{Text}
use Rattle.model.specs.Places.{sites, listed, put_code}
use Rattle.wafers.specs.declared.wafer.Wafer.{Wafer}
use Rattle.wafers.specs.declared.place.Place.{Place}
use Rattle.wafers.specs.Spots.{plan, occupant_of}
use Rattle.wafers.specs.Views.{place_row, occupants_of}
use Rattle.wafers.proofs.Plans.{plan-listed}
use Rattle.cabinet.specs.Views.{View, view_of, with_contents, occupied_by, vacated}

-- what a look-up finds anyway is set
put_same : {V : Type 0} (f : ℕ → V) (p : ℕ) (v : V) → f p ≡ v → put_code p v f ≡ f
put_same {V} f p v e = fun_ext (λ q. go q (eqb q p) refl)
  where
    go : (q : ℕ) (b : Bool) → eqb q p ≡ b → cond b v (f q) ≡ f q
    go q true x = sym (ap f (eqb-true q p x) ∙ e)
    go q false x = refl

module _ {N : Type 0} where
  -- a place that is not listed has no occupant
  pub none_there : (places : List (Option (Place N))) (p : ℕ) → listed (sites (plan places)) p ≡ false → occupants_of places p ≡ None
  none_there places p h = go (place_row places p) (sym (plan-listed places p) ∙ h)
    where
      go : (o : Option (Place N)) → is_some o ≡ false → option_flatten (option_map occupant_of o) ≡ None
      go None e = refl
      go (Some q) e = absurd (false≢true (sym e))

  pub vacated_shows : (wafers : List (Option Wafer)) (places : List (Option (Place N))) (p : ℕ) → occupied_by p None (view_of wafers places) ≡ vacated p (view_of wafers places)
  vacated_shows wafers places p = go (listed (sites (plan places)) p) refl
    where
      v : View N
      v = view_of wafers places

      go : (b : Bool) → listed (sites (plan places)) p ≡ b → cond b (vacated p v) v ≡ vacated p v
      go true x = refl
      go false x = ap (λ (o : ℕ → Option Text). with_contents (record { wafer = v.contents.wafer; used = v.contents.used; occupant = o }) v) (sym (put_same (occupants_of places) p None (none_there places p x)))
