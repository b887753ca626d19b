-- The plan of the cabinet and the place rows that it is read from.
use Rattle.std.proofs.Common.{◌≡◌, ℕ, zero, suc, ◌+◌, Bool, true, false, cond, not, ◌&&◌, eqb, ltb, List, [], ◌∷◌, set, Some, None, Option, refl, ap, ◌∙◌, is_some, position}
use Rattle.std.specs.List.{position_or_len}
use Rattle.std.specs.Option.{option_map}
use Rattle.std.proofs.lemmas.List.{length-map}
use Rattle.table.specs.Lookup.{bears, row_at}
use Rattle.model.specs.Calls.{promised_to}
use Rattle.model.specs.Places.{code_at, index, listed, sites}
use Rattle.model.specs.Wafers.{Text}
use Rattle.values.specs.Values.{coded}
use Rattle.wafers.specs.Spots.{plan, spot_of}
use Rattle.wafers.specs.Views.{place_row, promises_of}
use Rattle.wafers.specs.declared.place.Place.{Place}
use Rattle.wafers.specs.declared.place.Promise.{Promise}

either_row : {X Y : Type 0} (f : X → Y) (b : Bool) (x : X) (y : Option Y) (o : Option X) → y ≡ option_map f o → cond b (Some (f x)) y ≡ option_map f (cond b (Some x) o)
either_row f true x y o e = refl
either_row f false x y o e = e

pub occupied_mapped : {X Y : Type 0} (f : X → Y) (o : Option X) → is_some (option_map f o) ≡ is_some o
occupied_mapped f None = refl
occupied_mapped f (Some x) = refl

module _ {N : Type 0} where
  -- the place with a code, by the plan and by the rows
  pub plan-sites : (rows : List (Option (Place N))) (p : ℕ) → sites (plan rows) p ≡ option_map spot_of (place_row rows p)
  plan-sites [] p = refl
  plan-sites (None ∷ rows) p = plan-sites rows p
  plan-sites (Some r ∷ rows) p = either_row spot_of (eqb (coded r.code) p) r (sites (plan rows) p) (place_row rows p) (plan-sites rows p)

  pub plan-listed : (rows : List (Option (Place N))) (p : ℕ) → listed (sites (plan rows)) p ≡ is_some (place_row rows p)
  plan-listed rows p = ap is_some (plan-sites rows p) ∙ occupied_mapped spot_of (place_row rows p)

  -- the position of a code, which is that of its switch
  pub plan-index : (rows : List (Option (Place N))) (p : ℕ) → index (plan rows) p ≡ position (bears (λ r. coded r.code) eqb p) rows
  plan-index rows p = λ i. cond (ltb (first rows i) (length-map rows (option_map spot_of) i)) (Some (first rows i)) None
    where
      first : (rows : List (Option (Place N))) → position_or_len (bears (λ s. s.code) eqb p) (plan rows) ≡ position_or_len (bears (λ r. coded r.code) eqb p) rows
      first [] = refl
      first (None ∷ rows) = ap (λ n. 1 + n) (first rows)
      first (Some r ∷ rows) = ap (λ n. cond (not (eqb (coded r.code) p)) (1 + n) 0) (first rows)

  pub plan-code-at : (rows : List (Option (Place N))) (i : ℕ) → code_at (plan rows) i ≡ option_map (λ r. coded r.code) (row_at rows i)
  plan-code-at [] i = refl
  plan-code-at (None ∷ rows) zero = refl
  plan-code-at (Some r ∷ rows) zero = refl
  plan-code-at (None ∷ rows) (suc i) = plan-code-at rows i
  plan-code-at (Some r ∷ rows) (suc i) = plan-code-at rows i

  -- a row that keeps its code and its kind keeps the plan
  pub plan-set : (rows : List (Option (Place N))) (i : ℕ) (o : Option (Place N)) → option_map spot_of o ≡ option_map spot_of (row_at rows i) → plan (set rows i o) ≡ plan rows
  plan-set [] i o e = refl
  plan-set (x ∷ rows) zero o e = ap (λ s. s ∷ plan rows) e
  plan-set (x ∷ rows) (suc i) o e = ap (λ ss. option_map spot_of x ∷ ss) (plan-set rows i o e)

-- a place that is promised to a wafer is listed
pub promised_listed : (rows : List (Option (Place (Option Promise)))) (p : ℕ) (id : Text) → promised_to (promises_of rows p) id ≡ (listed (sites (plan rows)) p && promised_to (promises_of rows p) id)
promised_listed rows p id = found (place_row rows p) refl
  where
    found : (o : Option (Place (Option Promise))) → place_row rows p ≡ o → promised_to (promises_of rows p) id ≡ (listed (sites (plan rows)) p && promised_to (promises_of rows p) id)
    found None e = simp (plan-listed rows p, e)
    found (Some r) e = simp (plan-listed rows p, e)
