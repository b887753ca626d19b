-- What looking up by key gives, before and after one row of the table changes.
use Rattle.std.proofs.Common.{◌≡◌, ℕ, zero, suc, ◌<◌, Bool, true, false, cond, not, List, [], ◌∷◌, length, set, is_some, Some, None, Decides, Option, sym, refl, ap, ◌∙◌, subst, ⊎_elim, arith}
use Rattle.std.proofs.lemmas.List.{get_or_past}
use Rattle.std.proofs.lemmas.Option.{none-some}
use Rattle.std.proofs.lemmas.Bool.{both_ways, cases_Bool, cases_lt, cond-true, cond-false, false≢true}
use Rattle.std.specs.List.{count_by, position}
use Rattle.table.specs.Lookup.{bears, lookup, row_at, row_found, Stands}
use Rattle.table.specs.Laws.{First, NoneFound}
use Rattle.table.proofs.Places.{NoneBelow, Leads, leads-position, count_some, vacant-none}

-- a row in use stands within the table
pub within : {R : Type 0} (rows : List (Option R)) (i : ℕ) (r : R) → row_at rows i ≡ Some r → i < length rows
within [] i r e = absurd (none-some r e)
within (x ∷ rows) zero r e = omega arith
within (x ∷ rows) (suc i) r e = omega (arith, within rows i r e)

module _ {R M : Type 0} (says : R → M) (tells : M → M → Bool) where
  -- what has a key is a row in use
  bears_some : (m : M) (x : Option R) → bears says tells m x ≡ true → is_some x ≡ true
  bears_some m None t = absurd (false≢true t)
  bears_some m (Some r) t = refl

  -- the row that is looked up stands at the first position with the key
  pub lookup-leads : (rows : List (Option R)) (m : M) (r : Option ℕ) → Leads (bears says tells m) rows r → lookup says tells rows m ≡ row_found rows r
  lookup-leads [] m None h = refl
  lookup-leads [] m (Some i) (l, t, h) = absurd (omega arith)
  lookup-leads (x ∷ rows) m None h =
      cond-false (bears says tells m x) _ _ (h 0 (omega arith)) ∙ lookup-leads rows m None (λ k l. h (suc k) (omega arith))
  lookup-leads (x ∷ rows) m (Some zero) (l, t, h) = cond-true (bears says tells m x) _ _ t
  lookup-leads (x ∷ rows) m (Some (suc i)) (l, t, h) =
      cond-false (bears says tells m x) _ _ (h 0 (omega arith)) ∙ lookup-leads rows m (Some i) (omega arith, t, λ k n. h (suc k) (omega arith))

  pub lookup-position : (rows : List (Option R)) (m : M) → lookup says tells rows m ≡ row_found rows (position (bears says tells m) rows)
  lookup-position rows m = lookup-leads rows m _ (leads-position (bears says tells m) rows)

  found_leads : (rows : List (Option R)) (m : M) (r : Option ℕ) → Leads (bears says tells m) rows r → is_some (lookup says tells rows m) ≡ is_some r
  found_leads rows m None h = ap is_some (lookup-leads rows m None h)
  found_leads rows m (Some i) (l, t, h) = ap is_some (lookup-leads rows m (Some i) (l, t, h)) ∙ bears_some m (row_at rows i) t

  -- a row is found exactly if there is a position for it
  pub found-position : (rows : List (Option R)) (m : M) → is_some (lookup says tells rows m) ≡ is_some (position (bears says tells m) rows)
  found-position rows m = found_leads rows m _ (leads-position (bears says tells m) rows)

  pub none-position : (rows : List (Option R)) (m : M) → NoneFound says tells m rows (position (bears says tells m) rows)
  none-position rows m = (
    (λ e. vacant-none _ (ap not (sym (found-position rows m) ∙ ap is_some e))),
    (λ e. lookup-position rows m ∙ ap (row_found rows) e),
  )

  -- no row has a key that is looked up in vain
  pub lookup_below : (rows : List (Option R)) (m : M) → lookup says tells rows m ≡ None → (k : ℕ) → bears says tells m (row_at rows k) ≡ false
  lookup_below rows m e k =
      let test : Option R → Bool = bears says tells m in
      let p : position test rows ≡ None = (none-position rows m).0 e in
      let h : Leads test rows None = subst (Leads test rows) p (leads-position test rows) in
      ⊎_elim (h k) (λ past. ap test (get_or_past rows k None past)) (cases_lt k (length rows))

  pub lookup_set_other : (rows : List (Option R)) (i : ℕ) (x : Option R) (m : M) → bears says tells m (row_at rows i) ≡ false → bears says tells m x ≡ false → lookup says tells (set rows i x) m ≡ lookup says tells rows m
  lookup_set_other [] i x m o n = refl
  lookup_set_other (y ∷ rows) zero x m o n = cond-false (bears says tells m x) _ _ n ∙ sym (cond-false (bears says tells m y) _ _ o)
  lookup_set_other (y ∷ rows) (suc i) x m o n = ap (λ z. cond (bears says tells m y) y z) (lookup_set_other rows i x m o n)

  pub lookup_set_first : (rows : List (Option R)) (i : ℕ) (x : Option R) (m : M) → i < length rows → NoneBelow (bears says tells m) rows i → bears says tells m x ≡ true → lookup says tells (set rows i x) m ≡ x
  lookup_set_first [] i x m l h t = absurd (omega arith)
  lookup_set_first (y ∷ rows) zero x m l h t = cond-true (bears says tells m x) _ _ t
  lookup_set_first (y ∷ rows) (suc i) x m l h t =
      cond-false (bears says tells m y) _ _ (h 0 (omega arith)) ∙ lookup_set_first rows i x m (omega arith) (λ k n. h (suc k) (omega arith)) t

  -- a key that no row counts for is looked up in vain
  pub lookup-count : (rows : List (Option R)) (m : M) → count_by (bears says tells m) rows ≡ 0 → lookup says tells rows m ≡ None
  lookup-count rows m z = go (position test rows) (leads-position test rows)
    where
      test : Option R → Bool
      test = bears says tells m

      go : (r : Option ℕ) → Leads test rows r → lookup says tells rows m ≡ None
      go None h = lookup-leads rows m None h
      go (Some i) (l, t, h) = absurd (omega (arith, count_some test rows i l t))

module _ {R M : Type 0} (says : R → M) (tells : M → M → Bool) (exact : (a b : M) → Decides (tells a b) (a ≡ b)) where
  pub bears_other : (m : M) (x : Option R) → ((r : R) → x ≡ Some r → says r ≡ m → ⊥) → bears says tells m x ≡ false
  bears_other m None h = refl
  bears_other m (Some r) h = ⊎_elim (λ t. absurd (h r refl ((exact (says r) m).0 t))) (λ e. e) (cases_Bool (tells (says r) m))

  pub stands-bears : (rows : List (Option R)) (i : ℕ) (m : M) → Stands says rows i m → bears says tells m (row_at rows i) ≡ true
  stands-bears rows i m (r, e, k) = ap (bears says tells m) e ∙ (exact (says r) m).1 k

  pub bears-stands : (rows : List (Option R)) (i : ℕ) (m : M) → bears says tells m (row_at rows i) ≡ true → Stands says rows i m
  bears-stands rows i m t = go (row_at rows i) refl t
    where
      go : (x : Option R) → row_at rows i ≡ x → bears says tells m x ≡ true → Stands says rows i m
      go None e t = absurd (false≢true t)
      go (Some r) e t = (r, e, (exact (says r) m).0 t)

  first_leads : (rows : List (Option R)) (m : M) (r : Option ℕ) → Leads (bears says tells m) rows r → First says m rows r
  first_leads rows m None h =
      λ k s. both_ways (bears says tells m (row_at rows k)) (h k (within rows k s.0 s.1)) (stands-bears rows k m s)
  first_leads rows m (Some i) (l, t, h) =
      (bears-stands rows i m t, λ k n s. both_ways (bears says tells m (row_at rows k)) (h k n) (stands-bears rows k m s))

  pub first-position : (rows : List (Option R)) (m : M) → First says m rows (position (bears says tells m) rows)
  first-position rows m = first_leads rows m _ (leads-position (bears says tells m) rows)
