-- The laws of a change of one row: what a row at a position gives way to, and what that does to look-ups and counts.
use Rattle.std.proofs.Common.{◌≡◌, ℕ, zero, suc, ◌<◌, ◌≤◌, Bool, true, false, cond, ◌≢◌, ◌⊎◌, List, length, set, replicate, Some, None, Decides, Option, sym, refl, ap, ◌∙◌, subst, inl, inr, ⊎_elim, arith, get_or-set_other}
use Rattle.std.proofs.lemmas.List.{length-set, set_past}
use Rattle.std.proofs.lemmas.Option.{same_Some}
use Rattle.std.proofs.lemmas.Bool.{cases_Bool, cases_lt, false≢true}
use Rattle.std.specs.List.{count_by}
use Rattle.table.specs.Lookup.{bears, lookup, row_at, Stands}
use Rattle.table.specs.Laws.{First, InsertedOnce, KeepsOnce, Others, PutOwn, Unknown, VacatedOthers, VacatedOwn}
use Rattle.table.proofs.Places.{NoneBelow, count_none, count_set, count_some}
use Rattle.table.proofs.Keys.{bears_other, bears-stands, lookup-count, lookup_below, lookup_set_first, lookup_set_other, stands-bears, within}

module _ {R : Type 0} where
  -- a test that no free row passes, and that at most one row passes, is passed by none before the one
  pub once_below : (test : Option R → Bool) → test None ≡ false → (rows : List (Option R)) (i : ℕ) → count_by test rows ≤ 1 → i < length rows → test (row_at rows i) ≡ true → NoneBelow test rows i
  once_below test none rows i o l t k n = ⊎_elim (λ b. absurd (twice b)) (λ b. b) (cases_Bool (test (row_at rows k)))
    where
      twice : test (row_at rows k) ≡ true → ⊥
      twice b =
          let other : k ≢ i = omega arith in
          let long : k < length (set rows i None) = omega (arith, length-set rows i None) in
          let still : test (row_at (set rows i None) k) ≡ true = ap test (get_or-set_other rows i k None None other) ∙ b in
          omega (arith, count_set test rows i None l, ap {B = ℕ} (λ b. cond b 1 0) t, ap {B = ℕ} (λ b. cond b 1 0) none, count_some test (set rows i None) k long still)

-- rows that are all free have no key
pub unknown : {R M : Type 0} (says : R → M) (tells : M → M → Bool) (n : ℕ) → Unknown says tells (replicate n None)
unknown says tells zero m = refl
unknown says tells (suc n) m = unknown says tells n m

module _ {R M : Type 0} (says : R → M) (tells : M → M → Bool) (exact : (a b : M) → Decides (tells a b) (a ≡ b)) where
  -- the keys that the new row has were the old row's, or no row's
  pub once_set : (rows : List (Option R)) (i : ℕ) (x : Option R) → ((m : M) → bears says tells m x ≡ true → (bears says tells m (row_at rows i) ≡ true) ⊎ (count_by (bears says tells m) rows ≡ 0)) → KeepsOnce says tells rows (set rows i x)
  once_set rows i x h o m = ⊎_elim inside past (cases_lt i (length rows))
    where
      test : Option R → Bool
      test = bears says tells m

      past : length rows ≤ i → count_by test (set rows i x) ≤ 1
      past l = subst (λ ys. count_by test ys ≤ 1) (sym (set_past rows i x l)) (o m)

      inside : i < length rows → count_by test (set rows i x) ≤ 1
      inside l =
          let n = count_set test rows i x l in
          ⊎_elim
          (λ t. ⊎_elim (λ b. omega (arith, n, o m, ap {B = ℕ} (λ b. cond b 1 0) t, ap {B = ℕ} (λ b. cond b 1 0) b)) (λ z. omega (arith, n, z, ap {B = ℕ} (λ b. cond b 1 0) t)) (h m t))
          (λ f. omega (arith, n, o m, ap {B = ℕ} (λ b. cond b 1 0) f))
          (cases_Bool (test x))

  -- a row that is not the one asked for
  bears_not : (k m : M) → (m ≡ k → ⊥) → (r : R) → says r ≡ k → bears says tells m (Some r) ≡ false
  bears_not k m n r e = bears_other says tells exact m (Some r) (λ s p q. n (sym q ∙ (ap says (same_Some s r (sym p)) ∙ e)))

  stands_not : (rows : List (Option R)) (i : ℕ) (k m : M) → (m ≡ k → ⊥) → Stands says rows i k → bears says tells m (row_at rows i) ≡ false
  stands_not rows i k m n (r, e, s) = ap (bears says tells m) e ∙ bears_not k m n r s

  pub put_own : (rows : List (Option R)) (i : ℕ) (row : R) → PutOwn says tells i row rows (set rows i (Some row))
  put_own rows i row s o =
      let l : i < length rows = within rows i s.0 s.1 in
      lookup_set_first says tells rows i (Some row) (says row) l (once_below (bears says tells (says row)) refl rows i (o (says row)) l (stands-bears says tells exact rows i (says row) s)) ((exact (says row) (says row)).1 refl)

  pub put_others : (rows : List (Option R)) (i : ℕ) (row : R) (k : M) → says row ≡ k → Stands says rows i k → Others says tells k rows (set rows i (Some row))
  put_others rows i row k e s m n = lookup_set_other says tells rows i (Some row) m (stands_not rows i k m n s) (bears_not k m n row e)

  pub put_once : (rows : List (Option R)) (i : ℕ) (row : R) (k : M) → says row ≡ k → Stands says rows i k → KeepsOnce says tells rows (set rows i (Some row))
  put_once rows i row k e s =
      once_set rows i (Some row) (λ m t. inl (subst (λ q. bears says tells q (row_at rows i) ≡ true) (sym e ∙ (exact (says row) m).0 t) (stands-bears says tells exact rows i k s)))

  pub vacate_own : (rows : List (Option R)) (i : ℕ) → VacatedOwn says tells i rows (set rows i None)
  vacate_own rows i k s o =
      let n = count_set (bears says tells k) rows i None (within rows i s.0 s.1) in
      lookup-count says tells (set rows i None) k (omega (arith, n, o k, ap {B = ℕ} (λ b. cond b 1 0) (stands-bears says tells exact rows i k s)))

  pub vacate_others : (rows : List (Option R)) (i : ℕ) → VacatedOthers says tells i rows (set rows i None)
  vacate_others rows i k s m n = lookup_set_other says tells rows i None m (stands_not rows i k m n s) refl

  pub vacate_once : (rows : List (Option R)) (i : ℕ) → KeepsOnce says tells rows (set rows i None)
  vacate_once rows i = once_set rows i None (λ m t. absurd (false≢true t))

  -- a free row that is filled
  pub inserted_own : (rows : List (Option R)) (i : ℕ) (row : R) → i < length rows → lookup says tells rows (says row) ≡ None → lookup says tells (set rows i (Some row)) (says row) ≡ Some row
  inserted_own rows i row l e =
      lookup_set_first says tells rows i (Some row) (says row) l (λ k _. lookup_below says tells rows (says row) e k) ((exact (says row) (says row)).1 refl)

  pub inserted_others : (rows : List (Option R)) (i : ℕ) (row : R) → row_at rows i ≡ None → Others says tells (says row) rows (set rows i (Some row))
  inserted_others rows i row free m n = lookup_set_other says tells rows i (Some row) m (ap (bears says tells m) free) (bears_not (says row) m n row refl)

  pub inserted_once : (rows : List (Option R)) (i : ℕ) (row : R) → InsertedOnce says tells row rows (set rows i (Some row))
  inserted_once rows i row e =
      once_set rows i (Some row) (λ m b. inr (subst (λ q. count_by (bears says tells q) rows ≡ 0) ((exact (says row) m).0 b) (count_none (bears says tells (says row)) rows (λ k _. lookup_below says tells rows (says row) e k))))

  -- a row that replaces the first one of its key
  pub replaced_own : (rows : List (Option R)) (i : ℕ) (row : R) (k : M) → First says k rows (Some i) → says row ≡ k → lookup says tells (set rows i (Some row)) k ≡ Some row
  replaced_own rows i row k (s, h) e =
      lookup_set_first says tells rows i (Some row) k (within rows i s.0 s.1) (λ j l. ⊎_elim (λ t. absurd (h j l (bears-stands says tells exact rows j k t))) (λ f. f) (cases_Bool (bears says tells k (row_at rows j)))) ((exact (says row) k).1 e)
