-- Tests on the rows of a table, by position: the first that passes, and how many pass. Rows that are free.
use Rattle.std.proofs.Common.{◌≡◌, ℕ, suc, ◌+◌, ◌<◌, ◌≤◌, Bool, true, false, cond, List, [], ◌∷◌, length, ltb, set, Some, None, Option, is_none, refl, ap, arith}
use Rattle.std.specs.List.{count_by, position, position_or_len}
use Rattle.std.proofs.lemmas.Bool.{cond_both, false≢true, ltb-false, ltb-true}
use Rattle.std.proofs.lemmas.List.{length-set}
use Rattle.std.proofs.lemmas.List.Sums.{fails_before_first, get_or-le-sum_by, passes_at_first, sum_by-cons, sum_by-set}
use Rattle.table.specs.Lookup.{placed, row_at}

module _ {R : Type 0} (test : Option R → Bool) where
  -- no row below i passes
  abbrev pub NoneBelow : List (Option R) → ℕ → Type 0
  NoneBelow rows i = (k : ℕ) → k < i → test (row_at rows k) ≡ false

  -- the answer is the first row that passes
  abbrev pub Leads : List (Option R) → Option ℕ → Type 0
  Leads rows None = NoneBelow rows (length rows)
  Leads rows (Some i) = (i < length rows) × (test (row_at rows i) ≡ true) × NoneBelow rows i

  -- the position leads
  pub leads-position : (rows : List (Option R)) → Leads rows (position test rows)
  leads-position rows =
      cond_both (ltb first (length rows)) (Some first) None (Leads rows)
      (λ t. let l = ltb-true first (length rows) t in (l, passes_at_first test rows None l, λ k. fails_before_first test rows k None))
      (λ f k l. fails_before_first test rows k None (omega (arith, ltb-false first (length rows) f)))
    where
      first : ℕ
      first = position_or_len test rows

  pub count_set : (rows : List (Option R)) (i : ℕ) (x : Option R) → i < length rows → count_by test (set rows i x) + cond (test (row_at rows i)) 1 0 ≡ count_by test rows + cond (test x) 1 0
  count_set rows i x l = sum_by-set (λ y. cond (test y) 1 0) rows i x None l

  -- one row at least passes where one does
  pub count_some : (rows : List (Option R)) (i : ℕ) → i < length rows → test (row_at rows i) ≡ true → 1 ≤ count_by test rows
  count_some rows i l t = omega (arith, get_or-le-sum_by (λ y. cond (test y) 1 0) rows i None l, ap {B = ℕ} (λ b. cond b 1 0) t)

  pub count_none : (rows : List (Option R)) → NoneBelow rows (length rows) → count_by test rows ≡ 0
  count_none [] h = refl
  count_none (x ∷ rows) h =
      omega (arith, sum_by-cons (λ y. cond (test y) 1 0) x rows, ap {B = ℕ} (λ b. cond b 1 0) (h 0 (omega arith)), count_none rows (λ k l. h (suc k) (omega arith)))

pub vacant-none : {X : Type 0} (o : Option X) → is_none o ≡ true → o ≡ None
vacant-none None e = refl
vacant-none (Some x) e = absurd (false≢true e)

pub length-placed : {X : Type 0} (xs : List X) (x : X) (r : Option ℕ) → length (placed xs x r) ≡ length xs
length-placed xs x None = refl
length-placed xs x (Some i) = length-set xs i x
