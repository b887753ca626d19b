-- Free rows and rows in use.
use Rattle.std.proofs.Common.{◌≡◌, ℕ, ◌+◌, cond, List, [], ◌∷◌, length, is_none, is_some, Some, None, Option, refl, ap, arith}
use Rattle.std.specs.List.{count_by, position}
use Rattle.std.proofs.lemmas.Bool.{both_ways}
use Rattle.std.proofs.lemmas.List.Sums.{sum_by-cons}
use Rattle.table.specs.Laws.{FirstFree, Full}
use Rattle.table.specs.Lookup.{in_use, row_at}
use Rattle.table.proofs.Places.{Leads, leads-position, count_none, count_some, vacant-none}

module _ {R : Type 0} where
  one_kind : (x : Option R) → cond (is_some x) 1 0 + cond (is_none x) 1 0 ≡ 1
  one_kind None = refl
  one_kind (Some r) = refl

  all_kinds : (rows : List (Option R)) → in_use rows + count_by is_none rows ≡ length rows
  all_kinds [] = refl
  all_kinds (x ∷ rows) =
      omega (arith, one_kind x, all_kinds rows, sum_by-cons (λ y. cond (is_some y) 1 0) x rows, sum_by-cons (λ y. cond (is_none y) 1 0) x rows)

  free_leads : (rows : List (Option R)) (r : Option ℕ) → Leads is_none rows r → FirstFree rows r
  free_leads rows None h = λ k l e. both_ways (is_none (row_at rows k)) (h k l) (ap is_none e)
  free_leads rows (Some i) (l, t, h) = (l, vacant-none (row_at rows i) t, λ k n e. both_ways (is_none (row_at rows k)) (h k n) (ap is_none e))

  pub free-position : (rows : List (Option R)) → FirstFree rows (position is_none rows)
  free-position rows = free_leads rows (position is_none rows) (leads-position is_none rows)

  full_leads : (rows : List (Option R)) (r : Option ℕ) → Leads is_none rows r → Full rows r
  full_leads rows None h = ((λ e. omega (arith, all_kinds rows, count_none is_none rows h)), (λ e. refl))
  full_leads rows (Some i) (l, t, h) =
      ((λ e. absurd cc), (λ e. absurd (omega (arith, all_kinds rows, count_some is_none rows i l t))))

  pub full-position : (rows : List (Option R)) → Full rows (position is_none rows)
  full-position rows = full_leads rows (position is_none rows) (leads-position is_none rows)
