-- A history that goes on: the last entry is ended, and one more is opened.
use Rattle.std.proofs.Common.{◌≡◌, ℕ, zero, suc, ◌+◌, ◌-◌, ◌<◌, ◌≤◌, List, [], ◌∷◌, ◌++◌, map, length, get_or, take, set, sym, ap, ◌∙◌, arith}
use Rattle.std.proofs.lemmas.List.{length-set, map_push, take_more_set}
use Rattle.model.specs.Wafers.{Stay, closed, ended}

module _ {X : Type 0} (f : X → Stay) (t : ℕ) where
  ends_at : (es : List X) (m : ℕ) (e d : X) → m < length es → f e ≡ ended t (f (get_or es m d)) → map f (take (suc m) (set es m e)) ≡ closed t (map f (take (suc m) es))
  ends_at [] m e d l h = absurd (omega arith)
  ends_at (x ∷ es) zero e d l h = ap (λ s. s ∷ []) h
  ends_at (x ∷ []) (suc m) e d l h = absurd (omega arith)
  ends_at (x ∷ (y ∷ es)) (suc m) e d l h = ap (λ ss. f x ∷ ss) (ends_at (y ∷ es) m e d (omega arith) h)

  ends_last : (es : List X) (n : ℕ) (e d : X) → 1 ≤ n → n ≤ length es → f e ≡ ended t (f (get_or es (n - 1) d)) → map f (take n (set es (n - 1) e)) ≡ closed t (map f (take n es))
  ends_last es n e d s l h =
      let q : n ≡ suc (n - 1) = omega arith in
      ap (λ k. map f (take k (set es (n - 1) e))) q ∙ ends_at es (n - 1) e d (omega arith) h ∙ ap (λ k. closed t (map f (take k es))) (sym q)

  pub goes_on : (es : List X) (n : ℕ) (e o d : X) (s : Stay) → 1 ≤ n → n < length es → f e ≡ ended t (f (get_or es (n - 1) d)) → f o ≡ s → map f (take (n + 1) (set (set es (n - 1) e) n o)) ≡ closed t (map f (take n es)) ++ (s ∷ [])
  goes_on es n e o d s some l h k =
      let ys = set es (n - 1) e in
      let w : length ys ≡ length es = length-set es (n - 1) e in
      ap (map f) (take_more_set ys n o (omega arith))
      ∙ map_push f (take n ys) o
      ∙ ap (λ ss. ss ++ (f o ∷ [])) (ends_last es n e d some (omega arith) h)
      ∙ ap (λ x. closed t (map f (take n es)) ++ (x ∷ [])) k
