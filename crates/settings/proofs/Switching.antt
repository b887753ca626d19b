-- Switches that are set, one by one.
use Rattle.std.proofs.Common.{◌≡◌, ℕ, zero, suc, ◌<◌, ◌≤◌, Bool, true, false, cond, ◌&&◌, eqb, ltb, List, length, get_or, set, replicate, sym, refl, ap, ◌∙◌, ⊎_elim}
use Rattle.std.proofs.lemmas.List.{get_or-set_same, get_or-set_other}
use Rattle.std.proofs.lemmas.Bool.{and_left, and_right, and_from, cases_eq, cond-true, cond-false, eq-eqb, le-ltb, lt-ltb, ne_eqb}
use Rattle.model.specs.Switches.{Switches}

-- switches are the same where each is
pub same : (r : Bool) (n : ℕ) (f g : ℕ → Bool) → ((j : ℕ) → f j ≡ g j) → ◌≡◌ {A = Switches} record { reader = r; count = n; silent = f } record { reader = r; count = n; silent = g }
same r n f g each = λ i. record { reader = r; count = n; silent = λ j. each j i }

off : (n i : ℕ) → get_or (replicate n false) i false ≡ false
off zero i = refl
off (suc n) zero = refl
off (suc n) (suc i) = off n i

-- the switch of a position, among the first n
abbrev pub read : List Bool → ℕ → ℕ → Bool
read xs n j = cond (ltb j n) (get_or xs j false) false

either : (t b : Bool) → b ≡ false → cond t b false ≡ false
either true b e = e
either false b e = refl

pub read_off : (m n j : ℕ) → read (replicate m false) n j ≡ false
read_off m n j = either (ltb j n) (get_or (replicate m false) j false) (off m j)

-- one switch of the first n is set
pub read_set : (xs : List Bool) (n p : ℕ) (b : Bool) → p < n → p < length xs → (j : ℕ) → read (set xs p b) n j ≡ cond (ltb p n && eqb j p) b (read xs n j)
read_set xs n p b l k j = ⊎_elim own other (cases_eq j p)
  where
    own : j ≡ p → read (set xs p b) n j ≡ cond (ltb p n && eqb j p) b (read xs n j)
    own e =
        ap (read (set xs p b) n) e
        ∙ cond-true (ltb p n) (get_or (set xs p b) p false) false (lt-ltb p n l)
        ∙ get_or-set_same xs p b false k
        ∙ sym (cond-true (ltb p n && eqb j p) b (read xs n j) (and_from _ _ (lt-ltb p n l) (eq-eqb j p e)))

    other : (j ≡ p → ⊥) → read (set xs p b) n j ≡ cond (ltb p n && eqb j p) b (read xs n j)
    other d =
        ap (λ x. cond (ltb j n) x false) (get_or-set_other xs p j b false d)
        ∙ sym (cond-false (ltb p n && eqb j p) b (read xs n j) (and_right _ _ (ne_eqb j p d)))

-- past the first n nothing is
pub read_past : (f : ℕ → Bool) (n p : ℕ) (b : Bool) → n ≤ p → (j : ℕ) → f j ≡ cond (ltb p n && eqb j p) b (f j)
read_past f n p b l j = sym (cond-false (ltb p n && eqb j p) b (f j) (and_left _ _ (le-ltb p n l)))
