-- What the rows show once a row has changed.
use Rattle.std.proofs.Common.{◌≡◌, Bool, true, false, cond, Decides, Option, sym, refl, ap, ◌∙◌}
use mathlib.Core.Path.{fun_ext}
use Rattle.std.proofs.lemmas.Bool.{cond-false, cond-true}
use Rattle.std.proofs.lemmas.Bool.Decides.{not_from_Decides}

-- a and b are look-ups after and before; f is what is shown of a row
module _ {K X V : Type 0} (tells : K → K → Bool) (exact : (m n : K) → Decides (tells m n) (m ≡ n)) (f : Option X → V) (a b : K → Option X) (k : K) (others : (m : K) → (m ≡ k → ⊥) → a m ≡ b m) where
  at_key : (m : K) (t : Bool) → tells m k ≡ t → f (a m) ≡ cond (tells m k) (f (a k)) (f (b m))
  at_key m true e = ap (λ x. f (a x)) ((exact m k).0 e) ∙ sym (cond-true (tells m k) (f (a k)) (f (b m)) e)
  at_key m false e = ap f (others m (not_from_Decides (tells m k) (exact m k) e)) ∙ sym (cond-false (tells m k) (f (a k)) (f (b m)) e)

  pub shown_put : (o : Option X) → a k ≡ o → ◌≡◌ {A = K → V} (λ m. f (a m)) (λ m. cond (tells m k) (f o) (f (b m)))
  shown_put o e = fun_ext (λ m. at_key m (tells m k) refl ∙ ap (λ x. cond (tells m k) (f x) (f (b m))) e)

  kept_key : f (a k) ≡ f (b k) → (m : K) (t : Bool) → tells m k ≡ t → f (a m) ≡ f (b m)
  kept_key h m true e = let q = (exact m k).0 e in ap (λ x. f (a x)) q ∙ h ∙ ap (λ x. f (b x)) (sym q)
  kept_key h m false e = ap f (others m (not_from_Decides (tells m k) (exact m k) e))

  pub shown_kept : f (a k) ≡ f (b k) → ◌≡◌ {A = K → V} (λ m. f (a m)) (λ m. f (b m))
  shown_kept h = fun_ext (λ m. kept_key h m (tells m k) refl)
