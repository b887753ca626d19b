-- Checks: what is known when one passes, and which refusal is given when it fails.
use Rattle.std.specs.Prelude.{◌≡◌, Bool, true, false, List, Some, None, Ok, Err, Result}
use Rattle.model.specs.Calls.{Check, first_failed}
use Rattle.cabinet.specs.declared.refusal.Refusal.{Refusal}
use Rattle.cabinet.specs.Refusals.{refusal_number}

-- one check
abbrev pub Passed : {A : Type 0} → Bool → Refusal → (A → Type 0) → Result A Refusal → Type 0
Passed test e P (Ok x) = (test ≡ true) × P x
Passed test e P (Err d) = (test ≡ false) × (d ≡ e)

-- several, of which the first that fails answers
abbrev pub Passes : {A : Type 0} → List Check → (A → Type 0) → Result A Refusal → Type 0
Passes cs P (Ok x) = (first_failed cs ≡ None) × P x
Passes cs P (Err e) = first_failed cs ≡ Some (refusal_number e)
