-- One report more is told.
use Rattle.std.proofs.Common.{◌≡◌, List, [], ◌∷◌, ◌++◌, Some, Option, refl, ap, ◌∙◌, append_assoc}
use Rattle.reports.specs.Fields.{Fields}
use Rattle.trials.specs.Told.{last_of, told_since}

last_push : (o : Option Fields) (fs : List Fields) (f : Fields) → Some f ≡ last_of o (fs ++ f ∷ [])
last_push o [] f = refl
last_push o (g ∷ fs) f = last_push (Some g) fs f

pub told_more : (l l' l'' : List Fields) (o o' : Option Fields) (f : Fields) → l'' ≡ l' ++ f ∷ [] → told_since l o l' o' → told_since l o l'' (Some f)
told_more l l' l'' o o' f e (fs, p, q) =
    (fs ++ f ∷ [], e ∙ ap (λ x. x ++ f ∷ []) p ∙ append_assoc l fs (f ∷ []), last_push o fs f)
