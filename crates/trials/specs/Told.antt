-- What a sink that passes reports on has told since.
use Rattle.std.specs.Prelude.{◌≡◌, List, [], ◌∷◌, ◌++◌, Some, Option}
use Rattle.reports.specs.Fields.{Fields}

-- the last of these reports, or the one before them
abbrev pub last_of : Option Fields → List Fields → Option Fields
last_of o [] = o
last_of o (f ∷ fs) = last_of (Some f) fs

-- the reports that joined the list since, and no others, were told
abbrev pub told_since : List Fields → Option Fields → List Fields → Option Fields → Type 0
told_since l o l' o' = (fs : List Fields) × (l' ≡ l ++ fs) × (o' ≡ last_of o fs)
