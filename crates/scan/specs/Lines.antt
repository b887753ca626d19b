-- A line as its words.
use Rattle.std.specs.Prelude.{ℕ, Bool, true, cond, ◌&&◌, ◌||◌, List, [], ◌∷◌, ◌++◌, ◌==◌}

-- blank, tab, carriage return
abbrev pub is_blank : ℕ → Bool
is_blank b = b == 32 || (b == 9 || b == 13)

-- a line up to the first `#` that begins a word; the flag says whether a word may begin here
abbrev pub bare : Bool → List ℕ → List ℕ
bare fresh [] = []
bare fresh (b ∷ bs) = cond (fresh && b == 35) [] (b ∷ bare (is_blank b) bs)

-- a word that has come to its end, if it has any byte
abbrev pub closed : List ℕ → List (List ℕ)
closed [] = []
closed (b ∷ bs) = (b ∷ bs) ∷ []

-- the words of the bytes w that are begun and of those that follow
abbrev pub split : List ℕ → List ℕ → List (List ℕ)
split w [] = closed w
split w (b ∷ bs) = cond (is_blank b) (closed w ++ split [] bs) (split (w ++ b ∷ []) bs)

abbrev pub line_words : List ℕ → List (List ℕ)
line_words bs = split [] (bare true bs)
