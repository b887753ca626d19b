-- A word as the bytes of a text, and back.
use Rattle.std.specs.Prelude.{ℕ, Bool, true, false, cond, not, ◌&&◌, ◌||◌, List, [], ◌∷◌, ◌++◌, Some, None, Option, ◌==◌, nat_le}
use Rattle.std.specs.List.{flat_map, list_any}
use Rattle.words.specs.Hex.{hex_byte, before, hex_pair}

-- hex 21 to 7E
abbrev pub graphic : ℕ → Bool
graphic b = nat_le 0x21 b && nat_le b 0x7E

-- a byte that stands for itself
abbrev pub itself : ℕ → Option ℕ
itself c = cond (graphic c) (Some c) None

-- `%` and two hex digits are a byte, and every other graphic byte stands for itself
abbrev pub unescaped : List ℕ → Option (List ℕ)
unescaped [] = Some []
unescaped (c ∷ []) = cond (c == 37) None (before (itself c) (Some []))
unescaped (c ∷ h ∷ []) = cond (c == 37) None (before (itself c) (unescaped (h ∷ [])))
unescaped (c ∷ h ∷ l ∷ cs) = cond (c == 37) (before (hex_byte h l) (unescaped cs)) (before (itself c) (unescaped (h ∷ l ∷ cs)))

-- the byte that a word begins with, and the rest of the word
abbrev pub leaving : List ℕ → Option ℕ → Option (ℕ × List ℕ)
leaving rest None = None
leaving rest (Some b) = Some (b, rest)

abbrev pub first_byte : List ℕ → Option (ℕ × List ℕ)
first_byte [] = None
first_byte (c ∷ []) = cond (c == 37) None (leaving [] (itself c))
first_byte (c ∷ h ∷ []) = cond (c == 37) None (leaving (h ∷ []) (itself c))
first_byte (c ∷ h ∷ l ∷ cs) = cond (c == 37) (leaving cs (hex_byte h l)) (leaving (h ∷ l ∷ cs) (itself c))

-- the word `%-`
abbrev pub no_text : List ℕ
no_text = 37 ∷ 45 ∷ []

abbrev pub is_no_text : List ℕ → Bool
is_no_text [] = false
is_no_text (c ∷ []) = false
is_no_text (c ∷ d ∷ []) = c == 37 && d == 45
is_no_text (c ∷ d ∷ e ∷ cs) = false

-- the bytes that a word stands for: none at `%-`
unfoldable pub text_word : List ℕ → Option (List ℕ)
text_word w = cond (is_no_text w) (Some []) (unescaped w)

-- a graphic byte that is not among others stands for itself, and every other one is escaped
abbrev pub written_byte : List ℕ → ℕ → List ℕ
written_byte escapes b = cond (graphic b && not (list_any (λ e. e == b) escapes)) (b ∷ []) (37 ∷ hex_pair b)

-- a byte that a word may hold as it is, wherever it stands: graphic, and neither `%` nor `#`
abbrev pub stands : ℕ → Bool
stands b = graphic b && not (b == 37 || b == 35)

abbrev pub escaped_byte : ℕ → List ℕ
escaped_byte b = cond (stands b) (b ∷ []) (37 ∷ hex_pair b)

-- the word that stands for these bytes
abbrev pub escaped : List ℕ → List ℕ
escaped [] = no_text
escaped (b ∷ bs) = flat_map escaped_byte (b ∷ bs)

-- a byte of a command in its echo
abbrev pub echoed_byte : ℕ → List ℕ
echoed_byte b = cond (graphic b) (b ∷ []) (37 ∷ hex_pair b)

-- words with a blank before each but the first
abbrev pub echoed_from : Bool → List (List ℕ) → List ℕ
echoed_from first [] = []
echoed_from first (w ∷ ws) = cond first [] (32 ∷ []) ++ (flat_map echoed_byte w ++ echoed_from false ws)

-- a command as it is echoed
abbrev pub echoed : List (List ℕ) → List ℕ
echoed ws = echoed_from true ws
