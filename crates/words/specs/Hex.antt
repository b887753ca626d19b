-- Bytes as hex digits, and back.
use Rattle.std.specs.Prelude.{ℕ, ◌+◌, ◌-◌, ◌*◌, ◌/◌, ◌%◌, cond, ◌&&◌, List, [], ◌∷◌, Some, None, Option, nat_le, nat_lt}
use Rattle.std.specs.List.{flat_map}

-- the value of a hex digit, in either case
abbrev pub hex_digit : ℕ → Option ℕ
hex_digit c =
    cond (nat_le 48 c && nat_le c 57) (Some (c - 48))
    (cond (nat_le 65 c && nat_le c 70) (Some (c - 55))
    (cond (nat_le 97 c && nat_le c 102) (Some (c - 87)) None))

abbrev pub paired : Option ℕ → Option ℕ → Option ℕ
paired None l = None
paired (Some h) None = None
paired (Some h) (Some l) = Some (h * 16 + l)

-- the byte that two digits write
abbrev pub hex_byte : ℕ → ℕ → Option ℕ
hex_byte h l = paired (hex_digit h) (hex_digit l)

-- one byte before others, if all are there
abbrev pub before : Option ℕ → Option (List ℕ) → Option (List ℕ)
before None bs = None
before (Some b) None = None
before (Some b) (Some bs) = Some (b ∷ bs)

-- the bytes that a word of hex digits writes
unfoldable pub hex_word : List ℕ → Option (List ℕ)
hex_word [] = Some []
hex_word (h ∷ []) = None
hex_word (h ∷ l ∷ cs) = before (hex_byte h l) (hex_word cs)

-- the digit of a value below 16
abbrev pub glyph : ℕ → ℕ
glyph d = cond (nat_lt d 10) (48 + d) (55 + d)

abbrev pub hex_pair : ℕ → List ℕ
hex_pair b = glyph (b / 16) ∷ glyph (b % 16) ∷ []

abbrev pub hex_digits : List ℕ → List ℕ
hex_digits bs = flat_map hex_pair bs
