-- How a text is formed: at most sixteen bytes, each from hex 21 to 7E.
use Rattle.std.specs.List.{list_all}
use Rattle.std.specs.Prelude.{ℕ, ◌-◌, Bool, cond, ◌&&◌, List, ◌++◌, length, replicate, Some, None, Option, nat_le}

-- a byte that a text may hold
abbrev pub graphic : ℕ → Bool
graphic b = nat_le 0x21 b && nat_le b 0x7E

abbrev pub graphic_all : List ℕ → Bool
graphic_all bs = list_all graphic bs

abbrev pub formed : List ℕ → Bool
formed bs = nat_le (length bs) 16 && graphic_all bs

-- a wafer's ID has at least one byte
abbrev pub named : List ℕ → Bool
named bs = nat_le 1 (length bs) && formed bs

-- the text that the given bytes make, where they make one
abbrev pub text_of : List ℕ → Option (List ℕ)
text_of bs = cond (formed bs) (Some bs) None

-- and the ID
abbrev pub id_of : List ℕ → Option (List ℕ)
id_of bs = cond (named bs) (Some bs) None

-- the bytes, then zeros up to sixteen
abbrev pub padded : List ℕ → List ℕ
padded bs = bs ++ replicate (16 - length bs) 0
