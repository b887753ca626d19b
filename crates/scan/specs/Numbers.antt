-- A word as a number.
use Rattle.std.specs.Prelude.{ℕ, Bool, cond, ◌&&◌, List, length, Some, None, Option, nat_le}
use Rattle.std.specs.Str.Parse.{digits_value}
use Rattle.std.specs.Str.{all_ascii_digits}

-- at least one byte, each a decimal digit
abbrev pub numeral : List ℕ → Bool
numeral w = nat_le 1 (length w) && all_ascii_digits w

-- the number that a word writes, if it writes one of at most this size
unfoldable pub number_of : ℕ → List ℕ → Option ℕ
number_of most w = cond (numeral w && nat_le (digits_value 10 w) most) (Some (digits_value 10 w)) None
