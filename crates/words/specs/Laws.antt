-- What is written reads as what it came from.
use Rattle.std.specs.Prelude.{◌≡◌, ℕ, List, Some}
use Rattle.std.specs.Int.Digits.{AllBelowBase}
use Rattle.words.specs.Hex.{hex_word, hex_digits}
use Rattle.words.specs.Texts.{text_word, escaped}

abbrev pub HexReadsBack : Type 0
HexReadsBack = (bs : List ℕ) → AllBelowBase 256 bs → hex_word (hex_digits bs) ≡ Some bs

abbrev pub TextReadsBack : Type 0
TextReadsBack = (bs : List ℕ) → AllBelowBase 256 bs → text_word (escaped bs) ≡ Some bs
