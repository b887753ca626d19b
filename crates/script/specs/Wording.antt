-- The wording of what is wrong with a command.
use Rattle.std.specs.Prelude.{ℕ, List, ◌∷◌, ◌++◌, cond, codes, decimal}
use Rattle.std.specs.List.{flat_map, list_all}
use Rattle.values.specs.Names.{field_name}
use Rattle.words.specs.Texts.{graphic, echoed_byte}
use Rattle.script.specs.Requests.{Fault, no_words, no_command, no_kind, wrong_count, no_number, no_text, odd_hex, no_hex}
use Rattle.script.specs.declared.mistake.Form.{Form}
use Rattle.script.specs.declared.mistake.Form.TheVariants as form
use Rattle.script.specs.declared.mistake.Mistake.{Mistake}
use Rattle.script.specs.declared.mistake.Mistake.TheVariants.{Nothing, NoCommand, NoKind, Count, Number, Text, OddHex, NoHex, NoMemory}

-- a word as the echo has it
abbrev pub shown : List ℕ → List ℕ
shown w = flat_map echoed_byte w

-- the words that a form takes
abbrev pub wanted : Form → List ℕ
wanted form.Pack = codes "pack takes the words of a report, not"
wanted form.Substrate = codes "a substrate report has 10 words after its kind, not"
wanted form.Location = codes "a location report has 3 or 4 words after its kind, not"
wanted form.Unpack = codes "unpack takes at most one word, not"

-- why a word is no text
abbrev pub no_text_reason : List ℕ → List ℕ
no_text_reason w = cond (list_all graphic w) (codes "% stands before two hex digits, or in %- alone") (codes "it has a byte outside hex 21 to 7E")

abbrev pub fault_text : Fault → List ℕ
fault_text no_words = codes "no words"
fault_text (no_command w) = codes "no command '" ++ (shown w ++ codes "'")
fault_text (no_kind w) = codes "no report '" ++ (shown w ++ codes "', only substrate and location")
fault_text (wrong_count f n) = wanted f ++ (32 ∷ decimal n)
fault_text (no_number f w n) = field_name f ++ (codes " '" ++ (shown w ++ (codes "' is no number up to " ++ decimal n)))
fault_text (no_text f w) = field_name f ++ (codes " '" ++ (shown w ++ (codes "' is no text: " ++ no_text_reason w)))
fault_text (odd_hex n) = codes "HEX has " ++ (decimal n ++ codes " digits, an odd number")
fault_text no_hex = codes "HEX has a character that is no hex digit"

-- a mistake by the fault that it blames, or by the want of memory
abbrev pub mistake_text : Mistake → List ℕ
mistake_text Nothing = fault_text no_words
mistake_text (NoCommand w) = fault_text (no_command w.now)
mistake_text (NoKind w) = fault_text (no_kind w.now)
mistake_text (Count f n) = fault_text (wrong_count f n)
mistake_text (Number f w n) = fault_text (no_number f w.now n)
mistake_text (Text f w) = fault_text (no_text f w.now)
mistake_text (OddHex n) = fault_text (odd_hex n)
mistake_text NoHex = fault_text no_hex
mistake_text NoMemory = codes "not enough memory"
