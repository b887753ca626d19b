-- What the words of a command ask for, or the first thing that is wrong with them.
use Rattle.std.specs.Prelude.{◌≡◌, ℕ, ◌-◌, ◌%◌, ◌^◌, cond, ◌||◌, List, [], length, drop, Ok, Err, codes, Result, ◌==◌, slice_index_or}
use Rattle.std.specs.Option.{ok_or}
use Rattle.std.specs.Str.{bytes_eq}
use Rattle.values.specs.declared.field.Field.{Field}
use Rattle.values.specs.declared.field.Field.TheVariants as field
use Rattle.reports.specs.Fields.{Fields}
use Rattle.scan.specs.Numbers.{number_of}
use Rattle.words.specs.Texts.{text_word}
use Rattle.words.specs.Hex.{hex_word}
use Rattle.script.specs.declared.mistake.Form.{Form}
use Rattle.script.specs.declared.mistake.Form.TheVariants as form
use Rattle.script.specs.declared.mistake.Mistake.{Mistake}
use Rattle.script.specs.declared.mistake.Mistake.TheVariants.{Nothing, NoCommand, NoKind, Count, Number, Text, OddHex, NoHex, NoMemory}

-- a report's fields to be packed, or bytes to be read
pub data Request : Type 0 where
  packing : Fields → Request
  unpacking : List ℕ → Request

-- what is wrong with words
pub data Fault : Type 0 where
  no_words : Fault
  no_command : List ℕ → Fault
  no_kind : List ℕ → Fault
  wrong_count : Form → ℕ → Fault
  no_number : Field → List ℕ → ℕ → Fault
  no_text : Field → List ℕ → Fault
  odd_hex : ℕ → Fault
  no_hex : Fault

-- a word, or no bytes where there is none
abbrev pub word : List (List ℕ) → ℕ → List ℕ
word ws i = slice_index_or ws i []

-- with a value, where there is one
abbrev pub with : {X Y : Type 0} → Result X Fault → (X → Result Y Fault) → Result Y Fault
with (Ok x) f = f x
with (Err e) f = Err e

abbrev pub number_in : Field → ℕ → List ℕ → Result ℕ Fault
number_in f most w = ok_or (number_of most w) (no_number f w most)

abbrev pub small : Field → List ℕ → Result ℕ Fault
small f w = number_in f 255 w

abbrev pub coded : Field → List ℕ → Result ℕ Fault
coded f w = number_in f 65535 w

abbrev pub large : Field → List ℕ → Result ℕ Fault
large f w = number_in f (2 ^ 64 - 1) w

abbrev pub text_in : Field → List ℕ → Result (List ℕ) Fault
text_in f w = ok_or (text_word w) (no_text f w)

abbrev pub hex_in : List ℕ → Result (List ℕ) Fault
hex_in w = ok_or (hex_word w) (cond (length w % 2 == 1) (odd_hex (length w)) no_hex)

-- the words row, time, ID, place, source, destination, transport, processing, reading, acquired ID
abbrev pub substrate_of : List (List ℕ) → Result Fields Fault
substrate_of ws =
    with (small field.Row (word ws 0)) (λ row. with (large field.Time (word ws 1)) (λ time. with (text_in field.Id (word ws 2)) (λ id.
    with (coded field.Place (word ws 3)) (λ place. with (coded field.Source (word ws 4)) (λ source. with (coded field.Destination (word ws 5)) (λ destination.
    with (small field.Transport (word ws 6)) (λ transport. with (small field.Processing (word ws 7)) (λ processing. with (small field.Reading (word ws 8)) (λ reading.
    with (text_in field.Acquired (word ws 9)) (λ acquired. Ok (record {
      family = 0;
      row = row;
      transport = transport;
      processing = processing;
      reading = reading;
      spare = 0;
      time = time;
      place = place;
      source = source;
      destination = destination;
      id = id;
      acquired = acquired;
    })))))))))))

-- a text that may be left out
abbrev pub optional : Field → List (List ℕ) → ℕ → Result (List ℕ) Fault
optional f ws i = cond (length ws == i) (Ok []) (text_in f (word ws i))

-- the words row, time, place, and the ID that may be left out
abbrev pub location_of : List (List ℕ) → Result Fields Fault
location_of ws =
    with (small field.Row (word ws 0)) (λ row. with (large field.Time (word ws 1)) (λ time. with (coded field.Place (word ws 2)) (λ place.
    with (optional field.Id ws 3) (λ id. Ok (record {
      family = 1;
      row = row;
      transport = 0;
      processing = 0;
      reading = 0;
      spare = 0;
      time = time;
      place = place;
      source = 0;
      destination = 0;
      id = id;
      acquired = [];
    })))))

-- a report of ten words after `substrate`, or of three or four after `location`
abbrev pub substrate_words : List (List ℕ) → Result Fields Fault
substrate_words ws = cond (length ws == 10) (substrate_of ws) (Err (wrong_count form.Substrate (length ws)))

abbrev pub location_words : List (List ℕ) → Result Fields Fault
location_words ws = cond (length ws == 3 || length ws == 4) (location_of ws) (Err (wrong_count form.Location (length ws)))

-- a report's words, its kind first
abbrev pub report_of : List (List ℕ) → Result Fields Fault
report_of ws =
    cond (length ws == 0) (Err (wrong_count form.Pack 0))
    (cond (bytes_eq (word ws 0) (codes "substrate")) (substrate_words (drop 1 ws))
    (cond (bytes_eq (word ws 0) (codes "location")) (location_words (drop 1 ws)) (Err (no_kind (word ws 0)))))

-- no word is no byte
abbrev pub bytes_of : List (List ℕ) → Result (List ℕ) Fault
bytes_of ws = cond (length ws == 0) (Ok []) (cond (length ws == 1) (hex_in (word ws 0)) (Err (wrong_count form.Unpack (length ws))))

-- the request of a line's words
abbrev pub request_of : List (List ℕ) → Result Request Fault
request_of ws =
    cond (length ws == 0) (Err no_words)
    (cond (bytes_eq (word ws 0) (codes "pack")) (with (report_of (drop 1 ws)) (λ f. Ok (packing f)))
    (cond (bytes_eq (word ws 0) (codes "unpack")) (with (bytes_of (drop 1 ws)) (λ bs. Ok (unpacking bs))) (Err (no_command (word ws 0)))))

-- a mistake says what is wrong; a want of memory says nothing of the words
abbrev pub Blames : {Y : Type 0} → Mistake → Result Y Fault → Type 0
Blames Nothing o = o ≡ Err no_words
Blames (NoCommand w) o = o ≡ Err (no_command w.now)
Blames (NoKind w) o = o ≡ Err (no_kind w.now)
Blames (Count f n) o = o ≡ Err (wrong_count f n)
Blames (Number f w n) o = o ≡ Err (no_number f w.now n)
Blames (Text f w) o = o ≡ Err (no_text f w.now)
Blames (OddHex n) o = o ≡ Err (odd_hex n)
Blames NoHex o = o ≡ Err no_hex
Blames NoMemory o = Unit {0}

-- what was read stands for what the words say
abbrev pub Read : {X Y : Type 0} → (X → Y) → Result Y Fault → Result X Mistake → Type 0
Read see o (Ok x) = o ≡ Ok (see x)
Read see o (Err m) = Blames m o
