-- What is written reads as what it came from.
use Rattle.std.proofs.Common.{◌≡◌, ℕ, ◌+◌, ◌*◌, ◌/◌, ◌%◌, ◌<◌, Bool, true, false, cond, not, ◌&&◌, ◌||◌, eqb, List, [], ◌∷◌, ◌++◌, length, get_or, take, Some, sym, refl, ap, ◌∙◌, arith}
use Rattle.std.specs.Int.Digits.{AllBelowBase}
use Rattle.std.specs.List.{flat_map}
use Rattle.std.specs.Fmt.{HasWritten}
use Rattle.std.specs.declared.fmt.Formatter.{Formatter}
use Rattle.std.proofs.Output.{has_written_append, has_written_of_eq}
use Rattle.std.proofs.lemmas.List.{flat_map_more, take_more}
use Rattle.std.proofs.lemmas.Bool.{cond-true, cond-false, and_left, and_parts, or_parts, not-true}
use Rattle.std.proofs.lemmas.Bool.Decides.{nat_tests}
use Rattle.words.specs.Hex.{hex_digit, hex_byte, hex_word, glyph, hex_pair, hex_digits, paired, before}
use Rattle.words.specs.Texts.{graphic, stands, unescaped, is_no_text, text_word, written_byte, escaped_byte, escaped}
use Rattle.words.specs.Laws.{HexReadsBack, TextReadsBack}

digit_back : (d : ℕ) → d < 16 → hex_digit (glyph d) ≡ Some d
digit_back d h = grind (arith, nat_tests)

pub byte_back : (b : ℕ) → b < 256 → hex_byte (glyph (b / 16)) (glyph (b % 16)) ≡ Some b
byte_back b h =
    let high : b / 16 < 16 = omega arith in
    let low : b % 16 < 16 = omega arith in
    let whole : b / 16 * 16 + b % 16 ≡ b = omega arith in
    ap (λ o. paired o (hex_digit (glyph (b % 16)))) (digit_back (b / 16) high) ∙ ap (λ o. paired (Some (b / 16)) o) (digit_back (b % 16) low) ∙ ap Some whole

pub hex_reads_back : HexReadsBack
unfolding hex_word
hex_reads_back [] u = refl
hex_reads_back (b ∷ bs) u = ap (λ o. before o (hex_word (hex_digits bs))) (byte_back b u.0) ∙ ap (before (Some b)) (hex_reads_back bs u.1)

-- a byte that stands for itself, before a word
plain_back : (b : ℕ) (w : List ℕ) → graphic b ≡ true → eqb b 37 ≡ false → unescaped (b ∷ w) ≡ before (Some b) (unescaped w)
plain_back b [] g e = cond-false _ _ _ e ∙ ap (λ o. before o (Some [])) (cond-true _ _ _ g)
plain_back b (c ∷ []) g e = cond-false _ _ _ e ∙ ap (λ o. before o (unescaped (c ∷ []))) (cond-true _ _ _ g)
plain_back b (c ∷ d ∷ w) g e = cond-false _ _ _ e ∙ ap (λ o. before o (unescaped (c ∷ d ∷ w))) (cond-true _ _ _ g)

-- an escaped byte, before a word
first_back : (b : ℕ) (w : List ℕ) (t : Bool) → stands b ≡ t → b < 256 → unescaped (cond t (b ∷ []) (37 ∷ hex_pair b) ++ w) ≡ before (Some b) (unescaped w)
first_back b w true e h =
    let p = and_parts (graphic b) (not (eqb b 37 || eqb b 35)) e in
    plain_back b w p.0 (or_parts (eqb b 37) (eqb b 35) (not-true _ p.1)).0
first_back b w false e h = ap (λ o. before o (unescaped w)) (byte_back b h)

bytes_back : (bs : List ℕ) → AllBelowBase 256 bs → unescaped (flat_map escaped_byte bs) ≡ Some bs
bytes_back [] u = refl
bytes_back (b ∷ bs) u = first_back b (flat_map escaped_byte bs) (stands b) refl u.0 ∙ ap (before (Some b)) (bytes_back bs u.1)

not_empty : (b : ℕ) (w : List ℕ) → eqb b 37 ≡ false → is_no_text (b ∷ w) ≡ false
not_empty b [] e = refl
not_empty b (c ∷ []) e = and_left _ _ e
not_empty b (c ∷ d ∷ w) e = refl

-- bytes that are there are not written as `%-`
some_text : (b : ℕ) (w : List ℕ) (t : Bool) → stands b ≡ t → is_no_text (cond t (b ∷ []) (37 ∷ hex_pair b) ++ w) ≡ false
some_text b w true e = not_empty b w (or_parts (eqb b 37) (eqb b 35) (not-true _ (and_parts (graphic b) (not (eqb b 37 || eqb b 35)) e).1)).0
some_text b w false e = refl

pub text_reads_back : TextReadsBack
unfolding text_word
text_reads_back [] u = refl
text_reads_back (b ∷ bs) u = cond-false _ _ _ (some_text b (flat_map escaped_byte bs) (stands b) refl) ∙ bytes_back (b ∷ bs) u

escaped_byte-is : (b : ℕ) → written_byte (37 ∷ 35 ∷ []) b ≡ escaped_byte b
escaped_byte-is b = ap (λ t. cond (graphic b && not t) (b ∷ []) (37 ∷ hex_pair b)) (grind (arith, nat_tests))

-- bytes that are there, with `%` and `#` escaped
pub escaped_bytes-is : (bs : List ℕ) → 0 < length bs → flat_map (written_byte (37 ∷ 35 ∷ [])) bs ≡ escaped bs
escaped_bytes-is [] h = absurd (omega arith)
escaped_bytes-is (b ∷ bs) h = λ i. flat_map (λ b. escaped_byte-is b i) (b ∷ bs)

-- one byte more is written, after those before it
pub has_written_more : {W : Type 0} (took : W → List ℕ → W → Type 0) (text : ℕ → List ℕ) (bs : List ℕ) (i : ℕ) (f g h : Formatter W) → i < length bs → HasWritten took f (flat_map text (take i bs)) g → HasWritten took g (text (get_or bs i 0)) h
    → HasWritten took f (flat_map text (take (i + 1) bs)) h
has_written_more took text bs i f g h lt before byte =
    has_written_of_eq took _ _ _ _ (flat_map_more text [] (take i bs) (get_or bs i 0) ∙ sym (ap (flat_map text) (take_more bs i 0 lt))) (has_written_append took _ _ _ _ _ before byte)
