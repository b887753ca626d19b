-- A number read digit by digit, and given up where it grows too large.
use Rattle.std.proofs.Common.{◌≡◌, ℕ, ◌+◌, ◌*◌, ◌<◌, ◌≤◌, Bool, true, false, cond, ◌&&◌, eqb, leb, List, [], ◌∷◌, length, Some, None, Option, sym, refl, ap, ◌∙◌, arith}
use Rattle.std.specs.Str.Parse.{digits_value_after, digits_value}
use Rattle.std.specs.Char.{is_ascii_digit, digit_value}
use Rattle.std.specs.Str.{all_ascii_digits}
use Rattle.std.proofs.lemmas.Bool.{cond-false, le-leb, lt-leb, leb-true, leb-false, and_right, eqb-true}
use Rattle.scan.specs.Numbers.{number_of}

-- what the digits cs make of n
abbrev pub read_on : ℕ → ℕ → List ℕ → Option ℕ
read_on most n [] = Some n
read_on most n (c ∷ cs) = cond (is_ascii_digit c && leb (n * 10 + digit_value c) most) (read_on most (n * 10 + digit_value c) cs) None

-- the same, where digits that make too much are seen at their end
abbrev in_all : ℕ → ℕ → List ℕ → Option ℕ
in_all most n cs = cond (all_ascii_digits cs && leb (digits_value_after 10 n cs) most) (Some (digits_value_after 10 n cs)) None

n-le-digits_value_after : (n : ℕ) (cs : List ℕ) → n ≤ digits_value_after 10 n cs
n-le-digits_value_after n [] = omega arith
n-le-digits_value_after n (c ∷ cs) = omega (arith, n-le-digits_value_after (n * 10 + digit_value c) cs)

-- one digit more; d says that it is one, and t that the number is not too large
one_more : (most m : ℕ) (cs : List ℕ) (d t : Bool) → leb m most ≡ t → (m ≤ most → read_on most m cs ≡ in_all most m cs)
    → cond (d && t) (read_on most m cs) None ≡ cond ((d && all_ascii_digits cs) && leb (digits_value_after 10 m cs) most) (Some (digits_value_after 10 m cs)) None
one_more most m cs true true e on = on (leb-true m most e)
one_more most m cs true false e on =
    let big : most < digits_value_after 10 m cs = omega (arith, n-le-digits_value_after m cs, leb-false m most e) in
    sym (cond-false _ _ _ (and_right _ _ (lt-leb _ _ big)))
one_more most m cs false t e on = refl

read_on-is : (most n : ℕ) (cs : List ℕ) → n ≤ most → read_on most n cs ≡ in_all most n cs
read_on-is most n [] h = rw (le-leb n most h)
read_on-is most n (c ∷ cs) h =
    let m = n * 10 + digit_value c in
    one_more most m cs (is_ascii_digit c) (leb m most) refl (λ le. read_on-is most m cs le)

-- no digits write no number
pub no_digits : (most : ℕ) (w : List ℕ) → eqb (length w) 0 ≡ true → None ≡ number_of most w
unfolding number_of
no_digits most [] e = refl
no_digits most (c ∷ cs) e = absurd (omega (arith, eqb-true _ 0 e))

-- a number begins at 0
pub begun : (most : ℕ) (w : List ℕ) → 0 < length w → read_on most 0 w ≡ number_of most w
unfolding number_of
begun most [] h = absurd (omega arith)
begun most (c ∷ cs) h = read_on-is most 0 (c ∷ cs) (omega arith) ∙ sym (ap (λ t. cond ((t && all_ascii_digits (c ∷ cs)) && leb (digits_value 10 (c ∷ cs)) most) (Some (digits_value 10 (c ∷ cs))) None) (le-leb 1 (length (c ∷ cs)) (omega arith)))
