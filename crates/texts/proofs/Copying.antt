-- Given bytes at the front of sixteen zeros.
use Rattle.std.proofs.Common.{◌≡◌, ℕ, ◌<◌, Bool, true, false, ◌&&◌, eqb, List, [], ◌∷◌, ◌++◌, length, take, drop, replicate, IsAscii, sym, refl, ap, ◌∙◌, arith}
use Rattle.std.proofs.lemmas.List.{take_at, drop-replicate}
use Rattle.std.proofs.lemmas.Bool.Decides.{nat_tests}
use Rattle.std.proofs.lemmas.Str.Ascii.{IsAscii-nil, IsAscii-cons}
use Rattle.texts.specs.Form.{graphic, graphic_all, padded}

pub front : (given rest : List ℕ) → take (length given) (given ++ rest) ≡ given
front given rest = take_at given rest (length given) refl

-- what follows them is what fills them up
pub cleared : (given : List ℕ) → given ++ drop (length given) (replicate 16 0) ≡ padded (take (length given) (given ++ drop (length given) (replicate 16 0)))
cleared given = ap (λ xs. given ++ xs) (drop-replicate (length given) 16 0) ∙ ap padded (sym (front given _))

pub first_graphic : (b : ℕ) (rest : Bool) → (graphic b && rest) ≡ true → (eqb b 0 ≡ false) × (b < 128) × (rest ≡ true)
first_graphic b rest h = (grind (arith, nat_tests), grind (arith, nat_tests), grind (arith, nat_tests))

-- what a text holds is ASCII
pub graphic_ascii : (bs : List ℕ) → graphic_all bs ≡ true → IsAscii bs
graphic_ascii [] h = IsAscii-nil
graphic_ascii (b ∷ bs) h =
    let p = first_graphic b (graphic_all bs) h in
    IsAscii-cons b bs p.1 (graphic_ascii bs p.2)
