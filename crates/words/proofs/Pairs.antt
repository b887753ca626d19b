-- Hex digits read two by two.
use Rattle.std.proofs.Common.{◌≡◌, ℕ, ◌+◌, ◌<◌, ◌≤◌, List, [], ◌∷◌, ◌++◌, length, get_or, drop, Some, None, Option, sym, refl, ap, ◌∙◌, arith}
use Rattle.std.proofs.lemmas.List.{append_assoc, append-nil, drop_more, drop_all}
use Rattle.words.specs.Hex.{before, hex_byte, hex_word}

-- bytes that were read, and what the rest reads as
abbrev pub after : List ℕ → Option (List ℕ) → Option (List ℕ)
after bs None = None
after bs (Some cs) = Some (bs ++ cs)

pub after_none : (o : Option (List ℕ)) → after [] o ≡ o
after_none None = refl
after_none (Some cs) = refl

pub after_more : (bs : List ℕ) (b : ℕ) (o : Option (List ℕ)) → after bs (before (Some b) o) ≡ after (bs ++ b ∷ []) o
after_more bs b None = refl
after_more bs b (Some cs) = ap Some (sym (append_assoc bs (b ∷ []) cs))

pair_at : (xs : List ℕ) (i : ℕ) → i + 2 ≤ length xs → drop i xs ≡ get_or xs i 0 ∷ get_or xs (i + 1) 0 ∷ drop (i + 2) xs
pair_at xs i h =
    let next : i + 1 + 1 ≡ i + 2 = omega arith in
    drop_more xs i 0 (omega arith) ∙ ap (λ l. get_or xs i 0 ∷ l) (drop_more xs (i + 1) 0 (omega arith) ∙ ap (λ k. get_or xs (i + 1) 0 ∷ drop k xs) next)

one_at : (xs : List ℕ) (i : ℕ) → i < length xs → length xs < i + 2 → drop i xs ≡ get_or xs i 0 ∷ []
one_at xs i h g = drop_more xs i 0 h ∙ ap (λ l. get_or xs i 0 ∷ l) (drop_all (i + 1) xs (omega arith))

-- two digits that write no byte
pub pair_none : (out xs : List ℕ) (i : ℕ) → i + 2 ≤ length xs → hex_byte (get_or xs i 0) (get_or xs (i + 1) 0) ≡ None → after out (hex_word (drop i xs)) ≡ hex_word xs → None ≡ hex_word xs
unfolding hex_word
pair_none out xs i h n inv =
    sym (ap (λ o. after out (before o (hex_word (drop (i + 2) xs)))) n) ∙ sym (ap (λ l. after out (hex_word l)) (pair_at xs i h)) ∙ inv

-- two digits that write a byte
pub pair_some : (out xs : List ℕ) (i b : ℕ) → i + 2 ≤ length xs → hex_byte (get_or xs i 0) (get_or xs (i + 1) 0) ≡ Some b → after out (hex_word (drop i xs)) ≡ hex_word xs → after (out ++ b ∷ []) (hex_word (drop (i + 2) xs)) ≡ hex_word xs
unfolding hex_word
pair_some out xs i b h n inv =
    sym (after_more out b (hex_word (drop (i + 2) xs))) ∙ sym (ap (λ o. after out (before o (hex_word (drop (i + 2) xs)))) n) ∙ sym (ap (λ l. after out (hex_word l)) (pair_at xs i h)) ∙ inv

-- one digit is left
pub odd : (out xs : List ℕ) (i : ℕ) → i < length xs → length xs < i + 2 → after out (hex_word (drop i xs)) ≡ hex_word xs → None ≡ hex_word xs
unfolding hex_word
odd out xs i h g inv = sym (ap (λ l. after out (hex_word l)) (one_at xs i h g)) ∙ inv

-- nothing is left
pub none_left : (out xs : List ℕ) (i : ℕ) → length xs ≤ i → after out (hex_word (drop i xs)) ≡ hex_word xs → Some out ≡ hex_word xs
unfolding hex_word
none_left out xs i h inv = sym (ap Some (append-nil out)) ∙ sym (ap (λ l. after out (hex_word l)) (drop_all i xs h)) ∙ inv
