-- A text's word read byte by byte.
use Rattle.std.proofs.Common.{◌≡◌, ℕ, ◌<◌, Bool, true, false, cond, eqb, List, [], ◌∷◌, length, None, Some, Option, sym, refl, ap, ◌∙◌, arith}
use Rattle.std.specs.Option.{option_map}
use Rattle.std.specs.Bool.{then_some}
use Rattle.std.proofs.lemmas.List.{append-nil}
use Rattle.words.proofs.Pairs.{after}
use Rattle.std.proofs.lemmas.Bool.{ne_eqb}
use Rattle.words.specs.Hex.{hex_byte, before}
use Rattle.words.specs.Texts.{itself, leaving, first_byte, unescaped}

-- what a first byte makes of the word that begins with it
abbrev pub led : Option (ℕ × List ℕ) → Option (List ℕ)
led None = None
led (Some p) = before (Some p.0) (unescaped p.1)

one : (o : Option ℕ) (rest : List ℕ) → before o (unescaped rest) ≡ led (leaving rest o)
one None rest = refl
one (Some b) rest = refl

either : (t : Bool) (x y : Option (List ℕ)) (p q : Option (ℕ × List ℕ)) → x ≡ led p → y ≡ led q → cond t x y ≡ led (cond t p q)
either true x y p q e f = e
either false x y p q e f = f

pub led-first_byte : (w : List ℕ) → 0 < length w → unescaped w ≡ led (first_byte w)
led-first_byte [] h = absurd (omega arith)
led-first_byte (c ∷ []) h = either (eqb c 37) _ _ _ _ refl (one (itself c) [])
led-first_byte (c ∷ d ∷ []) h = either (eqb c 37) _ _ _ _ refl (one (itself c) (d ∷ []))
led-first_byte (c ∷ d ∷ e ∷ cs) h = either (eqb c 37) _ _ _ _ (one (hex_byte d e) cs) (one (itself c) (d ∷ e ∷ cs))

-- where no byte comes first, the word is at its end or is no text
pub unescaped_end : {V : Type 0} (see : V → List ℕ) (v : V) (word left : List ℕ) → first_byte left ≡ None → after (see v) (unescaped left) ≡ unescaped word → option_map see (then_some (eqb (length left) 0) v) ≡ unescaped word
unescaped_end see v word [] none so_far = sym (ap Some (append-nil (see v))) ∙ so_far
unescaped_end see v word (c ∷ cs) none so_far =
    let some : eqb (length (c ∷ cs)) 0 ≡ false = ne_eqb _ 0 (λ e. omega arith) in
    ap (λ t. option_map see (then_some t v)) some ∙ ap (after (see v)) (sym (led-first_byte (c ∷ cs) (omega arith) ∙ ap led none)) ∙ so_far
