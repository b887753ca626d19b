-- A line cut at its comment and at its blanks, and its words.
use Rattle.std.proofs.Common.{◌≡◌, ℕ, ◌+◌, ◌<◌, ◌≤◌, Bool, true, false, cond, not, ◌&&◌, eqb, List, [], ◌∷◌, ◌++◌, length, get_or, take, drop, sym, refl, ap, ◌∙◌, arith}
use Rattle.std.specs.List.{filter, slice_split, onto_first}
use Rattle.std.proofs.lemmas.List.{append_assoc, append-nil, take_more, take_all, at_drop_more, at_drop_all}
use Rattle.std.proofs.lemmas.Bool.{cond-true, cond-false, ne_eqb}
use Rattle.scan.specs.Lines.{is_blank, bare, closed, split}

module _ (line : List ℕ) (fresh : Bool) (i : ℕ) (inside : i < length line) (so_far : take i line ++ bare fresh (drop i line) ≡ bare true line) where
  now_at : take i line ++ bare fresh (get_or line i 0 ∷ drop (i + 1) line) ≡ bare true line
  now_at = sym (ap (λ l. take i line ++ l) (at_drop_more (bare fresh) line i 0 inside)) ∙ so_far

  -- a word begins here, with `#`
  pub cut_here : fresh && eqb (get_or line i 0) 35 ≡ true → take i line ≡ bare true line
  cut_here e = sym (append-nil _) ∙ sym (ap (λ l. take i line ++ l) (cond-true _ _ _ e)) ∙ now_at

  -- it does not
  pub goes_on : fresh && eqb (get_or line i 0) 35 ≡ false → take (i + 1) line ++ bare (is_blank (get_or line i 0)) (drop (i + 1) line) ≡ bare true line
  goes_on e =
      ap (λ l. l ++ bare (is_blank (get_or line i 0)) (drop (i + 1) line)) (take_more line i 0 inside) ∙ append_assoc (take i line) (get_or line i 0 ∷ []) _
      ∙ sym (ap (λ l. take i line ++ l) (cond-false _ _ _ e)) ∙ now_at

-- the line has come to its end
pub ended : (line : List ℕ) (fresh : Bool) (i : ℕ) → length line ≤ i → take i line ++ bare fresh (drop i line) ≡ bare true line → line ≡ bare true line
ended line fresh i h so_far =
    sym (take_all i line h) ∙ sym (append-nil _) ∙ sym (ap (λ l. take i line ++ l) (at_drop_all (bare fresh) line i h)) ∙ so_far

abbrev pub not_empty : List ℕ → Bool
not_empty w = not (eqb (length w) 0)

-- bytes before the first part
abbrev before : List ℕ → List (List ℕ) → List (List ℕ)
before w [] = w ∷ []
before w (x ∷ xs) = (w ++ x) ∷ xs

before-onto_first : (w : List ℕ) (b : ℕ) (ws : List (List ℕ)) → before w (onto_first b ws) ≡ before (w ++ b ∷ []) ws
before-onto_first w b [] = refl
before-onto_first w b (x ∷ xs) = ap (λ l. l ∷ xs) (sym (append_assoc w (b ∷ []) x))

filter-before_nil : (ws : List (List ℕ)) → filter not_empty (before [] ws) ≡ filter not_empty ws
filter-before_nil [] = refl
filter-before_nil (x ∷ xs) = refl

-- a word that has come to its end is kept, if it has any byte
filter-closed : (w : List ℕ) (ws : List (List ℕ)) → filter not_empty ((w ++ []) ∷ ws) ≡ closed w ++ filter not_empty ws
filter-closed [] ws = refl
filter-closed (c ∷ cs) ws =
    let some : eqb (length (c ∷ cs)) 0 ≡ false = ne_eqb _ 0 (λ e. omega arith) in
    ap (λ l. filter not_empty (l ∷ ws)) (append-nil (c ∷ cs)) ∙ ap (λ t. cond (not t) ((c ∷ cs) ∷ filter not_empty ws) (filter not_empty ws)) some

-- a byte more; t says that it is blank
one_more : (w : List ℕ) (b : ℕ) (bs : List ℕ) (ws : List (List ℕ)) (t : Bool) → filter not_empty (before [] ws) ≡ split [] bs → filter not_empty (before (w ++ b ∷ []) ws) ≡ split (w ++ b ∷ []) bs
    → filter not_empty (before w (cond t ([] ∷ ws) (onto_first b ws))) ≡ cond t (closed w ++ split [] bs) (split (w ++ b ∷ []) bs)
one_more w b bs ws true start on = filter-closed w ws ∙ ap (λ l. closed w ++ l) (sym (filter-before_nil ws) ∙ start)
one_more w b bs ws false start on = ap (filter not_empty) (before-onto_first w b ws) ∙ on

-- the parts of bs after the bytes of a word
words_after : (w bs : List ℕ) → filter not_empty (before w (slice_split is_blank bs)) ≡ split w bs
words_after w [] = filter-closed w [] ∙ append-nil (closed w)
words_after w (b ∷ bs) = one_more w b bs (slice_split is_blank bs) (is_blank b) (words_after [] bs) (words_after (w ++ b ∷ []) bs)

-- of the parts of a line, those that have any byte
pub filter-slice_split : (told : List ℕ) → filter not_empty (slice_split is_blank told) ≡ split [] told
filter-slice_split told = sym (filter-before_nil (slice_split is_blank told)) ∙ words_after [] told
