-- The words of a substrate report, read one after the other.
use Rattle.std.proofs.Common.{◌≡◌, ℕ, suc, ◌<◌, ◌≤◌, List, [], ◌∷◌, drop, map, length, get_or, take, ◌-◌, slice_index_or, Result, Ok, sym, ap, ◌∙◌, subst, arith, Bor}
use Rattle.std.proofs.Math.ListN.{get_or-map}
use Rattle.std.proofs.lemmas.List.{length-map, take_rest}
use Rattle.std.proofs.lemmas.Slice.Eq.{HasBytesAt, text_from_reads}
use Rattle.std.proofs.lemmas.Bool.{cond-true, eq-eqb}
use Rattle.script.specs.declared.mistake.Mistake.{Mistake}
use Rattle.script.specs.declared.mistake.Mistake.TheVariants.{Nothing, NoCommand, NoKind, Count, Number, Text, OddHex, NoHex, NoMemory}
use Rattle.script.specs.Requests.{Fault, with, word, substrate_of, substrate_words, Blames}

-- words whose first is k
pub begins : (k : List ℕ) (ws : List (Bor (List ℕ))) (d : Bor (List ℕ)) → 0 < length ws → length k ≤ length (get_or ws 0 d).now → length (get_or ws 0 d).now < suc (length k) → HasBytesAt (get_or ws 0 d).now 0 k
    → map (λ x. x.now) ws ≡ k ∷ map (λ x. x.now) (take (length ws - 1) (drop 1 ws))
begins k [] d some least below bytes = absurd (omega arith)
begins k (w ∷ ws) d some least below bytes =
    ap (λ b. b ∷ map (λ x. x.now) ws) (text_from_reads w.now k (omega arith) bytes) ∙ ap (λ l. k ∷ map (λ x. x.now) l) (sym (take_rest (w ∷ ws) 1))

-- what is wrong with a part is wrong with the whole
pub blamed : {X Y : Type 0} (m : Mistake) (o : Result X Fault) (f : X → Result Y Fault) → Blames m o → Blames m (with o f)
blamed Nothing o f h = ap (λ r. with r f) h
blamed (NoCommand w) o f h = ap (λ r. with r f) h
blamed (NoKind w) o f h = ap (λ r. with r f) h
blamed (Count k n) o f h = ap (λ r. with r f) h
blamed (Number k w n) o f h = ap (λ r. with r f) h
blamed (Text k w) o f h = ap (λ r. with r f) h
blamed (OddHex n) o f h = ap (λ r. with r f) h
blamed NoHex o f h = ap (λ r. with r f) h
blamed NoMemory o f h = tt

word_at : (ws : List (Bor (List ℕ))) (i : ℕ) (d : Bor (List ℕ)) → d.now ≡ [] → (get_or ws i d).now ≡ word (map (λ x. x.now) ws) i
word_at ws i d e = sym (get_or-map (λ x. x.now) ws i d) ∙ ap (slice_index_or (map (λ x. x.now) ws) i) e

module _ {X Y : Type 0} (m : Mistake) (ws : List (Bor (List ℕ))) (g : List ℕ → Result X Fault) (f : X → Result Y Fault) (i : ℕ) (d : Bor (List ℕ)) (none : d.now ≡ []) where
  -- the word at a place was read
  pub goes_on : (x : X) → g (get_or ws i d).now ≡ Ok x → Blames m (f x) → Blames m (with (g (word (map (λ x. x.now) ws) i)) f)
  goes_on x e h = subst (λ r. Blames m (with r f)) (sym (ap g (sym (word_at ws i d none)) ∙ e)) h

  -- the word at a place is wrong
  pub stops : Blames m (g (get_or ws i d).now) → Blames m (with (g (word (map (λ x. x.now) ws) i)) f)
  stops h = blamed m _ f (subst (λ w. Blames m (g w)) (word_at ws i d none) h)

pub counted : (ws : List (Bor (List ℕ))) (m : Mistake) → length ws ≡ 10 → Blames m (substrate_of (map (λ x. x.now) ws)) → Blames m (substrate_words (map (λ x. x.now) ws))
counted ws m ten h = subst (Blames m) (sym (cond-true _ _ _ (eq-eqb (length (map (λ x. x.now) ws)) 10 (rw length-map ten)))) h
