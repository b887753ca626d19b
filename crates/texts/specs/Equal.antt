-- Texts are equal exactly if they spell the same; the law of keys cites it.
use Rattle.std.proofs.Common.{◌≡◌, ℕ, ◌+◌, ◌-◌, ◌≤◌, ◌&&◌, eqb, List, length, replicate, take, sym, ap, ◌∙◌, subst}
use Rattle.std.proofs.Math.Nat.{add-sub_of_le, le_trans, min-le_left}
use Rattle.std.specs.Cmp.{both_ways}
use Rattle.std.specs.Str.{bytes_eq}
use Rattle.std.proofs.lemmas.Bool.{and_from, and_parts, eq-eqb, eqb-true}
use Rattle.std.proofs.lemmas.List.{length-append, length-replicate, length-take, length-take-le}
use Rattle.std.proofs.lemmas.Slice.Eq.{bytes_eq-Decides}
use Rattle.texts.specs.Form.{padded}
use Rattle.texts.specs.Meaning.{spelled}
use Rattle.texts.specs.declared.text.Text.{Text}

-- the sixteen bytes of a stored text are sixteen
length-stored : (bs : List ℕ) (n : ℕ) → n ≤ 16 → bs ≡ padded (take n bs) → length bs ≡ 16
length-stored bs n h e =
    ap length e
    ∙ length-append (take n bs) (replicate (16 - length (take n bs)) 0)
    ∙ ap (λ m. length (take n bs) + m) (length-replicate (16 - length (take n bs)) 0)
    ∙ add-sub_of_le (le_trans (subst (λ m. m ≤ n) (sym (length-take n bs)) (min-le_left n (length bs))) h)

pub text_length : (t : Text) → length (spelled t) ≡ t.size
text_length t = length-take-le t.size t.bytes (subst (λ m. t.size ≤ m) (sym (length-stored t.bytes t.size t.fits t.cleared)) t.fits)

-- the sixteen bytes and the length decide
pub same_spelled : (a b : Text) → (bytes_eq a.bytes b.bytes && eqb a.size b.size) ≡ bytes_eq (spelled a) (spelled b)
same_spelled a b =
    both_ways _ _
    (λ t. (bytes_eq-Decides (spelled a) (spelled b)).1 (ap (λ n. take n a.bytes) (eqb-true a.size b.size (and_parts _ _ t).1) ∙ ap (take b.size) ((bytes_eq-Decides a.bytes b.bytes).0 (and_parts _ _ t).0)))
    (λ t. let e = (bytes_eq-Decides (spelled a) (spelled b)).0 t in and_from _ _ ((bytes_eq-Decides a.bytes b.bytes).1 (a.cleared ∙ ap padded e ∙ sym b.cleared)) (eq-eqb a.size b.size (sym (text_length a) ∙ ap length e ∙ text_length b)))
