-- Bytes written up to the first that is escaped, and from there on.
use Rattle.std.proofs.Common.{◌≡◌, ℕ, ◌+◌, ◌<◌, ◌≤◌, Bool, true, false, not, ◌&&◌, eqb, List, [], ◌∷◌, ◌++◌, length, get_or, take, drop, None, Some, IsAscii, sym, refl, ap, ◌∙◌, arith}
use Rattle.std.specs.List.{flat_map, list_all, list_any, position, position_or_len}
use Rattle.std.proofs.lemmas.List.{append_assoc, drop_more, get_or-take, length-take, take-append-drop, take_all}
use Rattle.std.proofs.lemmas.List.Concat.{flat_map-append}
use Rattle.std.proofs.lemmas.List.Quantifiers.{position-Some}
use Rattle.std.proofs.lemmas.List.Sums.{fails_before_first, list_all-from_AllPass}
use Rattle.std.proofs.lemmas.Bool.{cond-true, cond-false, and_parts, not-false, not-true}
use Rattle.std.proofs.lemmas.Bool.Decides.{nat_tests}
use Rattle.std.proofs.lemmas.Grind.{common_steps}
use Rattle.std.proofs.lemmas.Str.Ascii.{IsAscii-nil, IsAscii-cons}
use Rattle.words.specs.Hex.{hex_pair}
use Rattle.words.specs.Texts.{graphic, written_byte}

below_128 : (b : ℕ) → graphic b ≡ true → b < 128
below_128 b h = grind (arith, nat_tests)

module _ (escapes : List ℕ) where
  abbrev pub plain : ℕ → Bool
  plain b = graphic b && not (list_any (λ e. eqb e b) escapes)

  -- bytes that are all written as they are
  pub all_plain : (bs : List ℕ) → list_all plain bs ≡ true → (flat_map (written_byte escapes) bs ≡ bs) × IsAscii bs
  all_plain [] h = (refl, IsAscii-nil)
  all_plain (b ∷ bs) h =
      let p = and_parts (plain b) (list_all plain bs) h in
      let rest = all_plain bs p.1 in
      let itself : written_byte escapes b ≡ b ∷ [] = cond-true _ _ _ p.0 in (
        ap (λ l. l ++ flat_map (written_byte escapes) bs) itself ∙ ap (λ l. b ∷ l) rest.0,
        IsAscii-cons b bs (below_128 b (and_parts (graphic b) _ p.0).0) rest.1,
      )

  before_plain : (bs : List ℕ) (n : ℕ) → n ≤ position_or_len (λ b. not (plain b)) bs → list_all plain (take n bs) ≡ true
  before_plain bs n le = list_all-from_AllPass plain (take n bs) (λ k d l.
      let inside : k < n = omega (arith, l, length-take n bs) in
      ap plain (get_or-take n bs k d inside) ∙ not-false _ (fails_before_first (λ b. not (plain b)) bs k d (omega arith)))

  -- none is escaped
  pub none_escaped : (bs : List ℕ) → position (λ b. not (plain b)) bs ≡ None → (flat_map (written_byte escapes) bs ≡ bs) × IsAscii bs
  none_escaped bs e =
      let all : length bs ≤ position_or_len (λ b. not (plain b)) bs = grind (arith, common_steps) in
      all_plain bs (ap (list_all plain) (sym (take_all (length bs) bs (omega arith))) ∙ before_plain bs (length bs) all)

  coded : (b : ℕ) → plain b ≡ false → written_byte escapes b ≡ 37 ∷ hex_pair b
  coded b e = cond-false (plain b) (b ∷ []) (37 ∷ hex_pair b) e

  -- the byte at n is the first that is
  module _ (bs : List ℕ) (n : ℕ) (e : position (λ b. not (plain b)) bs ≡ Some n) where
    pub first_inside : n < length bs
    first_inside = (position-Some (λ b. not (plain b)) bs n 0 e).0

    before_first : n ≤ position_or_len (λ b. not (plain b)) bs
    before_first = grind (arith, common_steps)

    pub run_ascii : IsAscii (take n bs)
    run_ascii = (all_plain (take n bs) (before_plain bs n before_first)).1

    -- what is written so far, the bytes up to it, and its code, are what is written before the bytes after it
    pub one_escaped : (done : List ℕ) → (done ++ (take n bs ++ (37 ∷ hex_pair (get_or bs n 0)))) ++ flat_map (written_byte escapes) (drop (n + 1) bs) ≡ done ++ flat_map (written_byte escapes) bs
    one_escaped done =
        let w = written_byte escapes in
        let code = 37 ∷ hex_pair (get_or bs n 0) in
        let rest = flat_map w (drop (n + 1) bs) in
        let front : flat_map w (take n bs) ≡ take n bs = (all_plain (take n bs) (before_plain bs n before_first)).0 in
        let back : flat_map w (drop n bs) ≡ code ++ rest =
        ap (flat_map w) (drop_more bs n 0 first_inside) ∙ ap (λ l. l ++ rest) (coded _ (not-true _ (position-Some (λ b. not (plain b)) bs n 0 e).1)) in
        let whole : flat_map w bs ≡ take n bs ++ (code ++ rest) =
        ap (flat_map w) (sym (take-append-drop n bs)) ∙ flat_map-append w (take n bs) (drop n bs) ∙ ap (λ l. l ++ flat_map w (drop n bs)) front ∙ ap (λ l. take n bs ++ l) back in
        let joined : (take n bs ++ code) ++ rest ≡ flat_map w bs = append_assoc (take n bs) code rest ∙ sym whole in
        append_assoc done (take n bs ++ code) rest ∙ ap (λ l. done ++ l) joined
