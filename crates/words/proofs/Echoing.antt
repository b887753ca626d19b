-- The echo of a command, word by word.
use Rattle.std.proofs.Common.{◌≡◌, ℕ, suc, ◌+◌, ◌<◌, false, List, [], ◌∷◌, ◌++◌, map, length, get_or, take, drop, sym, ap, ◌∙◌, arith, Bor}
use Rattle.std.specs.List.{flat_map}
use Rattle.std.proofs.lemmas.List.{append_assoc, append-nil, take_more, get_or-map, length-map}
use Rattle.words.specs.Texts.{echoed_byte, echoed_from, echoed}

echoed_from-append : (ws : List (List ℕ)) (w : List ℕ) → echoed_from false (ws ++ w ∷ []) ≡ echoed_from false ws ++ (32 ∷ flat_map echoed_byte w)
echoed_from-append [] w = ap (λ l. 32 ∷ l) (append-nil _)
echoed_from-append (v ∷ ws) w = ap (λ l. 32 ∷ (flat_map echoed_byte v ++ l)) (echoed_from-append ws w) ∙ ap (λ l. 32 ∷ l) (sym (append_assoc (flat_map echoed_byte v) (echoed_from false ws) _))

-- one word more, after the first
pub echoed_more : (ws : List (Bor (List ℕ))) (i : ℕ) (d : Bor (List ℕ)) → i < length (drop 1 ws)
    → echoed (take (suc i) (map (λ x. x.now) ws)) ++ (32 ∷ flat_map echoed_byte (get_or (drop 1 ws) i d).now) ≡ echoed (take (suc (i + 1)) (map (λ x. x.now) ws))
echoed_more [] i d h = absurd (omega arith)
echoed_more (w ∷ ws) i d h =
    let later = map (λ x. x.now) ws in
    let more = take_more later i [] (rw length-map h) in
    append_assoc (flat_map echoed_byte w.now) (echoed_from false (take i later)) _
    ∙ sym (ap (λ l. flat_map echoed_byte w.now ++ l)
    (ap (echoed_from false) more ∙ echoed_from-append (take i later) (get_or later i []) ∙ ap (λ v. echoed_from false (take i later) ++ (32 ∷ flat_map echoed_byte v)) (get_or-map (λ x. x.now) ws i d [] h)))
