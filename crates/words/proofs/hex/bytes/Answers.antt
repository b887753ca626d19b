use Rattle.std.proofs.Common.{◌+◌, [], ◌∷◌, drop, vec_items, sym, refl, ap, ◌∙◌, arith}
use Rattle.std.proofs.lemmas.Slice.{pushed}
use Rattle.words.specs.Hex.{hex_word}
use Rattle.words.proofs.Pairs.{after, pair_none, pair_some, odd, none_left}
use Rattle.words.proofs.hex.bytes.Goals as goal

pub returns-in_default-clause-value : goal.returns-in_default-clause-value
returns-in_default-clause-value c =
    pair_none (vec_items c.loop-i.out) _ c.loop-i.i (omega arith) (sym c.in_default.ensures) c.loop-i.invariant.1

pub loop-i-preserved : goal.loop-i-preserved
loop-i-preserved c =
    let w = c.args.word.now in
    let i = c.loop-i.i in
    let more = pushed (c.in-Some.b ∷ []) refl c.in_ok-push.was c.push.ensures.items in
    (omega arith, ap (λ l. after l (hex_word (drop (i + 2) w))) more ∙ pair_some _ w i c.in-Some.b (omega arith) (sym c.in-Some.ensures) c.loop-i.invariant.1)

pub returns-then-i-word-clause-value : goal.returns-then-i-word-clause-value
returns-then-i-word-clause-value c = odd (vec_items c.loop-i.out) _ c.loop-i.i (omega arith) (omega arith) c.loop-i.invariant.1

pub returns-clause-value : goal.returns-clause-value
returns-clause-value c = none_left _ _ c.loop-i.i (omega arith) c.loop-i.invariant.1
