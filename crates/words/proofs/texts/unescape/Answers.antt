use Rattle.std.proofs.Common.{◌≡◌, ◌<◌, Some, length, ◌++◌, ◌∷◌, [], vec_items, sym, ap, ◌∙◌, arith}
use Rattle.words.specs.Texts.{unescaped, first_byte}
use Rattle.words.proofs.Pairs.{after, after_more}
use Rattle.words.proofs.Escapes.{led, led-first_byte, unescaped_end}
use Rattle.words.proofs.texts.unescape.Goals as goal

pub loop-b-preserved : goal.loop-b-preserved
loop-b-preserved c =
    let left = c.loop-b.left.now in
    let out = vec_items c.loop-b.out in
    let rest = c.in-Some.rest.now in
    let more : vec_items c.push.new.self ≡ out ++ c.in-Some.b ∷ [] = c.in_ok-push.ensures.items in
    let some : 0 < length left = omega (arith, c.in-Some.ensures.shorter) in
    let first : first_byte left ≡ Some (c.in-Some.b, rest) = sym c.in-Some.ensures.value in
    ap (λ l. after l (unescaped rest)) more ∙ sym (after_more out c.in-Some.b (unescaped rest)) ∙ ap (after out) (sym (led-first_byte left some ∙ ap led first)) ∙ c.loop-b.invariant

pub returns : goal.returns
returns c =
    let end = unescaped_end vec_items c.loop-b.out c.args.word.now c.loop-b.left.now (sym c.in_default.ensures.value) c.loop-b.invariant in
    rw (c.then_some.ensures, c.is_empty.ensures) end
