use Rattle.std.proofs.Common.{◌≡◌, length, vec_items}
use Rattle.words.specs.Texts.{unescaped}
use Rattle.words.proofs.Pairs.{after}
use Rattle.words.proofs.texts.unescape.Given as goal

abbrev pub invariant-loop-b : goal.invariant-loop-b
invariant-loop-b l = after (vec_items l.out) (unescaped l.left) ≡ unescaped l.word

abbrev pub decreases-loop-b : goal.decreases-loop-b
decreases-loop-b l = length l.left
