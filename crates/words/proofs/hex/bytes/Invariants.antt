use Rattle.std.proofs.Common.{◌≡◌, ◌-◌, ◌≤◌, length, drop, vec_items}
use Rattle.words.specs.Hex.{hex_word}
use Rattle.words.proofs.Pairs.{after}
use Rattle.words.proofs.hex.bytes.Given as goal

abbrev pub invariant-loop-i : goal.invariant-loop-i
invariant-loop-i l = (l.i ≤ length l.word) × (after (vec_items l.out) (hex_word (drop l.i l.word)) ≡ hex_word l.word)

abbrev pub decreases-loop-i : goal.decreases-loop-i
decreases-loop-i l = length l.word - l.i
