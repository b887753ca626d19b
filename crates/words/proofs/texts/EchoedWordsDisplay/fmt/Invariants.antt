use Rattle.std.proofs.Common.{suc, map, take}
use Rattle.std.specs.Fmt.{HasWritten, IsPlainFormatter}
use Rattle.words.specs.Texts.{echoed}
use Rattle.words.proofs.texts.EchoedWordsDisplay.fmt.Given as goal

abbrev pub invariant-loop-word : goal.invariant-loop-word
invariant-loop-word g l =
    IsPlainFormatter l.fn.f → HasWritten g.W.Write.write_str_gives l.fn.f (echoed (take (suc l.word-index) (map (λ x. x.now) l.self.0.now))) l.f
