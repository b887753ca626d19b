use Rattle.std.proofs.Common.{rules, arith, length, ap}
use Rattle.std.proofs.lemmas.List.{take_rest}
use Rattle.std.proofs.Output.{has_written_append, has_written_of_eq}
use Rattle.words.proofs.Echoing.{echoed_more}
use Rattle.words.proofs.texts.EchoedWordsDisplay.fmt.Goals as goal

pub loop-word-preserved : goal.loop-word-preserved
loop-word-preserved g c = λ plain.
    let ws = c.args.self.now.0.now in
    let before = c.loop-word.invariant plain in
    let word = rw (take_rest ws 1) at (c.write-in-loop-word.ensures.writes before.plain (search rules)) in
    has_written_of_eq _ _ _ _ _ (echoed_more ws c.loop-word.word-index _ (omega (arith, ap length (take_rest ws 1)))) (has_written_append _ _ _ _ _ _ before word)
