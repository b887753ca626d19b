use Rattle.std.proofs.Common.{rules, ◌∙◌, arith}
use Rattle.std.proofs.Output.{has_written_of_eq}
use Rattle.words.specs.Hex.{hex_pair}
use Rattle.words.proofs.Written.{has_written_more}
use Rattle.words.proofs.hex.HexDigitsDisplay.fmt.Goals as goal

pub loop-b-preserved : goal.loop-b-preserved
loop-b-preserved g c = λ plain.
    let before = c.loop-b.invariant plain in
    let pair = has_written_of_eq _ _ _ _ _ (c.ascii.ensures ∙ c.pair.ensures.value) (c.write_str.ensures.writes before.plain (search rules)) in
    has_written_more _ hex_pair c.args.self.now.0.now c.loop-b.b-index _ _ _ (omega arith) before pair
