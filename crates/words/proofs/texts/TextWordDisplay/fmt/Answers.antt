use Rattle.std.proofs.Common.{arith}
use Rattle.std.proofs.Output.{has_written_of_eq}
use Rattle.words.proofs.Written.{escaped_bytes-is}
use Rattle.words.proofs.texts.TextWordDisplay.fmt.Goals as goal

pub returns-clause-writes : goal.returns-clause-writes
returns-clause-writes g c = λ plain ok. has_written_of_eq _ _ _ _ _ (escaped_bytes-is c.args.self.now.0.now (grind (arith, c.if-is_empty.false, c.if-is_empty.ensures))) (c.write_bytes.ensures plain ok)
