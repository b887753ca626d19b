use Rattle.std.proofs.Common.{rules, codes, arith}
use Rattle.script.proofs.Reading.{begins}
use Rattle.script.proofs.command.reading.report.Goals as goal

pub returns-in-location : goal.returns-in-location
returns-in-location c = rw (begins (codes "location") c.args.words.now _ (omega arith) c.in-location.len_at_least c.in-location.len_below (search rules)) (search rules)

pub returns-in-substrate : goal.returns-in-substrate
returns-in-substrate c = rw (begins (codes "substrate") c.args.words.now _ (omega arith) c.in-substrate.len_at_least c.in-substrate.len_below (search rules)) (search rules)
