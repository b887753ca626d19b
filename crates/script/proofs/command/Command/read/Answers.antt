use Rattle.std.proofs.Common.{rules, codes, arith}
use Rattle.script.proofs.Reading.{begins}
use Rattle.script.proofs.command.Command.read.Goals as goal

pub returns-in_err-report-in-pack : goal.returns-in_err-report-in-pack
returns-in_err-report-in-pack c = rw (begins (codes "pack") c.args.words.now _ (omega arith) c.in-pack.len_at_least c.in-pack.len_below (search rules)) (search rules)

pub returns-in_err-log-in-unpack : goal.returns-in_err-log-in-unpack
returns-in_err-log-in-unpack c = rw (begins (codes "unpack") c.args.words.now _ (omega arith) c.in-unpack.len_at_least c.in-unpack.len_below (search rules)) (search rules)

pub returns-in_ok-report-in-pack : goal.returns-in_ok-report-in-pack
returns-in_ok-report-in-pack c = rw (begins (codes "pack") c.args.words.now _ (omega arith) c.in-pack.len_at_least c.in-pack.len_below (search rules)) (search rules)

pub returns-in_ok-log-in-unpack : goal.returns-in_ok-log-in-unpack
returns-in_ok-log-in-unpack c = rw (begins (codes "unpack") c.args.words.now _ (omega arith) c.in-unpack.len_at_least c.in-unpack.len_below (search rules)) (search rules)
