use Rattle.std.proofs.Common.{sym, arith}
use Rattle.std.proofs.lemmas.Bool.{eqb-false}
use Rattle.scan.proofs.Numerals.{no_digits, begun}
use Rattle.scan.proofs.numbers.number.Goals as goal

pub returns-then-is_empty-clause-value : goal.returns-then-is_empty-clause-value
returns-then-is_empty-clause-value c = no_digits _ _ (sym c.if-is_empty.ensures)

pub loop-b-init : goal.loop-b-init
loop-b-init c =
    (omega arith, begun c.args.most c.args.word.now (omega (arith, eqb-false _ 0 (sym c.if-is_empty.ensures))))
