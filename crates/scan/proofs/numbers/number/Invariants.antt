use Rattle.std.proofs.Common.{◌≡◌, ◌≤◌, drop}
use Rattle.scan.specs.Numbers.{number_of}
use Rattle.scan.proofs.Numerals.{read_on}
use Rattle.scan.proofs.numbers.number.Given as goal

abbrev pub invariant-loop-b : goal.invariant-loop-b
invariant-loop-b l = (l.n ≤ l.most) × (read_on l.most l.n (drop l.b-index l.word) ≡ number_of l.most l.word)
