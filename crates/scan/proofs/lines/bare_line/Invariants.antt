use Rattle.std.proofs.Common.{◌≡◌, true, ◌++◌, take, drop}
use Rattle.scan.specs.Lines.{bare}
use Rattle.scan.proofs.lines.bare_line.Given as goal

abbrev pub invariant-loop-i : goal.invariant-loop-i
invariant-loop-i l = take l.i l.line ++ bare l.fresh (drop l.i l.line) ≡ bare true l.line
