use Rattle.std.proofs.Common.{rules, arith}
use Rattle.std.proofs.lemmas.Grind.{common_steps}
use Rattle.wafers.specs.Stays.{stay}
use Rattle.wafers.proofs.Going.{goes_on}
use Rattle.wafers.proofs.history.History.moved_on.Goals as goal

pub returns : goal.returns
returns c =
    let h = c.args.self in
    let e = goes_on stay _ h.entries h.count c.ended.result c.opened.result _ _ h.some (search rules) c.ended.ensures c.opened.ensures in
    grind (arith, common_steps, e)
