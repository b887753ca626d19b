use Rattle.std.proofs.Common.{◌≡◌, true, sym, ap, ◌∙◌, arith, rules, tests}
use Rattle.std.proofs.lemmas.Iterator.{YieldsList-from_slice}
use Rattle.std.proofs.lemmas.Iterator.Search.{all_from_yields_List}
use Rattle.texts.specs.Form.{graphic, graphic_all}
use Rattle.texts.proofs.Copying.{front, cleared}
use Rattle.texts.proofs.text.Text.new.Goals as goal

pub invariant_of-result : goal.invariant_of-result
invariant_of-result c =
    let given = c.args.given.now in
    let all = all_from_yields_List graphic _ _ c.all.result c.all.ensures.ran (YieldsList-from_slice given cc) (λ x b q k. search (rules, tests)) in
    let passed : graphic_all given ≡ true = sym all ∙ search rules in
    rw c.copy_from_slice.ensures.after (record { fits = omega arith; used = ap graphic_all (front given _) ∙ passed; cleared = cleared given })
