use Rattle.std.proofs.Common.{rules, tests, ◌≡◌, [], map, vec_items, ap, ◌∙◌}
use Rattle.std.proofs.lemmas.Iterator.Consumers.{map_from_collect, YieldsList-from_filter, YieldsList-at}
use Rattle.std.proofs.lemmas.Iterator.Splits.{YieldsList-from_slice_split}
use Rattle.std.proofs.lemmas.Result.{IfOk-weaker}
use Rattle.std.specs.List.{filter, slice_split}
use Rattle.scan.specs.Lines.{is_blank, split, line_words}
use Rattle.scan.proofs.Splitting.{not_empty, filter-slice_split}
use Rattle.scan.proofs.lines.words.Goals as goal

pub returns : goal.returns
returns c =
    let line = c.args.line.now in
    let told = c.bare_line.result.now in
    IfOk-weaker c.collect.result (λ v. map (λ x. x.now) (vec_items v) ≡ filter not_empty (slice_split is_blank told)) (λ v. map (λ x. x.now) (vec_items v) ≡ line_words line)
    (λ v e. e ∙ filter-slice_split told ∙ ap (split []) c.bare_line.ensures)
    (map_from_collect _ c.collect.ensures.ran
    (YieldsList-from_filter _ not_empty
    (YieldsList-at c.filter.ensures.source (YieldsList-from_slice_split _ is_blank told c.split.ensures.rest c.split.ensures.done c.split.ensures.closure (λ x r q k. search (rules, tests))))
    c.filter.ensures.closure (λ x r q k. search (rules, tests))))
