use Rattle.std.proofs.Common.{rules, ◌≡◌, ◌++◌, codes, ap, sym, ◌∙◌}
use Rattle.std.proofs.Output.{has_written_of_eq}
use Rattle.values.specs.Names.{field_name}
use Rattle.script.specs.Wording.{shown, no_text_reason, mistake_text}
use Rattle.script.proofs.mistake.MistakeDisplay.fmt.Goals.{then-all_graphic, else-all_graphic}
use Rattle.script.proofs.mistake.MistakeDisplay.fmt.Goals as goal

pub returns-in-Number-clause-writes : goal.returns-in-Number-clause-writes
returns-in-Number-clause-writes g c = λ plain ok. has_written_of_eq _ _ _ _ _ (ap mistake_text (sym c.in-Number.is)) (c.write-in-Number.ensures.writes plain ok)

pub returns-after-all_graphic-clause-writes : goal.returns-after-all_graphic-clause-writes
returns-after-all_graphic-clause-writes g c = λ plain ok.
    let word = c.in-Text.word.now in
    let reason : c.if-all_graphic.reason.now ≡ no_text_reason word = elim c.if-all_graphic.branch [ then-all_graphic w ↦ search rules | else-all_graphic w ↦ search rules ] in
    has_written_of_eq _ _ _ _ _
    (ap (λ r. field_name c.in-Text.field ++ (codes " '" ++ (shown word ++ (codes "' is no text: " ++ r)))) reason ∙ ap mistake_text (sym c.in-Text.is))
    (c.write-in-Text.ensures.writes plain ok)
