use Rattle.std.proofs.Common.{rules, ◌≡◌, ◌∷◌, [], Some, ap, arith}
use Rattle.std.proofs.lemmas.Slice.Eq.{text_from_reads}
use Rattle.words.specs.Texts.{text_word}
use Rattle.words.proofs.texts.bytes.Goals as goal

pub returns-in-37-clause-value : goal.returns-in-37-clause-value
unfolding text_word
returns-in-37-clause-value c =
    let w : c.args.word.now ≡ 37 ∷ 45 ∷ [] = text_from_reads _ _ (omega arith) (search rules, search rules) in
    rw w (ap Some c.new.ensures.items)
