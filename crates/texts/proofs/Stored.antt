-- Stored texts: the sixteen bytes and the length say the same as the text.
use Rattle.std.proofs.Common.{◌≡◌, true, arith}
use Rattle.std.proofs.lemmas.Bool.{and_from, le-leb}
use Rattle.texts.specs.Form.{formed, named}
use Rattle.texts.specs.Meaning.{spelled, called}
use Rattle.texts.specs.Equal.{text_length}
use Rattle.texts.specs.declared.text.Text.{Text}
use Rattle.texts.specs.declared.id.Id.{Id}

-- what is stored is formed as it should be
pub text_formed : (t : Text) → formed (spelled t) ≡ true
text_formed t = let l = text_length t in let f = t.fits in and_from _ _ (le-leb _ _ (omega arith)) t.used

pub id-named : (i : Id) → named (called i) ≡ true
id-named i = let l = text_length i.text in let s = i.some in and_from _ _ (le-leb _ _ (omega arith)) (text_formed i.text)
