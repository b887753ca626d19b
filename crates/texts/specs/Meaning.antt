-- The bytes that a stored text or ID stands for.
use Rattle.std.specs.Prelude.{ℕ, List, take}
use Rattle.texts.specs.declared.text.Text.{Text}
use Rattle.texts.specs.declared.id.Id.{Id}

abbrev pub spelled : Text → List ℕ
spelled t = take t.size t.bytes

abbrev pub called : Id → List ℕ
called i = spelled i.text
