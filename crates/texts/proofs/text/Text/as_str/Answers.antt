use Rattle.std.proofs.Common.{IsUtf8, take, rules}
use Rattle.std.proofs.lemmas.Str.{IsUtf8-from_ascii}
use Rattle.texts.proofs.Copying.{graphic_ascii}
use Rattle.texts.proofs.text.Text.as_str.Goals as goal

pub unwrap-requires : goal.unwrap-requires
unwrap-requires c =
    let t = c.args.self.now in
    let utf8 : IsUtf8 (take t.size t.bytes) = IsUtf8-from_ascii _ (graphic_ascii _ t.used) in search rules
