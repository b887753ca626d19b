use Rattle.std.proofs.lemmas.Str.{IsUtf8-from_ascii}
use Rattle.words.proofs.hex.ascii.Goals as goal

pub from_utf8_unchecked-requires : goal.from_utf8_unchecked-requires
from_utf8_unchecked-requires c = IsUtf8-from_ascii _ c.requires
