-- A command by what it asks for.
use Rattle.std.specs.Prelude.{vec_items}
use Rattle.script.specs.declared.command.Command.{Command}
use Rattle.script.specs.declared.command.Command.TheVariants.{Pack, Unpack}
use Rattle.script.specs.Drafts.{drafted}
use Rattle.script.specs.Requests.{Request, packing, unpacking}

abbrev pub asked : Command → Request
asked (Pack d) = packing (drafted d)
asked (Unpack bs) = unpacking (vec_items bs)
