-- The switches that settings stand for.
use Rattle.std.specs.Prelude.{false, cond, nat_lt, slice_index_or}
use Rattle.model.specs.Switches.{Switches}
use Rattle.settings.specs.declared.settings.Settings.{Settings}

unfoldable pub switches : Settings → Switches
switches s = record { reader = s.reader; count = s.count; silent = λ p. cond (nat_lt p s.count) (slice_index_or s.silenced p false) false }
