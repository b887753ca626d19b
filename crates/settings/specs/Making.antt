-- For which numbers of places settings are made, and which switches there are.
use Rattle.std.specs.Prelude.{ℕ, cond, ◌&&◌, Ok, Err, Result, nat_le, nat_lt}
use Rattle.model.specs.Switches.{Switches, all_off}
use Rattle.settings.specs.declared.settings.Settings.{Settings}
use Rattle.settings.specs.declared.settings.switching.NoSuchCount.{NoSuchCount}
use Rattle.settings.specs.declared.settings.switching.NoSuchPosition.{NoSuchPosition}
use Rattle.settings.specs.Meaning.{switches}

abbrev pub by_switches : Result Settings NoSuchCount → Result Switches NoSuchCount
by_switches (Ok s) = Ok (switches s)
by_switches (Err e) = Err e

-- a list has 1 to 128 places
abbrev pub made_for : ℕ → Result Switches NoSuchCount
made_for n = cond (nat_le 1 n && nat_le n 128) (Ok (all_off n)) (Err record {})

abbrev pub switch_there : ℕ → Switches → Result (Unit {0}) NoSuchPosition
switch_there i h = cond (nat_lt i h.count) (Ok tt) (Err record {})
