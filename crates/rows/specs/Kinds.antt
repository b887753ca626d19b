-- The kinds of a place by their numbers.
use Rattle.std.specs.Prelude.{ℕ, Option, nat_le}
use Rattle.values.specs.Numbers.{passed}
use Rattle.rows.specs.declared.kind.Kind.{Kind}
use Rattle.rows.specs.declared.kind.Kind.TheVariants.{Slot, Station}

abbrev pub kind_number : Kind → ℕ
kind_number Slot = 0
kind_number Station = 1

abbrev pub kind_of : ℕ → Option ℕ
kind_of n = passed (nat_le n 1) n
