-- The settings: the reader switch, and one silence switch for each place by its position.
use Rattle.std.specs.Prelude.{ℕ, Bool, false, cond, ◌&&◌, Some, None, Option, ◌==◌, nat_lt}
use Rattle.model.specs.Places.{Plan, index}

pub record Switches : Type 0 where
  pub reader : Bool
  -- how many places they were made for
  pub count : ℕ
  -- by position; past the count no place is silenced
  pub silent : ℕ → Bool

-- all switches off
abbrev pub all_off : ℕ → Switches
all_off n = record { reader = false; count = n; silent = λ _. false }

abbrev pub with_reader : Bool → Switches → Switches
with_reader b h = record { reader = b; count = h.count; silent = h.silent }

-- the switch of a position is set; past the count nothing changes
abbrev pub silenced_at : ℕ → Bool → Switches → Switches
silenced_at i b h = record { reader = h.reader; count = h.count; silent = λ j. cond (nat_lt i h.count && j == i) b (h.silent j) }

abbrev pub silent_at : Option ℕ → Switches → Bool
silent_at None h = false
silent_at (Some i) h = h.silent i

-- whether location reports of a place are left out
abbrev pub quiet : Plan → Switches → ℕ → Bool
quiet ps h p = silent_at (index ps p) h
