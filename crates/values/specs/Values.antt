-- What times and codes stand for, and which numbers are one.
use Rattle.std.specs.Prelude.{ℕ, ◌^◌, Bool, ◌&&◌, Option, nat_le, nat_lt}
use Rattle.values.specs.declared.time.Time.{Time}
use Rattle.values.specs.declared.code.Code.{Code}
use Rattle.values.specs.Numbers.{passed}

abbrev pub moment : Time → ℕ
moment t = t.millis

abbrev pub coded : Code → ℕ
coded c = c.number

-- a time has 40 bits
abbrev pub is_moment : ℕ → Bool
is_moment n = nat_lt n (2 ^ 40)

-- a code has 16 bits and is not 0
abbrev pub is_code : ℕ → Bool
is_code n = nat_le 1 n && nat_le n 65535

abbrev pub time_of : ℕ → Option ℕ
time_of n = passed (is_moment n) n

abbrev pub code_of : ℕ → Option ℕ
code_of n = passed (is_code n) n
