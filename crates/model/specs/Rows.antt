-- The rows of the table of transitions: when each can be taken, and what it does.
use Rattle.std.specs.Prelude.{ℕ, suc, pred, Bool, false, not, ◌&&◌, ◌||◌, length, Some, None, Option, ◌==◌, nat_le, nat_lt, is_none}
use Rattle.std.specs.Str.{bytes_eq}
use Rattle.reports.specs.Bounds.{blank}
use Rattle.model.specs.Wafers.{Text, Times, Wafer, registered, with_transport, with_processing, with_reading, moved_to}
use Rattle.model.specs.Places.{Sites, listed, station, Contents, put_text, put_code}

-- the rows by which a wafer moves
pub data Leg : Type 0 where
  row2 row3 row4 row5 row6 : Leg

-- the rows that change states alone, with what each is given
pub data Change : Type 0 where
  row8 : Change
  row10 : (reading : ℕ) → Change
  row11 : Change
  row12 : (processing : ℕ) → Change
  row13 : Change
  row14 : (processing : ℕ) → Change
  row17 row18 row19 : (acquired : Text) → Change
  row20 row21 : Change

-- the rows by which a wafer goes
pub data Exit : Type 0 where
  row7 row9 : Exit

pub data Row : Type 0 where
  enter : (place destination : ℕ) → Row
  move : Leg → (target : ℕ) → Row
  leave : Exit → Row
  change : Change → Row

abbrev pub leg_number : Leg → ℕ
leg_number row2 = 2
leg_number row3 = 3
leg_number row4 = 4
leg_number row5 = 5
leg_number row6 = 6

abbrev pub change_number : Change → ℕ
change_number row8 = 8
change_number (row10 r) = 10
change_number row11 = 11
change_number (row12 p) = 12
change_number row13 = 13
change_number (row14 p) = 14
change_number (row17 a) = 17
change_number (row18 a) = 18
change_number (row19 a) = 19
change_number row20 = 20
change_number row21 = 21

abbrev pub exit_number : Exit → ℕ
exit_number row7 = 7
exit_number row9 = 9

abbrev pub row_number : Row → ℕ
row_number (enter p d) = 1
row_number (move l q) = leg_number l
row_number (leave e) = exit_number e
row_number (change g) = change_number g

-- processing 2 to 7
abbrev pub complete : ℕ → Bool
complete p = nat_le 2 p && nat_le p 7

-- neither none yet nor LOST
abbrev pub steady : ℕ → Bool
steady p = not (p == 15) && not (p == 6)

-- how a read ID is compared with the wafer's
abbrev pub reads_as : Text → Text → Bool
reads_as a id = bytes_eq a id

abbrev pub from_transport : Leg → ℕ
from_transport row2 = 0
from_transport row3 = 1
from_transport row4 = 1
from_transport row5 = 1
from_transport row6 = 2

abbrev pub to_transport : Leg → ℕ
to_transport row2 = 1
to_transport row3 = 0
to_transport row4 = 1
to_transport row5 = 2
to_transport row6 = 1

-- what a row asks of the target
abbrev pub leads : Sites → Leg → Wafer → ℕ → Bool
leads at row2 w q = station at q && not (q == w.destination)
leads at row3 w q = q == w.source && (not (w.destination == w.source) || not (complete w.processing))
leads at row4 w q = station at q && (not (q == w.source) && not (q == w.destination))
leads at row5 w q = q == w.destination && (not (w.destination == w.source) || complete w.processing)
leads at row6 w q = station at q && not (q == w.source)

-- the row fits the wafer and the target, occupancy and number of entries left aside
abbrev pub fits : Sites → Leg → Wafer → ℕ → Bool
fits at l w q = w.transport == from_transport l && (leads at l w q && (not (w.processing == 1) && steady w.processing))

abbrev pub may_leave : Exit → Wafer → Bool
may_leave row7 w = w.transport == 2 && (not (w.processing == 1) && steady w.processing)
may_leave row9 w = complete w.processing

abbrev pub may_change : Sites → Text → Change → Wafer → Bool
may_change at id row8 w = w.transport == 2 && (w.place == w.source && steady w.processing)
may_change at id (row10 r) w = w.processing == 15 && nat_le r 1
may_change at id row11 w = w.processing == 0 && (station at w.place && (w.reading == 0 || w.reading == 3))
may_change at id (row12 p) w = w.processing == 1 && (nat_le 2 p && nat_le p 6)
may_change at id row13 w = w.processing == 1
may_change at id (row14 p) w = w.processing == 0 && (nat_le 6 p && nat_le p 7)
may_change at id (row17 a) w = w.reading == 1 && (reads_as a id && steady w.processing)
may_change at id (row18 a) w = w.reading == 1 && (blank a && steady w.processing)
may_change at id (row19 a) w = w.reading == 1 && ((not (reads_as a id) && not (blank a)) && steady w.processing)
may_change at id row20 w = w.reading == 2 && steady w.processing
may_change at id row21 w = w.reading == 2 && steady w.processing

-- whether the wafer `id`, which is `o`, can take the row
abbrev pub can_from : Sites → (ℕ → Option Text) → Text → Option Wafer → Row → Bool
can_from at occ id None (enter p d) = listed at p && (is_none (occ p) && listed at d)
can_from at occ id None (move l q) = false
can_from at occ id None (leave e) = false
can_from at occ id None (change g) = false
can_from at occ id (Some w) (enter p d) = false
can_from at occ id (Some w) (move l q) = fits at l w q && (listed at q && (is_none (occ q) && nat_lt (length w.history) 16))
can_from at occ id (Some w) (leave e) = may_leave e w
can_from at occ id (Some w) (change g) = may_change at id g w

abbrev pub can : Sites → Contents → Text → Row → Bool
can at c id r = can_from at c.occupant id (c.wafer id) r

abbrev pub changed : Change → Wafer → Wafer
changed row8 w = with_transport 0 w
changed (row10 r) w = with_processing 0 (with_reading r w.acquired w)
changed row11 w = with_processing 1 w
changed (row12 p) w = with_processing p w
changed row13 w = with_processing 0 w
changed (row14 p) w = with_processing p w
changed (row17 a) w = with_reading 3 a w
changed (row18 a) w = with_reading 2 a w
changed (row19 a) w = with_reading 2 a w
changed row20 w = with_reading 3 w.acquired w
changed row21 w = with_reading 4 w.acquired w

-- the wafer after a row; where the row cannot be taken, a value that nothing rests on
abbrev pub after : Times → Option Wafer → Row → Option Wafer
after t None (enter p d) = Some (registered t p d)
after t None (move l q) = None
after t None (leave e) = None
after t None (change g) = None
after t (Some w) (enter p d) = Some w
after t (Some w) (move l q) = Some (moved_to t (to_transport l) q w)
after t (Some w) (leave e) = None
after t (Some w) (change g) = Some (changed g w)

abbrev pub used_after : Row → ℕ → ℕ
used_after (enter p d) n = suc n
used_after (move l q) n = n
used_after (leave e) n = pred n
used_after (change g) n = n

-- where a wafer is
abbrev pub place_of : Option Wafer → ℕ
place_of None = 0
place_of (Some w) = w.place

abbrev pub occupant_after : Text → ℕ → Row → (ℕ → Option Text) → ℕ → Option Text
occupant_after id from (enter p d) occ = put_code p (Some id) occ
occupant_after id from (move l q) occ = put_code q (Some id) (put_code from None occ)
occupant_after id from (leave e) occ = put_code from None occ
occupant_after id from (change g) occ = occ

abbrev pub effect : Times → Text → Row → Contents → Contents
effect t id r c = record { wafer = put_text id (after t (c.wafer id) r) c.wafer; used = used_after r c.used; occupant = occupant_after id (place_of (c.wafer id)) r c.occupant }

-- the wafer as a report shows it: after the row, or before it where the row deletes the wafer
abbrev pub standing : Option Wafer → Option Wafer → Wafer
standing (Some w) before = w
standing None (Some w) = w
standing None None = registered (record { at = 0 }) 0 0

abbrev pub told : Times → Option Wafer → Row → Wafer
told t o r = standing (after t o r) o
