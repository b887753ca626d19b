-- The mirror: which reports it takes, and what it then holds.
use Rattle.std.specs.Prelude.{ℕ, Bool, true, cond, ◌&&◌, List, [], ◌∷◌, Some, None, Option, ◌==◌, nat_le, nat_lt}
use Rattle.std.specs.Str.{bytes_eq}
use Rattle.reports.specs.Fields.{Fields}
use Rattle.model.specs.Wafers.{Text, at_time, Wafer}
use Rattle.model.specs.Places.{Sites, listed, Contents, put_code, nothing_held}
use Rattle.model.specs.Rows.{row2, row3, row4, row5, row6, row8, row10, row11, row12, row13, row14, row17, row18, row19, row20, row21, row7, row9, Row, enter, move, leave, change, can, effect, told}

pub record Mirror : Type 0 where
  pub contents : Contents
  -- the occupants by location reports
  pub seen : ℕ → Option Text
  -- the time of the last substrate report
  pub last : ℕ

abbrev pub blank_mirror : Mirror
blank_mirror = record { contents = nothing_held; seen = λ _. None; last = 0 }

abbrev pub when : Bool → Row → Option Row → Option Row
when b r other = cond b (Some r) other

-- the row that a report names; target, acquired ID, new states and the places of row 1 are the report's
abbrev pub row_of : ℕ → Fields → Option Row
row_of n f =
    when (n == 1) (enter f.place f.destination)
    (when (n == 2) (move row2 f.place)
    (when (n == 3) (move row3 f.place)
    (when (n == 4) (move row4 f.place)
    (when (n == 5) (move row5 f.place)
    (when (n == 6) (move row6 f.place)
    (when (n == 7) (leave row7)
    (when (n == 8) (change row8)
    (when (n == 9) (leave row9)
    (when (n == 10) (change (row10 f.reading))
    (when (n == 11) (change row11)
    (when (n == 12) (change (row12 f.processing))
    (when (n == 13) (change row13)
    (when (n == 14) (change (row14 f.processing))
    (when (n == 17) (change (row17 f.acquired))
    (when (n == 18) (change (row18 f.acquired))
    (when (n == 19) (change (row19 f.acquired))
    (when (n == 20) (change row20)
    (when (n == 21) (change row21)
    None))))))))))))))))))

-- the report shows this wafer
abbrev pub matches : Wafer → Fields → Bool
matches w f =
    (w.place == f.place)
    && (w.source == f.source
    && (w.destination == f.destination
    && (w.transport == f.transport
    && (w.processing == f.processing
    && (w.reading == f.reading
    && bytes_eq w.acquired f.acquired)))))

-- a wafer row is free, where the row needs one
abbrev pub has_row : ℕ → Row → ℕ → Bool
has_row n (enter p d) u = nat_lt u n
has_row n (move l q) u = true
has_row n (leave e) u = true
has_row n (change g) u = true

-- a report is taken, or refused with a number
pub data Intake : Type 0 where
  taken : Mirror → Intake
  fault : ℕ → Intake

-- the report's row is a step from what the mirror holds
abbrev pub is_step : Sites → Mirror → Fields → Row → Bool
is_step at m f r = can at m.contents f.id r && (nat_le m.last f.time && matches (told (at_time f.time) (m.contents.wafer f.id) r) f)

abbrev pub taken_row : Mirror → Fields → Row → Mirror
taken_row m f r = record { contents = effect (at_time f.time) f.id r m.contents; seen = m.seen; last = f.time }

abbrev pub take_row : Sites → ℕ → Mirror → Fields → Option Row → Intake
take_row at n m f None = fault 17
take_row at n m f (Some r) = cond (is_step at m f r) (cond (has_row n r m.contents.used) (taken (taken_row m f r)) (fault 18)) (fault 17)

-- the occupant that a location report names
abbrev pub occupant_told : Fields → Option Text
occupant_told f = cond (f.row == 1) (Some f.id) None

abbrev pub taken_place : Mirror → Fields → Mirror
taken_place m f = record { contents = m.contents; seen = put_code f.place (occupant_told f) m.seen; last = m.last }

abbrev pub take_place : Sites → Mirror → Fields → Intake
take_place at m f = cond (listed at f.place) (taken (taken_place m f)) (fault 17)

-- one report, at a mirror with n wafer rows
abbrev pub intake : Sites → ℕ → Mirror → Fields → Intake
intake at n m f = cond (f.family == 0) (take_row at n m f (row_of f.row f)) (take_place at m f)

-- the mirror after a report, whether it was taken or not
abbrev pub held_after : Mirror → Intake → Mirror
held_after m (taken m') = m'
held_after m (fault k) = m

-- a list of reports, each told in turn; those that are refused change nothing
abbrev pub hears : Sites → ℕ → Mirror → List Fields → Mirror
hears at n m [] = m
hears at n m (f ∷ fs) = hears at n (held_after m (intake at n m f)) fs

-- a list of reports, all taken, or the first fault
abbrev pub intake_all : Sites → ℕ → Intake → List Fields → Intake
intake_all at n (taken m) [] = taken m
intake_all at n (taken m) (f ∷ fs) = intake_all at n (intake at n m f) fs
intake_all at n (fault k) [] = fault k
intake_all at n (fault k) (f ∷ fs) = intake_all at n (fault k) fs
