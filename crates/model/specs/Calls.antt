-- The tracker's calls: what each is checked for, its steps, and what comes of it.
use Rattle.std.specs.Prelude.{ℕ, Bool, true, false, cond, not, ◌&&◌, ◌||◌, List, [], ◌∷◌, ◌++◌, length, Some, None, Option, ◌==◌, nat_le, nat_lt, is_some, is_none}
use Rattle.std.specs.Str.{bytes_eq}
use Rattle.reports.specs.Fields.{Fields}
use Rattle.texts.specs.Form.{named}
use Rattle.values.specs.Values.{is_moment}
use Rattle.model.specs.Wafers.{Text, Times, at_time, Wafer}
use Rattle.model.specs.Places.{Spot, Plan, Sites, sites, listed, Contents, put_code, nothing_held}
use Rattle.model.specs.Switches.{Switches, quiet}
use Rattle.model.specs.Rows.{Leg, row2, row3, row4, row5, row6, fits, Change, row8, row10, row11, row12, row13, row14, row17, row18, row19, row20, row21, reads_as, Exit, row7, row9, enter, move, leave, change, place_of}
use Rattle.model.specs.Steps.{Step, takes, tells, can_all, perform, reports_of}

-- what a place that is promised holds: the wafer to come
pub record Promise : Type 0 where
  pub wafer : Text

-- a move grant by its values
pub record Grant : Type 0 where
  pub wafer : Text
  pub target : ℕ

pub record Tracker : Type 0 where
  pub contents : Contents
  pub promise : ℕ → Option Promise
  -- the latest accepted time
  pub latest : ℕ

abbrev pub made_tracker : Tracker
made_tracker = record { contents = nothing_held; promise = λ _. None; latest = 0 }

-- the calls on a registered wafer
pub data Service : Type 0 where
  start skip read_failed proceed cancel unload correct missing : Service
  end : (outcome : ℕ) → Service
  read : (acquired : Text) → Service

pub data Call : Type 0 where
  register : (id : Text) → (place destination time : ℕ) → Call
  lift : (id : Text) → (target time : ℕ) → Call
  set_down : Grant → (time : ℕ) → Call
  put_back : Grant → Call
  serve : Service → (id : Text) → (time : ℕ) → Call

-- what a call answers
pub data Answer : Type 0 where
  done : Answer
  given : Grant → Answer
  refused : (number : ℕ) → Answer

-- the one of rows 2 to 6 that fits
abbrev pub first_leg : (Leg → Bool) → Option Leg
first_leg F = cond (F row2) (Some row2) (cond (F row3) (Some row3) (cond (F row4) (Some row4) (cond (F row5) (Some row5) (cond (F row6) (Some row6) None))))

abbrev pub fitting : Sites → Option Wafer → ℕ → Option Leg
fitting at None q = None
fitting at (Some w) q = first_leg (λ l. fits at l w q)

abbrev pub processing_of : Option Wafer → ℕ
processing_of None = 15
processing_of (Some w) = w.processing

abbrev pub entries_of : Option Wafer → ℕ
entries_of None = 0
entries_of (Some w) = length w.history

abbrev pub promised_to : Option Promise → Text → Bool
promised_to None id = false
promised_to (Some p) id = bytes_eq p.wafer id

-- the place with this row is promised to the wafer
abbrev pub pledged : (ℕ → Option Promise) → Text → Option Spot → Bool
pledged f id None = false
pledged f id (Some s) = promised_to (f s.code) id

-- a place is promised to the wafer
abbrev pub granted : Plan → (ℕ → Option Promise) → Text → Bool
granted [] f id = false
granted (s ∷ ps) f id = pledged f id s || granted ps f id

-- the steps of each call

abbrev pub initial_reading : Bool → ℕ
initial_reading b = cond b 1 0

-- destination 0 stands for the place itself
abbrev pub destination_of : ℕ → ℕ → ℕ
destination_of p d = cond (d == 0) p d

abbrev pub registering : Switches → Text → ℕ → ℕ → List Step
registering h id p d = tells p (Some id) ∷ (takes id (enter p (destination_of p d)) ∷ (takes id (change (row10 (initial_reading h.reader))) ∷ []))

-- without a row that fits nothing moves; calls do not lead to such a state
abbrev pub moving : Text → ℕ → ℕ → Option Leg → List Step
moving id from q None = []
moving id from q (Some l) = tells from None ∷ (tells q (Some id) ∷ (takes id (move l q) ∷ []))

-- a wafer that is missing becomes LOST first
abbrev pub losing : Text → ℕ → List Step
losing id pr = cond (pr == 0) (takes id (change (row14 6)) ∷ []) (cond (pr == 1) (takes id (change (row12 6)) ∷ []) [])

abbrev pub leaving : Text → ℕ → Exit → List Step
leaving id from e = tells from None ∷ (takes id (leave e) ∷ [])

abbrev pub reading_row : Text → Text → Change
reading_row id a = cond (reads_as a id) (row17 a) (row19 a)

abbrev pub ending_row : ℕ → Change
ending_row o = cond (o == 0) row13 (row12 o)

-- the steps of a service, by the wafer's processing and place
abbrev pub serving : Service → Text → ℕ → ℕ → List Step
serving start id pr from = takes id (change row11) ∷ []
serving skip id pr from = takes id (change (row14 7)) ∷ []
serving read_failed id pr from = takes id (change (row18 [])) ∷ []
serving proceed id pr from = takes id (change row20) ∷ []
serving cancel id pr from = takes id (change row21) ∷ cond (pr == 0) (takes id (change (row14 7)) ∷ []) []
serving unload id pr from = leaving id from row7
serving correct id pr from = takes id (change row8) ∷ []
serving missing id pr from = losing id pr ++ leaving id from row9
serving (end o) id pr from = takes id (change (ending_row o)) ∷ []
serving (read a) id pr from = takes id (change (reading_row id a)) ∷ []

abbrev pub served : Service → Text → Option Wafer → List Step
served s id o = serving s id (processing_of o) (place_of o)

abbrev pub steps_of : Sites → Switches → Tracker → Call → List Step
steps_of at h t (register id p d x) = registering h id p d
steps_of at h t (lift id q x) = []
steps_of at h t (set_down g x) = moving g.wafer (place_of (t.contents.wafer g.wafer)) g.target (fitting at (t.contents.wafer g.wafer) g.target)
steps_of at h t (put_back g) = []
steps_of at h t (serve s id x) = served s id (t.contents.wafer id)

-- the call's time; a call without one leaves the latest
abbrev pub time_of : ℕ → Call → ℕ
time_of l (register id p d x) = x
time_of l (lift id q x) = x
time_of l (set_down g x) = x
time_of l (put_back g) = l
time_of l (serve s id x) = x

abbrev pub times_of : Tracker → Call → Times
times_of t k = at_time (time_of t.latest k)

abbrev pub promise_after : Call → (ℕ → Option Promise) → ℕ → Option Promise
promise_after (register id p d x) f = f
promise_after (lift id q x) f = put_code q (Some (record { wafer = id })) f
promise_after (set_down g x) f = put_code g.target None f
promise_after (put_back g) f = put_code g.target None f
promise_after (serve s id x) f = f

abbrev pub answer_of : Call → Answer
answer_of (register id p d x) = done
answer_of (lift id q x) = given (record { wafer = id; target = q })
answer_of (set_down g x) = done
answer_of (put_back g) = done
answer_of (serve s id x) = done

-- the checks, by rising refusal number

pub record Check : Type 0 where
  pub number : ℕ
  pub passes : Bool

abbrev pub check : ℕ → Bool → Check
check n b = record { number = n; passes = b }

-- the number of the first that fails
abbrev pub first_failed : List Check → Option ℕ
first_failed [] = None
first_failed (c ∷ cs) = cond c.passes (first_failed cs) (Some c.number)

abbrev pub timely : Tracker → ℕ → Bool
timely t x = is_moment x && nat_le t.latest x

-- the place has neither an occupant nor a promise
abbrev pub open_at : Tracker → ℕ → Bool
open_at t p = is_none (t.contents.occupant p) && is_none (t.promise p)

-- calls that want no open grant for the wafer
abbrev pub needs_no_grant : Service → Bool
needs_no_grant start = true
needs_no_grant skip = false
needs_no_grant read_failed = false
needs_no_grant proceed = false
needs_no_grant cancel = false
needs_no_grant unload = true
needs_no_grant correct = true
needs_no_grant missing = true
needs_no_grant (end o) = false
needs_no_grant (read a) = false

-- an acquired ID is formed as an ID
abbrev pub well_read : Service → Bool
well_read start = true
well_read skip = true
well_read read_failed = true
well_read proceed = true
well_read cancel = true
well_read unload = true
well_read correct = true
well_read missing = true
well_read (end o) = true
well_read (read a) = named a

-- an outcome is one that end takes: 0, or 2 to 5
abbrev pub is_outcome : ℕ → Bool
is_outcome o = o == 0 || (nat_le 2 o && nat_le o 5)

abbrev pub well_ended : Service → Bool
well_ended start = true
well_ended skip = true
well_ended read_failed = true
well_ended proceed = true
well_ended cancel = true
well_ended unload = true
well_ended correct = true
well_ended missing = true
well_ended (end o) = is_outcome o
well_ended (read a) = true

-- the grant's place is listed and promised to the grant's wafer
abbrev pub honoured : Sites → Tracker → Grant → Bool
honoured at t g = listed at g.target && promised_to (t.promise g.target) g.wafer

-- all but the sink's room; n is the number of wafer rows
abbrev pub checks_of : Plan → ℕ → Tracker → Call → List Check
checks_of ps n t (register id p d x) =
    check 3 (timely t x)
    ∷ (check 4 (named id)
    ∷ (check 5 (listed (sites ps) p && listed (sites ps) (destination_of p d))
    ∷ (check 7 (is_none (t.contents.wafer id))
    ∷ (check 8 (open_at t p)
    ∷ (check 12 (nat_lt t.contents.used n)
    ∷ [])))))
checks_of ps n t (lift id q x) =
    check 3 (timely t x)
    ∷ (check 4 (named id)
    ∷ (check 5 (listed (sites ps) q)
    ∷ (check 6 (is_some (t.contents.wafer id))
    ∷ (check 8 (open_at t q)
    ∷ (check 9 (not (granted ps t.promise id))
    ∷ (check 10 (is_some (fitting (sites ps) (t.contents.wafer id) q))
    ∷ (check 11 (nat_lt (entries_of (t.contents.wafer id)) 16)
    ∷ [])))))))
checks_of ps n t (set_down g x) = check 3 (timely t x) ∷ (check 13 (honoured (sites ps) t g) ∷ [])
checks_of ps n t (put_back g) = check 13 (honoured (sites ps) t g) ∷ []
checks_of ps n t (serve s id x) =
    check 3 (timely t x)
    ∷ (check 4 (named id && well_read s)
    ∷ (check 6 (is_some (t.contents.wafer id))
    ∷ (check 9 (not (needs_no_grant s && granted ps t.promise id))
    ∷ (check 10 (well_ended s && can_all (sites ps) (at_time x) t.contents (served s id (t.contents.wafer id)))
    ∷ []))))

-- the reports that an accepted call writes
abbrev pub due : Plan → Switches → Tracker → Call → List Fields
due ps h t k = reports_of (quiet ps h) (times_of t k) t.contents (steps_of (sites ps) h t k)

-- the sink's room is looked at last
abbrev pub room_refused : ℕ → ℕ → Option ℕ
room_refused reports room = cond (nat_le reports room) None (Some 14)

abbrev pub or_else : Option ℕ → Option ℕ → Option ℕ
or_else (Some n) next = Some n
or_else None next = next

abbrev pub refusal : Plan → ℕ → Switches → Tracker → ℕ → Call → Option ℕ
refusal ps n h t room k = or_else (first_failed (checks_of ps n t k)) (room_refused (length (due ps h t k)) room)

-- the tracker after an accepted call
abbrev pub carried_out : Plan → Switches → Tracker → Call → Tracker
carried_out ps h t k = record {
  contents = perform (times_of t k) t.contents (steps_of (sites ps) h t k);
  promise = promise_after k t.promise;
  latest = time_of t.latest k;
}

-- what comes of a call
pub record Outcome : Type 0 where
  pub answer : Answer
  pub after : Tracker
  pub reports : List Fields

-- accepted, or refused with nothing changed
abbrev pub resolved : Plan → Switches → Tracker → Call → Option ℕ → Outcome
resolved ps h t k None = record { answer = answer_of k; after = carried_out ps h t k; reports = due ps h t k }
resolved ps h t k (Some n) = record { answer = refused n; after = t; reports = [] }

abbrev pub outcome : Plan → ℕ → Switches → Tracker → ℕ → Call → Outcome
outcome ps n h t room k = resolved ps h t k (refusal ps n h t room k)
