-- Worked cases, on the definitions: a cabinet with three slots and two stations, and wafer A1.
use Rattle.std.specs.Prelude.{◌≡◌, ℕ, zero, suc, true, List, [], ◌∷◌, ◌++◌, Some, None, Option}
use Rattle.reports.specs.Fields.{Fields}
use Rattle.model.specs.Wafers.{Text, at_time, Wafer}
use Rattle.model.specs.Places.{Spot, Plan, sites}
use Rattle.model.specs.Switches.{Switches, all_off, with_reader, silenced_at}
use Rattle.model.specs.Reporting.{substrate_report}
use Rattle.model.specs.Mirroring.{Mirror, blank_mirror, Intake, fault, intake, hears}
use Rattle.model.specs.Calls.{Tracker, made_tracker, start, skip, read_failed, proceed, cancel, unload, correct, missing, end, read, Call, register, lift, set_down, serve, Answer, done, given, refused, entries_of, outcome}
use Rattle.model.specs.Kinds.{Kind, row, location, kinds}

abbrev pub slot : ℕ → Option Spot
slot p = Some (record { code = p; kind = 0 })

abbrev pub station : ℕ → Option Spot
station p = Some (record { code = p; kind = 1 })

abbrev pub cabinet : Plan
cabinet = slot 101 ∷ slot 102 ∷ slot 201 ∷ station 301 ∷ station 302 ∷ []

-- IDs

abbrev pub A1 : Text
A1 = 0x41 ∷ 0x31 ∷ []

abbrev pub B2 : Text
B2 = 0x42 ∷ 0x32 ∷ []

-- A, n times
abbrev pub letters : ℕ → Text
letters zero = []
letters (suc n) = 0x41 ∷ letters n

-- switches

abbrev pub reader_off : Switches
reader_off = all_off 5

abbrev pub reader_on : Switches
reader_on = with_reader true reader_off

-- runs of calls, with the same switches and the same free count at each call; there are four wafer rows

abbrev pub after : Switches → ℕ → Tracker → List Call → Tracker
after h room t [] = t
after h room t (k ∷ ks) = after h room (outcome cabinet 4 h t room k).after ks

abbrev pub written : Switches → ℕ → Tracker → List Call → List Fields
written h room t [] = []
written h room t (k ∷ ks) = (outcome cabinet 4 h t room k).reports ++ written h room (outcome cabinet 4 h t room k).after ks

-- 0 where the call is accepted
abbrev pub number_of : Answer → ℕ
number_of done = 0
number_of (given g) = 0
number_of (refused n) = n

abbrev pub answers : Switches → ℕ → Tracker → List Call → List ℕ
answers h room t [] = []
answers h room t (k ∷ ks) = number_of (outcome cabinet 4 h t room k).answer ∷ answers h room (outcome cabinet 4 h t room k).after ks

-- with room for 100 reports: the tracker, the refusal of one more call, and the kinds of the reports that it writes

abbrev pub then : Tracker → List Call → Tracker
then t ks = after reader_off 100 t ks

abbrev pub number : Tracker → Call → ℕ
number t k = number_of (outcome cabinet 4 reader_off t 100 k).answer

abbrev pub writes : Tracker → Call → List Kind
writes t k = kinds (outcome cabinet 4 reader_off t 100 k).reports

-- lifted and set down
abbrev pub to : ℕ → ℕ → List Call
to q x = lift A1 q x ∷ set_down (record { wafer = A1; target = q }) x ∷ []

-- there and back n times between the two stations
abbrev pub rides : ℕ → List Call
rides zero = []
rides (suc n) = to 301 9 ++ (to 302 9 ++ rides n)

-- a mirror that was told what the calls wrote
abbrev pub mirror_of : List Call → Mirror
mirror_of ks = hears (sites cabinet) 4 blank_mirror (written reader_off 100 made_tracker ks)

abbrev pub takes_in : Mirror → Fields → Intake
takes_in m f = intake (sites cabinet) 4 m f

-- a report of a wafer from 101, reading 0, nothing acquired
abbrev pub report_of : (number time place destination transport processing : ℕ) → Text → Fields
report_of n x p d tr pr id = substrate_report n (at_time x) id (record { place = p; source = 101; destination = d; transport = tr; processing = pr; reading = 0; acquired = []; history = [] })

-- A1, in the states that the cases start from

abbrev pub registering : ℕ → ℕ → List Call
registering p d = register A1 p d 5 ∷ []

abbrev pub at_source : Tracker
at_source = then made_tracker (registering 101 201)

abbrev pub at_station : Tracker
at_station = then at_source (to 301 6)

abbrev pub in_process : Tracker
in_process = then at_station (serve start A1 7 ∷ [])

abbrev pub processed : Tracker
processed = then in_process (serve (end 2) A1 8 ∷ [])

abbrev pub at_destination : Tracker
at_destination = then at_station (to 201 7)

-- source and destination are both 101
abbrev pub home_bound : Tracker
home_bound = then made_tracker (registering 101 101 ++ to 301 6)

abbrev pub home_processed : Tracker
home_processed = then home_bound (serve start A1 7 ∷ serve (end 2) A1 8 ∷ [])

-- the reader switch was on: NOT CONFIRMED, then WAITING FOR HOST or CONFIRMED
abbrev pub unread : Tracker
unread = after reader_on 100 made_tracker (registering 101 201)

abbrev pub waiting : Tracker
waiting = then unread (serve read_failed A1 6 ∷ [])

abbrev pub confirmed : Tracker
confirmed = then unread (serve (read A1) A1 6 ∷ [])

abbrev pub unread_at_station : Tracker
unread_at_station = then unread (to 301 6)

-- the source is the station 301
abbrev pub from_station : Tracker
from_station = then made_tracker (registering 301 201 ++ (to 302 6 ++ to 201 7))

-- place, transport, processing and reading of A1
abbrev pub states_of : Option Wafer → List ℕ
states_of None = []
states_of (Some w) = w.place ∷ w.transport ∷ w.processing ∷ w.reading ∷ []

abbrev pub states : Tracker → List ℕ
states t = states_of (t.contents.wafer A1)

-- the states are those that the names say
pub record Starts : Type 0 where
  pub none : states made_tracker ≡ []
  pub at_source : states at_source ≡ 101 ∷ 0 ∷ 0 ∷ 0 ∷ []
  pub at_station : states at_station ≡ 301 ∷ 1 ∷ 0 ∷ 0 ∷ []
  pub in_process : states in_process ≡ 301 ∷ 1 ∷ 1 ∷ 0 ∷ []
  pub processed : states processed ≡ 301 ∷ 1 ∷ 2 ∷ 0 ∷ []
  pub at_destination : states at_destination ≡ 201 ∷ 2 ∷ 0 ∷ 0 ∷ []
  pub home_bound : states home_bound ≡ 301 ∷ 1 ∷ 0 ∷ 0 ∷ []
  pub home_processed : states home_processed ≡ 301 ∷ 1 ∷ 2 ∷ 0 ∷ []
  pub unread : states unread ≡ 101 ∷ 0 ∷ 0 ∷ 1 ∷ []
  pub waiting : states waiting ≡ 101 ∷ 0 ∷ 0 ∷ 2 ∷ []
  pub confirmed : states confirmed ≡ 101 ∷ 0 ∷ 0 ∷ 3 ∷ []
  pub unread_at_station : states unread_at_station ≡ 301 ∷ 1 ∷ 0 ∷ 1 ∷ []
  pub from_station : states from_station ≡ 201 ∷ 2 ∷ 0 ∷ 0 ∷ []
  pub mirror_at_source : states_of ((mirror_of (registering 101 201)).contents.wafer A1) ≡ 101 ∷ 0 ∷ 0 ∷ 0 ∷ []
  pub mirror_home_bound : states_of ((mirror_of (registering 101 101 ++ to 301 6)).contents.wafer A1) ≡ 301 ∷ 1 ∷ 0 ∷ 0 ∷ []

-- the call is accepted and writes reports of these kinds
abbrev pub Brings : Tracker → Call → List Kind → Type 0
Brings t k ks = (number t k ≡ 0) × (writes t k ≡ ks)

-- it is refused with this number
abbrev pub Refuses : Tracker → Call → ℕ → Type 0
Refuses t k n = number t k ≡ n

-- A1 is lifted from p to q, and set down there by the row n
abbrev pub Arrives : Tracker → ℕ → ℕ → ℕ → Type 0
Arrives t p q n = Brings t (lift A1 q 9) [] × Brings (then t (lift A1 q 9 ∷ [])) (set_down (record { wafer = A1; target = q }) 9) (location 2 p ∷ location 1 q ∷ row n ∷ [])

pub record RowsTakenOrNot : Type 0 where
  pub row_1 : Brings made_tracker (register A1 101 201 5) (location 1 101 ∷ row 1 ∷ row 10 ∷ [])
  pub row_1_occupied : Refuses at_source (register B2 101 201 5) 8
  pub row_1_at_mirror : takes_in (mirror_of (registering 101 201)) (report_of 1 5 101 201 0 15 B2) ≡ fault 17
  pub row_2 : Arrives at_source 101 301 2
  pub row_2_slot : Refuses at_source (lift A1 102 9) 10
  pub row_3 : Arrives at_station 301 101 3
  pub row_3_in_process : Refuses in_process (lift A1 101 9) 10
  pub row_4 : Arrives at_station 301 302 4
  pub row_4_slot : Refuses at_station (lift A1 102 9) 10
  pub row_5 : Arrives at_station 301 201 5
  pub row_5_at_mirror : takes_in (mirror_of (registering 101 101 ++ to 301 6)) (report_of 5 9 101 101 2 0 A1) ≡ fault 17
  pub row_6 : Arrives at_destination 201 301 6
  pub row_6_source : Refuses from_station (lift A1 301 9) 10
  pub row_7 : Brings at_destination (serve unload A1 9) (location 2 201 ∷ row 7 ∷ [])
  pub row_7_at_work : Refuses at_station (serve unload A1 9) 10
  pub row_8 : Brings (then home_processed (to 101 8)) (serve correct A1 9) (row 8 ∷ [])
  pub row_8_elsewhere : Refuses at_destination (serve correct A1 9) 10
  pub row_9 : Brings processed (serve missing A1 9) (location 2 301 ∷ row 9 ∷ [])
  pub row_9_at_mirror : takes_in (mirror_of (registering 101 201)) (report_of 9 9 101 201 0 0 A1) ≡ fault 17
  pub row_10 : writes made_tracker (register A1 101 201 5) ≡ location 1 101 ∷ row 1 ∷ row 10 ∷ []
  pub row_10_at_mirror : takes_in (mirror_of (registering 101 201)) (report_of 10 9 101 201 0 0 A1) ≡ fault 17
  pub row_11 : Brings at_station (serve start A1 9) (row 11 ∷ [])
  pub row_11_slot : Refuses at_source (serve start A1 9) 10
  pub row_11_unread : Refuses unread_at_station (serve start A1 9) 10
  pub row_12 : Brings in_process (serve (end 2) A1 9) (row 12 ∷ [])
  pub row_12_lost : Refuses in_process (serve (end 6) A1 9) 10
  pub row_13 : Brings in_process (serve (end 0) A1 9) (row 13 ∷ [])
  pub row_13_idle : Refuses at_station (serve (end 0) A1 9) 10
  pub row_14 : Brings at_source (serve skip A1 9) (row 14 ∷ [])
  pub row_14_processed : Refuses processed (serve skip A1 9) 10
  pub row_17 : Brings unread (serve (read A1) A1 9) (row 17 ∷ [])
  pub row_17_no_reader : Refuses at_source (serve (read A1) A1 9) 10
  pub row_18 : Brings unread (serve read_failed A1 9) (row 18 ∷ [])
  pub row_18_confirmed : Refuses confirmed (serve read_failed A1 9) 10
  pub row_19 : Brings unread (serve (read B2) A1 9) (row 19 ∷ [])
  pub row_19_empty : Refuses unread (serve (read []) A1 9) 4
  pub row_20 : Brings waiting (serve proceed A1 9) (row 20 ∷ [])
  pub row_20_unread : Refuses unread (serve proceed A1 9) 10
  pub row_21 : Brings waiting (serve cancel A1 9) (row 21 ∷ row 14 ∷ [])
  pub row_21_confirmed : Refuses confirmed (serve cancel A1 9) 10

-- the cases, together
pub record WorkedCases : Type 0 where
  pub starts : Starts
  -- IDs of 16 and 17 bytes, and one with a blank
  pub long_ids : answers reader_off 100 made_tracker (register (letters 16) 101 0 5 ∷ register (letters 17) 102 0 5 ∷ register (0x41 ∷ 0x20 ∷ []) 102 0 5 ∷ []) ≡ 0 ∷ 4 ∷ 4 ∷ []
  -- the latest time again, one less, and one too large
  pub times : answers reader_off 100 at_source (serve skip A1 5 ∷ serve missing A1 4 ∷ serve missing A1 1_099_511_627_776 ∷ serve missing A1 1_099_511_627_775 ∷ []) ≡ 0 ∷ 3 ∷ 3 ∷ 0 ∷ []
  pub straight : Refuses at_source (lift A1 201 9) 10
  -- source and destination are the same place
  pub back_unprocessed : Arrives home_bound 301 101 3
  pub back_processed : Arrives home_processed 301 101 5
  -- fifteen settings down
  pub sixteen : entries_of ((then made_tracker (registering 101 201 ++ (rides 7 ++ to 301 9))).contents.wafer A1) ≡ 16
  pub next_lift : Refuses (then made_tracker (registering 101 201 ++ (rides 7 ++ to 301 9))) (lift A1 302 9) 11
  -- the place is silenced
  pub gone_silently : kinds (outcome cabinet 4 (silenced_at 0 true reader_off) at_source 100 (serve missing A1 9)).reports ≡ row 14 ∷ row 9 ∷ []
  pub two_free : answers reader_off 2 made_tracker (registering 101 201) ≡ 14 ∷ []
  pub three_free : answers reader_off 3 made_tracker (registering 101 201) ≡ 0 ∷ []
  pub rows : RowsTakenOrNot
