-- Runs of calls over any sink, and what holds after each call.
use Rattle.std.specs.Prelude.{◌≡◌, ℕ, ◌+◌, ◌≤◌, Bool, true, false, cond, ◌&&◌, ◌||◌, List, [], ◌∷◌, ◌++◌, length, Some, None, Option, ◌==◌, nat_lt}
use Rattle.reports.specs.Fields.{Fields}
use Rattle.table.specs.Lookup.{in_use}
use Rattle.model.specs.Wafers.{Text, Stay, Wafer}
use Rattle.model.specs.Places.{Plan, Sites, sites, code_at, Contents}
use Rattle.model.specs.Switches.{Switches, all_off, with_reader, silenced_at}
use Rattle.model.specs.Mirroring.{Mirror, blank_mirror, taken, intake_all, hears}
use Rattle.model.specs.Calls.{Tracker, made_tracker, Call, Answer, done, refused, times_of, outcome}
use Rattle.model.specs.Transitions.{Listed, Traced, home}

-- what happens, one after the other; a visit counts at its start and at its end
pub data Event : Type 0 where
  call : Call → Event
  reader : (on : Bool) → Event
  silence : (position : ℕ) → (on : Bool) → Event
  begin : (position : ℕ) → Event
  finish : Event

-- place rows and number of wafer rows, of the tracker and of the mirror
pub record Setup : Type 0 where
  pub plan : Plan
  pub rows : ℕ
  pub mirror_plan : Plan
  pub mirror_rows : ℕ

-- the mirror was made for the same places, with at least as many wafer rows
pub record Matched (s : Setup) : Type 0 where
  pub same_places : (p : ℕ) → sites s.plan p ≡ sites s.mirror_plan p
  pub enough_rows : s.rows ≤ s.mirror_rows

-- all that tracker, settings, sink and mirror mean at one moment; in a visit, its position and the switch before it
pub record World : Type 0 where
  pub tracker : Tracker
  pub switches : Switches
  pub visit : Option (ℕ × Bool)
  -- the reports that joined the sink since the making
  pub reports : List Fields
  -- the sink's free count
  pub room : ℕ
  pub mirror : Mirror
  pub answers : List Answer

abbrev pub tracker_after : Setup → World → Event → Tracker
tracker_after s w (call k) = (outcome s.plan s.rows w.switches w.tracker w.room k).after
tracker_after s w (reader b) = w.tracker
tracker_after s w (silence i b) = w.tracker
tracker_after s w (begin i) = w.tracker
tracker_after s w finish = w.tracker

abbrev pub reports_after : Setup → World → Event → List Fields
reports_after s w (call k) = (outcome s.plan s.rows w.switches w.tracker w.room k).reports
reports_after s w (reader b) = []
reports_after s w (silence i b) = []
reports_after s w (begin i) = []
reports_after s w finish = []

-- the silence switch is refused with 5 exactly if the position is outside the list; visits answer nothing
abbrev pub answers_after : Setup → World → Event → List Answer
answers_after s w (call k) = (outcome s.plan s.rows w.switches w.tracker w.room k).answer ∷ []
answers_after s w (reader b) = done ∷ []
answers_after s w (silence i b) = cond (nat_lt i w.switches.count) done (refused 5) ∷ []
answers_after s w (begin i) = []
answers_after s w finish = []

-- the switch of the visit's place is as before it
abbrev pub restored : Option (ℕ × Bool) → Switches → Switches
restored None h = h
restored (Some v) h = silenced_at v.0 v.1 h

abbrev pub switches_after : World → Event → Switches
switches_after w (call k) = w.switches
switches_after w (reader b) = with_reader b w.switches
switches_after w (silence i b) = silenced_at i b w.switches
switches_after w (begin i) = silenced_at i true w.switches
switches_after w finish = restored w.visit w.switches

abbrev pub visit_after : World → Event → Option (ℕ × Bool)
visit_after w (call k) = w.visit
visit_after w (reader b) = w.visit
visit_after w (silence i b) = w.visit
visit_after w (begin i) = Some (i, w.switches.silent i)
visit_after w finish = None

-- the event takes the world from w to w'; the free count falls by at most the reports, and may rise
pub record Took (s : Setup) (w : World) (e : Event) (w' : World) : Type 0 where
  pub tracker : w'.tracker ≡ tracker_after s w e
  pub switches : w'.switches ≡ switches_after w e
  pub visit : w'.visit ≡ visit_after w e
  pub reports : w'.reports ≡ w.reports ++ reports_after s w e
  pub room : w.room ≤ w'.room + length (reports_after s w e)
  pub mirror : w'.mirror ≡ hears (sites s.mirror_plan) s.mirror_rows w.mirror (reports_after s w e)
  pub answers : w'.answers ≡ w.answers ++ answers_after s w e

-- the events, one after the other
abbrev pub Path : Setup → World → List Event → World → Type 0
Path s w [] w' = w' ≡ w
Path s w (e ∷ es) w' = (m : World) × Took s w e m × Path s m es w'

-- all just made: nothing held, all switches off, no visit, no report yet; the sink has any room
pub record Begun (s : Setup) (w : World) : Type 0 where
  pub tracker : w.tracker ≡ made_tracker
  pub switches : w.switches ≡ all_off (in_use s.plan)
  pub visit : w.visit ≡ None
  pub reports : w.reports ≡ []
  pub mirror : w.mirror ≡ blank_mirror
  pub answers : w.answers ≡ []

-- a world that the events lead to
abbrev pub Reached : Setup → List Event → World → Type 0
Reached s es w = (b : World) × Begun s b × Path s b es w

abbrev pub names : Option ℕ → ℕ → Bool
names None p = false
names (Some q) p = q == p

-- the event silences the place p
abbrev pub silences : Plan → ℕ → Event → Bool
silences ps p (call k) = false
silences ps p (reader b) = false
silences ps p (silence i b) = b && names (code_at ps i) p
silences ps p (begin i) = names (code_at ps i) p
silences ps p finish = false

abbrev pub ever_silenced : Plan → ℕ → List Event → Bool
ever_silenced ps p [] = false
ever_silenced ps p (e ∷ es) = silences ps p e || ever_silenced ps p es

-- what both parties hold of a wafer is the same
pub record Alike (v w : Wafer) : Type 0 where
  pub place : v.place ≡ w.place
  pub source : v.source ≡ w.source
  pub destination : v.destination ≡ w.destination
  pub transport : v.transport ≡ w.transport
  pub processing : v.processing ≡ w.processing
  pub reading : v.reading ≡ w.reading
  pub acquired : v.acquired ≡ w.acquired
  pub history : v.history ≡ w.history

abbrev pub BothHold : Option Wafer → Option Wafer → Type 0
BothHold None None = Unit {0}
BothHold None (Some w) = ⊥
BothHold (Some v) None = ⊥
BothHold (Some v) (Some w) = Alike v w

-- the last entry alone is open, and it is at p
abbrev pub OpenOnlyAt : ℕ → List Stay → Type 0
OpenOnlyAt p [] = ⊥
OpenOnlyAt p (s ∷ []) = (s.place ≡ p) × (s.left ≡ None)
OpenOnlyAt p (s ∷ r ∷ ss) = ((t : ℕ) × (s.left ≡ Some t)) × OpenOnlyAt p (r ∷ ss)

-- a registered wafer is at a listed place, and its only open entry is there
pub record Housed (at : Sites) (w : Wafer) : Type 0 where
  pub listed_place : Listed at w.place
  pub open_there : OpenOnlyAt w.place w.history

abbrev pub Each : {A : Type 0} → (A → Type 0) → Option A → Type 0
Each P None = Unit {0}
Each P (Some a) = P a

-- a place names a wafer exactly when that wafer names the place
abbrev pub NameEachOther : (ℕ → Option Text) → (Text → Option ℕ) → Type 0
NameEachOther occ place = (p : ℕ) (i : Text) → (occ p ≡ Some i → place i ≡ Some p) × (place i ≡ Some p → occ p ≡ Some i)

pub record Sound (at : Sites) (c : Contents) : Type 0 where
  pub linked : NameEachOther c.occupant (λ i. home (c.wafer i))
  pub housed : (i : Text) → Each (Housed at) (c.wafer i)

-- what holds in every world that events lead to
pub record Law (s : Setup) (es : List Event) (w : World) : Type 0 where
  -- a new mirror takes every report, and then holds what the mirror holds
  pub accepted : intake_all (sites s.mirror_plan) s.mirror_rows (taken blank_mirror) w.reports ≡ taken w.mirror
  pub mirror_agrees : (id : Text) → BothHold (w.tracker.contents.wafer id) (w.mirror.contents.wafer id)
  pub tracker_sound : Sound (sites s.plan) w.tracker.contents
  pub mirror_sound : Sound (sites s.mirror_plan) w.mirror.contents
  pub both_tell_the_same : (p : ℕ) → ever_silenced s.plan p es ≡ false → w.mirror.seen p ≡ w.mirror.contents.occupant p

-- the reports of an event are, in order, rows of the table from the record before to the record after
abbrev pub ByRows : Setup → World → Event → Type 0
ByRows s w (call k) = Traced (sites s.plan) (times_of w.tracker k) w.tracker.contents (reports_after s w (call k)) (tracker_after s w (call k)).contents
ByRows s w (reader b) = Unit {0}
ByRows s w (silence i b) = Unit {0}
ByRows s w (begin i) = Unit {0}
ByRows s w finish = Unit {0}

-- the law at every world of a path, and every call by rows, after the events es
abbrev pub Along : Setup → List Event → World → List Event → World → Type 0
Along s es w [] w' = (w' ≡ w) × Law s es w
Along s es w (f ∷ fs) w' = Law s es w × (ByRows s w f × ((m : World) × Took s w f m × Along s (es ++ f ∷ []) m fs w'))

-- from a world that events lead to, every path keeps the law
abbrev pub RunsKeepTheLaw : Type 0
RunsKeepTheLaw = (s : Setup) (es fs : List Event) (w w' : World) → Matched s → Reached s es w → Path s w fs w' → Along s es w fs w'
