-- Answers as text.
use Rattle.std.specs.Prelude.{◌≡◌, ℕ, cond, List, [], ◌∷◌, ◌++◌, length, Some, None, Ok, Err, codes, decimal, Option, Result, IfErr, ◌==◌}
use Rattle.std.specs.List.{flat_map}
use Rattle.reports.specs.Fields.{Fields}
use Rattle.reports.specs.Bounds.{Refusal, blank}
use Rattle.packed_log.specs.Log.{Log}
use Rattle.words.specs.Texts.{escaped, echoed}
use Rattle.words.specs.Hex.{hex_digits}
use Rattle.outcomes.specs.Outcomes.{Answer, bytes, refusal, reports, answer_to}
use Rattle.script.specs.Requests.{Request, Fault, request_of}
use Rattle.script.specs.Wording.{fault_text}
use Rattle.replies.specs.declared.refusal.Reason.{Reason}
use Rattle.replies.specs.declared.refusal.Reason.TheVariants.{OutOfBounds, Short}

-- one text after another, with a blank between
abbrev pub ◌then◌ : List ℕ → List ℕ → List ℕ
a then b = a ++ (32 ∷ b)

infixr 40 ◌then◌
-- the three codes
abbrev pub codes_line : Fields → List ℕ
codes_line f = decimal f.place then decimal f.source then decimal f.destination

-- the three states, and the acquired ID
abbrev pub states_line : Fields → List ℕ
states_line f = decimal f.transport then decimal f.processing then decimal f.reading then escaped f.acquired

abbrev pub substrate_line : Fields → List ℕ
substrate_line f = codes "substrate" then decimal f.row then decimal f.time then escaped f.id then codes_line f then states_line f

-- an ID that is not there is no word
abbrev pub location_line : Fields → List ℕ
location_line f =
    cond (blank f.id) (codes "location" then decimal f.row then decimal f.time then decimal f.place)
    (codes "location" then decimal f.row then decimal f.time then decimal f.place then escaped f.id)

-- a report by its words
abbrev pub report_line : Fields → List ℕ
report_line f = cond (f.family == 0) (substrate_line f) (location_line f)

-- numbers, each after a blank
abbrev pub values_text : List ℕ → List ℕ
values_text [] = []
values_text (v ∷ []) = 32 ∷ decimal v
values_text (v ∷ w ∷ vs) = 32 ∷ (decimal v ++ values_text (w ∷ vs))

abbrev pub reason_number : Reason → ℕ
reason_number OutOfBounds = 15
reason_number Short = 16

abbrev pub refusal_text : Refusal → List ℕ
refusal_text e = codes "refused" then (decimal e.number ++ values_text e.values)

-- numbers, the last of them that of a report
abbrev pub located_values : List ℕ → List ℕ
located_values [] = []
located_values (n ∷ []) = codes " at " ++ decimal n
located_values (v ∷ w ∷ vs) = 32 ∷ (decimal v ++ located_values (w ∷ vs))

abbrev pub located_text : Refusal → List ℕ
located_text e = codes "refused" then (decimal e.number ++ located_values e.values)

-- how many reports were read, or the first fault
abbrev pub verdict_by : ℕ → Option Refusal → List ℕ
verdict_by n None = codes "ok" then decimal n
verdict_by n (Some e) = located_text e

abbrev pub verdict : Log → List ℕ
verdict l = verdict_by (length l.reports) l.fault

-- a line of an answer
abbrev pub indented : List ℕ → List ℕ
indented t = codes "  " ++ (t ++ (10 ∷ []))

abbrev pub bytes_text : List ℕ → List ℕ
bytes_text bs = codes "ok" then hex_digits bs

-- an answer's lines
abbrev pub told : Answer → List ℕ
told (bytes bs) = indented (bytes_text bs)
told (refusal e) = indented (refusal_text e)
told (reports l) = indented (verdict l) ++ flat_map (λ f. indented (report_line f)) l.reports

-- a reason after `error:`
abbrev pub ErrorLine : List ℕ → Type 0
ErrorLine t = (reason : List ℕ) × (t ≡ indented (codes "error: " ++ reason))

-- the answer to a request, and an error line where something is wrong with the words
abbrev pub Says : Result Request Fault → List ℕ → Type 0
Says (Ok q) t = t ≡ told (answer_to q)
Says (Err e) t = ErrorLine t

-- no words, nothing; else the echo and, on lines of its own, the answer
abbrev pub Replies : List (List ℕ) → Option (List ℕ) → Type 0
Replies ws None = ws ≡ []
Replies ws (Some t) = (answer : List ℕ) × (t ≡ echoed ws ++ (10 ∷ answer)) × Says (request_of ws) answer

-- where something is wrong with the words, the line after the echo says what
abbrev pub Explains : List (List ℕ) → Option (List ℕ) → Type 0
Explains ws None = Unit {0}
Explains ws (Some t) = IfErr (request_of ws) (λ e. t ≡ echoed ws ++ (10 ∷ indented (codes "error: " ++ fault_text e)))
