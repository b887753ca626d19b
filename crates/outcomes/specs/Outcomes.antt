-- What comes of a request.
use Rattle.std.specs.Prelude.{◌≡◌, ℕ, List, Ok, Err, Result}
use Rattle.values.specs.Numbers.{field_number}
use Rattle.reports.specs.Fields.{Fields}
use Rattle.reports.specs.Bounds.{Refusal, making, out_of_bounds}
use Rattle.layout.specs.Layout.{packed}
use Rattle.packed_log.specs.Log.{Log, log, located}
use Rattle.packed_log.specs.Shown.{log_shown}
use Rattle.script.specs.declared.mistake.Mistake.{Mistake}
use Rattle.outcomes.specs.declared.outcome.Outcome.{Outcome}
use Rattle.outcomes.specs.declared.outcome.Outcome.TheVariants.{Packed, Refused, Unpacked}
use Rattle.script.specs.Requests.{Request, packing, unpacking, Fault, with, Blames}

-- bytes, a refusal, or a log that was read
pub data Answer : Type 0 where
  bytes : List ℕ → Answer
  refusal : Refusal → Answer
  reports : Log → Answer

-- an outcome by its values
abbrev pub came : Outcome → Answer
came (Packed bs) = bytes bs
came (Refused f) = refusal (out_of_bounds (field_number f))
came (Unpacked l) = reports (log_shown l)

-- the bytes of fields that are within their bounds
abbrev pub packing_of : Result Fields Refusal → Answer
packing_of (Ok f) = bytes (packed f)
packing_of (Err e) = refusal e

abbrev pub answer_to : Request → Answer
answer_to (packing f) = packing_of (making f)
answer_to (unpacking bs) = reports (located (log bs))

-- the answer to the request, or what is wrong with the words
abbrev pub Answers : Result Request Fault → Result Outcome Mistake → Type 0
Answers q (Ok o) = with q (λ r. Ok (answer_to r)) ≡ Ok (came o)
Answers q (Err m) = Blames m q
