-- What the calls of the store return, as the definitions tell it.
use Rattle.std.specs.Prelude.{Result, Ok, Err, ℕ}
use Rattle.model.specs.Replies.{number_of, answer_of}
use Rattle.model.specs.declared.Refusal.{Refusal}
use Rattle.calls.specs.Call.{Header as Numbers, Returned, no_record, Wrote, Length, Refused}
use Rattle.store.specs.declared.Header.{Header}
use Rattle.store.specs.declared.Changed.{Changed}

-- the numbers of a header
abbrev pub numbers : Header → Numbers
numbers h = record { size = h.size; totals = h.totals }

-- the record handed back, and 0 or the number of the refusal
abbrev pub returned : Changed → Returned
returned r = record { header = numbers r.header; answer = answer_of r.answer }

-- the record of a card, and none if it is refused
abbrev pub read_of : Result Header Refusal → Returned
read_of (Ok h) = record { header = numbers h; answer = 0 }
read_of (Err r) = record { header = no_record; answer = number_of r }

-- length n, refused n
abbrev pub wrote_of : Result ℕ Refusal → Wrote
wrote_of (Ok n) = Length n
wrote_of (Err r) = Refused (number_of r)
