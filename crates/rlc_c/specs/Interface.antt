-- The C interface: a record is ten numbers in memory, and a reply is a number.
use Rattle.std.specs.Prelude.{◌≡◌, Bool, cond, List, ◌∷◌, ℕ, zero, suc, ◌*◌, eqb, length, get_or, drop}
use Rattle.model.specs.Replies.{answer_of}
use Rattle.calls.specs.Call.{Header, Memory, Outcome, Meets, Returned, Wrote, Length, Refused as NotWritten}
use Rattle.records.specs.Record.{record_numbers}
use Rattle.replies.specs.InC.{reply_unit}
use Rattle.store.specs.Store.{numbers}
use Rattle.store.specs.declared.Changed.{Changed}

-- the record that the numbers lent hold: places, k, then the "eight totals" (document 02, Four); and the numbers of a record
abbrev pub header_in : List ℕ → Header
header_in words = record { size = record { vertices = get_or words 0 0; longest = get_or words 1 0 }; totals = drop 2 words }

abbrev pub words_of : Header → List ℕ
words_of h = h.size.vertices ∷ h.size.longest ∷ h.totals

-- a record has ten numbers; with any other length "the call returns 255 and touches nothing"
abbrev pub record? : List ℕ → Bool
record? words = eqb (length words) record_numbers

abbrev pub other_record : ℕ
other_record = 255

-- the C form of a call: its reply as a number and memory afterwards; with a record of another length that number, and memory as it was
abbrev pub in_c : {R : Type 0} → List ℕ → (R → ℕ) → ℕ → Memory → Outcome R → Outcome ℕ
in_c words told other m c = cond (record? words) (record { reply = told c.reply; memory = c.memory }) (record { reply = other; memory = m })

-- the numbers lent as record, afterwards: the record handed back if the call is accepted. (A refusal hands back the record as given, or none.)
abbrev pub words_after : List ℕ → ℕ → Header → List ℕ
words_after words zero h = words_of h
words_after words (suc n) h = words

-- a changing call: 0 or the number of the refusal, the record handed back, and memory afterwards
pub record ChangesInC (words : List ℕ) (m : Memory) (c : Outcome Returned) (r : ℕ) (words' : List ℕ) (m' : Memory) : Type 0 where
  pub meets : Meets (in_c words (λ x. x.answer) other_record m c) r m'
  pub words_after_lem : words' ≡ cond (record? words) (words_after words c.reply.answer c.reply.header) words

-- what a changing call of the store hands back: its answer as a number, and its record as the numbers lent
pub record HandsBack (c : Changed) (r : ℕ) (words : List ℕ) : Type 0 where
  pub number : r ≡ answer_of c.answer
  pub words_after_lem : words ≡ words_of (numbers c.header)

-- "number × 2^32 refused; the length accepted"
abbrev pub wrote_in_c : Wrote → ℕ
wrote_in_c (Length n) = n
wrote_in_c (NotWritten n) = n * reply_unit
