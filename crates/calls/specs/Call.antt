-- The shape of every call: it takes the record and the memory lent to it, and gives a reply and what that memory holds afterwards.
use Rattle.std.specs.Prelude.{◌≡◌, List, [], ℕ, zero, suc, ◌-◌, get_or, replicate}
use Rattle.model.specs.Limits.{most_label}
use Rattle.model.specs.Lists.{◌∈◌, zeroed}
use Rattle.model.specs.Edges.{Graph}
-- "The record holds the number of places and k." Checks look at these alone
pub use Rattle.model.specs.declared.Size.{Size}

-- "The record gains eight totals" (document 02, Four)
pub record Header : Type 0 where
  pub size : Size
  pub totals : List ℕ

-- a label (colour) of the pattern "whose total is 0"
abbrev pub Lacks : (totals pattern : List ℕ) → Type 0
Lacks totals pattern = (c : ℕ) × (c ∈ pattern) × (get_or totals (c - 1) 0 ≡ 0)

-- the size of a layout with its standing edges
abbrev pub graph_of : Size → List ℕ → Graph
graph_of size edges = record { vertices = size.vertices; longest = size.longest; edges = edges }

-- edge (leg), index and work memory, and the output into which a call writes. What a call is not lent is empty
pub record Memory : Type 0 where
  pub edges : List ℕ
  pub index : List ℕ
  pub work : List ℕ
  pub output : List ℕ

abbrev pub lent : (edges index work : List ℕ) → Memory
lent edges index work = record { edges = edges; index = index; work = work; output = [] }

-- edge and work memory with an output, and no index memory
abbrev pub lent_out : (edges work output : List ℕ) → Memory
lent_out edges work output = record { edges = edges; index = []; work = work; output = output }

-- the same with work memory zero, over its whole lent length
abbrev pub cleared : Memory → Memory
cleared m = record { edges = m.edges; index = m.index; work = zeroed m.work; output = m.output }

-- the reply, and memory afterwards
pub record Outcome (R : Type 0) : Type 0 where
  pub reply : R
  pub memory : Memory

-- the reply of a changing call: the record that it hands back, and 0 or the number of the refusal
pub record Returned : Type 0 where
  pub header : Header
  pub answer : ℕ

-- "for a card, no record": a record that is all zero stands for none
abbrev pub no_record : Header
no_record = record { size = record { vertices = 0; longest = 0 }; totals = replicate most_label 0 }

-- the reply of a card's writing: its length, or the number of the refusal
pub data Wrote : Type 0 where
  Length Refused : ℕ → Wrote

-- "The first that applies is returned. .. All lent memory is unchanged": the refusal with that number, or if there is none what the call comes to
abbrev pub refusing : {R : Type 0} → (ℕ → R) → Memory → ℕ → Outcome R → Outcome R
refusing refused m zero done = done
refusing refused m (suc n) done = record { reply = refused (suc n); memory = m }

-- what a function promises that makes the call: its reply and memory afterwards are the definition's
pub record Meets {R : Type 0} (call : Outcome R) (reply : R) (m : Memory) : Type 0 where
  pub reply_is : reply ≡ call.reply
  pub edges_after : m.edges ≡ call.memory.edges
  pub index_after : m.index ≡ call.memory.index
  pub work_after : m.work ≡ call.memory.work
  pub output_after : m.output ≡ call.memory.output
