-- A refusal has a number above 0.
use Prim.Native.Nat.{◌≤◌}
use native.Mathlib.Omega.{arith}
use Rattle.model.specs.Replies.{number_of}
use Rattle.model.specs.declared.Refusal.{Refusal}
use Rattle.model.specs.declared.Refusal.TheVariants.{Vertices, Longest, EdgeMemory, WorkMemory, EdgeEnd, EdgeLabel, EdgePresent, EdgeAbsent, EdgeSlots, QueryEnd, QueryPattern, IndexMemory, IndexSlots, CardMark, CardVersion, CardEdges, CardOutput, WalkMemory}

pub number_some : (r : Refusal) → 1 ≤ number_of r
number_some Vertices = omega arith
number_some Longest = omega arith
number_some EdgeMemory = omega arith
number_some WorkMemory = omega arith
number_some EdgeEnd = omega arith
number_some EdgeLabel = omega arith
number_some EdgePresent = omega arith
number_some EdgeAbsent = omega arith
number_some EdgeSlots = omega arith
number_some QueryEnd = omega arith
number_some QueryPattern = omega arith
number_some IndexMemory = omega arith
number_some IndexSlots = omega arith
number_some CardMark = omega arith
number_some CardVersion = omega arith
number_some CardEdges = omega arith
number_some CardOutput = omega arith
number_some WalkMemory = omega arith
