-- The documents' numbers and replies for each case of the enums.
use Rattle.std.specs.Prelude.{Bool, true, false, Option, Some, None, Result, Ok, Err, ℕ}
use Rattle.model.specs.Query.{Answered, Yes as AnsweredYes, No as AnsweredNo, Refused as AnsweredRefused}
use Rattle.model.specs.States.{Reply, Yes, No, Spent, Refused}
use Rattle.model.specs.Routes.{Routed, Yes as RoutedYes, No as RoutedNo, Refused as RoutedRefused}
use Rattle.model.specs.Middles.{TwoAnswered, Yes as TwoAnsweredYes, No as TwoAnsweredNo, Refused as TwoAnsweredRefused}
use Rattle.model.specs.declared.Refusal.{Refusal}
use Rattle.model.specs.declared.Refusal.TheVariants.{Vertices, Longest, EdgeMemory, WorkMemory, EdgeEnd, EdgeLabel, EdgePresent, EdgeAbsent, EdgeSlots, QueryEnd, QueryPattern, IndexMemory, IndexSlots, CardMark, CardVersion, CardEdges, CardOutput, WalkMemory}
use Rattle.model.specs.declared.SearchReply.{SearchReply}
use Rattle.model.specs.declared.SearchReply.TheVariants.{Yes as SearchYes, No as SearchNo, Spent as SearchSpent}

-- "Number and condition"
abbrev pub number_of : Refusal → ℕ
number_of Vertices = 1
number_of Longest = 2
number_of EdgeMemory = 3
number_of WorkMemory = 4
number_of EdgeEnd = 5
number_of EdgeLabel = 6
number_of EdgePresent = 7
number_of EdgeAbsent = 8
number_of EdgeSlots = 9
number_of QueryEnd = 10
number_of QueryPattern = 11
number_of IndexMemory = 12
number_of IndexSlots = 13
number_of CardMark = 14
number_of CardVersion = 15
number_of CardEdges = 16
number_of CardOutput = 17
number_of WalkMemory = 18

-- the number of an answer, 0 if it is accepted
abbrev pub answer_of : Result (Unit {0}) Refusal → ℕ
answer_of (Ok _) = 0
answer_of (Err r) = number_of r

-- yes c, no c, spent c, refused n
abbrev pub reply_of : Result SearchReply Refusal → Reply
reply_of (Ok (SearchYes c)) = Yes c
reply_of (Ok (SearchNo c)) = No c
reply_of (Ok (SearchSpent c)) = Spent c
reply_of (Err r) = Refused (number_of r)

-- yes, no, refused n
abbrev pub answered_of : Result Bool Refusal → Answered
answered_of (Ok true) = AnsweredYes
answered_of (Ok false) = AnsweredNo
answered_of (Err r) = AnsweredRefused (number_of r)

-- yes with the number of edges, no, refused n
abbrev pub routed_of : Result (Option ℕ) Refusal → Routed
routed_of (Ok (Some n)) = RoutedYes n
routed_of (Ok None) = RoutedNo
routed_of (Err r) = RoutedRefused (number_of r)

-- yes with the lowest middle, no, refused n
abbrev pub two_answered_of : Result (Option ℕ) Refusal → TwoAnswered
two_answered_of (Ok (Some m)) = TwoAnsweredYes m
two_answered_of (Ok None) = TwoAnsweredNo
two_answered_of (Err r) = TwoAnsweredRefused (number_of r)
