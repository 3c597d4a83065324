-- Replies as numbers, as the C interface tells them.
use Rattle.std.specs.Prelude.{ℕ, ◌+◌, ◌*◌, ◌^◌}
use Rattle.model.specs.Query.{Answered, Yes as AnsweredYes, No as AnsweredNo, Refused as AnsweredRefused}
use Rattle.model.specs.States.{Reply, Yes, No, Spent, Refused}
use Rattle.model.specs.Routes.{Routed, Yes as RoutedYes, No as RoutedNo, Refused as RoutedRefused}
use Rattle.model.specs.Middles.{TwoAnswered, Yes as TwoYes, No as TwoNo, Refused as TwoRefused}

-- "0 no, 100 yes, else the number"
abbrev pub answered_in_c : Answered → ℕ
answered_in_c AnsweredYes = 100
answered_in_c AnsweredNo = 0
answered_in_c (AnsweredRefused n) = n

-- what stands above the levels, the edges of a route, or a middle, in a reply
abbrev pub reply_unit : ℕ
reply_unit = 2 ^ 32

-- "reply × 2^32 + levels: 0 no, 100 yes, 101 spent, else the number with levels 0"
abbrev pub replied_in_c : Reply → ℕ
replied_in_c (Yes c) = 100 * reply_unit + c
replied_in_c (No c) = c
replied_in_c (Spent c) = 101 * reply_unit + c
replied_in_c (Refused n) = n * reply_unit

-- "reply × 2^32 + number of edges: 100 with the walk's edges, 0 no, else the number with 0"
abbrev pub routed_in_c : Routed → ℕ
routed_in_c (RoutedYes n) = 100 * reply_unit + n
routed_in_c RoutedNo = 0
routed_in_c (RoutedRefused n) = n * reply_unit

-- "reply × 2^32 + m: 100 with the lowest m, 0 no, else the number with 0"
abbrev pub two_answered_in_c : TwoAnswered → ℕ
two_answered_in_c (TwoYes m) = 100 * reply_unit + m
two_answered_in_c TwoNo = 0
two_answered_in_c (TwoRefused n) = n * reply_unit
