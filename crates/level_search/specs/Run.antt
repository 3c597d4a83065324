-- What the level search replies.
use Rattle.std.specs.Prelude.{◌≡◌, Ok, Bool, List, ℕ}
use Rattle.model.specs.Lists.{zeroed}
use Rattle.model.specs.States.{Reply}
use Rattle.model.specs.Replies.{reply_of}
use Rattle.model.specs.Computed.Edges.{bare}
use Rattle.model.specs.Computed.Levels.{level_reply, runs?}
use Rattle.model.specs.declared.SearchReply.{SearchReply}

abbrev pub found_by : ℕ → List ℕ → List ℕ → ℕ → ℕ → ℕ → Reply
found_by vertices edges l s t limit = level_reply (bare vertices edges) l s t limit

-- the search's contract: the reply is the levels', and work memory ends zero
pub record Searches (vertices : ℕ) (edges l : List ℕ) (s t limit : ℕ) (work : List ℕ) (r : SearchReply) (work' : List ℕ) : Type 0 where
  pub reply : reply_of (Ok r) ≡ found_by vertices edges l s t limit
  pub work_after : work' ≡ zeroed work

-- the same for as many levels as always suffice: whether a walk runs l, and work memory ends zero
pub record Tells (vertices : ℕ) (edges l : List ℕ) (s t : ℕ) (work : List ℕ) (found : Bool) (work' : List ℕ) : Type 0 where
  pub is : found ≡ runs? (bare vertices edges) l s t
  pub work_after : work' ≡ zeroed work
