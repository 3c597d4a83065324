-- The plain check (level search) as it is computed: its levels, and the reply that they determine.
use Rattle.std.specs.Prelude.{Bool, true, false, not, ◌&&◌, List, [], ◌∷◌, ℕ, zero, suc, ◌*◌, ◌%◌, eqb, ltb, length, get_or}
use Rattle.model.specs.Limits.{most_vertices, most_longest}
use Rattle.model.specs.Lists.{any?, keep, mem?, empty?, up_to}
use Rattle.model.specs.Edges.{Graph, edge_number}
use Rattle.model.specs.States.{Yes, No, Spent, Refused, state, vertex_of, used_of, Reply}

-- a search has at most 1,024 states
abbrev pub most_states : ℕ
most_states = most_longest * most_vertices

-- every state of the graph
unfoldable pub states : Graph → List ℕ → List ℕ
states g l = keep (λ x. ltb (vertex_of x) g.vertices) (up_to (length l * most_vertices))

-- `Leads` as a test
unfoldable pub leads? : Graph → List ℕ → ℕ → ℕ → Bool
leads? g l x z =
    eqb (used_of z) (suc (used_of x) % length l)
    && mem? (edge_number (vertex_of x) (get_or l (used_of x) 0) (vertex_of z)) g.edges

-- such an edge leads to z from some state of the level
unfoldable pub led? : Graph → List ℕ → List ℕ → ℕ → Bool
led? g l level z = any? (λ x. leads? g l x z) level

-- a level, and the states that are in none of levels 1 up to it
pub record Stage : Type 0 where
  pub level : List ℕ
  pub fresh : List ℕ

-- "Level i+1 is every (place, colours used) that a leg of the next colour leads to from level i and that is in none of levels 1 to i."
unfoldable pub grow : Graph → List ℕ → Stage → Stage
grow g l st =
    record {
      level = keep (led? g l st.level) st.fresh;
      fresh = keep (λ z. not (led? g l st.level z)) st.fresh;
    }

-- "level 0 is the pair (s, 0)", and it does not count as visited
unfoldable pub stage : Graph → List ℕ → ℕ → ℕ → Stage
stage g l s zero = record { level = state s 0 ∷ []; fresh = states g l }
stage g l s (suc i) = grow g l (stage g l s i)

abbrev pub level : Graph → List ℕ → ℕ → ℕ → List ℕ
level g l s i = (stage g l s i).level

-- the reply at level c: to whether it has (t, 0), to whether it is empty, or else a later level's
abbrev pub reply_at : Bool → Bool → ℕ → Reply → Reply
reply_at true empty c later = Yes c
reply_at false true c later = No c
reply_at false false c later = later

-- stage st has level c, and levels n more are allowed
unfoldable pub reply_from : Graph → List ℕ → ℕ → ℕ → ℕ → Stage → Reply
reply_from g l t zero c st = Spent c
reply_from g l t (suc n) c st =
    let new = grow g l st in
    let later = reply_from g l t n (suc c) new in
    reply_at (mem? (state t 0) new.level) (empty? new.level) (suc c) later

-- "Yes c: c is the first level from 1 with (t, 0). No c: level c is the first empty one from 1 and none of levels 1 to c had (t, 0).
-- If neither c is within the allowance, the reply is spent, with the allowance."
unfoldable pub level_reply : Graph → List ℕ → ℕ → ℕ → ℕ → Reply
level_reply g l s t limit = reply_from g l t limit 0 (stage g l s 0)

abbrev pub is_yes? : Reply → Bool
is_yes? (Yes c) = true
is_yes? (No c) = false
is_yes? (Spent c) = false
is_yes? (Refused c) = false

-- whether a walk from s to t runs l: the reply with one level more than there are states
unfoldable pub runs? : Graph → List ℕ → ℕ → ℕ → Bool
runs? g l s t = is_yes? (level_reply g l s t (suc (length l * most_vertices)))
