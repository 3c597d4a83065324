-- What each of two patterns by itself tells of a pair of vertices, and the vertex at which they meet.
use Rattle.std.specs.Prelude.{◌≡◌, Bool, ◌&&◌, cond, List, ℕ, ◌≤◌, length}
use Rattle.model.specs.Limits.{most_edges, most_longest}
use Rattle.model.specs.Lists.{keep, up_to, zeroed}
use Rattle.model.specs.Patterns.{Keyed}
use Rattle.model.specs.Middles.{TwoAnswered}
use Rattle.model.specs.Computed.Edges.{bare}
use Rattle.model.specs.Computed.Levels.{runs?}
use Rattle.model.specs.Computed.Patterns.{once?}
use Rattle.model.specs.Computed.Query.{answers?}
use Rattle.calls.specs.QueryTwo.{lowest}
use Rattle.answer.specs.declared.Side.{Side}
use Rattle.answer.specs.declared.Side.TheVariants.{Out, In}
use Rattle.answer.specs.Saying.{Indexed}
use Rattle.frontier.specs.Search.{Searchable}

-- what a single question by l tells of the edges and entries that stand: the index replies for a pattern that is written once, and a search for another
unfoldable pub told? : ℕ → (edges index l : List ℕ) → ℕ → ℕ → Bool
told? vertices edges index l s t = cond (once? l) (answers? vertices index l s t) (runs? (bare vertices edges) l s t)

-- the same from vertex v to u, on the out side, or from u to v, on the in side
abbrev pub led? : Side → ℕ → (edges index l : List ℕ) → ℕ → ℕ → Bool
led? Out vertices edges index l v u = told? vertices edges index l v u
led? In vertices edges index l v u = told? vertices edges index l u v

-- edges and entries that l can be put to, from or to vertex v
pub record Puttable (vertices : ℕ) (edges index l : List ℕ) (v : ℕ) : Type 0 where
  pub searchable : Searchable vertices edges l v v
  pub few : length edges ≤ most_edges
  pub keyed : Keyed most_longest l
  pub longest : ℕ
  pub indexed : Indexed vertices longest index

-- the lowest vertex to which the first pattern leads and from which the second leads on; and work memory ends zero
pub record Meeting (vertices : ℕ) (edges index first second : List ℕ) (s t : ℕ) (work : List ℕ) (reply : TwoAnswered) (work' : List ℕ) : Type 0 where
  pub is : reply ≡ lowest (keep (λ v. told? vertices edges index first s v && told? vertices edges index second v t) (up_to vertices))
  pub work_after : work' ≡ zeroed work
