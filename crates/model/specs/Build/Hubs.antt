-- The entries of one pattern by their hubs and by their starts, over vertices in their own order.
use Rattle.std.specs.Prelude.{◌≡◌, cond, ◌⊎◌, List, ℕ, ◌+◌, ◌≤◌, ◌<◌, ltb}
use Rattle.model.specs.Edges.{Graph}
use Rattle.model.specs.Walks.{Runs}
use Rattle.model.specs.Entries.{entry_of}

-- what stops come to: the start, the end, or a vertex where one walk that runs l ends and another starts
abbrev pub Between : Graph → List ℕ → ℕ → ℕ → ℕ → Type 0
Between g l s t u = (u ≡ s) ⊎ ((u ≡ t) ⊎ (Runs g l s u × Runs g l u t))

-- e is the entry of an owner and a hub on one side, by a relation from hub to owner: the owner comes no earlier than the hub (on side 1,
-- later), and no vertex earlier than the hub stands between the two
pub record Picked (R : ℕ → ℕ → Type 0) (side c e : ℕ) : Type 0 where
  pub hub : ℕ
  pub owner : ℕ
  pub related : R hub owner
  pub late : hub + side ≤ owner
  pub alone : (v : ℕ) → v < hub → R hub v → R v owner → ⊥
  pub is : e ≡ entry_of side owner hub c

-- the entries of both sides by one relation: out entries, whose owner stands in it to the hub, and in entries, whose hub does to the owner
pub data EntryBy (R : ℕ → ℕ → Type 0) (c e : ℕ) : Type 0 where
  out : Picked (λ u y. R y u) 0 c e → EntryBy R c e
  into : Picked R 1 c e → EntryBy R c e

-- ---- the entries by their starts

-- one step of R or more
pub data Plus (R : ℕ → ℕ → Type 0) : ℕ → ℕ → Type 0 where
  one : {a b : ℕ} → R a b → Plus R a b
  more : {a m b : ℕ} → R a m → Plus R m b → Plus R a b

-- the entry for a walk from s to t: the later of the two owns it, and the other is its hub
abbrev pub joining : ℕ → ℕ → ℕ → ℕ
joining c s t = cond (ltb s t) (entry_of 1 t s c) (entry_of 0 s t c)

-- e is the entry for s and a vertex to which it stands in R
pub record Direct (R : ℕ → ℕ → Type 0) (c s e : ℕ) : Type 0 where
  pub end : ℕ
  pub related : R s end
  pub is : e ≡ joining c s end

-- and no vertex earlier than both stands between the two
pub record Joined (R : ℕ → ℕ → Type 0) (c s e : ℕ) : Type 0 where
  pub end : ℕ
  pub related : R s end
  pub alone : (v : ℕ) → v < s → v < end → R s v → R v end → ⊥
  pub is : e ≡ joining c s end

-- a second step follows a step from s
pub record Onward (R : ℕ → ℕ → Type 0) (s : ℕ) : Type 0 where
  pub middle : ℕ
  pub end : ℕ
  pub first : R s middle
  pub second : R middle end
