-- Laws of the level search's reply: it is document 01's, it goes on from level to level, and yes and no are right about walks.
use mathlib.Core.Path.{◌≡◌, refl, ap, subst}
use mathlib.Core.Logic.{⊎_elim}
use mathlib.Core.Bool.{Bool, true, false}
use mathlib.Core.List.Memᴰ
use mathlib.Core.List.{List, [], ◌∷◌}
use Prim.Native.Nat.{ℕ, zero, suc, ◌+◌, ◌*◌, ◌≤◌, ◌<◌}
use native.Mathlib.Nat.{eq-or-lt_of_le, le_of_suc-le-suc}
use native.Mathlib.Omega.{arith}
use lib.Dec.{T}
use lib.ListN.{length}
use Rattle.model.specs.Limits.{most_vertices, most_longest, enough_levels}
use Rattle.model.specs.Lists.{◌∈◌, mem?, empty?}
use Rattle.model.specs.Edges.{Graph}
use Rattle.model.specs.Walks.{Runs}
use Rattle.model.specs.States.{state, Reply, Yes, No, Spent, Refused}
use Rattle.model.specs.Computed.Levels.{states, leads?, led?, Stage, grow, stage, level, reply_at, reply_from, level_reply, is_yes?, runs?}
use Rattle.model.specs.Levels.{Quiet, Told, found, ended, stopped, Decides}
use Rattle.model.proofs.Tests.{Tests, test_true, test_false, test_agree, test_dec, test_T, test_mem}
use Rattle.model.proofs.Levels.{state_zero, level_runs, level_all, level_size, fresh_size}

pub empty_out : (l : List ℕ) → T (empty? l) → (x : ℕ) → ¬ (x ∈ l)
empty_out [] t x m = Memᴰ.not-nil m
empty_out (z ∷ l) t x m = t

pub empty_in : (l : List ℕ) → ((x : ℕ) → ¬ (x ∈ l)) → T (empty? l)
empty_in [] h = tt
empty_in (z ∷ l) h = h z (Memᴰ.head refl)

some : (l : List ℕ) → ¬ T (empty? l) → 1 ≤ length l
some [] h = absurd (h tt)
some (x ∷ l) h = omega arith

-- ---- how the reply goes on from one level to the next

module _ (g : Graph) (l : List ℕ) (s t n c : ℕ) where
  reply_step : reply_from g l t (suc n) c (stage g l s c) ≡ reply_at (mem? (state t 0) (level g l s (suc c))) (empty? (level g l s (suc c))) (suc c) (reply_from g l t n (suc c) (stage g l s (suc c)))
  unfolding reply_from stage
  reply_step = refl

  has : t ∈ level g l s (suc c) → mem? (state t 0) (level g l s (suc c)) ≡ true
  has m = test_true (test_mem (state t 0) (level g l s (suc c))) (rw (state_zero t) m)

  lacks : ¬ (t ∈ level g l s (suc c)) → mem? (state t 0) (level g l s (suc c)) ≡ false
  lacks d = test_false (test_mem (state t 0) (level g l s (suc c))) (λ m. d (rw (state_zero t) at m))

  pub reply_yes : t ∈ level g l s (suc c) → reply_from g l t (suc n) c (stage g l s c) ≡ Yes (suc c)
  reply_yes m = rw (reply_step, has m) refl

  pub reply_no : ((z : ℕ) → ¬ (z ∈ level g l s (suc c))) → reply_from g l t (suc n) c (stage g l s c) ≡ No (suc c)
  reply_no d = rw (reply_step, lacks (d t), test_true (test_T (empty? (level g l s (suc c)))) (empty_in (level g l s (suc c)) d)) refl

  pub reply_on : {z : ℕ} → ¬ (t ∈ level g l s (suc c)) → z ∈ level g l s (suc c)
      → reply_from g l t (suc n) c (stage g l s c) ≡ reply_from g l t n (suc c) (stage g l s (suc c))
  reply_on {z} d m = rw (reply_step, lacks d, test_false (test_T (empty? (level g l s (suc c)))) (λ e. empty_out (level g l s (suc c)) e z m)) refl

-- ---- what the reply says

module _ (g : Graph) (l : List ℕ) (s t : ℕ) where
  told_from : (limit n c : ℕ) → c + n ≡ limit → Quiet g l s t c → Told g l s t limit (reply_from g l t n c (stage g l s c))
  unfolding reply_from stage
  told_from limit zero c e q = let same : c ≡ limit = omega arith in rw (← same) (stopped q)
  told_from limit (suc n) c e q = go (mem? (state t 0) new) (empty? new) refl refl (told_from limit n (suc c) (omega arith))
    where
      new : List ℕ
      new = level g l s (suc c)

      later : Reply
      later = reply_from g l t n (suc c) (stage g l s (suc c))

      go : (m v : Bool) → mem? (state t 0) new ≡ m → empty? new ≡ v → (Quiet g l s t (suc c) → Told g l s t limit later) → Told g l s t limit (reply_at m v (suc c) later)
      go true v p r f = found c (omega arith) q ((test_mem (state t 0) new).yields (rw p tt))
      go false true p r f = ended c (omega arith) q (rw r tt)
      go false false p r f = f (λ j h k. ⊎_elim (λ i. rw i (λ m. subst T p ((test_mem (state t 0) new).passes m), λ u. subst T r u)) (λ i. q j h (le_of_suc-le-suc i)) (eq-or-lt_of_le k))

  -- the reply is the one that the levels determine
  pub told : (limit : ℕ) → Told g l s t limit (level_reply g l s t limit)
  unfolding level_reply
  told limit = told_from limit limit 0 (omega arith) (λ j h k. absurd (omega arith))

  quiet_size : (c : ℕ) → Quiet g l s t c → c + length (stage g l s c).fresh ≤ length l * most_vertices
  quiet_size zero q = omega (arith, fresh_size g l s)
  quiet_size (suc c) q =
      omega (arith, quiet_size c (λ j h k. q j h (omega arith)), level_size g l s c, some (level g l s (suc c)) (q (suc c) (omega arith) (omega arith)).1)

  -- SPENT: the allowance was no more than the states
  pub told_spent : {limit c : ℕ} → Told g l s t limit (Spent c) → limit ≤ length l * most_vertices
  told_spent {limit} (stopped q) = omega (arith, quiet_size limit q)

  module _ (small : g.vertices ≤ most_vertices) (full : 1 ≤ length l) (hs : s < g.vertices) (ht : t < g.vertices) where
    -- YES: a walk runs l
    pub told_yes : {limit c : ℕ} → Told g l s t limit (Yes c) → Runs g l s t
    told_yes (found c h q m) = level_runs g l s small full hs c t ht (rw (state_zero t) at m)

    -- NO: none does
    pub told_no : {limit c : ℕ} → Told g l s t limit (No c) → Runs g l s t → ⊥
    told_no (ended c h q e) r =
        let m = level_all g l small full s c t (empty_out (level g l s (suc c)) e) r in
        (q m.at m.first m.last).0 (rw (state_zero t) m.stands)

    -- "An allowance of 1,025 always gives yes or no": yes if a walk runs l, and only then
    pub decides : (limit : ℕ) → enough_levels ≤ limit → length l ≤ most_longest → Decides g l s t (level_reply g l s t limit)
    decides limit enough short = go (level_reply g l s t limit) (told limit)
      where
        go : (r : Reply) → Told g l s t limit r → Decides g l s t r
        go (Yes c) h = Decides.runs c (told_yes h)
        go (No c) h = Decides.runs_not c (told_no h)
        go (Spent c) h = absurd (omega (arith, told_spent h))
        go (Refused _) h = elim h [ ]

module _ (g : Graph) (l : List ℕ) (small : g.vertices ≤ most_vertices) (full : 1 ≤ length l) (s t : ℕ) (hs : s < g.vertices) (ht : t < g.vertices) where
  -- with an allowance of more levels than there are states
  test_yes : (limit : ℕ) → length l * most_vertices < limit → Tests (is_yes? (level_reply g l s t limit)) (Runs g l s t)
  test_yes limit more = go (level_reply g l s t limit) (told g l s t limit)
    where
      go : (r : Reply) → Told g l s t limit r → Tests (is_yes? r) (Runs g l s t)
      go (Yes c) h = record { yields = λ _. told_yes g l s t small full hs ht h; passes = λ _. tt }
      go (No c) h = record { yields = λ x. absurd x; passes = λ r. told_no g l s t small full hs ht h r }
      go (Spent c) h = absurd (omega (arith, told_spent g l s t h))
      go (Refused _) h = elim h [ ]

  pub test_runs : Tests (runs? g l s t) (Runs g l s t)
  unfolding runs?
  test_runs = test_yes (suc (length l * most_vertices)) (omega arith)

  -- so one of 1,025 says whether a walk runs a pattern
  pub yes_runs : (limit : ℕ) → enough_levels ≤ limit → length l ≤ most_longest → is_yes? (level_reply g l s t limit) ≡ runs? g l s t
  yes_runs limit enough short = test_agree (test_yes limit (omega arith)) test_runs

  pub runs_dec : Dec (Runs g l s t)
  runs_dec = test_dec test_runs

-- the longest pattern plays no part in a search
module _ (vertices : ℕ) (edges l : List ℕ) (t j k : ℕ) where
  from_as : (n c : ℕ) (st : Stage)
      → reply_from (record { vertices = vertices; longest = j; edges = edges }) l t n c st ≡ reply_from (record { vertices = vertices; longest = k; edges = edges }) l t n c st
  unfolding reply_from grow led? leads?
  from_as zero c st = refl
  from_as (suc n) c st =
      let new : Stage = grow (record { vertices = vertices; longest = k; edges = edges }) l st in
      ap (reply_at (mem? (state t 0) new.level) (empty? new.level) (suc c)) (from_as n (suc c) new)

  pub reply_as : (s limit : ℕ)
      → level_reply (record { vertices = vertices; longest = j; edges = edges }) l s t limit ≡ level_reply (record { vertices = vertices; longest = k; edges = edges }) l s t limit
  unfolding level_reply stage states
  reply_as s limit = from_as limit 0 _

  pub runs_as : (s : ℕ)
      → runs? (record { vertices = vertices; longest = j; edges = edges }) l s t ≡ runs? (record { vertices = vertices; longest = k; edges = edges }) l s t
  unfolding runs?
  runs_as s = ap is_yes? (reply_as s (suc (length l * most_vertices)))
