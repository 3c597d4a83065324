-- A change settled: with an index that was built, or with edge memory as it was saved.
use mathlib.Core.Path.{◌≡◌, refl, sym, ap, subst, ◌∙◌}
use mathlib.Core.Bool.{Bool, true, false, cond}
use mathlib.Core.List.{List}
use Prim.Native.Nat.{ℕ, ◌+◌, ◌-◌, ◌≤◌, ◌<◌}
use native.Mathlib.Omega.{arith}
use lib.Dec.{ltb}
use lib.ListN.{length, get_or, take, drop, replicate, length-drop}
use lib.Seq.{length-take-le, get_or-take, get_or-drop, ext_get_or}
use Rattle.model.specs.Lists.{filled, zeroed}
use Rattle.model.specs.Edges.{Graph}
use Rattle.model.specs.Computed.Entries.{determined}
use Rattle.model.specs.declared.Refusal.TheVariants.{IndexSlots}
use Rattle.model.proofs.Tests.{test_lt, test_yields, test_fails}
use Rattle.model.proofs.Lists.{part_all}
use Rattle.memory.specs.Widths.{Narrow}
use Rattle.calls.specs.Call.{Size, graph_of, Memory, lent}
use Rattle.calls.proofs.Change.{settle_fits, settle_short}
use Rattle.rows.specs.Region.{saved_numbers}
use Rattle.build.specs.Build.{Saved}
use Rattle.std.proofs.Common.{Option, Some, None, Result, Ok, Err}
use Rattle.settle.specs.Indexing.{Indexable, Indexes}
use Rattle.settle.specs.Settle.{saved_in, Settleable, Settles}

-- ---- what a build replied

one_reply : {A : Type 0} {k : ℕ} → None ≡ Some k → A
one_reply e = absurd (let z : ◌≡◌ {A = ℕ} 0 1 = cc in omega arith)

module _ {g : Graph} {index work index' work' : List ℕ} where
  short : Indexes g index work index' work' None → (length index < length (determined g)) × (index' ≡ index)
  short x = go (ltb (length index) (length (determined g))) refl x.reply x.index_is
    where
      go : (t : Bool) → ltb (length index) (length (determined g)) ≡ t → None ≡ cond t None (Some (length (determined g)))
          → index' ≡ cond t index (filled (length index) (determined g)) → (length index < length (determined g)) × (index' ≡ index)
      go true q r e = (test_yields (test_lt (length index) (length (determined g))) q, e)
      go false q r e = one_reply r

  full : {k : ℕ} → Indexes g index work index' work' (Some k)
      → (length (determined g) ≤ length index) × (index' ≡ filled (length index) (determined g))
  full {k} x = go (ltb (length index) (length (determined g))) refl x.reply x.index_is
    where
      go : (t : Bool) → ltb (length index) (length (determined g)) ≡ t → Some k ≡ cond t None (Some (length (determined g)))
          → index' ≡ cond t index (filled (length index) (determined g))
          → (length (determined g) ≤ length index) × (index' ≡ filled (length index) (determined g))
      go true q r e = one_reply (sym r)
      go false q r e = ((let h = test_fails (test_lt (length index) (length (determined g))) q in omega (arith, h)), e)

-- ---- memory afterwards

pub cleared : {work work' work'' : List ℕ} → Saved work work' → work'' ≡ zeroed work' → work'' ≡ zeroed work
cleared v c = c ∙ ap (λ (k : ℕ). replicate k 0) v.len

module _ {h : Size} {n : ℕ} {edges index work : List ℕ} (s : Settleable h n edges index work) where
  pub edges_front : n ≡ length (take n edges)
  edges_front = sym (length-take-le n edges s.fits)

  pub indexable : Indexable h.vertices h.longest (take n edges) index work
  indexable = record {
    bounds = s.bounds;
    few = omega (arith, edges_front, s.fits, s.few);
    rises = s.rises;
    valid = s.valid;
    room = s.room;
  }

  saved_size : length (saved_in work edges) ≡ length edges
  saved_size = length-take-le (length edges) (drop saved_numbers work) (omega (arith, length-drop saved_numbers work, s.room, s.few))

  module _ {work' : List ℕ} (v : Saved work work') where
    -- the part of work memory from which edge memory is restored
    abbrev rest : List ℕ
    rest = take (length work' - saved_numbers) (drop saved_numbers work')

    rest_long : length edges ≤ length rest
    rest_long = omega (arith, ap length (part_all work' saved_numbers), length-drop saved_numbers work', v.len, s.room, s.few)

    restored : take (length edges) rest ≡ saved_in work edges
    restored =
        let size : length (take (length edges) rest) ≡ length edges = length-take-le (length edges) rest rest_long in
        ext_get_or 0 (take (length edges) rest) (saved_in work edges) (size ∙ sym saved_size) (λ i q.
        get_or-take (length edges) rest i 0 (omega (arith, q, size))
        ∙ ap (λ (l : List ℕ). get_or l i 0) (part_all work' saved_numbers)
        ∙ get_or-drop saved_numbers work' i 0
        ∙ v.same (saved_numbers + i) (record { least = omega arith; most = omega (arith, q, size, s.few) })
        ∙ sym (get_or-drop saved_numbers work i 0)
        ∙ sym (get_or-take (length edges) (drop saved_numbers work) i 0 (omega (arith, q, size)))
        )

    pub restored_narrow : Narrow (take (length edges) rest)
    restored_narrow = subst Narrow (sym restored) s.narrow

  abbrev saved : Memory
  saved = lent (saved_in work edges) index work

  module _ {index' work' work'' : List ℕ} (zero : work'' ≡ zeroed work) where
    -- 13: edge memory is as it was saved, index memory as it came
    pub settles_short : Indexes (graph_of h (take n edges)) index work index' work' None → {edges' : List ℕ}
        → edges' ≡ take (length edges) (take (length work' - saved_numbers) (drop saved_numbers work'))
        → Settles h n edges index work (Err IndexSlots) edges' index' work''
    settles_short x {edges'} e =
        let (fewer, same) = short x in
        settle_short h (take n edges) saved fewer (e ∙ restored x.saved) same zero refl

    -- accepted: the index is built
    pub settles_fits : {k : ℕ} → Indexes (graph_of h (take n edges)) index work index' work' (Some k)
        → Settles h n edges index work (Ok tt) edges index' work''
    settles_fits x =
        let (fits, is) = full x in
        settle_fits h (take n edges) saved fits (s.zeros ∙ ap (λ (k : ℕ). filled k (take n edges)) (sym saved_size)) is zero refl
