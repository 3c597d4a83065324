-- From staged entries to the list of determined entries: those of the renumbered graph, put back and sorted.
use mathlib.Core.Path.{◌≡◌, sym, ap, ◌∙◌}
use mathlib.Core.Logic.{◌↔◌}
use mathlib.Core.List.Memᴰ
use mathlib.Core.List.{List, map}
use Prim.Native.Nat.{ℕ, ◌+◌, ◌≤◌, ◌<◌}
use native.Mathlib.Omega.{arith}
use lib.ListN.{length, get_or, drop, length-drop, length-map}
use lib.Seq.{length-take-le, get_or-take, get_or-drop}
use Rattle.model.specs.Limits.{most_vertices, least_work, hub_unit}
use Rattle.model.specs.Lists.{◌∈◌, up_to, filled}
use Rattle.model.specs.Edges.{Graph}
use Rattle.model.specs.Patterns.{code}
use Rattle.model.specs.Order.{Names}
use Rattle.model.specs.Entries.{entry_of, IsEntry}
use Rattle.model.specs.Computed.Edges.{Small}
use Rattle.model.specs.Computed.Entries.{entries}
use Rattle.model.specs.Computed.Query.{side_of, owner_of, hub_of}
use Rattle.model.specs.Build.Renumber.{Renumbers, translate}
use Rattle.model.proofs.Lists.{get_d_in, in_get_d}
use Rattle.model.proofs.Patterns.{code_below}
use Rattle.model.proofs.Entries.{entries_in, entries_out}
use Rattle.model.proofs.Ranks.{names_length}
use Rattle.model.proofs.Renumber.{entry_fields, entry_there, entry_back}
use Rattle.model.proofs.Counting.{index_is, more_entries}
use Rattle.sort.specs.Order.{Distinct, Sorts}
use Rattle.output.specs.Output.{Translatable, WritesIndex}
use Rattle.output.proofs.Putting.{translate_once}
use Rattle.staging.specs.Stage.{staged, Adds, Over}
use Rattle.build.specs.Staging.{staged_list}

-- ---- the list has each staged number once

module _ (w : List ℕ) (r : ℕ) (room : least_work + r ≤ length w) where
  pub staged_length : length (staged_list w r) ≡ r
  staged_length = length-take-le r (drop least_work w) (omega (arith, length-drop least_work w))

  pub staged_at : (i : ℕ) → i < r → get_or (staged_list w r) i 0 ≡ staged w i
  staged_at i h = get_or-take r (drop least_work w) i 0 h ∙ get_or-drop least_work w i 0

module _ {w : List ℕ} {r : ℕ} {Q : ℕ → Type 0} (a : Adds w 0 r Q) (room : least_work + r ≤ length w) where
  pub staged_distinct : Distinct (staged_list w r)
  staged_distinct = record {
    once = λ i j h k e.
        let b : j < r = omega (arith, staged_length w r room) in
        let c : i < r = omega arith in
        a.different.once i j (omega arith) h b (sym (staged_at w r room i c) ∙ e ∙ staged_at w r room j b);
  }

  pub staged_in : (x : ℕ) → (x ∈ staged_list w r) ↔ Q x
  staged_in x = (there, back)
    where
      there : x ∈ staged_list w r → Q x
      there m =
          let k = in_get_d m in
          let b : k.i < r = omega (arith, k.inside, staged_length w r room) in
          let e : staged w k.i ≡ x = sym (staged_at w r room k.i b) ∙ k.is in
          rw e at (a.different.only k.i (omega arith) b)

      back : Q x → x ∈ staged_list w r
      back q =
          let s = a.all x q in
          let z : get_or (staged_list w r) s.i 0 ≡ x = staged_at w r room s.i s.high ∙ s.is in
          rw z at (get_d_in (staged_list w r) s.i (omega (arith, s.high, staged_length w r room)))

-- ---- the fields of an entry of a graph

pub record Fields (n x : ℕ) : Type 0 where
  pub side_small : side_of x < 2
  pub owner_small : owner_of x < n
  pub hub_small : hub_of x < n

fields_of : {n x : ℕ} (side a b c : ℕ) → n ≤ most_vertices → side < 2 → a < n → b < n → c < hub_unit → x ≡ entry_of side a b c → Fields n x
fields_of {n} side a b c small hs ha hb hc e =
    let (p, q, r, t) = entry_fields side a b c (omega arith) (omega arith) hc in
    rw e (record { side_small = rw p hs; owner_small = rw q ha; hub_small = rw r hb })

pub fields : (g : Graph) {order : List ℕ} {x : ℕ} → Small g → IsEntry g order x → Fields g.vertices x
fields g small (IsEntry.out s t l q a i) =
    fields_of 0 s t (code l) small.vertices_small (omega arith) q.from q.to (code_below small.longest_small q.pattern.keyed) i
fields g small (IsEntry.into s t l q a d i) =
    fields_of 1 t s (code l) small.vertices_small (omega arith) q.to q.from (code_below small.longest_small q.pattern.keyed) i

-- ---- from the entries of the renumbered graph to those of the graph

module _ {n : ℕ} (k : ℕ) {order edges edges' : List ℕ} (names : Names n order) (e : Renumbers n order edges edges') where
  abbrev g : Graph
  g = record { vertices = n; longest = k; edges = edges }

  abbrev h : Graph
  h = record { vertices = n; longest = k; edges = edges' }

  module _ (small : Small g) where
    small' : Small h
    small' = record { vertices_small = small.vertices_small; longest_small = small.longest_small }

    -- a list of such entries can be put back
    translatable : (l : List ℕ) → ((x : ℕ) → x ∈ l → IsEntry h (up_to n) x) → Translatable order l
    translatable l f = record {
      order_small = λ v m. omega (arith, names.only v m, small.vertices_small);
      sides = λ x m. (fields h small' (f x m)).side_small;
      owners = λ x m. omega (arith, (fields h small' (f x m)).owner_small, names_length names);
      hubs = λ x m. omega (arith, (fields h small' (f x m)).hub_small, names_length names);
    }

    -- different entries are different when put back
    apart : (x y : ℕ) → IsEntry h (up_to n) x → IsEntry h (up_to n) y → translate order x ≡ translate order y → x ≡ y
    apart x y p q =
        translate_once (translatable (entries h (up_to n)) (λ z m. entries_out h (up_to n) small' m)) names
        x y (entries_in h (up_to n) small' p) (entries_in h (up_to n) small' q)

    module _ {w : List ℕ} {r : ℕ} (a : Adds w 0 r (IsEntry h (up_to n))) (room : least_work + r ≤ length w) where
      pub staged_translatable : Translatable order (staged_list w r)
      staged_translatable = translatable (staged_list w r) (λ x m. (staged_in a room x).0 m)

      -- the staged entries put back are the entries of the graph
      pub put_back : (x : ℕ) → (x ∈ map (translate order) (staged_list w r)) ↔ IsEntry g order x
      put_back x = (there, back)
        where
          there : x ∈ map (translate order) (staged_list w r) → IsEntry g order x
          there m =
              let (y, i, q) = Memᴰ.of_map (translate order) (staged_list w r) m in
              rw q at (entry_back n k order edges edges' names e small ((staged_in a room y).0 i))

          back : IsEntry g order x → x ∈ map (translate order) (staged_list w r)
          back p =
              let (y, i, q) = entry_there n k order edges edges' names e small p in
              rw q (Memᴰ.map (translate order) ((staged_in a room y).1 i))

      module _ {sorted : List ℕ} (s : Sorts (map (translate order) (staged_list w r)) sorted) where
        pub listing : sorted ≡ entries g order
        listing = index_is g order small sorted s.rises (λ x m. (put_back x).0 ((s.same x).0 m)) (λ x p. (s.same x).1 ((put_back x).1 p))

        pub listing_length : r ≡ length (entries g order)
        listing_length = sym (staged_length w r room) ∙ sym (length-map (staged_list w r) (translate order)) ∙ sym s.size ∙ ap length listing

      -- index memory then
      pub written_listing : {index index' : List ℕ} → WritesIndex (map (translate order) (staged_list w r)) index index'
          → index' ≡ filled (length index) (entries g order)
      written_listing {index} i = i.is ∙ ap (filled (length index)) (listing i.sorts)

    -- the slots are full and an entry is left: there are more entries than slots
    pub too_many : {w : List ℕ} {slots : ℕ} → Over w 0 slots (IsEntry h (up_to n)) → slots < length (entries g order)
    too_many {w} {slots} o = more_entries g order small slots (λ i. translate order (staged w i)) (translate order o.extra)
        (λ i b. entry_back n k order edges edges' names e small (at i b))
        (entry_back n k order edges edges' names e small o.is)
        (λ i j b c q. o.different.once i j (omega arith) b c (apart _ _ (at i (omega arith)) (at j c) q))
        (λ i b q. o.fresh (record { i = i; low = omega arith; high = b; is = apart _ _ (at i b) o.is q }))
      where
        at : (i : ℕ) → i < slots → IsEntry h (up_to n) (staged w i)
        at i b = o.different.only i (omega arith) b
