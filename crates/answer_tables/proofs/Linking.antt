-- The answers for all ends at once: what is marked from a vertex's own list and from the entries of the other side.
use mathlib.Core.Path.{◌≡◌, refl, ap, ◌∙◌}
use mathlib.Core.Logic.{◌⊎◌, inl, inr, ⊎_elim}
use mathlib.Core.Bool.{Bool, true, false, ◌&&◌, ◌||◌}
use mathlib.Core.List.{List, [], ◌∷◌}
use Prim.Native.Nat.{ℕ, ◌+◌, ◌*◌, ◌≤◌, ◌<◌}
use native.Mathlib.Nat.{le_refl}
use native.Mathlib.Omega.{arith}
use lib.Dec.{eqb}
use lib.ListN.{length, get_or, set, replicate, get_or-replicate}
use Rattle.model.specs.Limits.{most_vertices, most_longest, hub_unit, owner_unit, side_unit}
use Rattle.model.specs.Lists.{◌∈◌, any?}
use Rattle.model.specs.Patterns.{Keyed, code}
use Rattle.model.specs.Entries.{entry_of}
use Rattle.model.specs.Query.{target, source, shared}
use Rattle.model.specs.Tables.{Tabulates}
use Rattle.model.specs.Computed.Query.{owner_of, hub_of, code_of}
use Rattle.model.proofs.Tests.{Tests, test_map, test_agree, test_yields, test_and, test_or, test_eq, test_any}
use Rattle.model.proofs.Patterns.{code_below}
use Rattle.model.proofs.Query.{test_answers}
use Rattle.model.proofs.IndexMemory.{test_entry}
use Rattle.model.proofs.Renumber.{entry_fields}
use Rattle.answer_tables.specs.Marking.{coded?, joined?, found?, Marked, hub?, linked?}
use Rattle.answer.specs.Saying.{Indexed}
use Rattle.answer_tables.specs.Saying.{SaysFrom, SaysTo, SaysOf}
use Rattle.answer.specs.Parts.{Part, ListOf, SideOf, other_side}
use Rattle.answer.specs.declared.Side.{Side}
use Rattle.answer.specs.declared.Side.TheVariants.{Out, In}
use Rattle.answer_tables.proofs.Marking.{mark_at}

-- ---- what is found, by tests that agree

found_as : {f g : ℕ → Bool} (field : ℕ → ℕ) (list : List ℕ) (v : ℕ) → ((x : ℕ) → f x ≡ g x) → found? f field list v ≡ found? g field list v
unfolding found? any?
found_as field [] v h = refl
found_as field (x ∷ list) v h = rw (h x, found_as field list v h) refl

-- both marking loops, the vertex itself counting as a hub for the second
pub all_marked : {own others : List ℕ} (vertex w : ℕ) {hubs after : List Bool} → length hubs ≡ most_vertices → vertex < most_vertices
    → Marked (coded? w) hub_of own (replicate most_vertices false) hubs → Marked (joined? w (set hubs vertex true)) owner_of others hubs after
    → Tabulates most_vertices after (linked? own others vertex w)
unfolding linked? hub?
all_marked {own} {others} vertex w {hubs} n k a b = record {
  each = λ v h. b.each v ∙ rw (hub v h)
      (ap (λ (r : Bool). found? (coded? w) hub_of own v || r) (found_as owner_of others v (λ x. ap (λ (r : Bool). coded? w x && r) (known x))));
}
  where
    hub : (v : ℕ) → v < most_vertices → get_or hubs v false ≡ found? (coded? w) hub_of own v
    hub v h = a.each v ∙ rw (get_or-replicate most_vertices v false false h) refl

    known : (x : ℕ) → get_or (set hubs vertex true) (hub_of x) false ≡ (found? (coded? w) hub_of own (hub_of x) || eqb vertex (hub_of x))
    known x = mark_at hubs vertex (hub_of x) (omega arith) ∙ ap (λ (r : Bool). r || eqb vertex (hub_of x)) (hub (hub_of x) (omega arith))

-- ---- what the marks say of the entries

-- an entry that links v with the vertex, of side σ where the vertex owns it and of side τ where v does, or two that share a hub
abbrev Links : ℕ → List ℕ → ℕ → ℕ → ℕ → ℕ → ℕ → Type 0
Links vertices index σ τ vertex w v =
    (entry_of σ vertex v w ∈ index)
    ⊎ ((entry_of τ v vertex w ∈ index) ⊎ ((h : ℕ) × (h < vertices) × (entry_of σ vertex h w ∈ index) × (entry_of τ v h w ∈ index)))

module _ {vertices longest : ℕ} {index : List ℕ} (σ τ : ℕ) {vertex w : ℕ} {own others : List ℕ}
    (small : vertices ≤ most_vertices) (k : vertex < vertices) (indexed : Indexed vertices longest index) (c : w < hub_unit)
    (p : Part index (σ * side_unit + vertex * owner_unit) (σ * side_unit + vertex * owner_unit + owner_unit) own)
    (q : Part index (τ * side_unit) (τ * side_unit + side_unit) others) where
  test_hub : (h : ℕ) → h < most_vertices → Tests (hub? own w h) (entry_of σ vertex h w ∈ index)
  unfolding hub? found?
  test_hub h b = test_map there back (test_any (λ x. test_and (test_eq (code_of x) w) (test_eq (hub_of x) h)) own)
    where
      there : (x : ℕ) × x ∈ own × ((code_of x ≡ w) × (hub_of x ≡ h)) → entry_of σ vertex h w ∈ index
      there (x, m, (e, f)) =
          let o = p.each x m in
          let is : x ≡ entry_of σ vertex h w = omega (arith, o.from, o.to) in
          rw is at o.stands

      back : entry_of σ vertex h w ∈ index → (x : ℕ) × x ∈ own × ((code_of x ≡ w) × (hub_of x ≡ h))
      back m =
          let (_, _, f, e) = entry_fields σ vertex h w (omega arith) b c in
          (entry_of σ vertex h w, p.all (entry_of σ vertex h w) (record { stands = m; from = omega arith; to = omega arith }), (e, f))

  test_links : (v : ℕ) → v < vertices → Tests (linked? own others vertex w v) (Links vertices index σ τ vertex w v)
  unfolding linked? found?
  test_links v b = test_map there back (test_or (test_hub v (omega arith)) (test_any (λ x. test_and (near x) (test_eq (owner_of x) v)) others))
    where
      Near : ℕ → Type 0
      Near x = (code_of x ≡ w) × ((entry_of σ vertex (hub_of x) w ∈ index) ⊎ (vertex ≡ hub_of x))

      near : (x : ℕ) → Tests (coded? w x && (hub? own w (hub_of x) || eqb vertex (hub_of x))) (Near x)
      near x = test_and (test_eq (code_of x) w) (test_or (test_hub (hub_of x) (omega arith)) (test_eq vertex (hub_of x)))

      Found : ℕ → Type 0
      Found x = Near x × (owner_of x ≡ v)

      there : (entry_of σ vertex v w ∈ index) ⊎ ((x : ℕ) × x ∈ others × Found x) → Links vertices index σ τ vertex w v
      there (inl m) = inl m
      there (inr (x, m, ((e, j), f))) =
          let o = q.each x m in
          let is : x ≡ entry_of τ v (hub_of x) w = omega (arith, o.from, o.to) in
          let n : entry_of τ v (hub_of x) w ∈ index = rw is at o.stands in
          let u = (test_yields (test_entry vertices longest x) (indexed.valid x o.stands)).hub in
          inr (⊎_elim (λ i. inr (hub_of x, u, i, n)) (λ i. inl (rw i n)) j)

      theirs : (h : ℕ) → h < most_vertices → entry_of τ v h w ∈ index → (entry_of σ vertex h w ∈ index) ⊎ (vertex ≡ h)
          → (x : ℕ) × x ∈ others × Found x
      theirs h l n j =
          let (_, o, u, e) = entry_fields τ v h w (omega arith) l c in
          (entry_of τ v h w, q.all (entry_of τ v h w) (record { stands = n; from = omega arith; to = omega arith }), ((e, rw u j), o))

      back : Links vertices index σ τ vertex w v → (entry_of σ vertex v w ∈ index) ⊎ ((x : ℕ) × x ∈ others × Found x)
      back (inl m) = inl m
      back (inr (inl n)) = inr (theirs vertex (omega arith) n (inr refl))
      back (inr (inr (h, l, m, n))) = inr (theirs h (omega arith) n (inl m))

-- ---- both sides

module _ {index l : List ℕ} {w : ℕ} (v : ℕ) {own others : List ℕ} {table : List Bool} (is : w ≡ code l) (keyed : Keyed most_longest l)
    (marks : Tabulates most_vertices table (linked? own others v w)) where
  says_from : ListOf index Out v own → SideOf index In others → SaysFrom index l v table
  says_from o i = record {
    is = λ vertices longest small k x. let coded = code_below (le_refl most_longest) keyed in record {
      each = λ t h. (rw is at marks).each t (omega arith) ∙ test_agree (test_map
          (λ j. elim j [ inl m ↦ target m | inr (inl m) ↦ source m | inr (inr (u, i, m, n)) ↦ shared u i m n ])
          (λ j. elim j [ target m ↦ inl m | source m ↦ inr (inl m) | shared u i m n ↦ inr (inr (u, i, m, n)) ])
          (test_links 0 1 small k x coded o i t h))
          (test_answers vertices index l v t);
    };
  }

  says_to : ListOf index In v own → SideOf index Out others → SaysTo index l v table
  says_to o i = record {
    is = λ vertices longest small k x. let coded = code_below (le_refl most_longest) keyed in record {
      each = λ s h. (rw is at marks).each s (omega arith) ∙ test_agree (test_map
          (λ j. elim j [ inl m ↦ source m | inr (inl m) ↦ target m | inr (inr (u, i, m, n)) ↦ shared u i n m ])
          (λ j. elim j [ source m ↦ inl m | target m ↦ inr (inl m) | shared u i m n ↦ inr (inr (u, i, n, m)) ])
          (test_links 1 0 small k x coded o i s h))
          (test_answers vertices index l s v);
    };
  }

  pub says_of : (side : Side) → ListOf index side v own → SideOf index (other_side side) others → SaysOf side index l v table
  says_of Out = says_from
  says_of In = says_to
