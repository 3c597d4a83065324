-- Staged entries put back: they are distinct and narrow as before.
use mathlib.Core.Path.{◌≡◌, sym, ap, ◌∙◌}
use mathlib.Core.List.Memᴰ
use mathlib.Core.List.{List, map}
use Prim.Native.Nat.{ℕ, ◌<◌, ◌^◌}
use native.Mathlib.Omega.{arith}
use lib.ListN.{length, get_or}
use Rattle.model.specs.Limits.{most_vertices}
use Rattle.model.specs.Lists.{◌∈◌}
use Rattle.model.specs.Order.{rank, Names}
use Rattle.model.specs.Entries.{entry_of}
use Rattle.model.specs.Computed.Query.{side_of, owner_of, hub_of, code_of}
use Rattle.model.specs.Build.Renumber.{translate}
use Rattle.model.proofs.Lists.{get_d_in}
use Rattle.model.proofs.Ranks.{rank_at, names_length}
use Rattle.model.proofs.Renumber.{entry_fields}
use Rattle.sort.specs.Order.{narrow_bits, Distinct, Sortable}
use Rattle.sort.proofs.Apart.{map_distinct}
use Rattle.output.specs.Output.{Translatable}

-- an entry is known by its fields
whole : (x : ℕ) → entry_of (side_of x) (owner_of x) (hub_of x) (code_of x) ≡ x
whole x = omega arith

module _ {order staged : List ℕ} (t : Translatable order staged) where
  module _ (x : ℕ) (m : x ∈ staged) where
    owner_small : get_or order (owner_of x) 0 < most_vertices
    owner_small = t.order_small _ (get_d_in order (owner_of x) (t.owners x m))

    hub_small : get_or order (hub_of x) 0 < most_vertices
    hub_small = t.order_small _ (get_d_in order (hub_of x) (t.hubs x m))

    translate_small : translate order x < 2 ^ narrow_bits
    translate_small = omega (arith, t.sides x m, owner_small, hub_small)

    fields : (side_of (translate order x) ≡ side_of x) × (owner_of (translate order x) ≡ get_or order (owner_of x) 0)
        × (hub_of (translate order x) ≡ get_or order (hub_of x) 0) × (code_of (translate order x) ≡ code_of x)
    fields = entry_fields (side_of x) _ _ (code_of x) owner_small hub_small (omega arith)

  pub translate_narrow : Sortable (map (translate order) staged)
  translate_narrow = record { small = λ y m. let (x, k, e) = Memᴰ.of_map (translate order) staged m in rw e at (translate_small x k) }

  -- an order that names each vertex once tells the ranks apart
  module _ {n : ℕ} (names : Names n order) where
    rank_known : (i j : ℕ) → i < length order → j < length order → get_or order i 0 ≡ get_or order j 0 → i ≡ j
    rank_known i j h k e =
        sym (rank_at names i (omega (arith, names_length names))) ∙ ap (rank order) e ∙ rank_at names j (omega (arith, names_length names))

    pub translate_once : (x y : ℕ) → x ∈ staged → y ∈ staged → translate order x ≡ translate order y → x ≡ y
    translate_once x y a b e =
        let (s, o, h, c) = fields x a in
        let (s', o', h', c') = fields y b in
        let side : side_of x ≡ side_of y = sym s ∙ ap side_of e ∙ s' in
        let owner = rank_known (owner_of x) (owner_of y) (t.owners x a) (t.owners y b) (sym o ∙ ap owner_of e ∙ o') in
        let hub = rank_known (hub_of x) (hub_of y) (t.hubs x a) (t.hubs y b) (sym h ∙ ap hub_of e ∙ h') in
        let code : code_of x ≡ code_of y = sym c ∙ ap code_of e ∙ c' in
        sym (whole x) ∙ rw (side, owner, hub, code) (whole y)

    pub translate_distinct : Distinct staged → Distinct (map (translate order) staged)
    translate_distinct d = map_distinct (translate order) d translate_once
