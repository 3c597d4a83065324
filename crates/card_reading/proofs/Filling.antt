-- Edge memory as it is filled from a card, edge by edge.
use mathlib.Core.Path.{◌≡◌, sym, ◌∙◌}
use mathlib.Core.List.{List, ◌++◌}
use Prim.Native.Nat.{ℕ, ◌+◌, ◌*◌, ◌<◌}
use native.Mathlib.Omega.{arith}
use lib.ListN.{length, get_or, drop, set, length-drop, get_or-append}
use lib.Seq.{get_or-drop}
use Rattle.model.specs.Limits.{head_bytes, triple_bytes}
use Rattle.memory.proofs.Mix.{Mixed, front_turn}
use Rattle.calls.specs.Card.{edge_at, edges_of}
use Rattle.calls.proofs.Card.{length_edges, get_d_edges}
use Rattle.card_reading.specs.Card.{Fillable}

module _ {card edges : List ℕ} {n : ℕ} (p : Fillable card n edges) where
  abbrev pub card_edges : List ℕ
  card_edges = edges_of (drop head_bytes card)

  body_size : length (drop head_bytes card) ≡ triple_bytes * n
  body_size = length-drop head_bytes card ∙ omega (arith, p.whole)

  pub card_edges_size : length card_edges ≡ n
  card_edges_size = length_edges n (drop head_bytes card) body_size

  pub fill_turn : {cur : List ℕ} {i v : ℕ} → Mixed (card_edges ++ drop (length card_edges) edges) edges cur i → i < n → v ≡ edge_at card (head_bytes + triple_bytes * i)
      → Mixed (card_edges ++ drop (length card_edges) edges) edges (set cur i v) (i + 1)
  fill_turn {cur} {i} {v} m h e = front_turn m (omega (arith, m.size, p.room)) (e ∙ sym (there ∙ here))
    where
      there : get_or (card_edges ++ drop (length card_edges) edges) i 0 ≡ get_or card_edges i 0
      there = get_or-append card_edges (drop (length card_edges) edges) 0 i (omega (arith, card_edges_size, h))

      here : get_or card_edges i 0 ≡ edge_at card (head_bytes + triple_bytes * i)
      here =
          let a : head_bytes + (triple_bytes * i + 1) ≡ head_bytes + triple_bytes * i + 1 = omega arith in
          let b : head_bytes + (triple_bytes * i + 2) ≡ head_bytes + triple_bytes * i + 2 = omega arith in
          get_d_edges (drop head_bytes card) i (omega (arith, body_size, h)) ∙ simp (get_or-drop, a, b)
