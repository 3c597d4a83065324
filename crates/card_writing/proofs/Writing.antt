-- A card as it is written: its head, then three bytes for each edge, and behind them the output as it came.
use mathlib.Core.Path.{◌≡◌, sym, ap, ◌∙◌}
use mathlib.Core.List.{List, ◌++◌}
use Prim.Native.Nat.{ℕ, ◌+◌, ◌-◌, ◌*◌, ◌≤◌, ◌<◌}
use native.Mathlib.Omega.{arith}
use lib.ListN.{length, get_or, take, drop, set, length-drop, get_or-append}
use lib.Seq.{drop-drop}
use Rattle.model.specs.Limits.{head_bytes, triple_bytes}
use Rattle.model.specs.Edges.{from_of, label_of, to_of}
use Rattle.model.specs.Computed.Lists.{spread}
use Rattle.model.proofs.Tests.{test_yields}
use Rattle.model.proofs.Lists.{get_d_in, part_all, part_last}
use Rattle.model.proofs.Edges.{test_edge}
use Rattle.memory.proofs.Mix.{Mixed, front_turn}
use Rattle.memory.proofs.Copying.{copy_start, copy_end}
use Rattle.calls.specs.Call.{Size}
use Rattle.calls.specs.Card.{edge_bytes, card_of}
use Rattle.calls.proofs.Card.{length_bytes, get_d_bytes}
use Rattle.card_writing.specs.Card.{head_of, Body, Writable}

abbrev pub bytes : List ℕ → List ℕ
bytes edges = spread edge_bytes edges

-- the part of the output behind the head, once all edges are written
abbrev pub bytes_over : (edges out : List ℕ) → List ℕ
bytes_over edges out = bytes edges ++ drop (length (bytes edges)) out

module _ {edges out : List ℕ} (p : Body edges out) where
  bytes_room : length (bytes edges) ≤ length out
  bytes_room = omega (arith, length_bytes edges, p.room)

  pub body_start : Mixed (bytes_over edges out) out out 0
  body_start = copy_start (bytes edges) out bytes_room

  pub edge_narrow : (i : ℕ) → i < length edges → from_of (get_or edges i 0) < 256
  edge_narrow i h = p.narrow (get_or edges i 0) (get_d_in edges i h)

  module _ {cur : List ℕ} {i : ℕ} (m : Mixed (bytes_over edges out) out cur (triple_bytes * i)) where
    pub body_turn : i < length edges
        → Mixed (bytes_over edges out) out
        (set (set (set cur (triple_bytes * i) (from_of (get_or edges i 0))) (triple_bytes * i + 1) (label_of (get_or edges i 0))) (triple_bytes * i + 2) (to_of (get_or edges i 0)))
        (triple_bytes * (i + 1))
    body_turn h =
        let r = get_d_bytes edges i h in
        let one : triple_bytes * i + 1 + 1 ≡ triple_bytes * i + 2 = omega arith in
        let two : triple_bytes * i + 2 + 1 ≡ triple_bytes * (i + 1) = omega arith in
        let a = front_turn m (room m (triple_bytes * i) (omega arith)) (sym (at (triple_bytes * i) (omega arith) ∙ r.from)) in
        let b = rw one at (front_turn a (room a (triple_bytes * i + 1) (omega arith)) (sym (at (triple_bytes * i + 1) (omega arith) ∙ r.label))) in
        rw two at (front_turn b (room b (triple_bytes * i + 2) (omega arith)) (sym (at (triple_bytes * i + 2) (omega arith) ∙ r.to)))
      where
        at : (k : ℕ) → k < triple_bytes * length edges → get_or (bytes_over edges out) k 0 ≡ get_or (bytes edges) k 0
        at k u = get_or-append (bytes edges) (drop (length (bytes edges)) out) 0 k (omega (arith, length_bytes edges, u))

        room : {l : List ℕ} {j : ℕ} → Mixed (bytes_over edges out) out l j → (k : ℕ) → k < triple_bytes * length edges → k < length l
        room n k u = omega (arith, n.size, p.room, u)

    pub body_end : length edges ≤ i → cur ≡ bytes edges ++ drop (triple_bytes * length edges) out
    body_end h =
        copy_end (bytes edges) out bytes_room m (omega (arith, length_bytes edges, h))
        ∙ ap (λ (k : ℕ). bytes edges ++ drop k out) (length_bytes edges)

module _ {h : Size} {edges output : List ℕ} (p : Writable h edges output) where
  -- behind a head of nine bytes there is room for the edges
  pub body_lent : {out : List ℕ} → out ≡ head_of h.vertices h.longest (length edges) ++ drop head_bytes output
      → Body edges (take (length out - head_bytes) (drop head_bytes out))
  body_lent {out} e =
      record {
        narrow = λ x m. omega (arith, (test_yields (test_edge h.vertices x) (p.valid x m)).from, p.bounds.vertices_most);
        room =
            let size : length (take (length out - head_bytes) (drop head_bytes out)) ≡ length output - head_bytes =
            ap length (part_all out head_bytes ∙ ap (drop head_bytes) e) ∙ length-drop head_bytes output in
            omega (arith, size, p.room);
      }

  pub card_written : {out part : List ℕ} → out ≡ head_of h.vertices h.longest (length edges) ++ drop head_bytes output
      → part ≡ spread edge_bytes edges ++ drop (triple_bytes * length edges) (take (length out - head_bytes) (drop head_bytes out))
      → take head_bytes out ++ (part ++ drop (length out - head_bytes) (drop head_bytes out)) ≡ card_of h edges ++ drop (head_bytes + triple_bytes * length edges) output
  unfolding card_of
  card_written {out} {part} e f =
      let behind : take (length out - head_bytes) (drop head_bytes out) ≡ drop head_bytes output = part_all out head_bytes ∙ ap (drop head_bytes) e in
      let rest : part ≡ spread edge_bytes edges ++ drop (head_bytes + triple_bytes * length edges) output =
      f ∙ ap (λ (l : List ℕ). spread edge_bytes edges ++ drop (triple_bytes * length edges) l) behind
      ∙ ap (λ (l : List ℕ). spread edge_bytes edges ++ l) (drop-drop (triple_bytes * length edges) head_bytes output) in
      part_last out part head_bytes ∙ ap (λ (l : List ℕ). take head_bytes l ++ part) e
      ∙ ap (λ (l : List ℕ). head_of h.vertices h.longest (length edges) ++ l) rest
