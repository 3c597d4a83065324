-- What is printed after a card reading: what the layout needs, or the refusal.
use mathlib.Core.Path.{◌≡◌, refl, sym, ap, ◌∙◌}
use mathlib.Core.List.{List}
use Prim.Native.Nat.{ℕ, zero, suc, ◌≤◌}
use native.Mathlib.Omega.{arith}
use lib.ListN.{length, drop}
use Rattle.model.specs.Limits.{head_bytes}
use Rattle.model.specs.Lists.{Bytes}
use Rattle.model.specs.Edges.{standing}
use Rattle.model.specs.Replies.{number_of}
use Rattle.model.specs.declared.Refusal.{Refusal}
use Rattle.model.specs.declared.Refusal.TheVariants.{Vertices, Longest, EdgeMemory, WorkMemory, EdgeEnd, EdgeLabel, EdgePresent, EdgeAbsent, EdgeSlots, QueryEnd, QueryPattern, IndexMemory, IndexSlots, CardMark, CardVersion, CardEdges, CardOutput, WalkMemory}
use Rattle.model.specs.Computed.Edges.{Small}
use Rattle.model.specs.Computed.Order.{counted}
use Rattle.model.specs.Computed.Entries.{determined}
use Rattle.model.proofs.Memory.{edge_least, standing_filled}
use Rattle.model.proofs.Replies.{number_some}
use Rattle.calls.specs.Call.{Size, graph_of, Memory, lent, Outcome, Returned, Meets}
use Rattle.calls.specs.Card.{size_of, count_of, edges_of, read_call}
use Rattle.calls.proofs.Card.{card_good}
use Rattle.demands.specs.Needs.{needed}
use Rattle.demands.proofs.Index.{whole_stands}
use Rattle.demands.proofs.Reading.{read_said}
use Rattle.printing.specs.Lines.{refused_line, size_line}
use Rattle.sizing.specs.Sizing.{refusal_line, line, sized_in}

-- ---- what a reading leaves

-- what stands after an accepted reading: the card's edges, and the entries that they determine
record Shown (card : List ℕ) (c : Outcome Returned) : Type 0 where
  size : c.reply.header.size ≡ size_of card
  edges : length (standing c.memory.edges) ≡ count_of card
  index : length (standing c.memory.index) ≡ needed card

shown : (card : List ℕ) (m : Memory) → Bytes card → (read_call card m).reply.answer ≡ 0 → Shown card (read_call card m)
unfolding determined
shown card m bytes e =
    let s = read_said card m bytes e in
    let wanted = edges_of (drop head_bytes card) in
    let g = graph_of (size_of card) wanted in
    let small : Small g = record { vertices_small = s.bounds.vertices_most; longest_small = s.bounds.longest_most } in
    rw s.is (record {
      size = refl;
      edges = ap length (standing_filled (length m.edges) wanted (λ x k. omega (arith, edge_least (size_of card).vertices x (s.valid x k)))) ∙ (card_good card s.passes).count;
      index = ap length (whole_stands g (counted g) small (length m.index));
    })

-- ---- what is put

-- every refusal but that of too few slots is told by its number
pub refused_is : (slots : ℕ) (r : Refusal) → (r ≡ IndexSlots → ⊥) → refusal_line slots (number_of r) ≡ refused_line (number_of r)
refused_is slots Vertices h = refl
refused_is slots Longest h = refl
refused_is slots EdgeMemory h = refl
refused_is slots WorkMemory h = refl
refused_is slots EdgeEnd h = refl
refused_is slots EdgeLabel h = refl
refused_is slots EdgePresent h = refl
refused_is slots EdgeAbsent h = refl
refused_is slots EdgeSlots h = refl
refused_is slots QueryEnd h = refl
refused_is slots QueryPattern h = refl
refused_is slots IndexMemory h = refl
refused_is slots IndexSlots h = absurd (h refl)
refused_is slots CardMark h = refl
refused_is slots CardVersion h = refl
refused_is slots CardEdges h = refl
refused_is slots CardOutput h = refl
refused_is slots WalkMemory h = refl

-- the line, by the answer
sized_is : (card : List ℕ) (m : Memory) {n : ℕ} → (read_call card m).reply.answer ≡ n → sized_in m card ≡ line (length m.index) n card
unfolding sized_in
sized_is card m e = ap (λ (k : ℕ). line (length m.index) k card) e

line_some : (slots : ℕ) (card : List ℕ) (n : ℕ) → 1 ≤ n → line slots n card ≡ refusal_line slots n
line_some slots card zero h = absurd (omega arith)
line_some slots card (suc n) h = refl

module _ (card : List ℕ) (m : Memory) {r : Returned} {edges index work : List ℕ} (meets : Meets (read_call card m) r (lent edges index work)) where
  pub line_sizes : {a n : ℕ} → Bytes card → r.answer ≡ 0 → a ≡ length (standing edges) → n ≡ length (standing index)
      → sized_in m card ≡ size_line r.header.size.vertices r.header.size.longest a n
  line_sizes {a} {n} bytes e p q =
      let accepted : (read_call card m).reply.answer ≡ 0 = sym (ap (λ (x : Returned). x.answer) meets.reply_is) ∙ e in
      let s = shown card m bytes accepted in
      let vertices : r.header.size.vertices ≡ (size_of card).vertices
      = ap (λ (x : Returned). x.header.size.vertices) meets.reply_is ∙ ap (λ (x : Size). x.vertices) s.size in
      let longest : r.header.size.longest ≡ (size_of card).longest
      = ap (λ (x : Returned). x.header.size.longest) meets.reply_is ∙ ap (λ (x : Size). x.longest) s.size in
      let legs : a ≡ count_of card = p ∙ ap (λ (l : List ℕ). length (standing l)) meets.edges_after ∙ s.edges in
      let entries : n ≡ needed card = q ∙ ap (λ (l : List ℕ). length (standing l)) meets.index_after ∙ s.index in
      sized_is card m accepted ∙ rw (vertices, longest, legs, entries) refl

  pub line_refusal : (refusal : Refusal) {slots : ℕ} → r.answer ≡ number_of refusal → slots ≡ length m.index
      → sized_in m card ≡ refusal_line slots (number_of refusal)
  line_refusal refusal e s =
      let refused : (read_call card m).reply.answer ≡ number_of refusal = sym (ap (λ (x : Returned). x.answer) meets.reply_is) ∙ e in
      sized_is card m refused ∙ line_some (length m.index) card (number_of refusal) (number_some refusal) ∙ ap (λ (k : ℕ). refusal_line k (number_of refusal)) (sym s)
