-- From the checks of a written card to its edges, and from the bytes written to what the call leaves.
use mathlib.Core.Path.{◌≡◌, refl, sym, ap, ◌∙◌}
use mathlib.Core.List.{List, ◌++◌}
use Prim.Native.Nat.{ℕ, ◌+◌, ◌*◌}
use native.Mathlib.Omega.{arith}
use lib.ListN.{length, take, drop}
use Rattle.model.specs.Limits.{head_bytes, triple_bytes}
use Rattle.model.specs.Edges.{standing, Bounds}
use Rattle.model.specs.Replies.{number_of}
use Rattle.model.specs.declared.Refusal.{Refusal}
use Rattle.edges.proofs.Memory.{Scans}
use Rattle.calls.specs.Call.{Size, Memory, Meets, Length, Refused}
use Rattle.calls.specs.Card.{card_of, write_refusal, write_call}
use Rattle.calls.proofs.Calls.{refused_meets, accepted_is}
use Rattle.calls.proofs.Card.{Cardable, card_says}
use Rattle.checks.proofs.LayoutChecks.{layout_header, layout_memory}
use Rattle.card_writing.specs.Card.{Writable, WritePasses}

-- a refusal leaves the output alone
pub write_stops : (h : Size) (m : Memory) (r : Refusal) → write_refusal h m ≡ number_of r → Meets (write_call h m) (Refused (number_of r)) m
unfolding write_call
write_stops h m r e = refused_meets Refused m _ (write_refusal h m) r e

module _ {h : Size} {m : Memory} {n : ℕ} (p : WritePasses h m n) where
  pub memory : Scans h.vertices m.edges n
  memory = layout_memory p.layout

  header : Bounds h.vertices h.longest
  header = layout_header p.layout

  cardable : Cardable h (standing m.edges)
  cardable =
      record {
        bounds = header;
        few = omega (arith, memory.count, memory.within, memory.slots);
        rising = memory.rising;
        valid = memory.edges;
      }

  pub writable : Writable h (take n m.edges) m.output
  writable = rw memory.front (record {
    bounds = header;
    few = cardable.few;
    valid = cardable.valid;
    room = omega (arith, p.room, memory.count);
  })

  pub wrote : {after : List ℕ} → after ≡ card_of h (take n m.edges) ++ drop (head_bytes + triple_bytes * length (take n m.edges)) m.output
      → Meets (write_call h m) (Length (head_bytes + triple_bytes * n)) (record { edges = m.edges; index = m.index; work = m.work; output = after })
  unfolding write_call
  wrote {after} e = rw (accepted_is Refused m _ (write_refusal h m) p.is) (record {
    reply_is = ap Length (omega (arith, memory.count, size));
    edges_after = refl;
    index_after = refl;
    work_after = refl;
    output_after = written ∙ ap (λ (k : ℕ). card_of h (standing m.edges) ++ drop k m.output) (sym size);
  })
    where
      size : length (card_of h (standing m.edges)) ≡ head_bytes + triple_bytes * length (standing m.edges)
      size = (card_says cardable).size

      written : after ≡ card_of h (standing m.edges) ++ drop (head_bytes + triple_bytes * length (standing m.edges)) m.output
      written = rw memory.front at e
