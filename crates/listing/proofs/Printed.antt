-- What is printed after a card reading: the listing of what it leaves, or the refusal.
use mathlib.Core.Path.{◌≡◌, refl, sym, ap, ◌∙◌}
use mathlib.Core.List.{List}
use Prim.Native.Nat.{ℕ}
use native.Mathlib.Omega.{arith}
use lib.ListN.{length, take}
use borrow.Author.Tests.{ne_eqb}
use Rattle.std.specs.Prelude.{Result, Ok, Err}
use Rattle.model.specs.Edges.{standing}
use Rattle.model.specs.Replies.{number_of}
use Rattle.model.specs.declared.Refusal.{Refusal}
use Rattle.model.proofs.Replies.{number_some}
use Rattle.memory.proofs.Reading.{standing_front}
use Rattle.calls.specs.Call.{lent, Meets}
use Rattle.calls.specs.Card.{read_call}
use Rattle.store.specs.Store.{read_of}
use Rattle.store.specs.declared.Header.{Header}
use Rattle.printing.specs.Lines.{listing, refused_line}
use Rattle.listing.specs.Listing.{listed_memory, printed}

module _ (card : List ℕ) {r : Result Header Refusal} {edges index work : List ℕ} (m : Meets (read_call card listed_memory) (read_of r) (lent edges index work)) where
  -- of an accepted card
  pub printed_listing : {h : Header} {a n : ℕ} → r ≡ Ok h → a ≡ length (standing edges) → n ≡ length (standing index)
      → listing h.size.vertices h.size.longest a (take n index) ≡ printed card
  unfolding printed
  printed_listing e p q =
      let front : take _ index ≡ standing index = ap (λ (k : ℕ). take k index) q ∙ standing_front index in
      rw (sym m.reply_is, e, sym m.edges_after, sym m.index_after, p, front) refl

  -- of a refused one
  pub printed_refused : {refusal : Refusal} → r ≡ Err refusal → refused_line (number_of refusal) ≡ printed card
  unfolding printed
  printed_refused {refusal} e =
      rw (sym m.reply_is, e, ne_eqb (number_of refusal) 0 (λ z. omega (arith, number_some refusal))) refl
