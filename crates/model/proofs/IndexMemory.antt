-- Index memory that passes check 12: rising entries and then zeros, which change no answer.
use mathlib.Core.Path.{◌≡◌, refl}
use mathlib.Core.Logic.{⊎_elim}
use mathlib.Core.Bool.{Bool, true}
use mathlib.Core.List.Memᴰ
use mathlib.Core.List.{List, [], ◌∷◌}
use Prim.Native.Nat.{ℕ, ◌+◌, ◌*◌, ◌-◌, ◌≤◌, ◌<◌}
use native.Mathlib.Omega.{arith}
use lib.Dec.{T}
use lib.ListN.{length}
use Rattle.model.specs.Lists.{◌∈◌}
use Rattle.model.specs.Edges.{standing}
use Rattle.model.specs.Patterns.{Keyed, code_from, code}
use Rattle.model.specs.Query.{target, source, shared}
use Rattle.model.specs.Computed.Query.{side_of, owner_of, hub_of, code_of, code?, entry?, rising_entries?, index_memory?, answers?}
use Rattle.model.proofs.Tests.{Tests, test_map, test_agree, test_and, test_lt, test_T}
use Rattle.model.proofs.Patterns.{code_ge}
use Rattle.model.proofs.Query.{test_answers}
use Rattle.model.proofs.Zeros.{zero_in, Ordered, ordered}

-- x is the number of an entry of the graph
pub record Valid (vertices longest x : ℕ) : Type 0 where
  pub side : side_of x < 2
  pub owner : owner_of x < vertices
  pub hub : hub_of x < vertices
  pub coded : T (code? longest (code_of x))

pub test_entry : (vertices longest x : ℕ) → Tests (entry? vertices longest x) (Valid vertices longest x)
unfolding entry?
test_entry vertices longest x = test_map
    (λ h. record { side = h.0; owner = h.1.0; hub = h.1.1.0; coded = h.1.1.1 })
    (λ h. (h.side, (h.owner, (h.hub, h.coded))))
    (test_and (test_lt (side_of x) 2) (test_and (test_lt (owner_of x) vertices) (test_and (test_lt (hub_of x) vertices) (test_T (code? longest (code_of x))))))

pub index_memory : (vertices longest : ℕ) (xs : List ℕ) → index_memory? vertices longest xs ≡ true → Ordered (entry? vertices longest) 0 xs (standing xs)
unfolding index_memory? rising_entries?
index_memory vertices longest xs e = ordered (entry? vertices longest) 0 xs (rw e tt)

-- ---- the entries alone, and the query on them

-- the number of a pattern's entry is never 0
pub code_some : {k : ℕ} (l : List ℕ) → Keyed k l → 1 ≤ code l
unfolding code_from
code_some [] p = absurd (omega (arith, p.long))
code_some (c ∷ l) p = omega (arith, code_ge (0 * 16 + c) l, p.labels c (Memᴰ.head refl))

module _ {f : ℕ → Bool} {prev : ℕ} {xs s : List ℕ} (o : Ordered f prev xs s) where
  entry_in : {x : ℕ} → 1 ≤ x → x ∈ xs → x ∈ s
  entry_in {x} h m = ⊎_elim (λ k. k) (λ k. absurd (omega (arith, zero_in (length xs - length s) k))) (Memᴰ.append_cases s (rw o.zeros at m))

  entry_out : {x : ℕ} → x ∈ s → x ∈ xs
  entry_out m = rw o.zeros (Memᴰ.append_left _ m)

  pub answers_alone : (vertices : ℕ) {k : ℕ} {l : List ℕ} → Keyed k l → (a b : ℕ) → answers? vertices s l a b ≡ answers? vertices xs l a b
  answers_alone vertices {l = l} p a b =
      let some = code_some l p in
      test_agree (test_answers vertices s l a b) (test_map
      (λ h. elim h [ target m ↦ target (entry_in (omega arith) m) | source m ↦ source (entry_in (omega arith) m) | shared u i m n ↦ shared u i (entry_in (omega arith) m) (entry_in (omega arith) n) ])
      (λ h. elim h [ target m ↦ target (entry_out m) | source m ↦ source (entry_out m) | shared u i m n ↦ shared u i (entry_out m) (entry_out n) ])
      (test_answers vertices xs l a b))
