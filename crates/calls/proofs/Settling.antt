-- What a call comes to that ends in settling: accepted if every check passes and the entries fit, else refused with the first number.
use mathlib.Core.Path.{◌≡◌, refl, ap}
use mathlib.Core.Bool.{Bool, true, false}
use mathlib.Core.List.{List, [], ◌∷◌, ◌++◌}
use Prim.Native.Nat.{ℕ, zero, suc, ◌≤◌}
use native.Mathlib.Omega.{arith}
use lib.Dec.{T}
use lib.ListN.{length}
use Rattle.model.specs.Lists.{filled, zeroed}
use Rattle.model.specs.Computed.Entries.{determined}
use Rattle.calls.specs.Checks.{Check, first_refusal}
use Rattle.calls.specs.Call.{Size, Header, graph_of, Memory, Outcome, refusing, Returned}
use Rattle.calls.specs.Change.{handing, fits?, settle}
use Rattle.calls.proofs.Checks.{numbered?}
use Rattle.calls.proofs.Change.{stop_first, pass_first}

-- what is left if a change is accepted
abbrev pub settled_change : Size → List ℕ → Memory → Outcome ℕ
settled_change h wanted m =
    record {
      reply = 0;
      memory = record {
        edges = filled (length m.edges) wanted;
        index = filled (length m.index) (determined (graph_of h wanted));
        work = zeroed m.work;
        output = m.output;
      };
    }

-- the call is `done` if the number is 0, else a refusal with that number that hands back the record given, and leaves edge and index memory
pub record Result (c : Outcome Returned) (given : Header) (m : Memory) (done : Outcome Returned) (n : ℕ) : Type 0 where
  pub accepted : n ≡ 0 → c ≡ done
  pub reply : 1 ≤ n → c.reply ≡ record { header = given; answer = n }
  pub edges : 1 ≤ n → c.memory.edges ≡ m.edges
  pub index : 1 ≤ n → c.memory.index ≡ m.index

-- a call that answers that it is accepted
pub accepted_zero : {c : Outcome Returned} {given : Header} {m : Memory} {done : Outcome Returned} (n : ℕ) → Result c given m done n → c.reply.answer ≡ 0 → n ≡ 0
accepted_zero zero r e = refl
accepted_zero (suc n) r e = absurd (let z = ap (λ (x : Returned). x.answer) (r.reply (omega arith)) in omega (arith, z, e))

-- a call that hands back the record given, or with that size
module _ (given : Header) (h : Size) where
  pub with_number : (n : ℕ) (m : Memory) (done : Outcome ℕ) → Result (handing given h (refusing (λ i. i) m n done)) given m (handing given h done) n
  with_number zero m done =
      record { accepted = λ _. refl; reply = λ h. absurd (omega arith); edges = λ h. absurd (omega arith); index = λ h. absurd (omega arith) }
  with_number (suc n) m done = record { accepted = λ e. absurd (omega arith); reply = λ _. refl; edges = λ _. refl; index = λ _. refl }

  module _ (wanted : List ℕ) (m : Memory) where
    abbrev thirteen : List Check
    thirteen = (13, fits? h wanted m) ∷ []

    abbrev done : Outcome Returned
    done = handing given h (settled_change h wanted m)

    -- settling alone: its only check is 13
    settle_result : Result (handing given h (settle h wanted m)) given m done (first_refusal thirteen)
    unfolding settle first_refusal
    settle_result = go (fits? h wanted m) refl
      where
        go : (b : Bool) → fits? h wanted m ≡ b → Result (handing given h (settle h wanted m)) given m done (first_refusal thirteen)
        go true e =
            rw e (record { accepted = λ _. refl; reply = λ h. absurd (omega arith); edges = λ h. absurd (omega arith); index = λ h. absurd (omega arith) })
        go false e = rw e (record { accepted = λ e. absurd (omega arith); reply = λ _. refl; edges = λ _. refl; index = λ _. refl })

    pub settled : (l : List Check) → T (numbered? l)
        → Result (handing given h (refusing (λ i. i) m (first_refusal l) (settle h wanted m))) given m (handing given h (settled_change h wanted m))
        (first_refusal (l ++ ((13, fits? h wanted m) ∷ [])))
    settled l q = go (first_refusal l) refl
      where
        go : (n : ℕ) → first_refusal l ≡ n
            → Result (handing given h (refusing (λ i. i) m (first_refusal l) (settle h wanted m))) given m done (first_refusal (l ++ thirteen))
        go zero e = rw (e, pass_first l thirteen q e) settle_result
        go (suc n) e =
            let stops : first_refusal (l ++ thirteen) ≡ suc n = stop_first l thirteen e (omega arith) in
            let r = with_number (suc n) m (settled_change h wanted m) in
            rw (e, stops) (record { accepted = λ z. absurd (omega arith); reply = r.reply; edges = r.edges; index = r.index })
