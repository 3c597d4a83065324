-- The loop of check 12: the slots from i on say what all of them say. And what the check says to a caller.
use mathlib.Core.Path.{◌≡◌, refl, ap, ◌∙◌}
use mathlib.Core.Bool.{Bool, true, false, cond}
use mathlib.Core.List.{List}
use Prim.Native.Nat.{ℕ, ◌+◌, ◌≤◌, ◌<◌}
use native.Mathlib.Nat.{zero-add}
use native.Mathlib.Omega.{arith}
use lib.ListN.{length, get_or, take, drop}
use Rattle.model.specs.Edges.{standing}
use Rattle.model.specs.Computed.Edges.{zeros?}
use Rattle.model.specs.Computed.Query.{entry?, rising_entries?, index_memory?}
use Rattle.model.proofs.Checked.{checked_rest, checked_next}
use Rattle.model.proofs.Zeros.{Ordered, filled_within, filled_front}
use Rattle.model.proofs.IndexMemory.{index_memory}
use Rattle.scan.specs.Memory.{extent_of, scan_from}
use Rattle.std.proofs.Common.{Some, None}

module _ (vertices longest prev : ℕ) (s : List ℕ) (i : ℕ) where
  -- nothing rises from slot i on, which may be the end
  pub scan_rest : get_or s i 0 ≤ prev → scan_from vertices longest prev i (drop i s) ≡ cond (zeros? (drop i s)) (Some i) None
  unfolding scan_from rising_entries?
  scan_rest = checked_rest Some None (entry? vertices longest) prev s i

  -- one more rises
  pub scan_next : i < length s → prev < get_or s i 0 → (b : Bool) → entry? vertices longest (get_or s i 0) ≡ b
      → scan_from vertices longest prev i (drop i s) ≡ cond b (scan_from vertices longest (get_or s i 0) (i + 1) (drop (i + 1) s)) None
  unfolding scan_from rising_entries?
  scan_next = checked_next Some None (entry? vertices longest) prev s i

-- index memory of the graph, in which n entries stand
pub record Entered (vertices longest : ℕ) (xs : List ℕ) (n : ℕ) : Type 0 where
  pub memory : index_memory? vertices longest xs ≡ true
  pub ordered : Ordered (entry? vertices longest) 0 xs (standing xs)
  pub within : n ≤ length xs
  pub front : take n xs ≡ standing xs

module _ (vertices longest : ℕ) (s : List ℕ) where
  pub scan_start : scan_from vertices longest 0 0 s ≡ extent_of vertices longest s
  unfolding scan_from extent_of index_memory?
  scan_start = rw zero-add

  -- ---- for callers

  pub scans : {n : ℕ} → extent_of vertices longest s ≡ Some n → (index_memory? vertices longest s ≡ true) × (n ≡ length (standing s))
  unfolding extent_of
  scans {n} e = go (index_memory? vertices longest s) e
    where
      go : (b : Bool) → cond b (Some (length (standing s))) None ≡ Some n → (b ≡ true) × (n ≡ length (standing s))
      go true e = (refl, cc)
      go false e = absurd (let z : ◌≡◌ {A = ℕ} 0 1 = cc in omega arith)

  pub scans_none : extent_of vertices longest s ≡ None → index_memory? vertices longest s ≡ false
  unfolding extent_of
  scans_none e = go (index_memory? vertices longest s) e
    where
      go : (b : Bool) → cond b (Some (length (standing s))) None ≡ None → b ≡ false
      go true e = absurd (let z : ◌≡◌ {A = ℕ} 0 1 = cc in omega arith)
      go false e = refl

  pub entered : {n : ℕ} → extent_of vertices longest s ≡ Some n → Entered vertices longest s n
  entered {n} e =
      let (valid, count) = scans e in
      let o = index_memory vertices longest s valid in
      record {
        memory = valid;
        ordered = o;
        within = omega (arith, count, filled_within (standing s) o.zeros);
        front = ap (λ (k : ℕ). take k s) count ∙ filled_front (standing s) o.zeros;
      }
