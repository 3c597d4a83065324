-- The fast loop of check 12: the slots from i on, with the last entry before them, say what those from `from` on say.
use mathlib.Core.Path.{◌≡◌, refl, ◌∙◌}
use mathlib.Core.Bool.{true, false}
use mathlib.Core.List.{List}
use Prim.Native.Nat.{ℕ, ◌+◌, ◌%◌, ◌≤◌, ◌<◌}
use native.Mathlib.Omega.{arith}
use lib.ListN.{length, get_or, drop, get_or-eq_default}
use Rattle.model.specs.Limits.{owner_unit}
use Rattle.model.specs.Computed.Query.{code_of, entry?}
use Rattle.scan.specs.Memory.{scan_from}
use Rattle.scan.specs.Scan.{slot_of, Seen, Within, HubsBelow, Skims}
use Rattle.scan.specs.declared.Exit.TheVariants.{Rest, Untested, Stray}
use Rattle.scan.proofs.Fields.{code_entry}
use Rattle.scan.proofs.Scanning.{scan_rest, scan_next}

pub record Skimmed (index : List ℕ) (from prev end hubs : ℕ) (seen : List ℕ) (i last : ℕ) : Type 0 where
  pub low : from ≤ i
  pub high : i ≤ length index
  pub rises : prev ≤ last
  pub same :
      (vertices longest : ℕ) → Seen longest seen → Within vertices prev end → HubsBelow vertices hubs
      → scan_from vertices longest prev from (drop from index) ≡ scan_from vertices longest last i (drop i index)

module _ {index : List ℕ} {from prev end hubs : ℕ} {seen : List ℕ} where
  pub skim_start : from ≤ length index → Skimmed index from prev end hubs seen from prev
  skim_start h = record { low = omega arith; high = h; rises = omega arith; same = λ _ _ _ _ _. refl }

  module _ {i last : ℕ} (m : Skimmed index from prev end hubs seen i last) where
    pub skim_rest : get_or index i 0 ≤ last → Skims index from prev end hubs seen (Rest i)
    skim_rest l = record { slot = m.high; same = λ v k s w h. m.same v k s w h ∙ scan_rest v k last index i l }

    pub skim_end : length index ≤ i → Skims index from prev end hubs seen (Rest (length index))
    skim_end h =
        let e : i ≡ length index = omega (arith, m.high) in
        rw e at (skim_rest (omega (arith, get_or-eq_default index 0 h)))

    module _ (h : i < length index) (l : last < get_or index i 0) where
      pub skim_untested : Skims index from prev end hubs seen (Untested i)
      skim_untested = record { slot = (m.low, h); same = λ v k s w u. m.same v k s w u ∙ scan_next v k last index i h l (entry? v k (get_or index i 0)) refl }

      pub skim_stray : hubs ≤ get_or index i 0 % owner_unit → Skims index from prev end hubs seen Stray
      skim_stray o = record {
        slot = omega (arith, m.low);
        same = λ v k s w u. m.same v k s w u ∙ scan_next v k last index i h l false (u.wrong (get_or index i 0) o k);
      }

      pub skim_more : get_or index i 0 < end → get_or index i 0 % owner_unit < hubs
          → get_or seen (slot_of (code_of (get_or index i 0))) 0 ≡ code_of (get_or index i 0)
          → Skimmed index from prev end hubs seen (i + 1) (get_or index i 0)
      skim_more e o b = record {
        low = omega (arith, m.low);
        high = omega arith;
        rises = omega (arith, m.rises);
        same =
            λ v k s w u.
            let x = get_or index i 0 in
            let a : prev ≤ x = omega (arith, m.rises) in
            m.same v k s w u ∙ scan_next v k last index i h l true (code_entry v k x (w.side x a e) (w.owner x a e) (u.right x o) (s.right _ b));
      }
