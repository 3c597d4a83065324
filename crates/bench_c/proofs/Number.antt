-- The number of a reply from the reply. Assumes nothing.
use mathlib.Core.Path.{◌≡◌, sym, ap, ◌∙◌}
use mathlib.Core.List.{List}
use Prim.Native.Nat.{ℕ}
use Rattle.model.specs.Edges.{Graph}
use Rattle.build.specs.Build.{Builds}
use Rattle.std.proofs.Common.{Option}
use Rattle.bench_c.specs.Bench.{BuildsNumber, built_number}

pub builds_number : {g : Graph} {order index w index' w' : List ℕ} {r : Option ℕ} → Builds g order index w index' w' r → (b : Option ℕ) → r ≡ b
    → BuildsNumber g order index w index' w' (built_number b)
builds_number m b e =
    record {
      reply = ap built_number (sym e ∙ m.reply);
      index_is = m.index_is;
      saved = m.saved;
    }
