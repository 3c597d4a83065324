-- `traces::read_card` meets its contract: what `store` promises is a step, a card reading.
use mathlib.Core.Path.{◌≡◌, refl}
use native.Mathlib.Omega.{arith}
use Rattle.std.proofs.Common.{Result, Ok, Err}
use Rattle.model.specs.declared.Refusal.{Refusal}
use Rattle.model.proofs.Lists.{in_get_d}
use Rattle.store.specs.Store.{returned, read_of}
use Rattle.store.specs.declared.Header.{Header}
use Rattle.traces.specs.Traces.{changed_by, reads}
use Rattle.traces.proofs.read_card.Goals as goal

-- what the call returns, as it is told
told_is : (r : Result Header Refusal) → returned (changed_by r) ≡ read_of r
told_is (Ok h) = refl
told_is (Err r) = refl

pub returns : goal.returns
returns c = (
  λ x m. let z = in_get_d m in omega (arith, c.type_inv.card z.i, z.is),
  λ last. reads _ _ _ c.read_card.new.work (rw (told_is c.read_card.result) c.read_card.ensures),
)
