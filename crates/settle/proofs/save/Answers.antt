-- `settle::save` meets its contract: edge memory is copied to the front of the part from the saved region on.
use Prim.Native.Nat.{◌-◌}
use native.Mathlib.Omega.{arith}
use lib.ListN.{length}
use borrow.Rule.Slice.PartMut.{same_len_mid}
use Rattle.model.proofs.Lists.{in_get_d}
use Rattle.rows.specs.Region.{saved_numbers}
use Rattle.settle.proofs.Saving.{saved_there}
use Rattle.settle.proofs.save.Goals as goal

pub returns : goal.returns
returns c =
    let copy = c.widen in
    let work = c.args.work.now in
    record {
      saved = saved_there c.args.edges.now work copy.new.to _ _ (omega (arith, c.requires)) copy.ensures;
      narrow = λ x k. let z = in_get_d k in omega (arith, c.type_inv.edges z.i, z.is);
      work_long = same_len_mid saved_numbers (length work - saved_numbers) work copy.new.to copy.auto.to;
    }
