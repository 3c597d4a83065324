-- The measure of `length_from` is how many lengths are left.
use Rattle.std.proofs.Common.{◌-◌, length}
use Rattle.patterns.proofs.+length_from.Given as goal

abbrev pub decreases-length_from : goal.decreases-length_from
decreases-length_from l = length l.pattern.now - l.d
