-- The measure of `put_digits` is how many digits may stand.
use Rattle.printing.proofs.Text.+put_digits.Given as goal

abbrev pub decreases-put_digits : goal.decreases-put_digits
decreases-put_digits g l = l.most
