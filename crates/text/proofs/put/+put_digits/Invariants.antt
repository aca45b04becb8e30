-- The measure of `text::put::put_digits`: how many digits there may be.
use Rattle.text.proofs.put.+put_digits.Given as goal

abbrev pub decreases-put_digits : goal.decreases-put_digits
decreases-put_digits l = l.left
