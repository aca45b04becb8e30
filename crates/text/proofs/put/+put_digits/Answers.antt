-- `text::put::put_digits` meets its contract: one digit, or the digits above it and then it.
-- Assumes nothing.
use Rattle.std.proofs.Common.{rules}
use Rattle.text.proofs.Digits.{written-digits}
use Rattle.text.proofs.put.+put_digits.Goals as goal

pub returns : goal.returns
returns t c = search (rules, written-digits)
