use Rattle.std.proofs.Common.{◌≡◌, ◌++◌, take}
use Rattle.dec_num.proofs.printing.push_digits.Given as goal

abbrev pub invariant-loop-digit : goal.invariant-loop-digit
invariant-loop-digit l = l.text.bytes ≡ l.fn.text.bytes ++ take l.digit-index l.digits
