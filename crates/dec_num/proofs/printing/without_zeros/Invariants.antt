use Rattle.std.proofs.Common.{◌≡◌, ◌+◌, ◌≤◌, length, take}
use Rattle.std.specs.List.{suffix_len}
use Rattle.tree_model.specs.Numbers.{is_zero_digit}
use Rattle.dec_num.proofs.printing.without_zeros.Given as goal

abbrev pub invariant-loop-len : goal.invariant-loop-len
invariant-loop-len l = record {
  within : l.len ≤ length l.digits;
  behind : l.len + suffix_len is_zero_digit l.digits ≡ length l.digits + suffix_len is_zero_digit (take l.len l.digits);
}

abbrev pub decreases-loop-len : goal.decreases-loop-len
decreases-loop-len l = l.len
