use Rattle.std.proofs.Common.{subst, sym, IsAscii, ◌-◌, length, take}
use Rattle.std.specs.List.{suffix_len}
use Rattle.tree_model.specs.Numbers.{is_zero_digit}
use Rattle.dec_num.proofs.Sizes.{ascii_kept}
use Rattle.dec_num.proofs.printing.push_fraction.Goals as goal

pub push_point_text-requires-clause-ascii : goal.push_point_text-requires-clause-ascii
push_point_text-requires-clause-ascii c =
    subst IsAscii (sym c.without_zeros.ensures)
    (subst (λ digits. IsAscii (take (length digits - suffix_len is_zero_digit digits) digits)) (sym c.six_digits.ensures) (ascii_kept c.args.millionths _))
