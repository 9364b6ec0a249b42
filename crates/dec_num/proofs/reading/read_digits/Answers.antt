use Rattle.std.proofs.Common.{◌∙◌, sym, ap, min, ◌^◌}
use Rattle.std.specs.List.{list_all}
use Rattle.std.specs.Char.{is_ascii_digit}
use Rattle.std.specs.Str.Parse.{digits_value}
use Rattle.dec_num.proofs.Digits.{read_number, read_nothing, read_longer, read_other_whole, read_other_fraction}
use Rattle.dec_num.proofs.reading.read_digits.Goals as goal

pub returns-then-are_empty : goal.returns-then-are_empty
returns-then-are_empty c = rw (read_nothing c.args.whole.now c.args.fraction.now (sym c.are_empty.ensures ∙ c.if-are_empty.true))

pub returns-then-not-ends_in_zeros : goal.returns-then-not-ends_in_zeros
returns-then-not-ends_in_zeros c = rw (read_longer c.args.whole.now c.args.fraction.now (sym c.ends_in_zeros.ensures ∙ c.if-not-ends_in_zeros.true))

pub returns-in_default : goal.returns-in_default
returns-in_default c = rw (read_other_whole c.args.whole.now c.args.fraction.now (c.in_default.ensures))

pub returns-in_default-capped_value : goal.returns-in_default-capped_value
returns-in_default-capped_value c =
    let z = sym c.ends_in_zeros.ensures ∙ c.if-not-ends_in_zeros.false in
    let f = ap (list_all is_ascii_digit) (sym c.first_six.ensures) ∙ c.in_default-capped_value.ensures in
    rw (read_other_fraction c.args.whole.now c.args.fraction.now z f)

pub returns : goal.returns
returns c =
    let e = sym c.are_empty.ensures ∙ c.if-are_empty.false in
    let z = sym c.ends_in_zeros.ensures ∙ c.if-not-ends_in_zeros.false in
    let f = ap (list_all is_ascii_digit) (sym c.first_six.ensures) ∙ c.in-Some-capped_value.ensures.0 in
    let n = c.in-Some-capped_value.ensures.1 ∙ ap (λ digits. min (digits_value 10 digits) (10 ^ 12)) c.first_six.ensures in
    rw (read_number c.args.whole.now c.args.fraction.now _ _ e z c.in-Some.ensures.0 f c.in-Some.ensures.1 n) c.ranged.ensures
