use Rattle.std.proofs.Common.{◌∙◌, sym, arith}
use Rattle.std.proofs.lemmas.Grind.{common_steps}
use Rattle.dec_num.proofs.Digits.{capped_more}
use Rattle.dec_num.proofs.reading.capped_value.Goals as goal

pub loop-digit-preserved : goal.loop-digit-preserved
loop-digit-preserved c = record {
  digits = let v = c.is_ascii_digit.ensures.value in let f = c.if-not-is_ascii_digit.false in grind (arith, common_steps);
  capped = cc (capped_more c.args.digits.now c.loop-digit.digit-index c.loop-digit-test.true (sym c.is_ascii_digit.ensures.value ∙ c.if-not-is_ascii_digit.false));
}
