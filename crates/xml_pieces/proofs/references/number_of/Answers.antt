use Rattle.std.proofs.Common.{◌∙◌, arith}
use Rattle.xml_pieces.proofs.Numbers.{one_more}
use Rattle.xml_pieces.proofs.references.number_of.Goals as goal

pub loop-digit-preserved : goal.loop-digit-preserved
loop-digit-preserved c = record {
  low = omega (arith, c.min-number.ensures);
  sofar = one_more c.args.base c.loop-digit.number c.min-number.result c.value_of.result 0x11_0000 c.loop-digit.digit-index c.args.digits.now c.requires.low c.loop-digit-test.true c.value_of.ensures.value c.min-number.ensures
      ∙ c.loop-digit.invariant.sofar;
}
