use Rattle.std.proofs.Common.{rules}
use Rattle.tree_model.specs.XmlGood.{in_data}
use Rattle.xml_pieces.proofs.Blocks.{block_more}
use Rattle.xml_pieces.proofs.runs.data_blocks.Goals as goal

pub loop-len-preserved : goal.loop-len-preserved
loop-len-preserved c = record {
  within = search rules;
  passes = block_more in_data c.args.bytes.now c.loop-len.len 32 c.loop-len.invariant.passes (search rules);
}
