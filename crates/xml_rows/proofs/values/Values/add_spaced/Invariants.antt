use Rattle.std.proofs.Common.{◌≡◌, ◌++◌, length}
use Rattle.tree_model.specs.XmlMeaning.{spaced}
use Rattle.xml_rows.proofs.values.Values.add_spaced.Given as goal

abbrev pub invariant-loop-rest : goal.invariant-loop-rest
invariant-loop-rest l = record {
  settled : l.self.settled ≡ l.fn.self.settled;
  pending : l.self.pending ++ spaced l.rest ≡ l.fn.self.pending ++ spaced l.bytes;
}

abbrev pub decreases-loop-rest : goal.decreases-loop-rest
decreases-loop-rest l = length l.rest
