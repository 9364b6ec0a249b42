use Rattle.std.proofs.Common.{◌≡◌, [], take, drop, reverse}
use Rattle.tree_model.specs.XmlMeaning.{has_twice}
use Rattle.xml_rows.specs.Tagging.{all_expanded}
use Rattle.xml_rows.proofs.expanded.few_twice.Given as goal

abbrev pub invariant-loop-at : goal.invariant-loop-at
invariant-loop-at l = has_twice (reverse (all_expanded l.names.uris (take l.at l.found))) (all_expanded l.names.uris (drop l.at l.found)) ≡ has_twice [] (all_expanded l.names.uris l.found)
