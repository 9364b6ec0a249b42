use Rattle.std.proofs.Common.{[]}
use Rattle.tree_model.specs.XmlMeaning.{has_twice}
use Rattle.xml_rows.specs.Tagging.{all_expanded}
use Rattle.xml_rows.proofs.Keyed.{IsSeen}
use Rattle.xml_rows.proofs.expanded.many_twice.Given as goal

abbrev pub invariant-loop-one : goal.invariant-loop-one
invariant-loop-one l = IsSeen l.names.uris l.found l.seen.keys l.one-index (has_twice [] (all_expanded l.names.uris l.found))
