use Rattle.std.proofs.Common.{◌≡◌, drop}
use Rattle.tree_model.specs.XmlMeaning.{is_pair_in}
use Rattle.xml_rows.specs.Tagging.{expanded_of, all_expanded}
use Rattle.xml_rows.proofs.expanded.is_among.Given as goal

abbrev pub invariant-loop-other : goal.invariant-loop-other
invariant-loop-other l = is_pair_in (expanded_of l.names.uris l.fn.one) (all_expanded l.names.uris (drop l.other-index l.found)) ≡ is_pair_in (expanded_of l.names.uris l.fn.one) (all_expanded l.names.uris l.found)
