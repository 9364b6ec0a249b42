use Rattle.std.proofs.Common.{◌≡◌, ◌+◌, ◌≤◌, ◌||◌, ◌++◌, length, drop}
use Rattle.tree_model.specs.XmlMeaning.{has_bad_binding, plain_attrs, with_attrs}
use Rattle.xml_rows.specs.Numbers.{Begins}
use Rattle.xml_rows.specs.Scoping.{AreUris, scope_in}
use Rattle.xml_rows.specs.Tagging.{pairs_of, kept_value, ArePairs}
use Rattle.xml_rows.proofs.declarations.declare.Given as goal

abbrev pub invariant-loop-pair : goal.invariant-loop-pair
invariant-loop-pair l = record {
  few : l.plain ≤ l.pair-index;
  pairs : ArePairs l.fn.values.settled (drop l.pair-index l.pairs);
  settled : l.values.settled ≡ l.fn.values.settled;
  kept : l.values.pending ++ kept_value l.fn.values.settled (drop l.pair-index l.pairs) ≡ kept_value l.fn.values.settled l.pairs;
  bad : (l.is_bad || has_bad_binding (pairs_of l.fn.values.settled (drop l.pair-index l.pairs))) ≡ has_bad_binding (pairs_of l.fn.values.settled l.pairs);
  plain : l.plain + length (plain_attrs (pairs_of l.fn.values.settled (drop l.pair-index l.pairs))) ≡ length (plain_attrs (pairs_of l.fn.values.settled l.pairs));
  scope : with_attrs (pairs_of l.fn.values.settled (drop l.pair-index l.pairs)) (scope_in l.names.uris l.scopes.scope) ≡ with_attrs (pairs_of l.fn.values.settled l.pairs) (scope_in l.fn.names.uris l.fn.scopes.scope);
  outer : l.scopes.outer ≡ l.fn.scopes.outer;
  names : l.names.names ≡ l.fn.names.names;
  grown : Begins l.fn.names.uris l.names.uris;
  uris : AreUris (length l.names.uris) l.scopes.scope;
}
