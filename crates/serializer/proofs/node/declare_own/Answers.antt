use Rattle.serializer.proofs.Declaring.{own_first, own_text}
use Rattle.serializer.proofs.Growing.{grew_twice}
use Rattle.serializer.proofs.node.declare_own.Goals as goal

pub loop-declaration-preserved : goal.loop-declaration-preserved
loop-declaration-preserved c = record {
  text = own_text _ _ _ _ _ _ c.in-Some.ensures.first c.in_ok-declare.ensures.text c.loop-declaration.invariant.text;
  declares = own_first _ _ _ _ _ _ _ _ c.in-Some.ensures.first c.in_ok-declare.ensures.declares c.loop-declaration.invariant.declares;
  kept = grew_twice _ _ _ c.loop-declaration.invariant.kept c.declare.ensures.kept;
}
