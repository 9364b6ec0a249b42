use Rattle.std.proofs.Common.{length-drop, ◌∙◌, ap, length, arith}
use Rattle.prefix_scopes.proofs.Shortening.{left_less}
use Rattle.prefix_scopes.proofs.hashed.HashedScopes.back_to.Goals as goal

pub loop-self-preserved : goal.loop-self-preserved
loop-self-preserved c = record {
  within = omega (arith, ap length c.pop.ensures ∙ length-drop 1 c.loop-self.self);
  left = left_less c.args.self.now c.loop-self.self c.pop.new.self c.loop-self.invariant.left (omega arith) c.pop.ensures;
}
