use Rattle.std.proofs.Common.{arith, ◌-◌}
use Rattle.name_scopes.proofs.Declarations.{declare_turn, declare_done}
use Rattle.name_scopes.proofs.declared.declare_all.Goals as goal

pub loop-left-preserved : goal.loop-left-preserved
loop-left-preserved c = record {
  within = omega arith;
  rest = declare_turn c.args.attributes.now (c.loop-left.left - 1) c.loop-left.left c.index-attributes-left.result c.loop-left.environment _ _ (omega arith) (omega arith) c.index-attributes-left.is c.in_ok-declare.ensures c.loop-left.invariant.rest;
}

pub returns : goal.returns
returns c = declare_done c.args.attributes.now c.loop-left.left c.loop-left.environment _ (omega arith) c.loop-left.invariant.rest
