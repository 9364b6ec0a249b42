use Rattle.std.proofs.Common.{arith, ◌+◌}
use Rattle.static_rules.proofs.Declarations.{prolog_turn, prolog_done}
use Rattle.static_rules.proofs.prolog.note_prolog.Goals as goal

pub loop-done-preserved : goal.loop-done-preserved
loop-done-preserved c = record {
  within = omega arith;
  rest = prolog_turn c.args.declarations.now _ c.loop-done.done (c.loop-done.done + 1) c.index-declarations-done.result _ _ _ (omega arith) (omega arith) c.index-declarations-done.is
      (grind arith) c.note_declaration.ensures c.loop-done.invariant.rest;
}

pub returns : goal.returns
returns c = prolog_done c.args.declarations.now c.loop-done.done _ _ c.loop-done-test.false c.loop-done.invariant.rest
