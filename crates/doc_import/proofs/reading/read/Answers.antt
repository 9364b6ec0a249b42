use Rattle.std.proofs.Common.{rules}
use Rattle.xml_pieces.proofs.Lexing.{item_shorter}
use Rattle.doc_import.proofs.ReadLoop.{stopped_here, stopped_by, next_here, next_few, goes_here, led_whole}
use Rattle.doc_import.proofs.reading.read.Goals as goal

pub overflow_sub-body : goal.overflow_sub-body
overflow_sub-body c = c.loop-rest.invariant.few

pub returns-in_default-clause-fault : goal.returns-in_default-clause-fault
returns-in_default-clause-fault c = stopped_here _ _ _ _ c.loop-rest.builder c.loop-rest.control _ _ c.loop-rest.invariant (search rules) c.place.ensures c.in_default.ensures c.stop_at.ensures

pub returns-then-not-branch-clause-fault : goal.returns-then-not-branch-clause-fault
returns-then-not-branch-clause-fault c = stopped_by _ _ _ _ _ c.loop-rest.builder c.loop-rest.control _ _ _ c.in_ok-step.field-0 c.loop-rest.invariant c.place.ensures c.in-Some.ensures c.if-not-branch.true c.in_ok-step.ensures

pub take-requires-clause-fit : goal.take-requires-clause-fit
take-requires-clause-fit c = (next_here _ _ _ _ _ c.loop-rest.builder c.loop-rest.control _ _ c.loop-rest.invariant c.place.ensures c.in-Some.ensures).fits

pub take-requires-clause-few : goal.take-requires-clause-few
take-requires-clause-few c =
    let few = next_few _ _ _ _ _ c.loop-rest.builder c.loop-rest.control _ c.loop-rest.invariant (next_here _ _ _ _ _ c.loop-rest.builder c.loop-rest.control _ _ c.loop-rest.invariant c.place.ensures c.in-Some.ensures) in
    search rules

pub loop-rest-smaller : goal.loop-rest-smaller
loop-rest-smaller c = item_shorter _ _ _ _ c.in-Some.ensures

pub loop-rest-preserved : goal.loop-rest-preserved
loop-rest-preserved c =
    goes_here _ _ _ _ _ c.loop-rest.builder c.in_ok-builder-2.builder c.loop-rest.control c.step.new.self _ _ c.in_ok-step.field-0 c.loop-rest.invariant c.place.ensures c.in-Some.ensures c.if-not-branch.false c.in_ok-step.ensures
    c.in_ok-builder-2.ensures.work

pub returns-clause-led : goal.returns-clause-led
returns-clause-led c = led_whole _ _ _ _ _ _ c.loop-rest.invariant (search rules)
