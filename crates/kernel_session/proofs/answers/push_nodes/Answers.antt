use Rattle.tree_model.specs.Forest.{count}
use Rattle.doc_store.specs.Stored.{base_of}
use Rattle.kernel_session.proofs.PathPlaces.{texts_written, rest_within}
use Rattle.kernel_session.proofs.answers.push_nodes.Goals as goal

pub push_node-requires-in-loop-place : goal.push_node-requires-in-loop-place
push_node-requires-in-loop-place c =
    record { within = rest_within c.args.places.now c.in-Some.rest.now c.in-Some.first.now (count (base_of c.args.database.now).documents) c.in-Some.ensures.cases.0 c.requires.within c.loop-place.place-index 0 c.loop-place-test.true }

pub returns : goal.returns
returns c =
    texts_written (base_of c.args.database.now).documents c.args.places.now c.in-Some.rest.now c.in-Some.first.now c.args.out.now.items c.push_node.new.out.items c.loop-place.out.items c.loop-place.place-index
    c.in-Some.ensures.cases.0 c.in_ok-push_node.ensures c.loop-place-test.false c.loop-place.invariant
