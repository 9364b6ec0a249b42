use Rattle.doc_store.specs.Stored.{base_of}
use Rattle.kernel_session.proofs.PathPlaces.{answer_is}
use Rattle.kernel_session.proofs.answers.push_answer.Goals as goal

pub push_nodes-requires : goal.push_nodes-requires
push_nodes-requires c = record { within = rw c.deref.ensures.value c.in_ok-places.ensures.within }

pub returns-clause-text : goal.returns-clause-text
returns-clause-text c =
    let answer = answer_is (base_of c.args.database.now).documents c.args.steps.now c.in_ok-places.places.items c.in_ok-places.ensures.places in
    rw (c.deref.ensures.value, answer) at c.push_nodes.ensures
