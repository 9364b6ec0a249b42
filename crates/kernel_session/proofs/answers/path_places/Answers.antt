use Rattle.doc_store.proofs.DocumentPlaces.{documents_within}
use Rattle.doc_store.specs.Stored.{base_of}
use Rattle.kernel_session.proofs.PathAnswers.{path_found, found_within}
use Rattle.kernel_session.proofs.answers.path_places.Goals as goal

pub path-requires-clause-held : goal.path-requires-clause-held
path-requires-clause-held c = rw (c.trees_of.ensures.pool, c.trees_of.ensures.table) c.trees_of.ensures.kept.held

pub path-requires-clause-trees : goal.path-requires-clause-trees
path-requires-clause-trees c = (c.args.database.now.values, rw (c.trees_of.ensures.pool, c.trees_of.ensures.table, c.trees_of.ensures.names) c.trees_of.ensures.kept.trees)

pub path-requires-clause-within : goal.path-requires-clause-within
path-requires-clause-within c =
    rw (c.trees_of.ensures.pool, c.trees_of.ensures.table) (documents_within c.args.database.now c.in_ok-places.places.items c.trees_of.ensures.kept c.in_ok-places.ensures)

pub returns-clause-places : goal.returns-clause-places
returns-clause-places c =
    path_found c.path.result c.args.database.now c.args.steps.now c.in_ok-places.places.items c.trees_of.ensures.kept c.in_ok-places.ensures
    (rw (c.trees_of.ensures.pool, c.trees_of.ensures.table, c.trees_of.ensures.names) at c.path.ensures.path)

pub returns-clause-within : goal.returns-clause-within
returns-clause-within c = found_within c.path.result (base_of c.args.database.now).documents c.args.steps.now (returns-clause-places c)
