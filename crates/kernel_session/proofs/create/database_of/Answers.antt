use Rattle.doc_store.specs.Stored.{Stored, Branched}
use Rattle.kernel_session.proofs.Databases.{OneDocument, one_document, Filled, filled, first_place}
use Rattle.kernel_session.proofs.create.database_of.Goals as goal

pub add_document-requires-clause-some : goal.add_document-requires-clause-some
add_document-requires-clause-some c = (one_document c.requires.read.0 c.requires.read.1 c.args.path.now c.args.built.now c.requires.path c.requires.read.2).some

pub add_document-requires-clause-document : goal.add_document-requires-clause-document
add_document-requires-clause-document c = (one_document c.requires.read.0 c.requires.read.1 c.args.path.now c.args.built.now c.requires.path c.requires.read.2).loose

pub add_document-requires-clause-place : goal.add_document-requires-clause-place
add_document-requires-clause-place c = first_place c.args.name.now c.in_ok-database.database c.branch-database-2.new.self c.in_ok-branch.branch c.in_ok-database.ensures c.in_ok-branch.ensures.begun

pub commit-requires-clause-sound : goal.commit-requires-clause-sound
commit-requires-clause-sound c =
    (filled c.args.name.now c.args.path.now c.args.built.now c.in_ok-database.database c.branch-database-2.new.self c.add_document.new.self c.in_ok-branch.branch c.add_document.new.b
    (one_document c.requires.read.0 c.requires.read.1 c.args.path.now c.args.built.now c.requires.path c.requires.read.2) c.in_ok-database.ensures c.in_ok-branch.ensures.begun c.in_ok-branch.ensures.grown
    c.in-Ok.ensures.forest c.in-Ok.ensures.next c.add_document.ensures.grown).sound

pub returns-in-Ok-clause-one : goal.returns-in-Ok-clause-one
returns-in-Ok-clause-one c =
    (filled c.args.name.now c.args.path.now c.args.built.now c.in_ok-database.database c.branch-database-2.new.self c.add_document.new.self c.in_ok-branch.branch c.add_document.new.b
    (one_document c.requires.read.0 c.requires.read.1 c.args.path.now c.args.built.now c.requires.path c.requires.read.2) c.in_ok-database.ensures c.in_ok-branch.ensures.begun c.in_ok-branch.ensures.grown
    c.in-Ok.ensures.forest c.in-Ok.ensures.next c.add_document.ensures.grown).one c.commit.new.self c.commit.ensures
