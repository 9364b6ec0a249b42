use Rattle.std.proofs.Common.{◌≡◌, ◌+◌, ◌≤◌, ◌^◌, length, arith, refl, ℕ}
use Rattle.node_table.specs.Tables.{rows_in}
use Rattle.doc_store.specs.Stored.{stored, Branched}
use Rattle.doc_store.proofs.Branches.{later, same_tables, carried, document_added, rows_length, place_among, ids_among, held_among, fresh_ids}
use Rattle.doc_store.proofs.database.Database.add_document.Goals as goal

pub invariant_of-self : goal.invariant_of-self
invariant_of-self c = (later _ c.self.inside.rows c.rows_under.new.names c.rows_under.new.heap c.self.invariant (same_tables c.self.inside.rows) c.rows_under.ensures.names c.rows_under.ensures.heap).kept

pub insert_documents-requires-clause-within : goal.insert_documents-requires-clause-within
insert_documents-requires-clause-within c =
    place_among c.args.self.now _ c.args.b.now _ c.requires.place.0 c.requires.place.1 c.args.at c.self.view_is c.b.view_is c.requires.own c.requires.place.2 c.requires.place.3

pub insert_documents-requires-clause-few : goal.insert_documents-requires-clause-few
insert_documents-requires-clause-few c =
    omega (
      arith,
      rows_length c.rows_under.new.names c.rows_under.new.heap c.args.path.now c.in_ok-rows.rows.items c.args.built.now c.b.inside.next c.in_ok-rows.ensures.lines,
      c.len.ensures.len c.self.inside.rows (held_among c.self.view_is c.b.view_is c.requires.own),
    )

pub invariant_of-self-in_err-insert_documents : goal.invariant_of-self-in_err-insert_documents
invariant_of-self-in_err-insert_documents c =
    (later _ c.insert_documents.new._pool c.rows_under.new.names c.rows_under.new.heap c.self.invariant c.insert_documents.ensures.others c.rows_under.ensures.names c.rows_under.ensures.heap).kept

pub inserted-requires-clause-within : goal.inserted-requires-clause-within
inserted-requires-clause-within c =
    let among = place_among c.args.self.now _ c.args.b.now _ c.requires.place.0 c.requires.place.1 c.args.at c.self.view_is c.b.view_is c.requires.own c.requires.place.2 c.requires.place.3 in
    omega (arith, among, ids_among c.self.view_is c.b.view_is c.requires.own)

pub inserted-requires-clause-unused : goal.inserted-requires-clause-unused
inserted-requires-clause-unused c = fresh_ids _ _ c.len-count.result (carried c.self.view_is c.b.view_is c.requires.own)

pub inserted-requires-clause-few : goal.inserted-requires-clause-few
inserted-requires-clause-few c =
    omega (arith, ids_among c.self.view_is c.b.view_is c.requires.own, c.len.ensures.len c.self.inside.rows (held_among c.self.view_is c.b.view_is c.requires.own))

pub invariant_of-self-in_err-inserted : goal.invariant_of-self-in_err-inserted
invariant_of-self-in_err-inserted c =
    (later _ c.insert_documents.new._pool c.rows_under.new.names c.rows_under.new.heap c.self.invariant c.insert_documents.ensures.others c.rows_under.ensures.names c.rows_under.ensures.heap).kept

pub invariant_of-self-2 : goal.invariant_of-self-2
invariant_of-self-2 c =
    (later _ c.insert_documents.new._pool c.rows_under.new.names c.rows_under.new.heap c.self.invariant c.insert_documents.ensures.others c.rows_under.ensures.names c.rows_under.ensures.heap).kept

few : (c : goal.After-b-1) → length (rows_in c.self.inside.rows c.b.inside.table) + length c.args.built.now.rows.items ≤ 2 ^ 24
few c = omega (arith, c.len.ensures.len c.self.inside.rows (held_among c.self.view_is c.b.view_is c.requires.own))

pub returns-clause-forest : goal.returns-clause-forest
returns-clause-forest c = λ before after forest place.
    (document_added c.args.self.now _ c.args.b.now _
    (record { origin = c.b.inside.origin; table = c.insert_documents.new.self; ids = c.inserted.new.self; next = c.b.inside.next + c.len-count.result; names_mark = c.b.inside.names_mark; values_mark = c.b.inside.values_mark })
    c.insert_documents.new._pool c.rows_under.new.names c.rows_under.new.heap c.args.path.now c.args.built.now before after c.in_ok-rows.rows.items c.args.at c.len-count.result
    (omega (arith, c.len-count.ensures)) c.self.view_is c.b.view_is c.self.invariant c.insert_documents.ensures.others c.rows_under.ensures.names c.rows_under.ensures.heap c.requires.own c.requires.built c.requires.document forest place
    c.in_ok-rows.ensures.lines c.in_ok-rows.ensures.placed c.in_ok-insert_documents.ensures.ok c.in_ok-insert_documents.ensures.held c.in_ok-inserted.ensures.ok refl (few c) refl refl refl).forest

pub returns-clause-own : goal.returns-clause-own
returns-clause-own c =
    (document_added c.args.self.now _ c.args.b.now _
    (record { origin = c.b.inside.origin; table = c.insert_documents.new.self; ids = c.inserted.new.self; next = c.b.inside.next + c.len-count.result; names_mark = c.b.inside.names_mark; values_mark = c.b.inside.values_mark })
    c.insert_documents.new._pool c.rows_under.new.names c.rows_under.new.heap c.args.path.now c.args.built.now c.requires.place.0 c.requires.place.1 c.in_ok-rows.rows.items c.args.at c.len-count.result
    (omega (arith, c.len-count.ensures)) c.self.view_is c.b.view_is c.self.invariant c.insert_documents.ensures.others c.rows_under.ensures.names c.rows_under.ensures.heap c.requires.own c.requires.built c.requires.document c.requires.place.2 c.requires.place.3
    c.in_ok-rows.ensures.lines c.in_ok-rows.ensures.placed c.in_ok-insert_documents.ensures.ok c.in_ok-insert_documents.ensures.held c.in_ok-inserted.ensures.ok refl (few c) refl refl refl).own
