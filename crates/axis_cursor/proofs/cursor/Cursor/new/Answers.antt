use Rattle.std.proofs.Common.{sym}
use Rattle.node_table.specs.Tables.{rows_in}
use Rattle.node_table.proofs.Geometry.{laid}
use Rattle.axis_cursor.specs.Cursors.{to_come, remaining}
use Rattle.axis_cursor.proofs.Named.{all_named}
use Rattle.axis_cursor.proofs.Told.{axis_places_are}
use Rattle.axis_cursor.proofs.cursor.Cursor.new.Goals as goal

pub invariant_of-result : goal.invariant_of-result
invariant_of-result c =
    let names = c.args.names.now in
    let values = (c.requires.trees).0 in
    let trees = (c.requires.trees).1 in
    rw c.reader.ensures (record {
      placed = record { laid = laid names values (rows_in c.args.pool.now c.args.table.now) trees; within = c.requires.within };
      named = all_named names values (rows_in c.args.pool.now c.args.table.now) trees.placed;
      ready = tt;
    })

pub returns : goal.returns
unfolding to_come remaining
returns c = λ values trees.
    rw c.reader.ensures (sym (axis_places_are c.args.names.now values (rows_in c.args.pool.now c.args.table.now) trees c.args.axis c.args.test.now c.args.context c.requires.within))
