use Rattle.std.proofs.Common.{rules, ◌∙◌, ap, append_assoc, length}
use Rattle.node_table.specs.Tables.{rows_in}
use Rattle.kernel_session.proofs.Databases.{line_text}
use Rattle.kernel_session.proofs.answers.push_line.Goals as goal

pub returns : goal.returns
returns c =
    let line = line_text c.args.database.now c.document_count.result c.len.result c.table.ensures.kept c.document_count.ensures (c.len.ensures.len c.args.database.now.pool (rw c.table.ensures.table c.table.ensures.kept.held) ∙ ap (λ t. length (rows_in c.args.database.now.pool t)) c.table.ensures.table) in
    rw line (search (rules, append_assoc))
