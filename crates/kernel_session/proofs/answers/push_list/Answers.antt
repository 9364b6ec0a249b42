use Rattle.kernel_session.proofs.Bases.{lines_written}
use Rattle.kernel_session.proofs.answers.push_list.Goals as goal

pub returns : goal.returns
returns c =
    lines_written c.args.databases.now c.in-Some.rest.now c.in-Some.first.now c.args.out.now.items c.push_line.new.out.items c.loop-database.out.items c.loop-database.database-index
    c.in-Some.ensures.cases.0 c.in_ok-push_line.ensures c.loop-database-test.false c.loop-database.invariant
