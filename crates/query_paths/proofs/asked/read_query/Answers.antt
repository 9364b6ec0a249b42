use Rattle.query_paths.proofs.Refused.{refuses}
use Rattle.query_paths.proofs.asked.read_query.Goals as goal

pub returns-in-Err : goal.returns-in-Err
returns-in-Err c = refuses c.args.words.now _ _ c.in-Err.refusal _ c.in-Err.is c.in_ok-query.ensures c.in_ok-steps.ensures c.check.ensures
