use Rattle.query_tokens.proofs.Tokens.{token_rest}
use Rattle.query_tokens.proofs.source.QuerySource.token.Goals as goal

pub front-requires : goal.front-requires
front-requires c = token_rest c.args.self.now _ _ c.args.rest.now _ c.run-after.result.now _ c.in_ok-after.ensures c.run-after.ensures
