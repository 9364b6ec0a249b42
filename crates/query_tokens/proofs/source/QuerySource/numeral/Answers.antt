use Rattle.query_terms.specs.Lexis.{unchecked_number}
use Rattle.query_tokens.proofs.Tokens.{rest_read}
use Rattle.query_tokens.proofs.source.QuerySource.numeral.Goals as goal

pub front-requires : goal.front-requires
front-requires c = rest_read c.args.self.now unchecked_number _ c.args.rest.now _ c.in_ok-after.ensures
