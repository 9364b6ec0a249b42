use Rattle.query_terms.specs.Rule.{many}
use Rattle.query_terms.specs.Markup.{quoted_piece}
use Rattle.query_tokens.specs.Reads.{quote_code}
use Rattle.query_tokens.proofs.Tokens.{rest_read}
use Rattle.query_constructors.proofs.quoted.quoted_body.Goals as goal

pub front-requires : goal.front-requires
front-requires g c = rest_read c.args.descent.now.source (many (quoted_piece (quote_code c.args.quote))) _ c.args.rest.now _ c.in_ok-run.ensures.1
