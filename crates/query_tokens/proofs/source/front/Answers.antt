use Rattle.std.proofs.Common.{sym, subst}
use Rattle.std.specs.Str.{IsCharBoundary}
use Rattle.query_tokens.proofs.Words.{rest_boundary}
use Rattle.query_tokens.proofs.source.front.Goals as goal

pub split_at-requires : goal.split_at-requires
split_at-requires c = subst (IsCharBoundary c.args.rest.now) (sym c.saturating_sub.ensures) (rest_boundary c.requires.0 c.args.rest.now c.args.after.now c.requires.1 c.utf8.after)
