use Rattle.std.proofs.Common.{◌≡◌}
use Rattle.query_tokens.specs.CommentEnds.{comment_ends_below}
use Rattle.query_tokens.proofs.comment_table.filled.Given as goal

abbrev pub invariant-loop-len : goal.invariant-loop-len
invariant-loop-len l = l.found.items ≡ comment_ends_below l.text l.len
