use Rattle.std.proofs.Common.{sym, ◌∙◌}
use Rattle.query_tokens.proofs.Words.{word_boundary}
use Rattle.query_tokens.proofs.source.QuerySource.word.Goals as goal

pub split_at-requires : goal.split_at-requires
split_at-requires c = word_boundary c.args.rest.now c.args.text.now c.utf8.rest c.utf8.text (sym c.begins.ensures ∙ c.if-begins.true)
