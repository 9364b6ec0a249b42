use Rattle.std.proofs.Common.{◌∙◌}
use Rattle.xml_pieces.proofs.Finding.{begins_first}
use Rattle.xml_pieces.proofs.words.begins_with.Goals as goal

pub returns-then-byte-first : goal.returns-then-byte-first
returns-then-byte-first c = c.starts_with.ensures.value ∙ begins_first c.args.first c.args.rest.now c.args.bytes.now c.in-len1-up.len_at_least c.if-byte-first.true
