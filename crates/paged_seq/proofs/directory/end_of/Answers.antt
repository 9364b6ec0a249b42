use Rattle.std.proofs.Common.{◌∙◌}
use Rattle.paged_seq.proofs.Widening.{end_near}
use Rattle.paged_seq.proofs.directory.end_of.Goals as goal

pub returns : goal.returns
returns c = end_near _ _ _ _ c.requires.directory c.requires.within c.locate-k.ensures (λ e. c.if-place-end.false (c.place.ensures ∙ e))
