use Rattle.std.proofs.Common.{ap, ◌∙◌, ℕ, List}
use Rattle.xml_pieces.specs.Readers.{read}
use Rattle.xml_pieces.proofs.DoctypeText.{rest_within, whole_doctype}
use Rattle.xml_pieces.proofs.markup.doctype.Goals as goal

pub overflow_sub-whole : goal.overflow_sub-whole
overflow_sub-whole c = rest_within c.args.whole.now c.args.bytes.now _ _ c.requires c.in_ok-after.ensures c.in_ok-after-2.ensures

pub returns : goal.returns
returns c =
    ap (λ (text : List ℕ). read text c.in_ok-after-2.after.now) c.split_at.ensures.front
    ∙ whole_doctype c.args.whole.now c.args.bytes.now _ _ c.requires c.in_ok-after.ensures c.in_ok-after-2.ensures
