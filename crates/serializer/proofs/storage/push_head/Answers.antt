use Rattle.std.proofs.Common.{rules, append_assoc}
use Rattle.tree_model.specs.Printed.{head_text}
use Rattle.serializer.proofs.Growing.{grew_twice}
use Rattle.serializer.proofs.storage.push_head.Goals as goal

pub returns-clause-text : goal.returns-clause-text
unfolding head_text
returns-clause-text c = search (rules, append_assoc)

pub returns-in_err-push_bytes-clause-kept : goal.returns-in_err-push_bytes-clause-kept
returns-in_err-push_bytes-clause-kept c =
    grew_twice _ _ _ c.push_field.ensures.kept
    (grew_twice _ _ _ c.push_field-2.ensures.kept
    (grew_twice _ _ _ c.push_field-3.ensures.kept
    (grew_twice _ _ _ c.push_field-4.ensures.kept
    (grew_twice _ _ _ c.push_field-5.ensures.kept c.push_bytes.ensures.kept))))

pub returns-clause-kept : goal.returns-clause-kept
returns-clause-kept c =
    grew_twice _ _ _ c.push_field.ensures.kept
    (grew_twice _ _ _ c.push_field-2.ensures.kept
    (grew_twice _ _ _ c.push_field-3.ensures.kept
    (grew_twice _ _ _ c.push_field-4.ensures.kept
    (grew_twice _ _ _ c.push_field-5.ensures.kept
    (grew_twice _ _ _ c.push_bytes.ensures.kept c.push_byte.ensures.kept)))))
