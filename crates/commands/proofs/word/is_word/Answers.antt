use Rattle.std.proofs.Common.{◌∙◌}
use Rattle.commands.proofs.Words.{letters_are_word}
use Rattle.commands.proofs.word.is_word.Goals as goal

pub returns-then-text-word : goal.returns-then-text-word
returns-then-text-word c =
    let told = rw (c.as_bytes.ensures.value, c.as_bytes-then-text-word.ensures.value) at c.has_letters.ensures in
    told ∙ letters_are_word _ _ c.if-text-word.true
