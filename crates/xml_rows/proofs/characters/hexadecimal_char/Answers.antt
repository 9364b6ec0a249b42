use Rattle.xml_rows.proofs.Digits.{hexadecimal_is_char}
use Rattle.xml_rows.proofs.characters.hexadecimal_char.Goals as goal

pub char_of-requires-clause-is_char : goal.char_of-requires-clause-is_char
char_of-requires-clause-is_char c = hexadecimal_is_char _ c.requires
