-- The characters that digits spell.
use Rattle.std.proofs.Common.{◌≡◌, ℕ, true, List}
use Rattle.std.proofs.lemmas.Bool.{and_parts}
use Rattle.tree_model.specs.XmlChars.{is_xml_char}
use Rattle.tree_model.specs.XmlGood.{number_from, is_decimal, is_hexadecimal}

pub decimal_is_char : (digits : List ℕ) → is_decimal digits ≡ true → is_xml_char (number_from 10 0 digits) ≡ true
unfolding is_decimal
decimal_is_char digits h = (and_parts _ (is_xml_char (number_from 10 0 digits)) h).1

pub hexadecimal_is_char : (digits : List ℕ) → is_hexadecimal digits ≡ true → is_xml_char (number_from 16 0 digits) ≡ true
unfolding is_hexadecimal
hexadecimal_is_char digits h = (and_parts _ (is_xml_char (number_from 16 0 digits)) h).1
