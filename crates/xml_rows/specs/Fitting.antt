-- What the builder needs of a piece.
use Rattle.std.specs.Prelude.{◌≡◌, true, ⊤}
use Rattle.std.specs.Str.{IsUtf8}
use Rattle.tree_model.specs.XmlChars.{is_xml_ncname, is_xml_qname}
use Rattle.tree_model.specs.XmlGood.{is_decimal, is_hexadecimal}
use Rattle.tree_model.specs.XmlSource.{Part, run, entity, decimal, hexadecimal}
use Rattle.xml_pieces.specs.Tokens.{Token, part_token, cdata_token, comm_token, pi_token, doctype_token, open_token, attr_token, quote_token, go_token, shut_token, close_token}

abbrev pub IsFitPart : Part → Type 0
IsFitPart (run bytes) = IsUtf8 bytes
IsFitPart (entity name) = is_xml_ncname name ≡ true
IsFitPart (decimal digits) = is_decimal digits ≡ true
IsFitPart (hexadecimal digits) = is_hexadecimal digits ≡ true

-- runs are text, references are good, and names are names
abbrev pub IsFit : Token → Type 0
IsFit (part_token p) = IsFitPart p
IsFit (cdata_token bytes) = ⊤
IsFit (comm_token bytes) = ⊤
IsFit (pi_token target gap bytes) = is_xml_ncname target ≡ true
IsFit (doctype_token bytes) = ⊤
IsFit (open_token name) = is_xml_qname name ≡ true
IsFit (attr_token gap name before behind delim) = is_xml_qname name ≡ true
IsFit (quote_token delim) = ⊤
IsFit (go_token gap) = ⊤
IsFit (shut_token gap) = ⊤
IsFit (close_token name last) = ⊤

-- a run is text
abbrev pub IsTextRun : Token → Type 0
IsTextRun (part_token (run bytes)) = IsUtf8 bytes
IsTextRun other = ⊤
