-- A piece that is read fits the builder.
use Rattle.std.proofs.Common.{◌≡◌, ℕ, ◌+◌, true, List, Some, length, ap, arith, length-append}
use Rattle.std.proofs.lemmas.Bool.{and_parts}
use Rattle.tree_model.specs.XmlChars.{is_xml_ncname}
use Rattle.tree_model.specs.XmlGood.{is_pi_target}
use Rattle.tree_model.specs.XmlSource.{run, entity, decimal, hexadecimal}
use Rattle.xml_pieces.specs.Item.{Where, content, a_tag, a_value, item, IsToken}
use Rattle.xml_pieces.specs.Tokens.{Token, token_text, part_token, cdata_token, comm_token, pi_token, doctype_token, open_token, attr_token, quote_token, go_token, shut_token, close_token}
use Rattle.xml_pieces.proofs.Lexing.{item_sound}
use Rattle.xml_rows.specs.Fitting.{IsFit, IsTextRun}

target_named : (target : List ℕ) → is_pi_target target ≡ true → is_xml_ncname target ≡ true
unfolding is_pi_target
target_named target is = (and_parts (is_xml_ncname target) _ is).0

pub fit_token : (place : Where) (t : Token) → IsToken place t → IsTextRun t → IsFit t
fit_token content (part_token (run bytes)) is text = text
fit_token content (part_token (entity name)) is text = is
fit_token content (part_token (decimal digits)) is text = is
fit_token content (part_token (hexadecimal digits)) is text = is
fit_token content (cdata_token bytes) is text = tt
fit_token content (comm_token bytes) is text = tt
fit_token content (pi_token target gap bytes) is text = target_named target is.named
fit_token content (doctype_token bytes) is text = tt
fit_token content (open_token name) is text = is
fit_token content (close_token name last) is text = tt
fit_token a_tag (attr_token gap name before behind delim) is text = is.1
fit_token a_tag (go_token gap) is text = tt
fit_token a_tag (shut_token gap) is text = tt
fit_token (a_value delim) (part_token (run bytes)) is text = text
fit_token (a_value delim) (part_token (entity name)) is text = is
fit_token (a_value delim) (part_token (decimal digits)) is text = is
fit_token (a_value delim) (part_token (hexadecimal digits)) is text = is
fit_token (a_value delim) (quote_token d) is text = tt
fit_token place t is text = absurd is

-- a piece that is read from some bytes
pub piece_fits : (place : Where) (bytes : List ℕ) (t : Token) (rest : List ℕ) → item place bytes ≡ Some (t, rest) → IsTextRun t → IsFit t
piece_fits place bytes t rest is = fit_token place t (item_sound place bytes t rest is).1

pub piece_len : (place : Where) (bytes : List ℕ) (t : Token) (rest : List ℕ) → item place bytes ≡ Some (t, rest) → length (token_text t) + length rest ≡ length bytes
piece_len place bytes t rest is = omega (arith, ap length (item_sound place bytes t rest is).0, length-append (token_text t) rest)
