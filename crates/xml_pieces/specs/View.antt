-- What the code reads, without where it lies in memory.
use Rattle.std.specs.Prelude.{ℕ, List}
use Rattle.std.specs.Borrow.{Bor}
use Rattle.tree_model.specs.XmlSource.{run, entity, decimal, hexadecimal}
use Rattle.xml_pieces.specs.Tokens.{Token, part_token, cdata_token, comm_token, pi_token, doctype_token, open_token, attr_token, quote_token, go_token, shut_token, close_token}
use Rattle.xml_pieces.specs.Item.{Where, content, a_tag, a_value}
use Rattle.xml_pieces.specs.declared.piece.Piece.{Piece}
use Rattle.xml_pieces.specs.declared.piece.Piece.TheVariants as piece
use Rattle.xml_pieces.specs.declared.piece.Place.{Place}
use Rattle.xml_pieces.specs.declared.piece.Place.TheVariants as place

abbrev pub Bytes : Type 0
Bytes = Bor (List ℕ)

abbrev pub two : Bytes × Bytes → List ℕ × List ℕ
two x = (x.0.now, x.1.now)

abbrev pub token_of : Piece → Token
token_of (piece.Run bytes) = part_token (run bytes.now)
token_of (piece.Entity name) = part_token (entity name.now)
token_of (piece.Decimal digits) = part_token (decimal digits.now)
token_of (piece.Hexadecimal digits) = part_token (hexadecimal digits.now)
token_of (piece.Cdata bytes) = cdata_token bytes.now
token_of (piece.Comment bytes) = comm_token bytes.now
token_of (piece.Instruction target gap bytes) = pi_token target.now gap.now bytes.now
token_of (piece.Doctype bytes) = doctype_token bytes.now
token_of (piece.Open name) = open_token name.now
token_of (piece.Attribute gap name before behind delim) = attr_token gap.now name.now before.now behind.now delim
token_of (piece.Quote delim) = quote_token delim
token_of (piece.Go gap) = go_token gap.now
token_of (piece.Shut gap) = shut_token gap.now
token_of (piece.Close name last) = close_token name.now last.now

abbrev pub view : Piece × Bytes → Token × List ℕ
view x = (token_of x.0, x.1.now)

abbrev pub where_of : Place → Where
where_of place.Content = content
where_of place.Tag = a_tag
where_of (place.Value delim) = a_value delim
