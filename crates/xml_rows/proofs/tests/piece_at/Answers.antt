use Rattle.std.proofs.Common.{sym}
use Rattle.xml_pieces.specs.View.{token_of, where_of}
use Rattle.xml_pieces.proofs.Lexing.{item_shorter}
use Rattle.xml_rows.proofs.Fits.{piece_fits, piece_len}
use Rattle.xml_rows.proofs.tests.piece_at.Goals as goal

pub returns-clause-less : goal.returns-clause-less
returns-clause-less c = item_shorter (where_of c.args.place) c.args.rest.now (token_of c.in_ok-piece.piece) c.in_ok-piece.after.now c.in_ok-piece.ensures

pub returns-clause-fit : goal.returns-clause-fit
returns-clause-fit c = piece_fits (where_of c.args.place) c.args.rest.now (token_of c.in_ok-piece.piece) c.in_ok-piece.after.now (sym c.in_ok-piece.ensures)

pub returns-clause-len : goal.returns-clause-len
returns-clause-len c = piece_len (where_of c.args.place) c.args.rest.now (token_of c.in_ok-piece.piece) c.in_ok-piece.after.now (sym c.in_ok-piece.ensures)
