use Rattle.std.proofs.Common.{ap, arith}
use Rattle.std.specs.Option.{option_map}
use Rattle.xml_pieces.specs.PrologView.{setting_view, decl_view}
use Rattle.xml_pieces.proofs.PrologEncoding.{encoding_fits}
use Rattle.xml_pieces.proofs.prolog.read_declaration.Goals as goal

pub encoding_at-requires : goal.encoding_at-requires
encoding_at-requires c =
    omega (arith, encoding_fits c.args.bytes.now c.in_ok-settings.after.now (decl_view c.in_ok-settings.settings) (setting_view c.in-Some.encoding) c.in_ok-settings.ensures (ap (option_map setting_view) c.in-Some.is))
