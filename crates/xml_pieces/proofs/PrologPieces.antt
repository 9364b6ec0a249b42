-- An XML declaration is no piece of content: its target `xml` is refused.
use Rattle.std.proofs.Common.{◌≡◌, ℕ, false, cond, List, ◌++◌, Some, None, refl, ap, ◌∙◌, append_assoc}
use Rattle.std.specs.Prelude.{codes}
use Rattle.std.specs.Option.{option_and_then}
use Rattle.std.proofs.Math.Bool.{and-false}
use Rattle.tree_model.specs.XmlChars.{is_space, is_name_byte, is_xml_ncname, first_is}
use Rattle.tree_model.specs.XmlSource.{Decl}
use Rattle.tree_model.specs.XmlGood.{is_pi_target}
use Rattle.xml_pieces.specs.Readers.{read, span, tested, then_second, chain, as_read}
use Rattle.xml_pieces.specs.Prolog.{decl}
use Rattle.xml_pieces.specs.Item.{content, item, in_content, markup, instruction, pi_rest, pi_of}
use Rattle.xml_pieces.proofs.Readers.{span_exact}
use Rattle.xml_pieces.proofs.PrologDecl.{decl_sound}
use Rattle.xml_pieces.proofs.PrologDoctype.{gap_name}

target_refused : is_pi_target (codes "xml") ≡ false
unfolding is_pi_target
target_refused = and-false (is_xml_ncname (codes "xml"))

-- behind "<?"
refused : (rest : List ℕ) → first_is is_name_byte rest ≡ false → instruction (codes "xml" ++ rest) ≡ None
unfolding instruction
refused rest stops =
    ap (λ r. option_and_then (λ (x : List ℕ × List ℕ). then_second x.0 (chain (span is_space) pi_rest x.1)) (tested is_pi_target r)) ((span_exact is_name_byte).complete (codes "xml") rest refl stops)
    ∙ ap (λ b. option_and_then (λ (x : List ℕ × List ℕ). then_second x.0 (chain (span is_space) pi_rest x.1)) (cond b (read (codes "xml") rest) None)) target_refused

no_piece : (rest : List ℕ) → first_is is_name_byte rest ≡ false → item content (codes "<?xml" ++ rest) ≡ None
unfolding in_content markup
no_piece rest stops = ap (as_read pi_of) (refused rest stops)

pub no_decl : (bytes : List ℕ) (x : Decl × List ℕ) → decl bytes ≡ Some x → item content bytes ≡ None
no_decl bytes x e =
    let found = decl_sound bytes x.0 x.1 e in
    let d = x.0 in
    ap (item content) (found.0 ∙ append_assoc (codes "<?xml") _ x.1) ∙ no_piece _ (gap_name d.version.gap _ _ x.1 found.1.version.gap)
