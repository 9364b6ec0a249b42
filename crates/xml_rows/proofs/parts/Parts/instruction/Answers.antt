use Rattle.std.proofs.Common.{arith, ap, ◌∙◌, refl}
use Rattle.tree_model.specs.Labels.{local_name}
use Rattle.tree_model.specs.Rows.{lines_of, ArePlaced}
use Rattle.tree_model.specs.XmlMeaning.{line_ends}
use Rattle.tree_model.specs.declared.row.Kind.TheVariants.{Pi}
use Rattle.tree_model.proofs.XmlUtf8.{text_ncname}
use Rattle.xml_rows.specs.Scoping.{scope_in, scopes_in}
use Rattle.xml_rows.specs.Texts.{pending_count, flushed, valued_label}
use Rattle.xml_rows.specs.Work.{with_leaf}
use Rattle.xml_rows.proofs.Resolving.{placed_begun}
use Rattle.xml_rows.proofs.Parted.{same_work, instruction_lines, ready_content, content_ready}
use Rattle.xml_rows.proofs.parts.Parts.instruction.Goals as goal

pub local_number-requires : goal.local_number-requires
local_number-requires c = (text_ncname _ c.requires.named).utf8

pub returns-clause-work : goal.returns-clause-work
returns-clause-work c =
    let names = c.args.self.now.elements.names.names in
    let flushed_placed : ArePlaced names c.flush.new.values.settled c.flush.new.rows.rows = c.in_ok-flush.ensures.placed names c.unnamed-unnamed.ensures.within c.requires.tidy.placed in
    let lines =
    instruction_lines names c.local_number.new.self.names c.flush.new.values.settled c.flush.new.rows.rows _ _ c.flush.new.rows.open_at c.args.target.now _ c.in_ok-name.name c.local_number.ensures.names flushed_placed
    (c.in_ok-flush.ensures.lines names c.unnamed-unnamed.ensures.name c.requires.tidy.placed) c.in_ok-name.ensures.name
    (c.in_ok-add_valued.ensures.lines c.local_number.new.self.names (placed_begun names c.local_number.new.self.names _ _ c.local_number.ensures.names flushed_placed)) in
    let opened = ap (with_leaf (valued_label Pi (local_name c.args.target.now) (line_ends c.args.bytes.now)) (flushed c.args.strip c.args.self.now.values.pending (lines_of names c.args.self.now.values.settled c.args.self.now.elements.rows.rows) c.args.self.now.elements.rows.open_at))
    c.in_ok-flush.ensures.open_at in
    same_work _ _ (rw c.requires.mode (lines ∙ opened)) (c.in_ok-add_valued.ensures.open_at ∙ c.in_ok-flush.ensures.open_at) (rw c.requires.mode c.in_ok-add_valued.ensures.pending)
    (ap (λ u. scope_in u c.args.self.now.elements.scopes.scope) c.local_number.ensures.uris) (ap (λ u. scopes_in u c.args.self.now.elements.scopes.outer) c.local_number.ensures.uris) refl refl (rw c.requires.mode refl)

pub returns-clause-tidy : goal.returns-clause-tidy
returns-clause-tidy c =
    let names = c.args.self.now.elements.names.names in
    let flushed_placed : ArePlaced names c.flush.new.values.settled c.flush.new.rows.rows = c.in_ok-flush.ensures.placed names c.unnamed-unnamed.ensures.within c.requires.tidy.placed in
    let before = content_ready _ _ c.args.self.now.values c.args.self.now.tag c.args.self.now.mode c.requires.mode c.requires.tidy.ready in
    record {
      placed = c.in_ok-add_valued.ensures.placed c.local_number.new.self.names c.in_ok-name.ensures.within (placed_begun names c.local_number.new.self.names _ _ c.local_number.ensures.names flushed_placed);
      uris = rw c.local_number.ensures.uris c.requires.tidy.uris;
      outer = rw c.local_number.ensures.uris c.requires.tidy.outer;
      ready = ready_content _ _ c.add_valued.new.values c.args.self.now.tag c.args.self.now.mode c.requires.mode (omega (arith, before, c.in_ok-flush.ensures.len, c.in_ok-add_valued.ensures.len, ap pending_count c.in_ok-add_valued.ensures.pending));
    }
