-- The builder of the code as the work that it has done.
use Rattle.std.specs.Prelude.{◌≡◌, ℕ, ◌+◌, ◌≤◌, true, List, [], ◌∷◌, length, Option}
use Rattle.std.specs.Option.{option_map}
use Rattle.std.specs.Str.{IsUtf8}
use Rattle.tree_model.specs.Rows.{lines_of, ArePlaced}
use Rattle.tree_model.specs.XmlChars.{is_xml_qname}
use Rattle.tree_model.specs.XmlMeaning as meaning
use Rattle.tree_model.specs.XmlMeaning.{with_attrs, tag_label, attr_labels}
use Rattle.xml_rows.specs.Scoping.{scope_in, scopes_in, AreUris, EachAreUris}
use Rattle.xml_rows.specs.Tagging.{pairs_of, ArePairs}
use Rattle.xml_rows.specs.Texts.{pending_count}
use Rattle.xml_rows.specs.Values.{Gathered}
use Rattle.xml_rows.specs.Work as work
use Rattle.xml_rows.specs.declared.parts.Parts.{Parts}
use Rattle.xml_rows.specs.declared.parts.Tag.{Tag}
use Rattle.xml_rows.specs.declared.parts.Mode.{Mode}
use Rattle.xml_rows.specs.declared.parts.Mode.TheVariants.{Content, InTag, InValue}
use Rattle.xml_rows.specs.declared.parts.Fault.{Fault}
use Rattle.xml_rows.specs.declared.parts.Fault.TheVariants.{UnknownEntity, Namespace}

abbrev pub fault_of : Fault → meaning.Fault
fault_of (UnknownEntity at) = meaning.unknown_entity at
fault_of (Namespace at) = meaning.bad_namespace at

abbrev pub faults_of : Option Fault → Option meaning.Fault
faults_of fault = option_map fault_of fault

-- a tag whose values lie among the whole ones
abbrev pub tag_of : List ℕ → Tag → work.Tag
tag_of values tag = record { name = tag.name.now; from = tag.from; pairs = pairs_of values tag.pairs.items; within = faults_of tag.within }

abbrev pub mode_of : Mode → Gathered → Tag → work.Mode
mode_of Content values tag = work.in_content
mode_of InTag values tag = work.in_tag (tag_of values.settled tag)
mode_of InValue values tag = work.in_value (tag_of values.settled tag) tag.key.now values.pending

-- no text is gathered in a tag
abbrev pub gathered_of : Mode → Gathered → List ℕ
gathered_of Content values = values.pending
gathered_of InTag values = []
gathered_of InValue values = []

abbrev pub parts_work : Parts → work.Work
parts_work p = record {
  lines = lines_of p.elements.names.names p.values.settled p.elements.rows.rows;
  open_at = p.elements.rows.open_at;
  gathered = gathered_of p.mode p.values;
  scope = scope_in p.elements.names.uris p.elements.scopes.scope;
  outer = scopes_in p.elements.names.uris p.elements.scopes.outer;
  at = p.at;
  fault = faults_of p.fault;
  mode = mode_of p.mode p.values p.tag;
}

-- what a tag keeps: its name and its attributes are good, and a row for each was counted
pub record IsTag (count rows : ℕ) (values : Gathered) (tag : Tag) : Type 0 where
  pub named : is_xml_qname tag.name.now ≡ true
  pub pairs : ArePairs values.settled tag.pairs.items
  pub few : rows + 1 + length tag.pairs.items ≤ count

-- the rows, with those that are still to be made, are at most as many as a number says
abbrev pub IsReady : ℕ → ℕ → Gathered → Tag → Mode → Type 0
IsReady count rows values tag Content = rows + pending_count values.pending ≤ count
IsReady count rows values tag InTag = IsTag count rows values tag × (values.pending ≡ [])
IsReady count rows values tag InValue = IsTag count (rows + 1) values tag × IsUtf8 values.pending × (is_xml_qname tag.key.now ≡ true)

-- what the parts keep before the byte at a place
pub record IsTidy (at : ℕ) (p : Parts) : Type 0 where
  pub placed : ArePlaced p.elements.names.names p.values.settled p.elements.rows.rows
  pub uris : AreUris (length p.elements.names.uris) p.elements.scopes.scope
  pub outer : EachAreUris (length p.elements.names.uris) p.elements.scopes.outer
  pub ready : IsReady (1 + at) (length p.elements.rows.rows) p.values p.tag p.mode

-- a tag whose rows are made, before its element is open or ends
abbrev pub tag_done : work.Work → work.Tag → work.Work
tag_done w tag =
    let inside = with_attrs tag.pairs w.scope in
    record w {
      lines = work.with_tag (tag_label inside tag.name tag.pairs) (attr_labels inside tag.pairs) w.lines w.open_at;
      scope = inside;
      outer = w.scope ∷ w.outer;
      fault = work.or_first w.fault (work.tag_fault inside tag);
      mode = work.in_content;
    }
