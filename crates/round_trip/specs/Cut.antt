-- What a printed document is cut into.
use Rattle.std.specs.Prelude.{ℕ, Bool, true, false, ◌==◌, List, [], ◌∷◌, ◌++◌, map, codes, Option, Some, None, if◌then◌else◌}
use Rattle.tree_model.specs.Declarations.{declared_name}
use Rattle.tree_model.specs.Forest.{Forest, none, tree}
use Rattle.tree_model.specs.Labels.{Label}
use Rattle.tree_model.specs.XmlSource.{Part, run, entity, decimal, Attr, Content, done, element, empty, part, comm, pi}
use Rattle.tree_model.specs.XmlMeaning.{Pair, Scope}
use Rattle.tree_model.specs.Printing.{declarations, scope_in, written_name, has_trees}
use Rattle.tree_model.specs.declared.row.Kind.{Kind}
use Rattle.tree_model.specs.declared.row.Kind.TheVariants.{Doc, Elem, Text, Attr as AttrKind, Comm, Pi}

-- ---- values

-- the references that stand for bytes in data and in values
abbrev pub data_reference : ℕ → Option Part
data_reference c =
    if c == 38 then Some (entity (codes "amp")) else if c == 60 then Some (entity (codes "lt")) else if c == 62 then Some (entity (codes "gt")) else if c == 13 then Some (decimal (codes "13")) else None

abbrev pub value_reference : ℕ → Option Part
value_reference c =
    if c == 34 then Some (entity (codes "quot")) else if c == 9 then Some (decimal (codes "9")) else if c == 10 then Some (decimal (codes "10")) else data_reference c

-- a byte before others, in one run with those that it stands before
abbrev pub before_parts : ℕ → List Part → List Part
before_parts c (run bytes ∷ parts) = run (c ∷ bytes) ∷ parts
before_parts c parts = run (c ∷ []) ∷ parts

abbrev pub part_before : ℕ → Option Part → List Part → List Part
part_before c None parts = before_parts c parts
part_before c (Some p) parts = p ∷ parts

-- a value as runs and references
abbrev pub value_parts : (ℕ → Option Part) → List ℕ → List Part
value_parts reference [] = []
value_parts reference (c ∷ bytes) = part_before c (reference c) (value_parts reference bytes)

-- ---- tags

abbrev pub attr_cut : List ℕ → List ℕ → Attr
attr_cut name value = record { gap = 32 ∷ []; name = name; before = []; behind = []; delim = 34; value = value_parts value_reference value }

abbrev pub binding_cut : Pair → Attr
binding_cut binding = attr_cut (declared_name binding.0) binding.1

abbrev pub label_cut : Label → Attr
label_cut label = attr_cut (written_name label.name) label.value

-- the declarations of an element, then its attributes
abbrev pub tag_cut : Scope → Label → List Label → List Attr
tag_cut scope label attrs = map binding_cut (declarations scope label attrs) ++ map label_cut attrs

-- ---- content

abbrev pub parts_before : List Part → Content → Content
parts_before [] more = more
parts_before (p ∷ parts) more = part p (parts_before parts more)

abbrev pub element_cut : Scope → Label → List Label → Bool → Content → Content → Content
element_cut scope label attrs true inside more = element (written_name label.name) (tag_cut scope label attrs) [] inside [] more
element_cut scope label attrs false inside more = empty (written_name label.name) (tag_cut scope label attrs) [] more

-- white space stands before the value of an instruction that has one
abbrev pub pi_cut : List ℕ → List ℕ → Content → Content
pi_cut target [] more = pi target [] [] more
pi_cut target (c ∷ value) more = pi target (32 ∷ []) (c ∷ value) more

abbrev pub node_cut : Scope → Label → List Label → Bool → Content → Content → Content
node_cut scope label attrs has_kids inside more = by label.kind
  where
    by : Kind → Content
    by Doc = more
    by Elem = element_cut scope label attrs has_kids inside more
    by Text = parts_before (value_parts data_reference label.value) more
    by AttrKind = more
    by Comm = comm label.value more
    by Pi = pi_cut (written_name label.name) label.value more

abbrev pub content_cut : Scope → Forest Label → Content
content_cut scope none = done
content_cut scope (tree label attrs kids rest) = node_cut scope label attrs (has_trees kids) (content_cut (scope_in scope label attrs) kids) (content_cut scope rest)
