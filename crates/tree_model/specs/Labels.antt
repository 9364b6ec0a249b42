-- What a node is, apart from its place among the others.
use Rattle.std.specs.Prelude.{ℕ, suc, ◌+◌, List, [], ◌∷◌, length}
use Rattle.tree_model.specs.Forest.{Forest, none, tree, count}
use Rattle.tree_model.specs.declared.row.Kind.{Kind}
use Rattle.tree_model.specs.declared.row.Kind.TheVariants.{Doc, Text}
use Rattle.tree_model.specs.declared.text.Name.{Name}

-- a document has its path as value, an element the text of its namespace declarations
pub record Label : Type 0 where
  pub kind : Kind
  pub id : ℕ
  pub name : Name
  pub value : List ℕ

-- a name in no namespace (Namespaces in XML 1.0, section 2.1)
abbrev pub local_name : List ℕ → Name
local_name local = record { uri = []; prefix = []; local = local }

-- labels whose ids are not given yet
abbrev pub doc_label : List ℕ → Label
doc_label path = record { kind = Doc; id = 0; name = local_name []; value = path }

abbrev pub text_label : List ℕ → Label
text_label value = record { kind = Text; id = 0; name = local_name []; value = value }

abbrev pub with_id : ℕ → Label → Label
with_id n label = record label { id = n }

abbrev pub numbered_attrs : ℕ → List Label → List Label
numbered_attrs n [] = []
numbered_attrs n (label ∷ attrs) = with_id n label ∷ numbered_attrs (suc n) attrs

-- the same trees with the ids n, n + 1 and so on in document order
abbrev pub numbered : ℕ → Forest Label → Forest Label
numbered n none = none
numbered n (tree label attrs kids rest) =
    tree (with_id n label) (numbered_attrs (n + 1) attrs)
    (numbered (n + (1 + length attrs)) kids) (numbered (n + (1 + length attrs + count kids)) rest)

-- the first tree with this value: a document under this path
abbrev pub with_path : List ℕ → Forest Label → Forest Label
with_path path none = none
with_path path (tree label attrs kids rest) = tree (record label { value = path }) attrs kids rest
