-- The law that a printed document is read again as the same tree.
use Rattle.std.specs.Prelude.{◌≡◌, ℕ, ◌+◌, ◌≤◌, ◌^◌, Bool, true, false, not, ◌||◌, ◌==◌, List, [], length, if◌then◌else◌}
use Rattle.std.specs.List.{list_any, list_all}
use Rattle.tree_model.specs.Forest.{Forest, none, tree, walk}
use Rattle.tree_model.specs.Labels.{Label, numbered, with_path}
use Rattle.tree_model.specs.Sound.{AllRoots, IsSound, is_elem, is_text}
use Rattle.tree_model.specs.XmlChars.{is_space, first_is}
use Rattle.tree_model.specs.XmlReads.{ReadsXml, as_tree}
use Rattle.tree_model.specs.Printing.{added, scope_in, documents_text}
use Rattle.tree_model.specs.XmlMeaning.{Scope, first_scope}
use Rattle.tree_model.specs.declared.row.Kind.{Kind}
use Rattle.tree_model.specs.declared.row.Kind.TheVariants.{Doc, Elem, Text, Attr, Comm, Pi}

abbrev pub has_return : List ℕ → Bool
has_return value = list_any (λ c. c == 13) value

-- no CR in a comment or an instruction, and no white space before the value of an instruction
abbrev pub is_read_again : Label → Bool
is_read_again label = by label.kind
  where
    by : Kind → Bool
    by Doc = true
    by Elem = true
    by Text = true
    by Attr = true
    by Comm = not (has_return label.value)
    by Pi = not (has_return label.value || first_is is_space label.value)

-- how many of the trees are elements, without those below them
abbrev pub element_count : Forest Label → ℕ
element_count none = 0
element_count (tree label attrs kids rest) = (if is_elem label then 1 else 0) + element_count rest

abbrev pub is_no_text : Label → Bool
is_no_text label = not (is_text label)

-- where trees are printed, no declaration is added to those that they keep
abbrev pub AddNone : Scope → Forest Label → Type 0
AddNone scope none = Unit {0}
AddNone scope (tree label attrs kids rest) = (is_elem label ≡ true → added scope label attrs ≡ []) × AddNone (scope_in scope label attrs) kids × AddNone scope rest

-- one document, with one element and no text among its children
pub record IsOneDocument (f : Forest Label) : Type 0 where
  pub label : Label
  pub attrs : List Label
  pub kids : Forest Label
  pub is : f ≡ tree label attrs kids none
  pub one_element : element_count kids ≡ 1
  pub no_text : AllRoots is_no_text kids
  pub read_again : list_all is_read_again (walk kids) ≡ true
  pub none_added : AddNone first_scope kids

-- it is read without its path, and with ids from 0 in document order
abbrev pub PrintedReads : Type 0
PrintedReads = (f : Forest Label) (next : ℕ) → IsSound f next → IsOneDocument f → length (documents_text f) ≤ 2 ^ 26
    → ReadsXml (documents_text f) false (as_tree (numbered 0 (with_path [] f)))
