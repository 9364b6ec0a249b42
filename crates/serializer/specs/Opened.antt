-- A node that is partly printed: the nodes that are open, and what of them is left.
use Rattle.std.specs.Prelude.{◌≡◌, ◌<◌, ◌≤◌, ℕ, ◌+◌, Bool, true, false, ◌&&◌, nat_lt, List, [], ◌∷◌, ◌++◌, length, drop, codes}
use Rattle.tree_model.specs.Forest.{Forest, none, count, Line, raise, attr_lines, lines}
use Rattle.tree_model.specs.Labels.{Label}
use Rattle.tree_model.specs.Printing.{declarations, scope_in, start_text, end_text, attr_text, pi_text, data_text, tree_text, trees_text, has_trees}
use Rattle.tree_model.specs.XmlMeaning.{Pair, Scope, first_scope}
use Rattle.tree_model.specs.declared.row.Kind.{Kind}
use Rattle.tree_model.specs.declared.row.Kind.TheVariants.{Doc, Elem, Text, Attr, Comm, Pi}
use Rattle.serializer.specs.Scopes.{InForce, Declares}

-- ---- the text of one node, cut at its children

abbrev pub shows_children : Kind → Bool
shows_children Doc = true
shows_children Elem = true
shows_children Text = false
shows_children Attr = false
shows_children Comm = false
shows_children Pi = false

-- whether a node's children are printed: it has some, and is of a kind that shows them
abbrev pub opens : Kind → ℕ → ℕ → Bool
opens kind asize size = shows_children kind && nat_lt asize size

abbrev pub tag_text : Scope → Label → List Label → Bool → List ℕ
tag_text scope label attrs true = start_text scope label attrs ++ 62 ∷ []
tag_text scope label attrs false = start_text scope label attrs ++ codes "/>"

-- what stands before the children
abbrev pub front_text : Scope → Label → List Label → Bool → List ℕ
front_text scope label attrs has_kids = by label.kind
  where
    by : Kind → List ℕ
    by Doc = []
    by Elem = tag_text scope label attrs has_kids
    by Text = data_text label.value
    by Attr = attr_text label
    by Comm = codes "<!--" ++ (label.value ++ codes "-->")
    by Pi = pi_text label

-- and what behind them
abbrev pub back_text : Label → List ℕ
back_text label = by label.kind
  where
    by : Kind → List ℕ
    by Doc = []
    by Elem = end_text label
    by Text = []
    by Attr = []
    by Comm = []
    by Pi = []

-- what a node declares: only an element does
abbrev pub declared : Scope → Label → List Label → List Pair
declared scope label attrs = by label.kind
  where
    by : Kind → List Pair
    by Doc = []
    by Elem = declarations scope label attrs
    by Text = []
    by Attr = []
    by Comm = []
    by Pi = []

-- ---- the nodes that are open

-- a node at its place, with its attributes, the lines behind its own and the trees that follow it under the same parent
pub record Opened : Type 0 where
  pub place : ℕ
  pub line : Line Label
  pub attrs : List Label
  pub behind : List (Line Label)
  pub right : Forest Label

-- the lines that follow a node, with the nodes about it, the innermost first, and what stands behind all of them
abbrev pub lines_left : List (Line Label) → List Opened → List (Line Label)
lines_left tail [] = tail
lines_left tail (o ∷ outer) = lines (raise o.line.dist o.line.size) o.right ++ lines_left tail outer

-- what is in scope in the innermost of those nodes
abbrev pub scope_inside : List Opened → Scope
scope_inside [] = first_scope
scope_inside (o ∷ outer) = scope_in (scope_inside outer) o.line.label o.attrs

-- the text that is left of those nodes once all inside them is printed
abbrev pub text_left : List Opened → List ℕ
text_left [] = []
text_left (o ∷ outer) = back_text o.line.label ++ (trees_text (scope_inside outer) o.right ++ text_left outer)

-- a node, and the nodes about it up to the one at top: the lines stand where they say, and each is a child of the next
abbrev pub AreOpen : List (Line Label) → ℕ → Opened → List Opened → Type 0
AreOpen ls top o [] = (drop o.place ls ≡ o.line ∷ o.behind) × (o.place ≡ top) × (o.right ≡ none)
AreOpen ls top o (p ∷ outer) =
    (drop o.place ls ≡ o.line ∷ o.behind) × (0 < o.line.dist) × (o.place ≡ p.place + o.line.dist)
    × (o.place + o.line.size + count o.right ≡ p.place + p.line.size) × AreOpen ls top p outer

-- the bindings in force are those of these nodes
abbrev pub AreInForce : List Opened → List InForce → Type 0
AreInForce [] bindings = bindings ≡ []
AreInForce (o ∷ outer) bindings = (about : List InForce) × AreInForce outer about × Declares o.place (declared (scope_inside outer) o.line.label o.attrs) about bindings

-- the node at this place is to be printed next. With what is left, the bytes so far make the whole
pub record Ahead (ls : List (Line Label)) (top at : ℕ) (bindings : List InForce) (out whole : List ℕ) : Type 0 where
  pub node : Opened
  pub outer : List Opened
  pub tail : List (Line Label)
  pub kids : Forest Label
  pub open_is : AreOpen ls top node outer
  pub bound_is : AreInForce outer bindings
  pub at_is : node.place ≡ at
  pub size_is : node.line.size ≡ 1 + length node.attrs + count kids
  pub asize_is : node.line.asize ≡ 1 + length node.attrs
  pub behind_is : node.behind ≡ attr_lines 1 node.attrs ++ (lines (1 + length node.attrs) kids ++ lines_left tail (node ∷ outer))
  pub text_is : out
      ++ (tree_text (scope_inside outer) node.line.label node.attrs (has_trees kids) (trees_text (scope_inside (node ∷ outer)) kids)
      ++ (trees_text (scope_inside outer) node.right ++ text_left outer))
      ≡ whole

-- the node at this place is printed, and ends before another
pub record Ended (ls : List (Line Label)) (top at end : ℕ) (bindings : List InForce) (out whole : List ℕ) : Type 0 where
  pub node : Opened
  pub outer : List Opened
  pub tail : List (Line Label)
  pub open_is : AreOpen ls top node outer
  pub bound_is : AreInForce outer bindings
  pub at_is : node.place ≡ at
  pub end_is : at + node.line.size ≡ end
  pub within_is : end ≤ length ls
  pub lines_are : drop end ls ≡ lines_left tail (node ∷ outer)
  pub text_is : out ++ (trees_text (scope_inside outer) node.right ++ text_left outer) ≡ whole

-- all is printed, or another node is next
abbrev pub Then : List (Line Label) → ℕ → ℕ → Bool → List InForce → List ℕ → List ℕ → Type 0
Then ls top end true bindings out whole = out ≡ whole
Then ls top end false bindings out whole = Ahead ls top end bindings out whole
